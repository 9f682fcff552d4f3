use Rattle.std.proofs.Common.{◌≡◌, drop}
use Rattle.protox_aggregate.specs.Anys.{behind_slash}
use Rattle.protox_text_values.specs.Scalars.{shapes_of}
use Rattle.protox_aggregate.proofs.anys.behind_slash.Given as goal

-- no piece so far is a slash
abbrev pub invariant-loop-at : goal.invariant-loop-at
invariant-loop-at l = behind_slash (shapes_of (drop l.at l.pieces)) ≡ behind_slash (shapes_of l.pieces)
