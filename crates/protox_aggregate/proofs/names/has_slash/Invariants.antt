use Rattle.std.proofs.Common.{◌≡◌, drop}
use Rattle.std.specs.List.{list_any}
use Rattle.protox_aggregate.specs.Names.{is_slash}
use Rattle.protox_text_values.specs.Scalars.{shapes_of}
use Rattle.protox_aggregate.proofs.names.has_slash.Given as goal

-- there is a slash among the pieces that are left, or there is none at all
abbrev pub invariant-loop-piece : goal.invariant-loop-piece
invariant-loop-piece l = list_any is_slash (shapes_of (drop l.piece-index l.pieces)) ≡ list_any is_slash (shapes_of l.pieces)
