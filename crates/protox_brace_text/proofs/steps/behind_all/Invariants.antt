use Rattle.std.proofs.Common.{◌≡◌, drop, map}
use Rattle.protox_brace_text.specs.Steps.{behind_all}
use Rattle.protox_brace_text.proofs.steps.behind_all.Given as goal
use Rattle.protox_text_format.specs.Spelling.{seen}

abbrev pub invariant-loop-item : goal.invariant-loop-item
invariant-loop-item l = behind_all l.left (map seen (drop l.item-index l.items)) ≡ behind_all l.pieces (map seen l.items)
