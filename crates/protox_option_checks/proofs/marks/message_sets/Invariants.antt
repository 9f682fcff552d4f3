use Rattle.std.proofs.Common.{◌≡◌, map, take}
use Rattle.protox_option_checks.specs.Marks.{is_set_at}
use Rattle.protox_option_checks.proofs.marks.message_sets.Given as goal

abbrev pub invariant-loop-number : goal.invariant-loop-number
invariant-loop-number l = l.made.items ≡ map (is_set_at l.files) (take l.number l.symbols.things)
