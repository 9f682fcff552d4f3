use Rattle.std.proofs.Common.{◌≡◌, drop}
use Rattle.protox_ast.specs.Ranges.{is_message_set}
use Rattle.protox_describe.proofs.ranges.is_message_set.Given as goal

abbrev pub invariant-loop-option : goal.invariant-loop-option
invariant-loop-option l = is_message_set (drop l.option-index l.statements) ≡ is_message_set l.statements
