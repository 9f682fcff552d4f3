use Rattle.protox_set_options.proofs.Files.{Completes}
use Rattle.protox_set_options.proofs.set.interpret_set.Given as goal

abbrev pub invariant-loop-number : goal.invariant-loop-number
invariant-loop-number l = Completes l.files l.number l.all.items
