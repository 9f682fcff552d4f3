use Rattle.protox_marks.proofs.Words.{AreTaken}
use Rattle.protox_marks.proofs.marks.Marks.of.Given as goal

abbrev pub invariant-loop-number : goal.invariant-loop-number
invariant-loop-number l = AreTaken l.all l.number l.marks
