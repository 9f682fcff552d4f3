use Rattle.std.proofs.Common.{◌∙◌, arith, subst, sym}
use Rattle.protox_marks.proofs.Words.{AreTaken, all_taken, one_passed, one_taken}
use Rattle.protox_marks.proofs.marks.Marks.of.Goals.{then-marked, else-marked}
use Rattle.protox_marks.proofs.marks.Marks.of.Goals as goal

pub loop-number-preserved : goal.loop-number-preserved
loop-number-preserved c =
    let all = c.args.all.now in
    let i = c.loop-number.number in
    elim c.if-marked.branch [
      | then-marked w ↦ subst (AreTaken all _) (sym (w.marks-is ∙ w.mark.ensures)) (one_taken c.loop-number.marks all i c.loop-number-test.true w.if-marked.true c.loop-number.invariant)
      | else-marked w ↦ subst (AreTaken all _) (sym w.marks-is) (one_passed c.loop-number.marks all i w.if-marked.false c.loop-number.invariant)
    ]

pub returns : goal.returns
returns c = all_taken c.loop-number.marks c.args.all.now c.loop-number.number (omega (arith, c.loop-number-test.false)) c.loop-number.invariant
