use Rattle.std.proofs.Common.{arith}
use Rattle.std.proofs.lemmas.Bool.Decides.{nat_tests}
use Rattle.protox_shown.proofs.Newlines.{newlines_next, last_line_next}
use Rattle.protox_shown.proofs.line.place_behind.Goals as goal
use Rattle.protox_shown.proofs.line.place_behind.Goals.{then-byte-eq10, else-byte-eq10}

pub loop-byte-preserved : goal.loop-byte-preserved
loop-byte-preserved c =
    let lines = newlines_next c.args.front.now c.loop-byte.byte-index c.loop-byte-test.true in
    let columns = last_line_next c.args.front.now c.loop-byte.byte-index c.loop-byte-test.true in
    let so_far = c.loop-byte.invariant in
    elim c.if-byte-eq10.branch [
      | then-byte-eq10 w ↦ let is = w.if-byte-eq10 in let line = w.line-is in let column = w.column-is in grind (arith, nat_tests)
      | else-byte-eq10 w ↦ let is = w.if-byte-eq10 in let line = w.line-is in let column = w.column-is in grind (arith, nat_tests)
    ]
