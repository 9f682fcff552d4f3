use Rattle.std.proofs.Common.{arith}
use Rattle.std.proofs.lemmas.Bool.Decides.{nat_tests}
use Rattle.protox_places.proofs.Counting.{newlines-next, behind-next}
use Rattle.protox_places.proofs.faults.count_lines.Goals as goal
use Rattle.protox_places.proofs.faults.count_lines.Goals.{then-byte-eq10, else-byte-eq10}

pub loop-byte-preserved : goal.loop-byte-preserved
loop-byte-preserved c =
    let lines = newlines-next c.args.front.now c.loop-byte.byte-index c.loop-byte-test.true in
    let starts = behind-next c.args.front.now c.loop-byte.byte-index c.loop-byte-test.true in
    let so_far = c.loop-byte.invariant in
    elim c.if-byte-eq10.branch [
      | then-byte-eq10 w ↦ let is = w.if-byte-eq10 in let line = w.lines-is in let start = w.start-is in grind (arith, nat_tests)
      | else-byte-eq10 w ↦ let is = w.if-byte-eq10 in let line = w.lines-is in let start = w.start-is in grind (arith, nat_tests)
    ]
