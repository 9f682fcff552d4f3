use Rattle.std.proofs.Common.{◌∙◌, ap, sym, arith}
use Rattle.std.specs.Ordering.{is_lt}
use Rattle.protox_places.proofs.SortedPaths.{lengths-decide}
use Rattle.protox_places.proofs.find.is_before.Goals as goal

pub returns : goal.returns
returns c =
    let end = c.min-i-end.ensures in
    let within = c.loop-i.auto.i-end in
    let past = c.loop-i-test.false in
    sym (ap is_lt c.loop-i.invariant
    ∙ lengths-decide c.args.path.now c.args.other.now c.loop-i.i (omega (arith, end, within)) (omega (arith, end, within)) (λ a b. omega (arith, end, past, a, b)))
