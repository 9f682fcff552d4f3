use Rattle.std.proofs.Common.{refl}
use Rattle.protox_moved.proofs.Counts.{counted-before, counted-from}
use Rattle.protox_moved.proofs.lookups.count_before.Goals as goal

pub returns-then-is_count-clause-before : goal.returns-then-is_count-clause-before
returns-then-is_count-clause-before c =
    let is = c.if-is_count.ensures in
    counted-before c.args.moves.now c.args.path.now _ c.requires (is.bound refl) (is.last refl)

pub returns-then-is_count-clause-from : goal.returns-then-is_count-clause-from
returns-then-is_count-clause-from c =
    counted-from c.args.moves.now c.args.path.now _ c.requires (c.if-is_count.ensures.next refl)

pub returns-then-is_count-2-clause-before : goal.returns-then-is_count-2-clause-before
returns-then-is_count-2-clause-before c =
    let is = c.if-is_count-2.ensures in
    counted-before c.args.moves.now c.args.path.now _ c.requires (is.bound refl) (is.last refl)

pub returns-then-is_count-2-clause-from : goal.returns-then-is_count-2-clause-from
returns-then-is_count-2-clause-from c =
    counted-from c.args.moves.now c.args.path.now _ c.requires (c.if-is_count-2.ensures.next refl)
