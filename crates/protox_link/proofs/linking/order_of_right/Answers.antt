use Rattle.std.proofs.Common.{length, subst}
use Rattle.protox_imports.proofs.Lemmas.{ordered_has_no_cycle}
use Rattle.protox_imports.specs.Answer.{IsAnswer}
use Rattle.protox_imports.specs.Imports.{Imports}
use Rattle.protox_link.proofs.linking.order_of_right.Goals as goal

pub unreachable-requires : goal.unreachable-requires
unreachable-requires c =
    let files = c.args.files.now in
    ordered_has_no_cycle files c.requires.right.order c.in-Cycle.field-0.items c.requires.right.ordered
    (subst (IsAnswer (Imports files) (length files)) c.in-Cycle.is (c.in_ok-order.ensures files c.requires.known.rows))
