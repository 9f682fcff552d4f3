use Rattle.std.proofs.Common.{length, subst}
use Rattle.protox_imports.specs.Answer.{IsAnswer}
use Rattle.protox_imports.specs.Rows.{ImportsIn}
use Rattle.protox_imports.specs.declared.sorted.Order.{Order}
use Rattle.protox_link.proofs.prepare.prepare.Goals as goal

pub returns : goal.returns
returns c =
    let rows = c.in_ok-imports.imports.files in (
      c.in_ok-known.ensures,
      (c.in_ok-imports.ensures.agree.orders c.in-Sorted.order.items).0 (subst (λ (order : Order). IsAnswer (ImportsIn rows) (length rows) order) c.in-Sorted.is c.in_ok-order.ensures.answer),
    )
