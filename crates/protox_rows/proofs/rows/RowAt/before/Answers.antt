use Rattle.std.proofs.Common.{sym, ap, ◌∙◌}
use Rattle.protox_rows.proofs.PlacedRows.{sided, detached-is, leading-is}
use Rattle.protox_rows.proofs.rows.RowAt.before.Goals as goal

pub returns-clause-detached : goal.returns-clause-detached
returns-clause-detached c =
    let r = c.self.inside in
    sided c.leading_at.result (λ x. x.0) _ _ c.leading_at.ensures.detached
    (ap (λ x. x.at.detached) (sym c.self.view_is) ∙ detached-is r.table.now r.behind c.self.invariant.0 c.self.invariant.1)

pub returns-clause-leading : goal.returns-clause-leading
returns-clause-leading c =
    let r = c.self.inside in
    sided c.leading_at.result (λ x. x.1) _ _ c.leading_at.ensures.leading
    (ap (λ x. x.at.leading) (sym c.self.view_is) ∙ leading-is r.table.now r.behind c.self.invariant.0 c.self.invariant.1)
