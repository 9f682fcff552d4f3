use Rattle.std.proofs.Common.{sym, ap, ◌∙◌}
use Rattle.protox_rows.proofs.PlacedRows.{sided, trailing-is}
use Rattle.protox_rows.proofs.rows.RowAt.after.Goals as goal

pub returns : goal.returns
returns c =
    let r = c.self.inside in
    sided c.trailing_at.result (λ x. x) _ _ c.trailing_at.ensures
    (ap (λ x. x.at.trailing) (sym c.self.view_is) ∙ trailing-is r.table.now r.behind c.self.invariant.0 c.self.invariant.1)
