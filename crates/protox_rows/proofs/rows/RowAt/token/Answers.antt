use Rattle.std.proofs.Common.{sym, ap, ◌∙◌}
use Rattle.protox_rows.proofs.PlacedRows.{shape-is}
use Rattle.protox_rows.proofs.rows.RowAt.token.Goals as goal

pub returns : goal.returns
returns c =
    let r = c.self.inside in
    c.token_in.ensures ∙ sym (shape-is r.table.now r.behind c.self.invariant.0 c.self.invariant.1) ∙ ap (λ x. x.shape) c.self.view_is
