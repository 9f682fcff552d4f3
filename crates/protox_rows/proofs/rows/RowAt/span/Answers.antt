use Rattle.std.proofs.Common.{sym, ap, ◌∙◌}
use Rattle.protox_rows.proofs.PlacedRows.{span-is}
use Rattle.protox_rows.proofs.rows.RowAt.span.Goals as goal

pub returns : goal.returns
returns c =
    let r = c.self.inside in
    c.span_in.ensures ∙ sym (span-is r.table.now r.behind c.self.invariant.0 c.self.invariant.1) ∙ ap (λ x. x.at.span) c.self.view_is
