use Rattle.std.proofs.Common.{sym, ap, ◌∙◌}
use Rattle.protox_lexeme.specs.TokenClass.{class}
use Rattle.protox_rows.proofs.PlacedRows.{shape-is}
use Rattle.protox_rows.proofs.rows.RowAt.class.Goals as goal

pub returns : goal.returns
returns c =
    let r = c.self.inside in
    c.class_in.ensures ∙ ap class (sym (shape-is r.table.now r.behind c.self.invariant.0 c.self.invariant.1)) ∙ ap (λ x. class x.shape) c.self.view_is
