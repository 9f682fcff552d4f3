use Rattle.std.proofs.Common.{◌-◌, length, sym, ap, ◌∙◌}
use Rattle.protox_rows.proofs.PlacedRows.{left-length}
use Rattle.protox_rows.proofs.rows.Unread.len.Goals as goal

pub returns : goal.returns
returns c =
    let u = c.self.inside in
    c.saturating_sub.ensures ∙ ap (λ n. n - u.index) c.rows.ensures ∙ sym (left-length u.table.now u.index) ∙ ap length c.self.view_is
