use Rattle.std.proofs.Common.{sym, ap, ◌∙◌}
use Rattle.std.specs.Prelude.{slice_get}
use Rattle.protox_rows.specs.Rows.{bare_row}
use Rattle.protox_rows.proofs.PlacedRows.{none-there, none-mapped}
use Rattle.protox_rows.proofs.rows.span_in.Goals as goal

pub returns-in-None : goal.returns-in-None
returns-in-None c =
    let rows = c.args.table.now.rows in
    let none = none-mapped _ (slice_get rows c.args.index) (sym c.span.ensures ∙ c.in-None.is) in
    ap (λ row. row.at) (sym (none-there rows c.args.index bare_row none))
