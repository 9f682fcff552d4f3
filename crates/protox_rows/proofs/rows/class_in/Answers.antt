use Rattle.std.proofs.Common.{sym, ap, ◌∙◌}
use Rattle.std.specs.Prelude.{slice_get}
use Rattle.protox_lexeme.specs.TokenClass.{class}
use Rattle.protox_rows.specs.Rows.{bare_row}
use Rattle.protox_rows.proofs.PlacedRows.{none-there, none-mapped}
use Rattle.protox_rows.proofs.rows.class_in.Goals as goal

pub returns-in-None : goal.returns-in-None
returns-in-None c =
    let rows = c.args.table.now.rows in
    let none = none-mapped _ (slice_get rows c.args.index) (sym c.class.ensures ∙ c.in-None.is) in
    ap (λ row. class row.shape) (sym (none-there rows c.args.index bare_row none))
