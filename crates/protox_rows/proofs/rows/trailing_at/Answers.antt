use Rattle.std.proofs.Common.{[], false, sym, ap, ◌∙◌}
use Rattle.std.specs.Prelude.{option_map}
use Rattle.protox_lexeme.specs.Gaps.{attribution}
use Rattle.protox_lex.specs.TableView.{shapes_of_lent}
use Rattle.protox_rows.specs.Rows.{shape_of_row}
use Rattle.protox_rows.proofs.PlacedRows.{none-there}
use Rattle.protox_rows.proofs.rows.trailing_at.Goals as goal

pub returns-in-None : goal.returns-in-None
returns-in-None c =
    let t = c.args.table.now in
    let none = none-there t.gaps c.args.index [] (sym c.gap.ensures.value ∙ ap (option_map shapes_of_lent) c.in-None.is) in
    sym (ap (λ gap. (attribution gap false (shape_of_row t.rows c.args.index)).trailing) none)
