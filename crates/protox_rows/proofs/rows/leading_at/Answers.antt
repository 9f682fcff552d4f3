use Rattle.std.proofs.Common.{[], sym, ap, ◌∙◌}
use Rattle.std.specs.Prelude.{option_map}
use Rattle.protox_lexeme.specs.Gaps.{attribution}
use Rattle.protox_lex.specs.TableView.{shapes_of_lent}
use Rattle.protox_comments.proofs.Lemmas.{newlines_alone}
use Rattle.protox_rows.specs.Rows.{shape_of_row}
use Rattle.protox_rows.proofs.PlacedRows.{none-there}
use Rattle.protox_rows.proofs.rows.leading_at.Goals as goal

pub returns-in-None-clause-detached : goal.returns-in-None-clause-detached
returns-in-None-clause-detached c =
    let t = c.args.table.now in
    let none = none-there t.gaps c.args.index [] (sym c.gap.ensures.value ∙ ap (option_map shapes_of_lent) c.in-None.is) in
    c.new.ensures ∙ sym (ap (λ gap. (attribution gap c.args.first (shape_of_row t.rows c.args.index)).detached) none ∙ ap (λ a. a.detached) (newlines_alone [] tt c.args.first (shape_of_row t.rows c.args.index)))

pub returns-in-None-clause-leading : goal.returns-in-None-clause-leading
returns-in-None-clause-leading c =
    let t = c.args.table.now in
    let none = none-there t.gaps c.args.index [] (sym c.gap.ensures.value ∙ ap (option_map shapes_of_lent) c.in-None.is) in
    sym (ap (λ gap. (attribution gap c.args.first (shape_of_row t.rows c.args.index)).leading) none ∙ ap (λ a. a.leading) (newlines_alone [] tt c.args.first (shape_of_row t.rows c.args.index)))
