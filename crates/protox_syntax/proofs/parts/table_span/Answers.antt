use Rattle.std.proofs.Common.{◌≤◌, ◌-◌, length, slice_index_or, ap, ◌∙◌, arith}
use Rattle.protox_ast.specs.AstParts.{join}
use Rattle.protox_rows.specs.Rows.{bare_row}
use Rattle.protox_syntax.proofs.Spans.{rows-span}
use Rattle.protox_syntax.proofs.parts.table_span.Goals as goal

pub returns-in_default : goal.returns-in_default
returns-in_default c =
    let rows = c.args.table.now.rows in
    let some : 1 ≤ length rows = omega (arith, c.in_default, c.rows.ensures) in
    c.join.ensures
    ∙ ap (λ s. join s c.span_in-in_default.result) c.span_in.ensures
    ∙ ap (join (slice_index_or rows 0 bare_row).at) (c.span_in-in_default.ensures ∙ ap (λ n. (slice_index_or rows (n - 1) bare_row).at) c.rows.ensures)
    ∙ rows-span c.args.size rows bare_row some
