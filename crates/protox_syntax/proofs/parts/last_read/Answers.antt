use Rattle.std.proofs.Common.{◌≡◌, ◌-◌, ◌+◌, suc, length, Some, ap, ◌∙◌, arith, slice_index_or}
use Rattle.protox_lexeme.specs.Shapes.{Row}
use Rattle.protox_lexeme.specs.Table.{rows_of}
use Rattle.protox_fault.specs.Faults.{Span}
use Rattle.protox_rows.specs.Rows.{bare_row}
use Rattle.protox_syntax.proofs.Noting.{row-at, row-count}
use Rattle.protox_syntax.proofs.parts.last_read.Goals as goal

pub returns-then-read-eq0-clause-some : goal.returns-then-read-eq0-clause-some
returns-then-read-eq0-clause-some c front last left row table count =
    let all : length c.args.part.now.table.rows ≡ length (rows_of front) + suc (length (rows_of left)) = ap (λ t. length t.rows) table ∙ row-count front last left row in
    absurd (omega (arith, all, count, c.if-read-eq0.true, c.saturating_sub-read.ensures, c.len.ensures, c.rows.ensures))

pub returns-clause-some : goal.returns-clause-some
returns-clause-some c front last left row table count =
    let all : length c.args.part.now.table.rows ≡ length (rows_of front) + suc (length (rows_of left)) = ap (λ t. length t.rows) table ∙ row-count front last left row in
    let read : c.saturating_sub-read.result - 1 ≡ length (rows_of front) = omega (arith, all, count, c.saturating_sub-read.ensures, c.len.ensures, c.rows.ensures) in
    ap Some (c.span_in.ensures
    ∙ ap (λ k. (slice_index_or c.args.part.now.table.rows k bare_row).at) read
    ∙ ap (λ t. (slice_index_or t.rows (length (rows_of front)) bare_row).at) table
    ∙ ap (λ (r : Row Span). r.at) (row-at front last left row))
