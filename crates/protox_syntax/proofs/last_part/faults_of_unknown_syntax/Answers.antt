use Rattle.std.proofs.Common.{◌+◌, ap, arith}
use Rattle.protox_syntax.proofs.AllFound.{unknown_syntax-all}
use Rattle.protox_syntax.proofs.ParsedTable.{total-fits, unknown_syntax-parsed}
use Rattle.protox_syntax.proofs.last_part.faults_of_unknown_syntax.Goals as goal

pub overflow_add-total : goal.overflow_add-total
overflow_add-total c = omega (arith, c.rows-total.ensures, total-fits c.args.table.now c.args.size c.requires.table)

pub returns : goal.returns
returns c =
    let total = ap (λ n. n + 1) c.rows-total.ensures in
    let j = unknown_syntax-parsed c.args.table.now c.args.size c.requires.table c.args.notes.items _ _ c.in_ok-errors.errors.items total c.requires.notes c.requires.some c.rows_left_at_first_note-left.ensures c.in_ok-errors.ensures in
    (j.0, j.1, j.2, j.3, unknown_syntax-all c.args.table.now c.requires.valid c.args.notes.items _ _ c.in_ok-errors.errors.items total c.requires.notes c.requires.some c.rows_left_at_first_note-left.ensures c.in_ok-errors.ensures)
