use Rattle.std.proofs.Common.{◌+◌, ap, ◌∙◌, arith}
use Rattle.protox_syntax.specs.inner.Merge.{merged_faults}
use Rattle.protox_syntax.proofs.AllFound.{invalid-all}
use Rattle.protox_syntax.proofs.Invalid.{invalid-parsed}
use Rattle.protox_syntax.proofs.ParsedTable.{total-fits}
use Rattle.protox_syntax.proofs.last_part.faults_of_invalid_start.Goals as goal

pub overflow_add-total : goal.overflow_add-total
overflow_add-total c = omega (arith, c.rows-left.ensures, total-fits c.args.table.now c.args.size c.requires.table)

pub returns : goal.returns
returns c =
    let total = ap (λ n. n + 1) c.rows-left.ensures in
    let merged = c.in_ok-errors.ensures ∙ ap (λ n. merged_faults c.args.table.now.faults (c.rows-left.result + 1) n c.rows-left.result) c.new.ensures.items in
    let j = invalid-parsed c.args.table.now c.args.size c.requires.table _ _ c.in_ok-errors.errors.items total c.rows-left.ensures c.requires.invalid merged in
    (j.0, j.1, j.2, j.3, invalid-all c.args.table.now _ _ c.in_ok-errors.errors.items total c.rows-left.ensures c.requires.invalid merged)
