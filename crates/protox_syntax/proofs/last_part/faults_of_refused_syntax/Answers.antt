use Rattle.std.proofs.Common.{◌+◌, [], ap, sym, ◌∙◌, arith}
use Rattle.protox_ast.specs.Places.{placed}
use Rattle.protox_grammar.specs.Reader.{Unexpected}
use Rattle.protox_rows.specs.Expected.{words_of}
use Rattle.protox_syntax.specs.inner.Merge.{merged_faults}
use Rattle.protox_syntax.proofs.AllFound.{unexpected_row-all, notes-err, whole-err}
use Rattle.protox_syntax.proofs.ParsedTable.{total-fits, unexpected_row-parsed}
use Rattle.protox_syntax.proofs.last_part.faults_of_refused_syntax.Goals as goal

pub overflow_add-total : goal.overflow_add-total
overflow_add-total c = omega (arith, c.rows-total.ensures, total-fits c.args.table.now c.args.size c.requires.table)

pub returns : goal.returns
returns c =
    let t = c.args.table.now in
    let total = ap (λ n. n + 1) c.rows-total.ensures in
    let read = whole-err (placed t) (Unexpected c.args.left) c.requires.read in
    let none = notes-err (placed t) (Unexpected c.args.left) c.requires.read c.requires.notes in
    let merged = c.in_ok-errors.ensures ∙ ap (λ n. merged_faults t.faults (c.rows-total.result + 1) n c.args.left) c.new.ensures.items in
    let j = unexpected_row-parsed t c.args.size c.requires.table [] _ c.args.left c.text.result.now c.in_ok-errors.errors.items c.add_refusal.new.errors.items total (c.text.ensures.plain, c.text.ensures.words ∙ ap words_of c.requires.said) read (sym none) merged c.in_ok-add_refusal.ensures in
    (j.0, j.1, j.2, j.3, unexpected_row-all t c.requires.valid _ c.args.left c.text.result.now c.in_ok-errors.errors.items c.add_refusal.new.errors.items total c.text.ensures.plain c.requires.notes c.requires.read merged c.in_ok-add_refusal.ensures)
