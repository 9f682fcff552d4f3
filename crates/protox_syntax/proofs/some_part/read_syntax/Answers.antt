use Rattle.std.proofs.Common.{sym, ap, ◌∙◌}
use Rattle.std.specs.List.{list_all}
use Rattle.protox_grammar.specs.declared.note.Note.{Note}
use Rattle.protox_syntax.proofs.SomeRead.{some-left, syntax-read}
use Rattle.protox_syntax.specs.NextStatement.{is_no_fault}
use Rattle.protox_syntax.proofs.some_part.read_syntax.Goals as goal

pub returns-in-Ok-clause-read : goal.returns-in-Ok-clause-read
returns-in-Ok-clause-read c valid e =
    let right = ap (list_all (λ (n : Note). is_no_fault n.noted)) (sym c.as_slice.ensures.value) ∙ sym c.are_right.ensures ∙ c.if-not-are_right.false in
    syntax-read c.args.rows.now c.syntax_if_any.new.rows c.args.head.now c.keep_syntax.new.head c.in-Ok.found c.new-notes.result.items c.syntax_if_any.new.notes.items valid c.new-notes.ensures.items
    c.in-Ok.ensures.read c.in-Ok.ensures.notes right c.keep_syntax.ensures (some-left c.syntax_if_any.new.rows c.is_empty.result c.is_empty.ensures c.if-is_empty.false)
