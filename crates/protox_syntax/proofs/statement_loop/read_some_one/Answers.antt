use Rattle.std.proofs.Common.{◌≡◌, ◌++◌, List, ℕ, drop, refl, sym, ap, ◌∙◌, true}
use Rattle.std.specs.List.{list_all}
use Rattle.protox_grammar.specs.declared.note.Note.{Note}
use Rattle.protox_ast.specs.declared.ast.File.{File}
use Rattle.protox_syntax.proofs.Growing.{syntax-with}
use Rattle.protox_syntax.proofs.SomeRead.{one-read}
use Rattle.protox_syntax.proofs.Turns.{statement-eats}
use Rattle.protox_syntax.specs.NextStatement.{is_no_fault}
use Rattle.protox_syntax.specs.inner.Parts.{with_statement}
use Rattle.protox_syntax.specs.inner.Statements as rule
use Rattle.protox_syntax.proofs.statement_loop.read_some_one.Goals as goal

-- The notes of the statement are right, wherever the known ones end.
right-behind : (known count : ℕ) (seen new : List Note) → known ≡ count → seen ≡ new → list_all (λ (n : Note). is_no_fault n.noted) (drop known seen) ≡ true → list_all (λ (n : Note). is_no_fault n.noted) (drop count new) ≡ true
right-behind known count seen new ends is right = rw (sym ends, sym is) right

pub returns-in-On-clause-one : goal.returns-in-On-clause-one
returns-in-On-clause-one c valid e =
    let notes = c.args.notes.now.items in
    let rows = c.args.rows.now in
    let new = c.statement.new.notes.items in
    let read = ap (rule.statement).code (sym c.again-ahead.ensures) ∙ c.in-Ok-Empty.ensures.read in
    let added = c.in-Ok-Empty.ensures.notes ∙ (λ i. notes ++ (rule.statement).notes (c.first_place.ensures i) (c.again-ahead.ensures i)) in
    let right = right-behind c.len-known.result _ c.as_slice.result.now new (c.len-known.ensures ∙ c.args.notes.now.ok.0) c.as_slice.ensures.value (c.judged.ensures.right c.in-On.is) in
    one-read rows c.statement.new.rows c.args.head.now c.args.head.now c.in-Ok-Empty.field-0 notes new valid read added right (ap (with_statement c.args.head.now) (sym c.in-Ok-Empty.field-0-is)) (c.judged.ensures.some c.in-On.is)

pub returns-in-On-clause-fewer : goal.returns-in-On-clause-fewer
returns-in-On-clause-fewer c e = statement-eats c.args.rows.now (c.in-Ok-Empty.field-0, c.statement.new.rows) (ap (rule.statement).code (sym c.again-ahead.ensures) ∙ c.in-Ok-Empty.ensures.read)

pub returns-in_ok-add_statement-in-On-judged : goal.returns-in_ok-add_statement-in-On-judged
returns-in_ok-add_statement-in-On-judged c =
    let notes = c.args.notes.now.items in
    let rows = c.args.rows.now in
    let new = c.statement.new.notes.items in
    let read = ap (rule.statement).code (sym c.again-ahead.ensures) ∙ c.in-Ok.ensures.read in
    let added = c.in-Ok.ensures.notes ∙ (λ i. notes ++ (rule.statement).notes (c.first_place.ensures i) (c.again-ahead.ensures i)) in
    let right = right-behind c.len-known.result _ c.as_slice-in-Ok.result.now new (c.len-known.ensures ∙ c.args.notes.now.ok.0) c.as_slice-in-Ok.ensures.value (c.judged-in-Ok.ensures.right c.in-On-judged.is) in
    record {
      one = λ valid e. one-read rows c.statement.new.rows c.args.head.now c.add_statement.new.head c.in-Ok.statement notes new valid read added right c.in_ok-add_statement-in-On-judged.ensures (c.judged-in-Ok.ensures.some c.in-On-judged.is);
      stays = λ off. absurd (off refl);
      fewer = λ e. statement-eats rows (c.in-Ok.statement, c.statement.new.rows) read;
      syntax = ap (λ (h : File). h.syntax) c.in_ok-add_statement-in-On-judged.ensures ∙ syntax-with c.args.head.now c.in-Ok.statement;
    }
