use Rattle.std.proofs.Common.{◌≡◌, ◌++◌, [], false, length, Ok, sym, ap, subst, ◌∙◌}
use Rattle.protox_fault.specs.declared.error.SyntaxFailure.TheVariants.{Faults}
use Rattle.protox_lexeme.specs.Table.{Table}
use Rattle.protox_ast.specs.Places.{placed}
use Rattle.protox_ast.specs.declared.ast.File.{File}
use Rattle.protox_grammar.specs.Reader.{head_in}
use Rattle.protox_grammar.specs.Told.{is_invalid}
use Rattle.protox_syntax.proofs.LastPart.{front-on}
use Rattle.protox_syntax.proofs.ReadRight.{added-ok, given-ok}
use Rattle.protox_syntax.proofs.SomeRead.{vec-empty}
use Rattle.protox_syntax.specs.inner.OnWay.{IsOnWay}
use Rattle.protox_syntax.specs.inner.ParsedTable.{RefusesTable}
use Rattle.protox_syntax.specs.inner.Statements as rule
use Rattle.protox_syntax.proofs.last_part.read_front.Goals as goal
use Rattle.protox_syntax.proofs.last_part.read_front.Goals.{in_default-via-in-Err+in-At-1, in_default-via-in-Ok}

pub returns-then-begins_invalid-clause-refused : goal.returns-then-begins_invalid-clause-refused
returns-then-begins_invalid-clause-refused c = subst (λ (t : Table). RefusesTable t (length c.args.source.now) (Faults c.in_ok-errors.errors)) c.requires.table c.in_ok-errors.ensures

pub returns-clause-on : goal.returns-clause-on
returns-clause-on c gone reached =
    let rows = c.all-rows.result in
    let part = c.args.part.now.table in
    let syntax = c.in-Ok.syntax in
    let rest = c.syntax_if_any.new.rows in
    let notes = c.syntax_if_any.new.notes.items in
    let valid : head_in is_invalid (placed part) ≡ false = ap (head_in is_invalid) (sym c.all-rows.ensures) ∙ sym c.begins_invalid.ensures ∙ c.if-begins_invalid.false in
    let is : c.syntax_if_any.result ≡ Ok syntax = elim c.in_default.branch [
      | in_default-via-in-Err+in-At-1 w ↦ let clash = sym w.t-31-is ∙ c.in-Ok.is in absurd cc
      | in_default-via-in-Ok w ↦ sym w.t-31-is ∙ c.in-Ok.is
    ] in
    let read : (rule.syntax_if_any).code (placed part) ≡ Ok (syntax, rest) = subst (λ l. (rule.syntax_if_any).code l ≡ Ok (syntax, rest)) c.all-rows.ensures (given-ok (λ x. x) c.syntax_if_any.result syntax rest ((rule.syntax_if_any).code rows) is c.syntax_if_any.ensures.read) in
    let added = added-ok c.syntax_if_any.result syntax c.new-notes.result.items ((rule.syntax_if_any).notes rows) notes is c.syntax_if_any.ensures.notes in
    let none : (rule.syntax_if_any).notes (placed part) ≡ [] =
    ap (rule.syntax_if_any).notes (sym c.all-rows.ensures) ∙ ap (λ l. l ++ (rule.syntax_if_any).notes rows) (sym c.new-notes.ensures.items) ∙ sym added ∙ vec-empty notes c.syntax_if_any.new.notes.len c.is_empty.result c.syntax_if_any.new.notes.ok.0 c.is_empty.ensures c.if-not-is_empty.false in
    subst (λ (h : File). IsOnWay c.args.source.now part false rest [] gone h) (sym c.keep_syntax.ensures)
    (front-on c.args.source.now part c.requires.table gone c.args.head.now reached rest syntax
    (subst (λ (t : Table). head_in is_invalid (placed t) ≡ false) c.requires.table valid)
    (subst (λ (t : Table). (rule.syntax_if_any).code (placed t) ≡ Ok (syntax, rest)) c.requires.table read)
    (subst (λ (t : Table). (rule.syntax_if_any).notes (placed t) ≡ []) c.requires.table none))

pub returns-in_default-clause-refused : goal.returns-in_default-clause-refused
returns-in_default-clause-refused c = subst (λ (t : Table). RefusesTable t (length c.args.source.now) (Faults c.in_ok-unknown-in_default.unknown)) c.requires.table c.in_ok-unknown-in_default.ensures

pub returns-in-Err-At-clause-refused : goal.returns-in-Err-At-clause-refused
returns-in-Err-At-clause-refused c = subst (λ (t : Table). RefusesTable t (length c.args.source.now) (Faults c.in_ok-unfit-in-Err-At.unfit)) c.requires.table c.in_ok-unfit-in-Err-At.ensures
