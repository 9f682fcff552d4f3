-- Where no fault is noted, what was read is right.
use Rattle.std.proofs.Common.{◌≡◌, Bool, true, false, List, [], ◌∷◌, ◌++◌, drop, Option, Some, None, option_map, Result, Ok, refl, sym, ap, subst, ◌∙◌}
use Rattle.std.specs.Prelude.{◌&&◌, length}
use Rattle.std.specs.List.{list_all}
use Rattle.protox_fault.specs.Faults.{Span}
use Rattle.protox_lexeme.specs.Shapes.{Rows}
use Rattle.protox_ast.specs.inner.Fine.{IsFine}
use Rattle.protox_ast.specs.KeywordWalk as k
use Rattle.protox_ast.specs.Keywords.{Each}
use Rattle.protox_ast.specs.Places.{Place}
use Rattle.protox_ast.specs.Spelling as s
use Rattle.protox_ast.specs.Tree as tree
use Rattle.protox_ast.specs.declared.ast.Comments.{Comments}
use Rattle.protox_ast.specs.declared.ast.Syntax.{Syntax}
use Rattle.protox_grammar.specs.Bodies as bodies
use Rattle.protox_grammar.specs.Class.{in_set, only}
use Rattle.protox_grammar.specs.Noted.{noted_nodes}
use Rattle.protox_grammar.specs.Reader.{head_in}
use Rattle.protox_grammar.specs.Rule as rule
use Rattle.protox_grammar.specs.Rules as r
use Rattle.protox_grammar.specs.Told.{Notes, first_behind, AreValidTokens, IsFaultless, IsNoFault, place_of}
use Rattle.protox_grammar.specs.Token as token
use Rattle.protox_grammar.proofs.Lemmas.{bind_ok, body-laws, fine-told, head-stops, ok_is}
use Rattle.protox_grammar.proofs.Lemmas.{optional-laws, true-false}
use Rattle.protox_grammar.specs.declared.note.Note.{Note}
use Rattle.protox_grammar.specs.declared.note.Noted.{Noted}
use Rattle.protox_grammar.specs.declared.note.Noted.TheVariants.{Fault, TextFormat}
use Rattle.protox_grammar.proofs.Lemmas as grammar
use Rattle.protox_declarations.specs.inner.Options.{here}
use Rattle.protox_rows.specs.declared.refused.Refused.{Refused}
use Rattle.protox_rows.specs.inner.Notes.{Adds}
use Rattle.protox_rows.specs.inner.Outcome.{Gives}
use Rattle.protox_syntax.specs.NextStatement.{BeginWithSyntax, IsNextStatement, IsNextSyntax, is_no_fault}
use Rattle.protox_syntax.specs.declared.statement_types.Statement as statement_type
use Rattle.protox_syntax.specs.inner.Statements.{levels, next_first, statement, statement_rule, statement_seen, syntax_if_any, syntax_seen}

pub statement-next : (first : Option Span) (old new : Rows Place) (found : statement_type.Statement) → AreValidTokens old → statement.code old ≡ Ok (found, new) → IsFaultless (statement.notes first old) → IsNextStatement first old new found
unfolding bodies.statement
statement-next first old new found valid e f =
    let p = bind_ok (statement_rule.read old) (λ y. Ok (statement_seen y.0, y.1)) (found, new) (sym (statement.shows.same old) ∙ e) in
    let same = ok_is (statement_seen p.0.0, p.0.1) (found, new) p.2 in
    let l = grammar.statement-laws here k.KeepsMbody (bodies.FitsMbody levels) (bodies.unsealed levels).read (bodies.unsealed levels).steps (bodies.unsealed levels).trace (body-laws here levels) in
    let took = l.read.takes old p.0 p.1 in
    let traced : statement_rule.trace old ≡ statement_rule.steps p.0.0 = l.traced.ok old p.0 p.1 in
    record {
      it = p.0.0;
      rows = took.parts ∙ ap (λ (i : statement_type.Statement × Rows Place). s.statement p.0.0 ++ i.1) same;
      seen = ap (λ (i : statement_type.Statement × Rows Place). i.0) (sym same);
      right = record {
        fits = took.fits;
        fine = λ q w is. subst (λ t. Each IsFine (noted_nodes q w t)) traced
            (fine-told q w (statement_rule.trace old) old valid (subst IsFaultless (ap (λ v. statement.notes v old) (sym is) ∙ sym (statement.says q w old)) f));
        next = λ q is. ap (λ t. place_of (first_behind q t)) (sym traced) ∙ statement.first q old p.0 p.1 ∙ ap (λ v. next_first v (statement_seen p.0.0)) is;
      };
    }

absent-at : (o : Option (tree.Syntax Place)) (old rest : Rows Place) → old ≡ s.maybe s.syntax o ++ rest → rule.Closes r.syntax.ends (only token.syntax) o rest → o ≡ None → BeginWithSyntax old → ⊥
absent-at (Some x) old rest is stops none begins = absurd cc
absent-at None old rest is stops none begins = true-false (head_in (in_set (only token.syntax)) old) begins (ap (head_in (in_set (only token.syntax))) is ∙ head-stops (in_set (only token.syntax)) (only token.syntax) (λ s. refl) rest stops)

abbrev syntax_rule : rule.Rule Place (Option (tree.Syntax Place))
syntax_rule = rule.optional (only token.syntax) r.syntax

pub syntax-next : (old new : Rows Place) (found : Option (Syntax × (Span × Comments))) → AreValidTokens old → syntax_if_any.code old ≡ Ok (found, new) → IsFaultless (syntax_if_any.notes old) → IsNextSyntax old new found
unfolding r.syntax
syntax-next old new found valid e f =
    let p = bind_ok (syntax_rule.read old) (λ y. Ok (option_map syntax_seen y.0, y.1)) (found, new) (sym (syntax_if_any.shows.same old) ∙ e) in
    let same = ok_is (option_map syntax_seen p.0.0, p.0.1) (found, new) p.2 in
    let l = optional-laws (only token.syntax) (grammar.syntax-laws here) refl in
    let took = l.read.takes old p.0 p.1 in
    let traced : syntax_rule.trace old ≡ syntax_rule.steps p.0.0 = l.traced.ok old p.0 p.1 in
    record {
      it = p.0.0;
      rows = took.parts ∙ ap (λ (i : Option (Syntax × (Span × Comments)) × Rows Place). s.maybe s.syntax p.0.0 ++ i.1) same;
      seen = ap (λ (i : Option (Syntax × (Span × Comments)) × Rows Place). i.0) (sym same);
      fine = λ w. subst (λ t. Each IsFine (noted_nodes None w t)) traced
          (fine-told None w (syntax_rule.trace old) old valid (subst IsFaultless (sym (syntax_if_any.tells.says None w old)) f));
      no_package = ap (first_behind None) (sym traced) ∙ grammar.syntax-first here None old p.0 p.1;
      absent = absent-at p.0.0 old p.0.1 took.parts took.ends;
    }

first-no-fault : (n : Noted) (b : Bool) → (is_no_fault n && b) ≡ true → IsNoFault n × (b ≡ true)
first-no-fault (Fault f) b h = absurd cc
first-no-fault (TextFormat open_now) b h = (tt, h)

pub none_faulty : (notes : Notes) → list_all (λ (n : Note). is_no_fault n.noted) notes ≡ true → IsFaultless notes
none_faulty [] h = tt
none_faulty (n ∷ ns) h = let k = first-no-fault n.noted (list_all (λ (m : Note). is_no_fault m.noted) ns) h in (k.0, none_faulty ns k.1)

some-fault : (n : Noted) (b : Bool) → (is_no_fault n && b) ≡ false → IsNoFault n → b ≡ false
some-fault (Fault f) b h k = absurd k
some-fault (TextFormat open_now) b h k = h

-- ---- what the code answers

pub given-ok : {X Y : Type 0} (view : X → Y) (read : Result X Refused) (x : X) (new : Rows Place) (r : _) → read ≡ Ok x → Gives view read new r → r ≡ Ok (view x, new)
given-ok view read x new r e h = subst (λ v. Gives view v new r) e h

pub added-ok : {X : Type 0} (read : Result X Refused) (x : X) (start added new : Notes) → read ≡ Ok x → Adds read start added new → new ≡ start ++ added
added-ok read x start added new e h = subst (λ v. Adds v start added new) e h

pub drop-all : {A : Type 0} (xs ys : List A) → drop (length xs) (xs ++ ys) ≡ ys
drop-all [] ys = refl
drop-all (x ∷ xs) ys = drop-all xs ys
