-- One turn of the loop over statements.
use Rattle.std.proofs.Common.{◌≡◌, true, false, [], ◌++◌, Option, Some, None, option_map, Result, Ok, Err, refl, sym, ap, ◌∙◌, append-nil, append_assoc}
use Rattle.protox_fault.specs.Faults.{Span}
use Rattle.protox_lexeme.specs.Shapes.{Rows}
use Rattle.protox_ast.specs.KeywordWalk as k
use Rattle.protox_ast.specs.Places.{Place}
use Rattle.protox_ast.specs.declared.ast.Package as package_type
use Rattle.protox_grammar.specs.Bodies as bodies
use Rattle.protox_grammar.specs.Class.{all, in_set}
use Rattle.protox_grammar.specs.Reader.{Consumes, Refusal, head_in}
use Rattle.protox_grammar.specs.Told.{Notes, checked}
use Rattle.protox_grammar.proofs.Lemmas.{body-laws, or_first, shows-eats, stated-done, stated-turn}
use Rattle.protox_grammar.proofs.Lemmas as messages
use Rattle.protox_declarations.specs.inner.Options.{here}
use Rattle.protox_rows.specs.inner.Notes.{AddsTo}
use Rattle.protox_rows.specs.inner.Outcome.{Fails}
use Rattle.protox_rows.specs.declared.refused.Refused.{Refused}
use Rattle.protox_rows.specs.declared.refused.Refused.TheVariants.{OutOfMemory, At, TooDeep}
use Rattle.protox_syntax.specs.inner.Statements.{Statements, levels, statement, add_statement, first_place, next_first, notes_behind, or_package}
use Rattle.protox_syntax.specs.declared.statement_types.Statement as statement_type
use Rattle.protox_syntax.specs.declared.statement_types.Statement.TheVariants as statement_of

pub statement-eats : Consumes statement.code
statement-eats = shows-eats (messages.statement-laws here k.KeepsMbody (bodies.FitsMbody levels) (bodies.unsealed levels).read (bodies.unsealed levels).steps (bodies.unsealed levels).trace (body-laws here levels)) statement.shows

abbrev first_place_of : Option package_type.Package → Option Span
first_place_of q = option_map (λ (x : package_type.Package). x.span) q

first-moves : (q : Option package_type.Package) (x : package_type.Package) → first_place_of (or_package q x) ≡ or_first (first_place_of q) x.span
first-moves None x = refl
first-moves (Some y) x = refl

-- the first package statement, where this statement is added
pub first-added : (f : Statements) (x : statement_type.Statement) → first_place (add_statement f x) ≡ next_first (first_place f) x
first-added f statement_of.Empty = refl
first-added f (statement_of.Import x) = refl
first-added f (statement_of.Package x) = first-moves f.first x
first-added f (statement_of.Option x) = refl
first-added f (statement_of.Item x) = refl

module _ (q : Option Span) (old before new all_of : Notes) (xs : Rows Place) where
  turn : head_in (in_set all) xs ≡ true → notes_behind q xs ≡ statement.notes q xs ++ checked (λ x rest. notes_behind (next_first q x) rest) (statement.code xs)
  turn h = stated-turn (in_set all) next_first statement.code statement.notes statement-eats q xs h

  pub more-notes : (ys : Rows Place) (x : statement_type.Statement) (f : Statements) → head_in (in_set all) xs ≡ true → statement.code xs ≡ Ok (x, ys) → q ≡ first_place f
      → new ≡ before ++ statement.notes q xs → before ++ notes_behind q xs ≡ old ++ all_of → new ++ notes_behind (first_place (add_statement f x)) ys ≡ old ++ all_of
  more-notes ys x f test read is added so_far =
      ap (λ v. new ++ notes_behind v ys) (first-added f x ∙ ap (λ v. next_first v x) (sym is))
      ∙ ap (λ v. v ++ notes_behind (next_first q x) ys) added ∙ append_assoc before (statement.notes q xs) (notes_behind (next_first q x) ys)
      ∙ ap (λ v. before ++ (statement.notes q xs ++ checked (λ x rest. notes_behind (next_first q x) rest) v)) (sym read) ∙ ap (λ v. before ++ v) (sym (turn test)) ∙ so_far

  last : (r : Result (statement_type.Statement × Rows Place) Refusal) → statement.code xs ≡ r → checked (λ x rest. notes_behind (next_first q x) rest) r ≡ [] → head_in (in_set all) xs ≡ true
      → new ≡ before ++ statement.notes q xs → before ++ notes_behind q xs ≡ old ++ all_of → new ≡ old ++ all_of
  last r read none test added so_far =
      added ∙ ap (λ v. before ++ v) (sym (append-nil (statement.notes q xs))) ∙ ap (λ v. before ++ (statement.notes q xs ++ v)) (sym none)
      ∙ ap (λ v. before ++ (statement.notes q xs ++ checked (λ x rest. notes_behind (next_first q x) rest) v)) (sym read) ∙ ap (λ v. before ++ v) (sym (turn test)) ∙ so_far

  pub last-notes : (e : Refused) → head_in (in_set all) xs ≡ true → Fails e (statement.code xs) → AddsTo e before (statement.notes q xs) new → before ++ notes_behind q xs ≡ old ++ all_of → AddsTo e old all_of new
  last-notes OutOfMemory test fails added so_far = tt
  last-notes (At left expected) test fails added so_far = last (Err _) fails refl test added so_far
  last-notes (TooDeep left) test fails added so_far = last (Err _) fails refl test added so_far

  pub no-notes : head_in (in_set all) xs ≡ false → before ++ notes_behind q xs ≡ old ++ all_of → before ≡ old ++ all_of
  no-notes test so_far = sym (append-nil before) ∙ ap (λ v. before ++ v) (sym (stated-done (in_set all) next_first statement.code statement.notes statement-eats q xs test)) ∙ so_far
