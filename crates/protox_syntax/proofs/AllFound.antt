-- The answer for a table lists all its faults.
use Rattle.std.proofs.Common.{◌≡◌, ℕ, true, false, cond, List, [], ◌∷◌, ◌++◌, length, map, Option, None, option_map, Ok, Err, refl, sym, ap, subst, ◌∙◌}
use Rattle.std.specs.Prelude.{option_to_list}
use Rattle.protox_fault.specs.Faults.{Span}
use Rattle.protox_fault.specs.declared.error.ParseErrorKind.{ParseErrorKind}
use Rattle.protox_lexeme.specs.Shapes.{Rows}
use Rattle.protox_lexeme.specs.Table.{Table}
use Rattle.protox_ast.specs.Places.{Place, placed}
use Rattle.protox_ast.specs.Truth.{is_terminator}
use Rattle.protox_ast.specs.declared.ast.Comments.{Comments}
use Rattle.protox_ast.specs.declared.ast.Syntax.{Syntax}
use Rattle.protox_grammar.specs.Reader.{Refusal, Unexpected, Deep, head_in, ◌>>=◌}
use Rattle.protox_grammar.specs.Told.{Notes, is_invalid, then_notes, IsFaultless}
use Rattle.protox_grammar.proofs.Lemmas.{bind_ok, map_err, ok_is}
use Rattle.protox_syntax.specs.AllFaults.{Progress, after_syntax, along, beginning, faults_of_table, nowhere, read, refusal, row_at, syntax_rule, unless_found, unworded}
use Rattle.protox_syntax.specs.inner.ParsedTable.{AreAllOf, rows_left_at_first_note, total_of}
use Rattle.protox_syntax.specs.inner.Leading.{Ends, Leads, found_with_notes, rest_of}
use Rattle.protox_syntax.specs.inner.Statements.{notes_behind, statements_at, syntax_if_any, syntax_seen}
use Rattle.protox_syntax.specs.inner.Merge.{merged_faults}
use Rattle.protox_syntax.specs.inner.Whole.{all_notes, whole}
use Rattle.protox_syntax.proofs.Along.{along-found_with_notes}
use Rattle.protox_syntax.proofs.Alike.{alike-read, alike-self, first-read, last-alike}
use Rattle.protox_syntax.proofs.Modes.{faults-none}
use Rattle.protox_syntax.proofs.Reading.{deep-noted}
use Rattle.protox_syntax.proofs.Recovering.{behind-syntax}
use Rattle.protox_syntax.proofs.SyntaxNotes.{syntax-faults}
use Rattle.protox_syntax.proofs.Merging.{faultless}

-- ---- the syntax statement is refused

pub whole-err : (xs : Rows Place) (e : Refusal) → syntax_if_any.code xs ≡ Err e → whole xs ≡ Err e
unfolding whole
whole-err xs e h = ap (λ v. v >>= λ x. statements_at x.1 >>= λ y. Ok ((x.0, y.0), y.1)) h

pub notes-err : (xs : Rows Place) (e : Refusal) → syntax_if_any.code xs ≡ Err e → syntax_if_any.notes xs ≡ [] → all_notes xs ≡ []
unfolding all_notes
notes-err xs e h none = λ i. none i ++ then_notes (notes_behind None) (h i)

-- a syntax statement holds no body
pub never-deep : (xs : Rows Place) (left : ℕ) → syntax_if_any.code xs ≡ Err (Deep left) → syntax_if_any.notes xs ≡ [] → ⊥
never-deep xs left h none = deep-noted xs left (whole-err xs (Deep left) h) (subst IsFaultless (sym (notes-err xs (Deep left) h none)) tt)

-- ---- all that is found

some-found : (xs more : List ParseErrorKind) → (xs ≡ [] → ⊥) → unless_found xs more ≡ xs
some-found [] more h = absurd (h refl)
some-found (x ∷ xs) more h = refl

module _ (t : Table) where
  abbrev rows : Rows Place
  rows = placed t

  -- all rows are read
  pub all_read-all : (notes : Notes) (total : ℕ) (errors : List ParseErrorKind) → total ≡ total_of t → Ends t notes → errors ≡ merged_faults t.faults total notes 0 → AreAllOf t errors
  all_read-all notes total errors is v e = ap (map unworded) (e ∙ ap (λ n. merged_faults t.faults n notes 0) is) ∙ (alike-read t 0 (found_with_notes t notes beginning) v.0 v.1).0 ∙ ap (map unworded) v.2

  -- the first row is invalid
  pub invalid-all : (total left : ℕ) (errors : List ParseErrorKind) → total ≡ total_of t → left ≡ length t.rows → head_in is_invalid rows ≡ true → errors ≡ merged_faults t.faults total [] left → AreAllOf t errors
  invalid-all total left errors is left-is h e =
      ap (map unworded) (e ∙ (λ i. merged_faults t.faults (is i) [] (left-is i))
      ∙ sym (ap (λ b. cond b (read t (length t.rows) beginning).errors (unless_found seen.errors (after_syntax t (syntax_rule.read rows) seen))) h))
    where
      seen : Progress
      seen = along t None nowhere (syntax_rule.trace rows) rows beginning

  module _ (valid : head_in is_invalid rows ≡ false) where
    abbrev seen : Progress
    seen = along t None nowhere (syntax_rule.trace rows) rows beginning

    seen-is : seen ≡ found_with_notes t (syntax_if_any.notes rows) beginning
    seen-is = along-found_with_notes t None nowhere (syntax_rule.trace rows) rows beginning ∙ ap (λ n. found_with_notes t n beginning) (syntax_if_any.tells.says None nowhere rows)

    all-is : faults_of_table t ≡ unless_found seen.errors (after_syntax t (syntax_rule.read rows) seen)
    all-is = ap (λ b. cond b (read t (length t.rows) beginning).errors (unless_found seen.errors (after_syntax t (syntax_rule.read rows) seen))) valid

    started : syntax_if_any.notes rows ≡ [] → faults_of_table t ≡ after_syntax t (syntax_rule.read rows) beginning
    started none = all-is ∙ ap (λ (p : Progress). unless_found p.errors (after_syntax t (syntax_rule.read rows) p)) (seen-is ∙ ap (λ n. found_with_notes t n beginning) none)

    -- the syntax statement is read, or there is none
    pub leads-start : (syntax : Option (Syntax × (Span × Comments))) (rest : Rows Place) → syntax_if_any.notes rows ≡ [] → syntax_if_any.code rows ≡ Ok (syntax, rest) → Leads t [] None rest
    leads-start syntax rest none e =
        let p = bind_ok (syntax_rule.read rows) (λ y. Ok (option_map syntax_seen y.0, y.1)) (syntax, rest) (sym (syntax_if_any.shows.same rows) ∙ e) in
        let same : p.0.1 ≡ rest = ap (λ (v : Option (Syntax × (Span × Comments)) × Rows Place). v.1) (ok_is (option_map syntax_seen p.0.0, p.0.1) (syntax, rest) p.2) in
        record {
          statement_first = None;
          found = beginning;
          first_is = refl;
          last = behind-syntax rows rest syntax e;
          alike = alike-self beginning;
          rest = ap (λ ys. rest_of t None ys beginning) (sym same) ∙ sym (started none ∙ ap (λ o. after_syntax t o beginning) p.1);
        }

    -- it is refused
    pub unexpected_row-all : (total left : ℕ) (text : List ℕ) (merged errors : List ParseErrorKind) → total ≡ total_of t → is_terminator text ≡ false → syntax_if_any.notes rows ≡ [] → syntax_if_any.code rows ≡ Err (Unexpected left)
        → merged ≡ merged_faults t.faults total [] left → errors ≡ merged ++ option_to_list (refusal text (row_at t.rows left)) → AreAllOf t errors
    unexpected_row-all total left text merged errors is plain none h w e =
        let read-err = map_err (option_map syntax_seen) (syntax_rule.read rows) (Unexpected left) (sym (syntax_if_any.shows.same rows) ∙ h) in
        ap (map unworded) (e ∙ ap (λ v. v ++ option_to_list (refusal text (row_at t.rows left))) (w ∙ ap (λ n. merged_faults t.faults n [] left) is))
        ∙ last-alike t left text (row_at t.rows left) beginning plain
        ∙ ap (map unworded) (sym (started none ∙ ap (λ o. after_syntax t o beginning) read-err))

    -- its syntax is unknown
    unknown_syntax-by : (notes : Notes) → syntax_if_any.notes rows ≡ notes → (notes ≡ [] → ⊥) → faults_of_table t ≡ merged_faults t.faults (total_of t) notes (rows_left_at_first_note notes)
    unknown_syntax-by [] is some = absurd (some refl)
    unknown_syntax-by (n ∷ ns) is some =
        let merged : (found_with_notes t (n ∷ ns) beginning).errors ≡ merged_faults t.faults (total_of t) (n ∷ ns) n.left = sym (ap (λ (p : Progress). p.errors) (first-read t n ns beginning)) in
        let nonempty : (found_with_notes t (n ∷ ns) beginning).errors ≡ [] → ⊥ = λ none. some (sym is ∙ faults-none (syntax_if_any.notes rows) (syntax-faults rows) (subst IsFaultless (sym is) (faultless t.faults (total_of t) (n ∷ ns) n.left (sym merged ∙ none)))) in
        let errors-are : seen.errors ≡ (found_with_notes t (n ∷ ns) beginning).errors = ap (λ (p : Progress). p.errors) (seen-is ∙ ap (λ v. found_with_notes t v beginning) is) in
        all-is ∙ ap (λ v. unless_found v (after_syntax t (syntax_rule.read rows) seen)) errors-are ∙ some-found (found_with_notes t (n ∷ ns) beginning).errors (after_syntax t (syntax_rule.read rows) seen) nonempty ∙ merged

    pub unknown_syntax-all : (notes : Notes) (total left : ℕ) (errors : List ParseErrorKind) → total ≡ total_of t → notes ≡ syntax_if_any.notes rows → (notes ≡ [] → ⊥) → left ≡ rows_left_at_first_note notes → errors ≡ merged_faults t.faults total notes left → AreAllOf t errors
    unknown_syntax-all notes total left errors is notes-are some left-is e = ap (map unworded) (e ∙ (λ i. merged_faults t.faults (is i) notes (left-is i)) ∙ sym (unknown_syntax-by notes (sym notes-are) some))
