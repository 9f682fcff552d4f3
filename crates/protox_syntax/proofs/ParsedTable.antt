-- The answer for a table of tokens, by how reading it ends.
use Rattle.std.proofs.Common.{◌≡◌, ◌≤◌, ◌<◌, ◌+◌, ◌-◌, ◌^◌, ℕ, zero, suc, Bool, true, false, cond, List, [], ◌∷◌, ◌++◌, length, Option, Some, None, Ok, Err, refl, sym, ap, subst, ◌∙◌, append-nil, append_assoc, arith}
use Rattle.std.specs.Prelude.{slice_index_or, slice_get, option_to_list}
use Rattle.std.specs.List.{All}
use Rattle.protox_fault.specs.Faults.{Span, SpanLiesIn, LiesIn, faults_in}
use Rattle.protox_lexeme.specs.Shapes.{Shape, Ident, Int, Float, Str, Mark, LineComment, BlockComment, Newline, Invalid, Row, Rows}
use Rattle.protox_lexeme.specs.Lexemes.{cut}
use Rattle.protox_lexeme.specs.Printed.{printed}
use Rattle.protox_lexeme.specs.Table.{Table, rows_of, faults_of, StandBetween}
use Rattle.protox_fault.specs.declared.error.ParseErrorKind.{ParseErrorKind}
use Rattle.protox_fault.specs.declared.error.ParseErrorKind.TheVariants.{UnexpectedToken, UnexpectedEof}
use Rattle.protox_lexeme.proofs.Lemmas.{lie, stand}
use Rattle.protox_ast.proofs.Lemmas.{Stand, as-many, bare, bare-placed, count-fits}
use Rattle.protox_ast.specs.Keywords.{Each}
use Rattle.protox_ast.specs.Places.{Place, placed}
use Rattle.protox_ast.specs.Tree as tree
use Rattle.protox_grammar.specs.Reader.{Unexpected, Deep}
use Rattle.protox_grammar.specs.Told.{Notes, is_invalid, then_notes, IsFaultless}
use Rattle.protox_grammar.specs.declared.note.Noted.TheVariants.{TextFormat}
use Rattle.protox_grammar.proofs.Lemmas.{AllLie, both-lie, faultless-first}
use Rattle.protox_rows.specs.inner.Notes.{AddsTo}
use Rattle.protox_rows.specs.inner.Outcome.{Fails}
use Rattle.protox_rows.specs.inner.Words.{SaysOf}
use Rattle.protox_rows.specs.declared.refused.Refused.{Refused}
use Rattle.protox_rows.specs.declared.refused.Refused.TheVariants.{OutOfMemory, At, TooDeep}
use Rattle.protox_syntax.specs.inner.Statements.{syntax_if_any, notes_behind}
use Rattle.protox_syntax.specs.inner.Whole.{Whole, whole, all_notes}
use Rattle.protox_syntax.specs.inner.Recovery.{FirstLies, AreRefusalNotes, IsSaid, Recovers, fault_note, plain_note}
use Rattle.protox_syntax.specs.inner.Words as said
use Rattle.protox_syntax.specs.inner.Merge.{merged_faults, refusal, row_at}
use Rattle.protox_syntax.specs.inner.ParsedTable.{IsTableOf, IsWhole, AreMergedFaults, unknown_syntax, unexpected_row, refused_statement, all_read, all_faults, rows_left_at_first_note, total_of}
use Rattle.protox_syntax.proofs.Entries.{append-empty, all-each, each-at, invalid-faulty}
use Rattle.protox_syntax.proofs.Modes.{faults-none}
use Rattle.protox_syntax.proofs.Reading.{left-within, deep-noted, none-read, notes-lie}
use Rattle.protox_syntax.proofs.SyntaxNotes.{syntax-faults}
use Rattle.protox_syntax.proofs.MergeParts.{Grows, merged_faults-behind, merged_faults-note}
use Rattle.protox_syntax.proofs.Merging.{each-append, faultless, merged_faults-lie, merged_faults-seen}

-- the faults of a table
abbrev pub AreTableFaults : Table → ℕ → List ParseErrorKind → Type 0
AreTableFaults t size errors = (errors ≡ [] → ⊥) × Each (LiesIn size) errors × ((f : tree.File Place) → IsWhole t f → ⊥) × AreMergedFaults t errors

abbrev AllFaultsLie : ℕ → List ParseErrorKind → Type 0
AllFaultsLie size f = All (LiesIn size) f

pub is-invalid : (s : Shape) → is_invalid s ≡ true → s ≡ Invalid
is-invalid Invalid h = refl
is-invalid (Ident t) h = absurd cc
is-invalid (Int n) h = absurd cc
is-invalid (Float t) h = absurd cc
is-invalid (Str t) h = absurd cc
is-invalid (Mark b) h = absurd cc
is-invalid (LineComment t) h = absurd cc
is-invalid (BlockComment t) h = absurd cc
is-invalid Newline h = absurd cc

in-order : (low high : ℕ) (a : Rows Span) → StandBetween low high a → low ≤ high
in-order low high [] h = h
in-order low high (x ∷ a) h = omega (arith, h.0, h.1, in-order x.at.end high a h.2)

-- each of these rows in order lies in their range
pub row-lies : (low high : ℕ) (rows : Rows Span) (i : ℕ) (x : Row Span) → StandBetween low high rows → slice_get rows i ≡ Some x → SpanLiesIn high x.at
row-lies low high [] i x h e = absurd cc
row-lies low high (y ∷ ys) zero x h e =
    let same : y ≡ x = cc in
    let last = in-order y.at.end high ys h.2 in
    subst (λ (z : Row Span). SpanLiesIn high z.at) same (omega (arith, h.1), last)
row-lies low high (y ∷ ys) (suc i) x h e = row-lies y.at.end high ys i x h.2 e

abbrev bare_row : Row Place → Row Span
bare_row r = record { shape = r.shape; at = r.at.span }

pub bare-get : (xs : Rows Place) (i : ℕ) (r : Row Place) → slice_get xs i ≡ Some r → slice_get (bare xs) i ≡ Some (bare_row r)
bare-get [] i r e = absurd cc
bare-get (x ∷ xs) zero r e = let same : x ≡ r = cc in ap (λ v. Some (bare_row v)) same
bare-get (x ∷ xs) (suc i) r e = bare-get xs i r e

pub front-faultless : (xs : Rows Place) → IsFaultless (all_notes xs) → IsFaultless (syntax_if_any.notes xs)
unfolding all_notes
front-faultless xs f = faultless-first (syntax_if_any.notes xs) (then_notes (notes_behind None) (syntax_if_any.code xs)) f

module _ (t : Table) (size : ℕ) (tab : IsTableOf size t) where
  stands : StandBetween 0 size t.rows
  stands = rw (tab.3) (subst (λ n. StandBetween 0 n (rows_of (cut 0 tab.0))) tab.2 (stand tab.0 tab.1))

  bare-rows : bare (placed t) ≡ t.rows
  bare-rows = bare-placed true t.rows t.gaps

  stood : Stand 0 size (placed t)
  stood = subst (StandBetween 0 size) (sym bare-rows) stands

  many : length (placed t) ≡ length t.rows
  many = as-many true t.rows t.gaps

  abbrev Total : ℕ → Type 0
  Total total = total ≡ total_of t

  -- each row has a byte of its own
  pub total-fits : length t.rows + 1 < 2 ^ 64
  total-fits = omega (arith, tab.2, tab.4, count-fits 0 size (placed t) stood, many)

  entries-lie : (i : ℕ) → Each (LiesIn size) (slice_index_or t.faults i [])
  entries-lie i =
      let all : All (AllFaultsLie size) (faults_of (cut 0 tab.0)) = subst (λ n. All (AllFaultsLie n) (faults_of (cut 0 tab.0))) tab.2 (lie tab.0 tab.1) in
      rw (tab.3) (each-at (LiesIn size) (faults_of (cut 0 tab.0)) (all-each (AllFaultsLie size) (faults_of (cut 0 tab.0)) all) i)

  invalid-entry : (i : ℕ) (x : Row Span) → slice_get t.rows i ≡ Some x → x.shape ≡ Invalid → (b : Bool) → faults_in b (slice_index_or t.faults i []) ≡ [] → ⊥
  invalid-entry = rw (tab.3) (invalid-faulty (cut 0 tab.0))

  merged-lie : (left : ℕ) (notes : Notes) (total : ℕ) → AllLie size notes → Each (LiesIn size) (merged_faults t.faults total notes left)
  merged-lie left notes total h = merged_faults-lie t.faults total size entries-lie notes left h

  noted-lie : AllLie size (all_notes (placed t))
  noted-lie = notes-lie 0 size (placed t) stood

  -- if a fault is noted, the rows are not those of a file without a fault
  not-whole : (IsFaultless (all_notes (placed t)) → ⊥) → (f : tree.File Place) → IsWhole t f → ⊥
  not-whole h f w = h (faultless t.faults (length t.rows + 1) (all_notes (placed t)) 0 w.1)

  -- a check of the syntax statement failed
  pub unknown_syntax-parsed : (notes : Notes) (total left : ℕ) (errors : List ParseErrorKind) → Total total → notes ≡ syntax_if_any.notes (placed t) → (notes ≡ [] → ⊥) → left ≡ rows_left_at_first_note notes → errors ≡ merged_faults t.faults total notes left → AreTableFaults t size errors
  unknown_syntax-parsed notes total left errors all is some left_is merged =
      let some_fault : IsFaultless (syntax_if_any.notes (placed t)) → ⊥ = λ f. some (is ∙ faults-none (syntax_if_any.notes (placed t)) (syntax-faults (placed t)) f) in (
        (λ e. some_fault (subst IsFaultless is (faultless t.faults total notes left (sym merged ∙ e)))),
        subst (λ (xs : List ParseErrorKind). Each (LiesIn size) xs) (sym merged) (merged-lie left notes total (subst (AllLie size) (sym is) (syntax_if_any.tells.lies 0 size (placed t) stood))),
        not-whole (λ f. some_fault (front-faultless (placed t) f)),
        unknown_syntax (λ e. some (is ∙ e)) (merged ∙ (λ i. merged_faults t.faults (all i) (is i) ((left_is ∙ ap rows_left_at_first_note is) i))),
      )

  fault-lies : (expected : List ℕ) (i : ℕ) (o : Option (Row Span)) → slice_get t.rows i ≡ o → Each (LiesIn size) (option_to_list (refusal expected o))
  fault-lies expected i None e = (tt, tt)
  fault-lies expected i (Some x) e = by (is_invalid x.shape)
    where
      by : (b : Bool) → Each (LiesIn size) (option_to_list (cond b None (Some (UnexpectedToken x.at expected (printed x.shape)))))
      by true = tt
      by false = (row-lies 0 size t.rows i x stands e, tt)

  some-fault : (expected : List ℕ) (left total : ℕ) (o : Option (Row Span)) (notes : Notes) → total ≡ length t.rows + 1 → left ≤ length t.rows → slice_get t.rows (length t.rows - left) ≡ o → merged_faults t.faults total notes left ++ option_to_list (refusal expected o) ≡ [] → ⊥
  some-fault expected left total None notes is within e n = absurd (let m = (append-empty (merged_faults t.faults total notes left) (UnexpectedEof expected ∷ []) n).1 in cc)
  some-fault expected left total (Some x) notes is within e n = by (is_invalid x.shape) refl (append-empty (merged_faults t.faults total notes left) (option_to_list (refusal expected (Some x))) n).1
    where
      by : (b : Bool) → is_invalid x.shape ≡ b → option_to_list (cond b None (Some (UnexpectedToken x.at expected (printed x.shape)))) ≡ [] → ⊥
      by false v m = absurd cc
      by true v m =
          let none = (append-empty (merged_faults t.faults total notes left) (option_to_list (refusal expected (Some x))) n).0 in
          let seen = merged_faults-seen t.faults total notes left (length t.rows - left) none (omega (arith, is, within)) in
          invalid-entry (length t.rows - left) x e (is-invalid x.shape v) seen.0 seen.1

  -- the list merged up to a row that doesn't fit
  abbrev up_to : ℕ → List ℕ → List ParseErrorKind
  up_to left expected = merged_faults t.faults (total_of t) (all_notes (placed t)) left ++ option_to_list (refusal expected (row_at t.rows left))

  some-up-to : (left : ℕ) (expected : List ℕ) → whole (placed t) ≡ Err (Unexpected left) → up_to left expected ≡ [] → ⊥
  some-up-to left expected read = some-fault expected left (total_of t) (row_at t.rows left) (all_notes (placed t)) refl (subst (λ n. left ≤ n) many (left-within (placed t) left read)) refl

  -- a row doesn't fit, and nothing behind it is read
  pub unexpected_row-parsed : (notes : Notes) (total left : ℕ) (expected : List ℕ) (merged errors : List ParseErrorKind) → Total total → IsSaid (said.whole (placed t)) expected → whole (placed t) ≡ Err (Unexpected left) → notes ≡ all_notes (placed t)
      → merged ≡ merged_faults t.faults total notes left → errors ≡ merged ++ option_to_list (refusal expected (row_at t.rows left)) → AreTableFaults t size errors
  unexpected_row-parsed notes total left expected merged errors is text read noted w e =
      let all : errors ≡ up_to left expected = e ∙ ap (λ v. v ++ option_to_list (refusal expected (row_at t.rows left))) (w ∙ (λ i. merged_faults t.faults (is i) (noted i) left)) in (
        (λ n. some-up-to left expected read (sym all ∙ n)),
        subst (λ (xs : List ParseErrorKind). Each (LiesIn size) xs) (sym all)
            (each-append (LiesIn size) (merged_faults t.faults (total_of t) (all_notes (placed t)) left) _ (merged-lie left (all_notes (placed t)) (total_of t) noted-lie) (fault-lies expected (length t.rows - left) (row_at t.rows left) refl)),
        (λ f v. none-read (placed t) (Unexpected left) read f v.0),
        unexpected_row left expected text read all,
      )

  -- if a body is too deep, there is a fault up to the row behind its `{`
  some-sunk : (left : ℕ) → whole (placed t) ≡ Err (Deep left) → merged_faults t.faults (total_of t) (all_notes (placed t)) (left - 1) ≡ [] → ⊥
  some-sunk left read none = deep-noted (placed t) left read (faultless t.faults (total_of t) (all_notes (placed t)) (left - 1) none)

  -- the notes of a refused statement lie in the source
  at_refusal-lies : (e : Refused) (at_refusal : Notes) → AreRefusalNotes t.rows e at_refusal → AllLie size at_refusal
  at_refusal-lies OutOfMemory at_refusal h = absurd h
  at_refusal-lies (At left expected) at_refusal h = subst (AllLie size) (sym h.2) (by (refusal h.0 (row_at t.rows left)) (fault-lies h.0 (length t.rows - left) (row_at t.rows left) refl))
    where
      by : (o : Option ParseErrorKind) → Each (LiesIn size) (option_to_list o) → AllLie size (fault_note left o ++ plain_note left)
      by None g = (tt, tt)
      by (Some f) g = (g.0, (tt, tt))
  at_refusal-lies (TooDeep left) at_refusal h = subst (AllLie size) (sym h) (tt, tt)

  -- the list merged with these notes begins with the list up to the refused row
  behind-up-to : (left : ℕ) (o : Option ParseErrorKind) (later : Notes)
      → Grows (merged_faults t.faults (total_of t) (all_notes (placed t)) left ++ option_to_list o) (merged_faults t.faults (total_of t) (all_notes (placed t) ++ ((fault_note left o ++ plain_note left) ++ later)) 0)
  behind-up-to left None later =
      let front = merged_faults-behind t.faults (total_of t) (all_notes (placed t)) (record { left = left; noted = TextFormat false }) later left 0 (omega arith) in
      (front.0, front.1 ∙ ap (λ v. v ++ front.0) (sym (append-nil (merged_faults t.faults (total_of t) (all_notes (placed t)) left))))
  behind-up-to left (Some f) later =
      let front = merged_faults-note t.faults (total_of t) (all_notes (placed t)) (plain_note left ++ later) f left 0 in
      (front.0, front.1 ∙ sym (append_assoc (merged_faults t.faults (total_of t) (all_notes (placed t)) left) (f ∷ []) front.0))

  some-refused_statement : (e : Refused) (at_refusal later : Notes) → Fails e (whole (placed t)) → AreRefusalNotes t.rows e at_refusal → merged_faults t.faults (total_of t) (all_notes (placed t) ++ (at_refusal ++ later)) 0 ≡ [] → ⊥
  some-refused_statement OutOfMemory at_refusal later read h n = absurd h
  some-refused_statement (At left expected) at_refusal later read h n =
      let front = behind-up-to left (refusal h.0 (row_at t.rows left)) later in
      some-up-to left h.0 read (append-empty _ front.0 (sym front.1 ∙ ap (λ v. merged_faults t.faults (total_of t) (all_notes (placed t) ++ (v ++ later)) 0) (sym h.2) ∙ n)).0
  some-refused_statement (TooDeep left) at_refusal later read h n =
      let front = merged_faults-behind t.faults (total_of t) (all_notes (placed t)) (record { left = left - 1; noted = TextFormat false }) later (left - 1) 0 (omega arith) in
      some-sunk left read (append-empty _ front.0 (sym front.1 ∙ ap (λ v. merged_faults t.faults (total_of t) (all_notes (placed t) ++ (v ++ later)) 0) (sym h) ∙ n)).0

  not-read : (e : Refused) → (e ≡ OutOfMemory → ⊥) → Fails e (whole (placed t)) → (f : tree.File Place) → IsWhole t f → ⊥
  not-read OutOfMemory some read f v = absurd (some refl)
  not-read (At left expected) some read f v = none-read (placed t) (Unexpected left) read f v.0
  not-read (TooDeep left) some read f v = none-read (placed t) (Deep left) read f v.0

  at_refusal-some : (e : Refused) (at_refusal : Notes) → AreRefusalNotes t.rows e at_refusal → e ≡ OutOfMemory → ⊥
  at_refusal-some e at_refusal h is = absurd (subst (λ (v : Refused). AreRefusalNotes t.rows v at_refusal) is h)

  is-noted : (e : Refused) (old : Notes) → (e ≡ OutOfMemory → ⊥) → AddsTo e [] (all_notes (placed t)) old → old ≡ all_notes (placed t)
  is-noted OutOfMemory old some h = absurd (some refl)
  is-noted (At left expected) old some h = h
  is-noted (TooDeep left) old some h = h

  -- a statement is refused, and reading goes on
  pub refused_statement-parsed : (e : Refused) (first : Option Span) (old notes : Notes) (total : ℕ) (errors : List ParseErrorKind) → Total total → Fails e (whole (placed t)) → SaysOf e (said.whole (placed t)) → AddsTo e [] (all_notes (placed t)) old → FirstLies (placed t) first
      → Recovers t e first old notes → errors ≡ merged_faults t.faults total notes 0 → AreTableFaults t size errors
  refused_statement-parsed e first old notes total errors is read says noted lies r merged =
      let some = at_refusal-some e r.0 r.3 in
      let begins : old ≡ all_notes (placed t) = is-noted e old some noted in
      let all : errors ≡ merged_faults t.faults (total_of t) (all_notes (placed t) ++ (r.0 ++ r.1)) 0 = merged ∙ (λ i. merged_faults t.faults (is i) ((r.2 ∙ ap (λ v. v ++ (r.0 ++ r.1)) begins) i) 0) in
      let later = r.4.1 size stood (lies 0 size stood) in (
        (λ n. some-refused_statement e r.0 r.1 read r.3 (sym all ∙ n)),
        subst (λ (xs : List ParseErrorKind). Each (LiesIn size) xs) (sym all) (merged-lie 0 (all_notes (placed t) ++ (r.0 ++ r.1)) (total_of t) (both-lie size (all_notes (placed t)) (r.0 ++ r.1) noted-lie (both-lie size r.0 r.1 (at_refusal-lies e r.0 r.3) later))),
        not-read e some read,
        refused_statement e r.0 r.1 read says r.3 r.4.0 all,
      )

  -- all rows are read, and there are faults
  pub faulty-parsed : (x : Whole) (notes : Notes) (total : ℕ) (errors : List ParseErrorKind) → Total total → whole (placed t) ≡ Ok (x, []) → notes ≡ all_notes (placed t) → errors ≡ merged_faults t.faults total notes 0 → (errors ≡ [] → ⊥) → AreTableFaults t size errors
  faulty-parsed x notes total errors is read noted merged some =
      let all : errors ≡ merged_faults t.faults (total_of t) (all_notes (placed t)) 0 = merged ∙ (λ i. merged_faults t.faults (is i) (noted i) 0) in (
        some,
        subst (λ (xs : List ParseErrorKind). Each (LiesIn size) xs) (sym merged) (merged-lie 0 notes total (subst (AllLie size) (sym noted) noted-lie)),
        (λ f v. some (all ∙ v.1)),
        all_read x read all,
      )

  -- all rows are read, and there is no fault
  pub no-faults-are : (notes : Notes) (total : ℕ) (errors : List ParseErrorKind) → Total total → notes ≡ all_notes (placed t) → errors ≡ merged_faults t.faults total notes 0 → errors ≡ [] → all_faults t ≡ []
  no-faults-are notes total errors is noted merged none = sym (merged ∙ (λ i. merged_faults t.faults (is i) (noted i) 0)) ∙ none
