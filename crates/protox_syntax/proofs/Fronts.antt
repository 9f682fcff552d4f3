-- What a source begins with.
use Rattle.std.proofs.Common.{◌≡◌, ℕ, ◌+◌, ◌-◌, ◌<◌, Bool, true, false, not, ◌&&◌, cond, List, [], ◌∷◌, ◌++◌, length, take, drop, refl, sym, ap, ◌∙◌, arith, Option, Some, None}
use Rattle.std.proofs.lemmas.Bool.{false≢true, not-true, and_parts, eqb-false, ltb-true, lt-ltb}
use Rattle.std.proofs.lemmas.List.{get_or-take}
use Rattle.std.proofs.lemmas.List.Sums.{prefix_len-drop_no}
use Rattle.std.specs.Prelude.{nat_lt, slice_index, slice_index_or}
use Rattle.std.specs.Char.{is_ascii_digit}
use Rattle.std.specs.Option.{is_none}
use Rattle.protox_fault.specs.Faults.{Span, span_from, faults_in}
use Rattle.protox_fault.specs.declared.error.ParseErrorKind.{ParseErrorKind}
use Rattle.protox_fault.specs.declared.error.ParseErrorKind.TheVariants.{InvalidToken}
use Rattle.protox_lexeme.specs.Lexemes.{Lexeme, blanks, cut, first_lexeme, invalid, lexeme_or}
use Rattle.protox_lexeme.specs.Lexicon.{is_blank, is_letter, is_mark, is_quote}
use Rattle.protox_lexeme.specs.Scanning.{first, scan}
use Rattle.protox_lexeme.specs.Shapes.{Invalid, Rows}
use Rattle.protox_lexeme.specs.Table.{is_gap, in_front, rows_of, faults_of, row_faults, table_of}
use Rattle.protox_lexeme.proofs.Lemmas.{at_block, at_digit, at_fraction, at_hash, at_letter, at_line}
use Rattle.protox_lexeme.proofs.Lemmas.{at_mark, at_newline, at_other, at_quote, scan_case}
use Rattle.protox_lexeme.proofs.Lemmas.{scan_other, step_cut}
use Rattle.protox_ast.specs.Places.{placed, placed_from}
use Rattle.protox_grammar.specs.Reader.{head_in}
use Rattle.protox_grammar.specs.Told.{is_invalid}
use Rattle.protox_syntax.specs.inner.Front.{IsRefusedFirst, starts_invalid}
use Rattle.protox_syntax.specs.inner.Merge.{merged_faults, faults_of_rows}

-- ---- the first byte

-- If no lexeme begins with a byte, none does, whatever stands behind it.
none-begins : (a b : List ℕ) → first a ≡ first b → scan a ≡ None → scan b ≡ None
none-begins a b same none = elim (scan_case a) [
  | at_letter l e ↦ absurd (false≢true (ap is_none (sym e ∙ none)))
  | at_digit d e ↦ absurd (false≢true (ap is_none (sym e ∙ none)))
  | at_fraction p d e ↦ absurd (false≢true (ap is_none (sym e ∙ none)))
  | at_quote q e ↦ absurd (false≢true (ap is_none (sym e ∙ none)))
  | at_hash h e ↦ absurd (false≢true (ap is_none (sym e ∙ none)))
  | at_line h n e ↦ absurd (false≢true (ap is_none (sym e ∙ none)))
  | at_block h n e ↦ absurd (false≢true (ap is_none (sym e ∙ none)))
  | at_mark h p s e ↦ absurd (false≢true (ap is_none (sym e ∙ none)))
  | at_newline h e ↦ absurd (false≢true (ap is_none (sym e ∙ none)))
  | at_other l d q h m n e ↦ scan_other b (ap is_letter (sym same) ∙ l) (ap is_mark (sym same) ∙ m) (λ x. eqb-false (first a) 10 n (same ∙ x))
      (ap is_ascii_digit (sym same) ∙ d) (ap is_quote (sym same) ∙ q) (λ x. eqb-false (first a) 35 h (same ∙ x))
]

both-none : {T : Type 0} (x y : Option T) → (x ≡ None → y ≡ None) → (y ≡ None → x ≡ None) → is_none x ≡ is_none y
both-none None y f g = sym (ap is_none (f refl))
both-none (Some x) None f g = absurd (false≢true (ap is_none (g refl)))
both-none (Some x) (Some y) f g = refl

-- The first byte alone tells whether the source begins with an invalid character.
pub starts-by-first-byte : (source : List ℕ) → 0 < length source → is_blank (slice_index source 0) ≡ false → is_none (scan (take 1 source)) ≡ starts_invalid source
starts-by-first-byte source some_byte plain =
    let same : first (take 1 source) ≡ first source = get_or-take 1 source 0 0 (omega arith) in
    let begun : nat_lt 0 (length source) ≡ true = lt-ltb 0 (length source) some_byte in
    both-none (scan (take 1 source)) (scan source) (none-begins (take 1 source) source same) (none-begins source (take 1 source) (sym same))
    ∙ rw (begun, plain) refl

pub not-back : (r x : Bool) → not r ≡ x → r ≡ not x
not-back true x e = ap not e
not-back false x e = ap not e

-- ---- the first row

head-of : (all : List Lexeme) (rows : Rows Span) → rows ≡ rows_of all → head_in is_invalid (placed (table_of all)) ≡ head_in is_invalid rows
head-of all rows e = sym (ap (λ r. head_in is_invalid (placed_from true r (table_of all).gaps)) e) ∙ same rows where
  same : (r : Rows Span) → head_in is_invalid (placed_from true r (table_of all).gaps) ≡ head_in is_invalid r
  same [] = refl
  same (x ∷ xs) = refl

one-group : (faults : List (List ParseErrorKind)) (n : ℕ) → merged_faults faults (n + 1) [] n ≡ faults_in false (slice_index_or faults 0 [])
one-group faults n = let one : (n + 1 - n) - 0 ≡ 1 = omega arith in ap (λ k. [] ++ faults_of_rows false faults 0 k) one

invalid-row : (all xs : List Lexeme) (x : Lexeme) (errors : List ParseErrorKind) → all ≡ x ∷ xs → x.shape ≡ Invalid → errors ≡ row_faults x → IsRefusedFirst (table_of all) errors
invalid-row all xs x errors e invalid is =
    let row : is_gap x.shape ≡ false = ap is_gap invalid in
    let rows : rows_of (x ∷ xs) ≡ record { shape = x.shape; at = record { start = x.start; end = x.stop } } ∷ rows_of xs =
    ap (λ b. cond b (rows_of xs) (record { shape = x.shape; at = record { start = x.start; end = x.stop } } ∷ rows_of xs)) row in
    let group : faults_of all ≡ errors ∷ faults_of xs =
    ap faults_of e ∙ ap (λ b. cond b (in_front x.faults (faults_of xs)) (row_faults x ∷ faults_of xs)) row ∙ ap (λ l. l ∷ faults_of xs) (sym is) in (
      head-of all _ (sym rows ∙ ap rows_of (sym e)) ∙ ap is_invalid invalid,
      sym (one-group (faults_of all) (length (rows_of all)) ∙ ap (λ fs. faults_in false (slice_index_or fs 0 [])) group),
    )

is-none : {T : Type 0} (o : Option T) → is_none o ≡ true → o ≡ None
is-none None e = refl
is-none (Some x) e = absurd (false≢true e)

-- A source that begins with an invalid character is refused at its first row.
pub refused-first : (source : List ℕ) (errors : List ParseErrorKind) → starts_invalid source ≡ true
    → errors ≡ InvalidToken (span_from 0 (invalid 0 source).stop) ∷ [] → IsRefusedFirst (table_of (cut 0 source)) errors
unfolding first_lexeme
refused-first source errors starts is =
    let begun = and_parts (nat_lt 0 (length source)) (not (is_blank (slice_index source 0)) && is_none (scan source)) starts in
    let rest = and_parts (not (is_blank (slice_index source 0))) (is_none (scan source)) begun.1 in
    let none : scan source ≡ None = is-none (scan source) rest.1 in
    let x = first_lexeme 0 source in
    let at_front : x ≡ invalid 0 source = ap (lexeme_or 0 source) none in
    let some_byte : 0 < length source = ltb-true 0 (length source) begun.0 in
    let no_blanks : blanks source ≡ 0 = prefix_len-drop_no is_blank source 0 0 some_byte (not-true (is_blank (slice_index source 0)) rest.0) in
    let turn = step_cut source source source 0 0 0 x.stop refl (sym no_blanks) (ap (λ k. drop k source) (sym no_blanks)) some_byte refl refl in
    invalid-row (cut 0 source) (cut x.stop (drop x.stop source)) x errors turn (ap (λ y. y.shape) at_front) (is ∙ ap row_faults (sym at_front))
