-- Tables of lexemes.
use Rattle.std.proofs.Common.{◌≡◌, ◌≤◌, ◌+◌, ◌-◌, take, drop, inl, inr, length, arith, ℕ, zero, suc, List, [], ◌∷◌, ◌++◌, get_or, refl, sym, ap, ◌∙◌, subst, append-nil, length-append, Bool, true, false, Option, Some, None}
use Rattle.std.proofs.lemmas.Bool.{cases_Bool}
use Rattle.std.proofs.lemmas.List.{drop_all}
use Rattle.std.proofs.Math.Seq.{take-append_seam}
use Rattle.std.specs.Borrow.{Bor}
use Rattle.std.specs.Option.{option_map}
use Rattle.std.specs.Prelude.{slice_get, IfSome, map}
use Rattle.protox_lexeme.specs.declared.token.Token.{Token}
use Rattle.protox_lexeme.specs.Tokens.{shape_of}
use Rattle.protox_fault.specs.declared.error.ParseErrorKind.{ParseErrorKind}
use Rattle.protox_lex.specs.declared.table_draft.TableDraft.{TableDraft}
use Rattle.protox_fault.specs.Faults.{faults_in}
use Rattle.protox_lexeme.specs.Gaps.{IsGap, HoldGaps}
use Rattle.protox_lexeme.specs.Lexemes.{Lexeme}
use Rattle.protox_lexeme.specs.Shapes.{Shape}
use Rattle.protox_lexeme.specs.Table.{Table, is_gap, in_front, rows_of, gaps_of, faults_of, table_of}
use Rattle.protox_lexeme.specs.Lexemes.{cut}
use Rattle.protox_lexeme.proofs.Lemmas.{cut_none}
use Rattle.protox_lex.specs.Parts.{EndsAt, IsPart, end_of}
use Rattle.protox_lex.specs.TableView.{finished, shapes_of_lent}

in_front_nil : {T : Type 0} (xss : List (List T)) → in_front [] xss ≡ xss
in_front_nil [] = refl
in_front_nil (xs ∷ xss) = refl

-- a draft with nothing in it
pub finished_start : (d : TableDraft) (xs : List Lexeme) → d.rows ≡ record { rows = []; borrowed = [] } → d.gaps ≡ record { ended = []; begun = [] } → d.faults ≡ record { ended = []; begun = [] } → finished d xs ≡ table_of xs
finished_start d xs rows gaps faults = rw (rows, gaps, faults, in_front_nil (gaps_of xs), in_front_nil (faults_of xs)) refl

-- ---- how many gaps

in_front_length : {T : Type 0} (ys : List T) (xss : List (List T)) → length (in_front ys xss) ≡ length xss
in_front_length ys [] = refl
in_front_length ys (xs ∷ xss) = refl

pub gaps_of_length : (xs : List Lexeme) → length (gaps_of xs) ≡ length (rows_of xs) + 1
gaps_of_length [] = refl
gaps_of_length (x ∷ xs) = elim (cases_Bool (is_gap x.shape)) [
  | inl gap ↦ rw gap (in_front_length (x.shape ∷ []) (gaps_of xs) ∙ gaps_of_length xs)
  | inr row ↦ rw row (let more = gaps_of_length xs in omega arith)
]

pub faults_of_length : (xs : List Lexeme) → length (faults_of xs) ≡ length (rows_of xs) + 1
faults_of_length [] = refl
faults_of_length (x ∷ xs) = elim (cases_Bool (is_gap x.shape)) [
  | inl gap ↦ rw gap (in_front_length x.faults (faults_of xs) ∙ faults_of_length xs)
  | inr row ↦ rw row (let more = faults_of_length xs in omega arith)
]

-- After the last entry nothing is released.
pub nothing_released : (text_format : Bool) (xss : List (List ParseErrorKind)) (k : ℕ) (errors : List ParseErrorKind) → slice_get xss k ≡ None → errors ≡ errors ++ faults_in text_format (get_or xss k [])
nothing_released text_format xss k errors none = sym (ap (λ fs. errors ++ fs) (ap (faults_in text_format) (nothing xss k none) ∙ no_faults text_format) ∙ append-nil errors) where
  nothing : (xss : List (List ParseErrorKind)) (k : ℕ) → slice_get xss k ≡ None → get_or xss k [] ≡ []
  nothing [] k none = refl
  nothing (xs ∷ xss) zero none = absurd (cc)
  nothing (xs ∷ xss) (suc k) none = nothing xss k none

  no_faults : (text_format : Bool) → faults_in text_format [] ≡ []
  no_faults true = refl
  no_faults false = refl

-- ---- gaps hold comments and newlines

in_front_gap : (x : Shape) (gaps : List (List Shape)) → is_gap x ≡ true → HoldGaps gaps → HoldGaps (in_front (x ∷ []) gaps)
in_front_gap x [] h g k gap e = absurd (cc)
in_front_gap x (first ∷ gaps) h g zero gap e =
    let same : x ∷ first ≡ gap = cc in
    let P : List Shape → Type 0 = λ xs. IsGap xs in
    let both : IsGap (x ∷ first) = rw h (g zero first refl) in
    subst P same both
in_front_gap x (first ∷ gaps) h g (suc k) gap e = g (suc k) gap e

one_more_gap : (gaps : List (List Shape)) → HoldGaps gaps → HoldGaps ([] ∷ gaps)
one_more_gap gaps g zero gap e =
    let same : [] ≡ gap = cc in
    let P : List Shape → Type 0 = λ xs. IsGap xs in
    subst P same refl
one_more_gap gaps g (suc k) gap e = g k gap e

hold_gaps : (xs : List Lexeme) → HoldGaps (gaps_of xs)
hold_gaps [] = one_more_gap [] (λ k gap e. absurd (cc))
hold_gaps (x ∷ xs) =
    let P : List (List Shape) → Type 0 = λ gaps. HoldGaps gaps in
    elim (cases_Bool (is_gap x.shape)) [
      | inl gap ↦ rw gap (in_front_gap x.shape (gaps_of xs) gap (hold_gaps xs))
      | inr row ↦ rw row (one_more_gap (gaps_of xs) (hold_gaps xs))
    ]

pub gaps_held : (gaps : List (List Shape)) (xs : List Lexeme) → gaps ≡ gaps_of xs → HoldGaps gaps
gaps_held gaps xs e = let P : List (List Shape) → Type 0 = λ gs. HoldGaps gs in subst P (sym e) (hold_gaps xs)

-- A borrowed gap.
pub lent_gap : (gaps : List (List Shape)) (k : ℕ) (r : Option (Bor (List Token))) → HoldGaps gaps → option_map shapes_of_lent r ≡ slice_get gaps k → IfSome r (λ gap. IsGap (map shape_of gap.now))
lent_gap gaps k None h e = tt
lent_gap gaps k (Some gap) h e = h k (map shape_of gap.now) (sym e)

-- ---- parts of a source

-- At the end of a source there is no lexeme.
pub none_at_end : (source : List ℕ) (end : ℕ) → length source ≤ end → cut end (drop end source) ≡ []
none_at_end source end past = ap (cut end) (drop_all end source past) ∙ cut_none end [] (omega arith)

-- Where no lexeme is left, a part ends at the end of the source.
pub ends_with : (source : List ℕ) (from at : ℕ) (xs : List Lexeme) → EndsAt source from xs at → cut at (drop at source) ≡ [] → EndsAt source from xs (length source)
ends_with source from at xs ends none = ends ∙ ap (λ ys. xs ++ ys) (none ∙ sym (none_at_end source (length source) (omega arith)))

-- One more lexeme: the part ends where it stops, and it is the last.
pub end_of_more : (from : ℕ) (xs : List Lexeme) (x : Lexeme) → end_of from (xs ++ x ∷ []) ≡ x.stop
end_of_more from [] x = refl
end_of_more from (y ∷ xs) x = end_of_more y.stop xs x

pub all_but_more : (xs : List Lexeme) (x : Lexeme) → take (length (xs ++ x ∷ []) - 1) (xs ++ x ∷ []) ≡ xs
all_but_more xs x =
    let count : length (xs ++ x ∷ []) - 1 ≡ length xs = let more = length-append xs (x ∷ []) in omega (arith, more) in
    ap (λ n. take n (xs ++ x ∷ [])) count ∙ take-append_seam xs (x ∷ [])

-- A part that reaches from the start to the end has all lexemes.
pub whole_part : (source : List ℕ) (table : Table) (end : ℕ) → length source ≤ end → IsPart source 0 table end → table ≡ table_of (cut 0 source)
whole_part source table end past part =
    part.is ∙ ap table_of (sym (part.ends ∙ ap (λ ys. part.lexemes ++ ys) (none_at_end source end past) ∙ append-nil part.lexemes))
