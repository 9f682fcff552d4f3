-- Lexemes without a fault: their rows are valid tokens, and they are clean.
use Rattle.std.proofs.Common.{◌≡◌, Bool, true, false, cond, List, [], ◌∷◌, refl, sym, ap, ◌∙◌, subst, inl, inr}
use Rattle.std.proofs.lemmas.Bool.{cases_Bool}
use Rattle.std.specs.List.{All}
use Rattle.protox_fault.specs.Faults.{Span, span_from}
use Rattle.protox_fault.specs.declared.error.ParseErrorKind.{ParseErrorKind}
use Rattle.protox_lexeme.specs.Lexemes.{Lexeme}
use Rattle.protox_lexeme.specs.Shapes.{Shape, Ident, Int, Float, Str, Mark, LineComment, BlockComment, Newline, Invalid, Row, Rows}
use Rattle.protox_lexeme.specs.Table.{faults_of, in_front, invalid_faults, is_gap, row_faults, rows_of}
use Rattle.protox_ast.specs.Basics.{Each}
use Rattle.protox_ast.specs.Places.{placed_from}
use Rattle.protox_grammar.specs.Told.{is_invalid, AreValidTokens}
use Rattle.protox_syntax.proofs.Entries.{all-each, append-empty}
use Rattle.protox_syntax.specs.inner.Parts.{IsFlawless, places}

-- ---- rows

abbrev IsToken : Row Span → Type 0
IsToken r = is_invalid r.shape ≡ false

placed-tokens : (first : Bool) (rows : Rows Span) (gaps : List (List Shape)) → Each IsToken rows → AreValidTokens (placed_from first rows gaps)
placed-tokens first [] gaps h = tt
placed-tokens first (r ∷ rs) gaps h = (h.0, placed-tokens false rs _ h.1)

rows-valid : (xs : List Lexeme) → Each IsFlawless xs → Each IsToken (rows_of xs)
rows-valid [] h = tt
rows-valid (x ∷ xs) h =
    elim (cases_Bool (is_gap x.shape)) [
      | inl gap ↦ rw gap (rows-valid xs h.1)
      | inr row ↦ rw row (h.0.0, rows-valid xs h.1)
    ]

pub tokens-of : (first : Bool) (xs : List Lexeme) → Each IsFlawless xs → AreValidTokens (places first xs)
tokens-of first xs h = placed-tokens first (rows_of xs) _ (rows-valid xs h)

-- ---- tables without a fault

gap-valid : (s : Shape) → is_gap s ≡ true → is_invalid s ≡ false
gap-valid Invalid h = absurd cc
gap-valid (Ident t) h = refl
gap-valid (Int n) h = refl
gap-valid (Float t) h = refl
gap-valid (Str t) h = refl
gap-valid (Mark b) h = refl
gap-valid (LineComment t) h = refl
gap-valid (BlockComment t) h = refl
gap-valid Newline h = refl

row-valid : (s : Shape) (span : Span) → invalid_faults s span ≡ [] → is_invalid s ≡ false
row-valid Invalid span h = absurd cc
row-valid (Ident t) span h = refl
row-valid (Int n) span h = refl
row-valid (Float t) span h = refl
row-valid (Str t) span h = refl
row-valid (Mark b) span h = refl
row-valid (LineComment t) span h = refl
row-valid (BlockComment t) span h = refl
row-valid Newline span h = refl

abbrev IsNone : List ParseErrorKind → Type 0
IsNone faults = faults ≡ []

front-none : (faults : List ParseErrorKind) (xss : List (List ParseErrorKind)) → (xss ≡ [] → ⊥) → Each IsNone (in_front faults xss) → (faults ≡ []) × Each IsNone xss
front-none faults [] some h = absurd (some refl)
front-none faults (xs ∷ xss) some h = let both = append-empty faults xs h.0 in (both.0, (both.1, h.1))

some-faults : (xs : List Lexeme) → faults_of xs ≡ [] → ⊥
some-faults [] e = absurd cc
some-faults (x ∷ xs) e =
    elim (cases_Bool (is_gap x.shape)) [
      | inl gap ↦ in-front (faults_of xs) (some-faults xs) (ap (λ b. cond b (in_front x.faults (faults_of xs)) (row_faults x ∷ faults_of xs)) (sym gap) ∙ e)
      | inr row ↦ let f : row_faults x ∷ faults_of xs ≡ [] = ap (λ b. cond b (in_front x.faults (faults_of xs)) (row_faults x ∷ faults_of xs)) (sym row) ∙ e in absurd cc
    ]
  where
    in-front : (xss : List (List ParseErrorKind)) → (xss ≡ [] → ⊥) → in_front x.faults xss ≡ [] → ⊥
    in-front [] some e = some refl
    in-front (ys ∷ yss) some e = absurd cc

each-flawless : (xs : List Lexeme) → Each IsNone (faults_of xs) → Each IsFlawless xs
each-flawless [] h = tt
each-flawless (x ∷ xs) h =
    elim (cases_Bool (is_gap x.shape)) [
      | inl gap ↦ let k = front-none x.faults (faults_of xs) (some-faults xs) (subst (λ b. Each IsNone (cond b (in_front x.faults (faults_of xs)) (row_faults x ∷ faults_of xs))) gap h) in ((gap-valid x.shape gap, k.0), each-flawless xs k.1)
      | inr row ↦
          let k : Each IsNone (row_faults x ∷ faults_of xs) = subst (λ b. Each IsNone (cond b (in_front x.faults (faults_of xs)) (row_faults x ∷ faults_of xs))) row h in
          let own = append-empty x.faults (invalid_faults x.shape (span_from x.start x.stop)) k.0 in
          ((row-valid x.shape (span_from x.start x.stop) own.1, own.0), each-flawless xs k.1)
    ]

pub flawless-of : (xs : List Lexeme) → All IsNone (faults_of xs) → Each IsFlawless xs
flawless-of xs h = each-flawless xs (all-each IsNone (faults_of xs) h)
