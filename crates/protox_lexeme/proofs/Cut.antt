-- The cut of a text.
use Rattle.std.proofs.Common.{◌≡◌, ℕ, zero, suc, ◌+◌, ◌-◌, ◌<◌, ◌≤◌, ltb, inl, inr, List, [], ◌∷◌, length, drop, get_or, refl, sym, ap, ◌∙◌, subst, length-drop, lt-ltb, arith, le_refl, Option, Some, None}
use Rattle.std.proofs.lemmas.Bool.{cases_Bool, ltb-true, ltb-false, le-ltb}
use Rattle.std.proofs.lemmas.List.Sums.{prefix_len-le-length}
use Rattle.std.proofs.lemmas.Str.{len_utf8_bounds}
use Rattle.std.specs.Option.{MatchOption}
use Rattle.std.specs.Str.{chars}
use Rattle.protox_lexeme.specs.declared.scan.Kind.{Kind}
use Rattle.protox_lexeme.specs.declared.scan.Kind.TheVariants.{Identifier, Integer, Float, String, Mark, LineComment, BlockComment, Newline}
use Rattle.protox_lexeme.specs.Pattern.{Fits, IsLongest}
use Rattle.protox_lexeme.specs.Lexicon.{pattern, is_blank}
use Rattle.protox_lexeme.specs.Scanning.{scan}
use Rattle.protox_lexeme.specs.Lexemes.{Lexeme, lexeme, lexeme_or, first_lexeme, blanks, cut_from, cut, IsLexeme, IsCut}
use Rattle.protox_lexeme.specs.BlockComments.{Ending, marks_of, ending, len_to}
use Rattle.protox_lexeme.proofs.Fitting.{fits_within}
use Rattle.protox_lexeme.proofs.OneKind.{one_kind}
use Rattle.protox_lexeme.proofs.ScanMatch.{scan_longest}

-- No pattern matches the empty text.
pub fits_some : (kind : Kind) (text : List ℕ) (n : ℕ) → Fits (pattern kind) text n → 1 ≤ n
fits_some Identifier text n (i, j, e, (is_one, h), f) = omega arith
fits_some Integer text n (inl (is_one, h)) = omega arith
fits_some Integer text n (inr (inl (i, j, e, (is_one, h), f))) = omega arith
fits_some Integer text n (inr (inr (inl (i, j, e, (is_one, h), f)))) = omega arith
fits_some Integer text n (inr (inr (inr (i, j, e, (is_one, h), f)))) = omega arith
fits_some Float text n (inl (i, j, e, (is_one, h), f)) = omega arith
fits_some Float text n (inr (inl (i, j, e, (is_one, h), f))) = omega arith
fits_some Float text n (inr (inr (inl (i, j, e, (k, l, e2, (is_one, h), g), f)))) = omega arith
fits_some Float text n (inr (inr (inr (inl (i, j, e, (k, l, e2, (is_one, h), g), f))))) = omega arith
fits_some Float text n (inr (inr (inr (inr (i, j, e, (is_one, h), f))))) = omega arith
fits_some String text n (is_one, h) = omega arith
fits_some Mark text n (is_one, h) = omega arith
fits_some LineComment text n (i, j, e, inl (k, l, e2, (is_one, h), g), f) = omega arith
fits_some LineComment text n (i, j, e, inr (is_one, h), f) = omega arith
fits_some BlockComment text n (i, j, e, (is_one, h), f) = omega arith
fits_some Newline text n (is_one, h) = omega arith

-- A comment has at least one byte, if the text has one.
block_moves : (at : ℕ) (text : List ℕ) (end : Option Ending) → 1 ≤ length text → at < at + len_to text end
block_moves at text None h = omega arith
block_moves at text (Some e) h = omega arith

-- Each lexeme has at least one byte.
pub lexeme_moves : (kind : Kind) (at : ℕ) (text : List ℕ) (n : ℕ) → 1 ≤ n → n ≤ length text → at < (lexeme kind at text n).stop
lexeme_moves Identifier at text n h l = omega arith
lexeme_moves Integer at text n h l = omega arith
lexeme_moves Float at text n h l = omega arith
lexeme_moves String at text n h l = omega arith
lexeme_moves Mark at text n h l = omega arith
lexeme_moves LineComment at text n h l = omega arith
lexeme_moves BlockComment at text n h l = block_moves at text (ending (marks_of text)) (omega arith)
lexeme_moves Newline at text n h l = omega arith

pub first_moves : (at : ℕ) (text : List ℕ) → at < (first_lexeme at text).stop
unfolding first_lexeme
first_moves at text = go (scan text) (scan_longest text) where
  go : (r : Option (Kind × ℕ)) → MatchOption r ((k : Kind) (m : ℕ) → Fits (pattern k) text m → ⊥) (λ p. IsLongest pattern p.0 text p.1) → at < (lexeme_or at text r).stop
  go None h = let some_bytes = len_utf8_bounds (get_or (chars text) 0 0) in omega arith
  go (Some p) h = lexeme_moves p.0 at text p.1 (fits_some p.0 text p.1 h.fits) (fits_within (pattern p.0) text p.1 h.fits)

pub first_is_lexeme : (at : ℕ) (text : List ℕ) → IsLexeme at text (first_lexeme at text)
unfolding first_lexeme
first_is_lexeme at text = go (scan text) (scan_longest text) where
  go : (r : Option (Kind × ℕ)) → MatchOption r ((k : Kind) (m : ℕ) → Fits (pattern k) text m → ⊥) (λ p. IsLongest pattern p.0 text p.1) → IsLexeme at text (lexeme_or at text r)
  go None h = inr (h, refl)
  go (Some p) h = inl (p.0, p.1, h, refl)

-- one turn of the cut
cut_turn : (n at : ℕ) (text : List ℕ) → blanks text < length text
    → let x = first_lexeme (at + blanks text) (drop (blanks text) text) in cut_from (suc n) at text ≡ x ∷ cut_from n x.stop (drop (x.stop - at) text)
unfolding cut_from
cut_turn n at text h = rw (lt-ltb (blanks text) (length text) h) refl

cut_end : (n at : ℕ) (text : List ℕ) → length text ≤ blanks text → cut_from n at text ≡ []
unfolding cut_from
cut_end zero at text h = refl
cut_end (suc n) at text h = rw (le-ltb (blanks text) (length text) h) refl

-- The bound on the number of lexemes doesn't matter if it is at least the number of bytes.
cut_same : (n m at : ℕ) (text : List ℕ) → length text ≤ n → length text ≤ m → cut_from n at text ≡ cut_from m at text
cut_same zero m at text h k = cut_end zero at text (omega arith) ∙ sym (cut_end m at text (omega arith))
cut_same (suc n) zero at text h k = cut_end (suc n) at text (omega arith) ∙ sym (cut_end zero at text (omega arith))
cut_same (suc n) (suc m) at text h k =
    elim (cases_Bool (ltb (blanks text) (length text))) [
      | inl more ↦
          let some_left = ltb-true (blanks text) (length text) more in
          let x = first_lexeme (at + blanks text) (drop (blanks text) text) in
          let moves = first_moves (at + blanks text) (drop (blanks text) text) in
          let size = length-drop (x.stop - at) text in
          cut_turn n at text some_left ∙ ap (λ t. x ∷ t) (cut_same n m x.stop (drop (x.stop - at) text) (omega arith) (omega arith)) ∙ sym (cut_turn m at text some_left)
      | inr none ↦
          let nothing = ltb-false (blanks text) (length text) none in
          cut_end (suc n) at text nothing ∙ sym (cut_end (suc m) at text nothing)
    ]

pub cut_none : (at : ℕ) (text : List ℕ) → length text ≤ blanks text → cut at text ≡ []
unfolding cut
cut_none at text h = cut_end (length text) at text h

pub cut_some : (at : ℕ) (text : List ℕ) → blanks text < length text
    → let x = first_lexeme (at + blanks text) (drop (blanks text) text) in cut at text ≡ x ∷ cut x.stop (drop (x.stop - at) text)
unfolding cut
cut_some at text h =
    let x = first_lexeme (at + blanks text) (drop (blanks text) text) in
    let moves = first_moves (at + blanks text) (drop (blanks text) text) in
    let rest = drop (x.stop - at) text in
    let size = length-drop (x.stop - at) text in
    let n = length text - 1 in
    let one_more : length text ≡ suc n = omega arith in
    ap (λ k. cut_from k at text) one_more ∙ cut_turn n at text h ∙ ap (λ t. x ∷ t) (cut_same n (length rest) x.stop rest (omega arith) (le_refl _))

-- The function gives a cut.
cut_from_is_cut : (n at : ℕ) (text : List ℕ) → length text ≤ n → IsCut at text (cut_from n at text)
cut_from_is_cut zero at text h = let within = prefix_len-le-length is_blank text in subst (λ xs. IsCut at text xs) (sym (cut_end zero at text (omega arith))) (omega arith)
cut_from_is_cut (suc n) at text h =
    let P : List Lexeme → Type 0 = λ xs. IsCut at text xs in
    let within = prefix_len-le-length is_blank text in
    elim (cases_Bool (ltb (blanks text) (length text))) [
      | inl more ↦
          let some_left = ltb-true (blanks text) (length text) more in
          let x = first_lexeme (at + blanks text) (drop (blanks text) text) in
          let moves = first_moves (at + blanks text) (drop (blanks text) text) in
          let size = length-drop (x.stop - at) text in
          subst P (sym (cut_turn n at text some_left)) (some_left, first_is_lexeme (at + blanks text) (drop (blanks text) text), cut_from_is_cut n x.stop (drop (x.stop - at) text) (omega arith))
      | inr none ↦
          let nothing = ltb-false (blanks text) (length text) none in
          subst P (sym (cut_end (suc n) at text nothing)) (omega arith)
    ]

pub cut_is_cut : (at : ℕ) (text : List ℕ) → IsCut at text (cut at text)
unfolding cut
cut_is_cut at text = cut_from_is_cut (length text) at text (le_refl _)

lexeme_start : (kind : Kind) (at : ℕ) (text : List ℕ) (n : ℕ) → (lexeme kind at text n).start ≡ at
lexeme_start Identifier at text n = refl
lexeme_start Integer at text n = refl
lexeme_start Float at text n = refl
lexeme_start String at text n = refl
lexeme_start Mark at text n = refl
lexeme_start LineComment at text n = refl
lexeme_start BlockComment at text n = refl
lexeme_start Newline at text n = refl

pub first_start : (at : ℕ) (text : List ℕ) → (first_lexeme at text).start ≡ at
unfolding first_lexeme
first_start at text = go (scan text) where
  go : (r : Option (Kind × ℕ)) → (lexeme_or at text r).start ≡ at
  go None = refl
  go (Some p) = lexeme_start p.0 at text p.1

-- ---- there is only one cut

lexeme_unique : (at : ℕ) (text : List ℕ) (x y : Lexeme) → IsLexeme at text x → IsLexeme at text y → x ≡ y
lexeme_unique at text x y (inl (k, n, h, e)) (inl (l, m, g, f)) =
    let up = g.longest k n h.fits in
    let down = h.longest l m g.fits in
    let size : n ≡ m = omega arith in
    let P : ℕ → Type 0 = λ i. Fits (pattern k) text i in
    let kinds = one_kind k l text m (subst P size h.fits) g.fits in
    e ∙ ap (λ i. lexeme k at text i) size ∙ ap (λ c. lexeme c at text m) kinds ∙ sym f
lexeme_unique at text x y (inl (k, n, h, e)) (inr (none, f)) = absurd (none k n h.fits)
lexeme_unique at text x y (inr (none, e)) (inl (l, m, g, f)) = absurd (none l m g.fits)
lexeme_unique at text x y (inr (none, e)) (inr (nothing, f)) = e ∙ sym f

cut_unique : (at : ℕ) (text : List ℕ) (xs ys : List Lexeme) → IsCut at text xs → IsCut at text ys → xs ≡ ys
cut_unique at text [] [] h g = refl
cut_unique at text [] (y ∷ ys) h (some, g, rest) = absurd (omega arith)
cut_unique at text (x ∷ xs) [] (some, h, rest) g = absurd (omega arith)
cut_unique at text (x ∷ xs) (y ∷ ys) (some, h, more) (other, g, rest) =
    let same = lexeme_unique (at + blanks text) (drop (blanks text) text) x y h g in
    let P : Lexeme → Type 0 = λ z. IsCut z.stop (drop (z.stop - at) text) xs in
    let tails = cut_unique y.stop (drop (y.stop - at) text) xs ys (subst P same more) rest in
    ap (λ z. z ∷ xs) same ∙ ap (λ zs. y ∷ zs) tails

pub only_cut : (at : ℕ) (text : List ℕ) (xs : List Lexeme) → IsCut at text xs → xs ≡ cut at text
only_cut at text xs h = cut_unique at text xs (cut at text) h (cut_is_cut at text)
