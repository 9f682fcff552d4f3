-- The laws of reading one of two rules, by the next row.
use Rattle.std.proofs.Common.{◌≡◌, suc, Bool, true, false, ◌∷◌, ◌++◌, length, Ok, Err, refl, ap, subst, ◌∙◌, inl, inr, ◌⊎◌}
use Rattle.protox_grammar.specs.Reader.{Refusal, Unexpected, Deep}
use Rattle.protox_lexeme.specs.Shapes.{Shape, Row, Rows}
use Rattle.protox_grammar.specs.Class.{Set, class, within, in_set}
use Rattle.protox_grammar.specs.Reader as reader
use Rattle.protox_grammar.specs.Reader.{head_in}
use Rattle.protox_grammar.specs.Rule.{Rule, Stops, Starts, on_sum, either}
use Rattle.protox_grammar.proofs.Takes.{bind_ok, ok_is}
use Rattle.protox_grammar.proofs.Laws.{IsSpelled}
use Rattle.protox_grammar.proofs.Sets.{stops-front, starts-within}
use Rattle.protox_grammar.proofs.Reading.{left_of, Concerns, Viable, Took, IsRead, map_err, stops-head, head-stops, head-starts, chosen, true-false, same-head}

-- ---- one or the other

module _ {M A B : Type 0} (p : Shape → Bool) (P : Set) (a : Rule M A) (b : Rule M B) (same : (s : Shape) → p s ≡ P (class s)) (fa ga : Set) (la : IsSpelled a false fa ga) (w : within fa P ≡ true) (ra : IsRead a) (rb : IsRead b) (some : B) (some_may : b.may some) (some_stops : Stops P (b.spell some)) where
  either-took-left : (xs : Rows M) (x : A × Rows M) → Took a xs x → Took (either p P a b) xs (inl x.0, x.1)
  either-took-left xs x k = record { parts = k.parts; fits = k.fits; ends = k.ends }

  either-took-right : (xs : Rows M) (x : B × Rows M) → head_in p xs ≡ false → Took b xs x → Took (either p P a b) xs (inr x.0, x.1)
  either-took-right xs x closed k =
      let s : Stops P (b.spell x.0 ++ x.1) = subst (Stops P) k.parts (stops-head p P same xs closed) in
      record { parts = k.parts; fits = (k.fits, stops-front P (b.spell x.0) x.1 s); ends = (k.ends, s) }

  either-takes : (xs : Rows M) (x : (A ⊎ B) × Rows M) → reader.either p (reader.mapped inl a.read) (reader.mapped inr b.read) xs ≡ Ok x → Took (either p P a b) xs x
  either-takes xs x e = elim (chosen (head_in p xs) (reader.mapped inl a.read xs) (reader.mapped inr b.read xs) (Ok x) e) [
    | inl h ↦ let k = bind_ok (a.read xs) (λ y. Ok (inl y.0, y.1)) x h.1 in subst (Took (either p P a b) xs) (ok_is (inl k.0.0, k.0.1) x k.2) (either-took-left xs k.0 (ra.takes xs k.0 k.1))
    | inr h ↦ let k = bind_ok (b.read xs) (λ y. Ok (inr y.0, y.1)) x h.1 in subst (Took (either p P a b) xs) (ok_is (inr k.0.0, k.0.1) x k.2) (either-took-right xs k.0 h.0 (rb.takes xs k.0 k.1))
  ]

  starts-in : (t : A) (z : Rows M) → a.ends t z → Starts false P (a.spell t)
  starts-in t z k = starts-within false fa P w (a.spell t) (la.starts t z k)

  either-again : (t : A ⊎ B) (z : Rows M) → on_sum a.fits (λ u. b.fits u × Stops P (b.spell u)) t → on_sum a.ends (λ u v. b.ends u v × Stops P (b.spell u ++ v)) t z
      → reader.either p (reader.mapped inl a.read) (reader.mapped inr b.read) (on_sum a.spell b.spell t ++ z) ≡ Ok (t, z)
  either-again (inl t) z h k = rw (head-starts p P same (a.spell t) z (starts-in t z k), ra.again t z h k) refl
  either-again (inr t) z h k = rw (head-stops p P same (b.spell t ++ z) k.1, rb.again t z h.0 k.0) refl

  first-concerned : (e : Refusal) (t : A) → Concerns (either p P a b) e (inl t) → Concerns a e t
  first-concerned (Unexpected n) t c = tt
  first-concerned (Deep n) t c = c

  second-concerned : (e : Refusal) (t : B) → Concerns (either p P a b) e (inr t) → Concerns b e t
  second-concerned (Unexpected n) t c = tt
  second-concerned (Deep n) t c = c.0

  either-tight : (d : Refusal) (front : Rows M) (s : Row M) (rest : Rows M) → left_of d ≡ suc (length rest) → reader.either p (reader.mapped inl a.read) (reader.mapped inr b.read) (front ++ (s ∷ rest)) ≡ Err d
      → (t : A ⊎ B) (z more : Rows M) → Concerns (either p P a b) d t → on_sum a.ends (λ u v. b.ends u v × Stops P (b.spell u ++ v)) t z → on_sum a.spell b.spell t ++ z ≡ front ++ (s ∷ more) → ⊥
  either-tight d front s rest l h (inl t) z more g k e = elim (chosen (head_in p (front ++ (s ∷ rest))) (reader.mapped inl a.read (front ++ (s ∷ rest))) (reader.mapped inr b.read (front ++ (s ∷ rest))) _ h) [
    | inl c ↦ ra.tight d front s rest l (map_err inl (a.read (front ++ (s ∷ rest))) d c.1) t z more (first-concerned d t g) k e
    | inr c ↦ true-false _ (head-starts p P same (a.spell t) z (starts-in t z k)) (ap (head_in p) e ∙ same-head p front s more rest ∙ c.0)
  ]
  either-tight d front s rest l h (inr t) z more g k e = elim (chosen (head_in p (front ++ (s ∷ rest))) (reader.mapped inl a.read (front ++ (s ∷ rest))) (reader.mapped inr b.read (front ++ (s ∷ rest))) _ h) [
    | inl c ↦ true-false _ (ap (head_in p) e ∙ same-head p front s more rest ∙ c.0) (head-stops p P same (b.spell t ++ z) k.1)
    | inr c ↦ rb.tight d front s rest l (map_err inr (b.read (front ++ (s ∷ rest))) d c.1) t z more (second-concerned d t g) k.0 e
  ]

  either-short : (xs : Rows M) → reader.either p (reader.mapped inl a.read) (reader.mapped inr b.read) xs ≡ Err (Unexpected 0)
      → (t : A ⊎ B) (z : Rows M) → on_sum a.ends (λ u v. b.ends u v × Stops P (b.spell u ++ v)) t z → on_sum a.spell b.spell t ++ z ≡ xs → ⊥
  either-short xs h (inl t) z k e = elim (chosen (head_in p xs) (reader.mapped inl a.read xs) (reader.mapped inr b.read xs) _ h) [
    | inl c ↦ ra.short xs (map_err inl (a.read xs) _ c.1) t z k e
    | inr c ↦ true-false _ (head-starts p P same (a.spell t) z (starts-in t z k)) (ap (head_in p) e ∙ c.0)
  ]
  either-short xs h (inr t) z k e = elim (chosen (head_in p xs) (reader.mapped inl a.read xs) (reader.mapped inr b.read xs) _ h) [
    | inl c ↦ true-false _ (ap (head_in p) e ∙ c.0) (head-stops p P same (b.spell t ++ z) k.1)
    | inr c ↦ rb.short xs (map_err inr (b.read xs) _ c.1) t z k.0 e
  ]

  pub either-read : Viable (either p P a b) → IsRead (either p P a b)
  either-read viable = record {
    some = inr some;
    some_may = (some_may, some_stops);
    within = either-within;
    takes = either-takes;
    again = either-again;
    viable = viable;
    tight = either-tight;
    short = either-short;
  }
    where
      either-within : (t : A ⊎ B) → on_sum a.fits (λ u. b.fits u × Stops P (b.spell u)) t → on_sum a.may (λ u. b.may u × Stops P (b.spell u)) t
      either-within (inl t) h = ra.within t h
      either-within (inr t) h = (rb.within t h.0, h.1)

-- ---- what doesn't begin with a token of a set

module _ {M B : Type 0} (P : Set) (b : Rule M B) (eb : Bool) (fb gb : Set) (lb : IsSpelled b eb fb gb) (rb : IsRead b) (some : B) (some_may : b.may some) (some_stops : Stops P (b.spell some)) where
  abbrev test : Shape → Bool
  test = in_set P
