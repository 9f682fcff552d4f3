-- What a computed test of sets says about a token.
use Rattle.std.proofs.Common.{◌≡◌, ℕ, zero, suc, ◌<◌, ◌≤◌, Bool, true, false, not, ◌&&◌, ◌||◌, cond, List, [], ◌∷◌, ◌++◌, length, refl, sym, subst, arith, inl, inr}
use Rattle.std.proofs.lemmas.Bool.{cases_lt}
use Rattle.protox_lexeme.specs.Shapes.{Shape, Ident, Int, Float, Str, Mark, LineComment, BlockComment, Newline, Invalid, Row, Rows}
use Rattle.protox_grammar.specs.Class.{Set, class, place, keywords, byte_place, marks, each_below, apart, within, union}
use Rattle.protox_grammar.specs.Rule.{Stops, Starts}

pub and_true : (a b : Bool) → a && b ≡ true → (a ≡ true) × (b ≡ true)
and_true true b e = (refl, e)
and_true false b e = absurd cc

pub or_false : (a b : Bool) → a || b ≡ false → (a ≡ false) × (b ≡ false)
or_false true b e = absurd cc
or_false false b e = (refl, e)

pub or_left : (a b : Bool) → a ≡ true → a || b ≡ true
or_left true b e = refl
or_left false b e = absurd cc

pub or_right : (a b : Bool) → b ≡ true → a || b ≡ true
or_right true b e = refl
or_right false b e = e

each-at : (n : ℕ) (f : Set) (k : ℕ) → each_below n f ≡ true → k < n → f k ≡ true
each-at zero f k e h = absurd (omega arith)
each-at (suc n) f k e h = elim (cases_lt k n) [
  | inl lt ↦ each-at n f k (and_true (f n) (each_below n f) e).1 lt
  | inr le ↦ let same : n ≡ k = omega arith in subst (λ i. f i ≡ true) same (and_true (f n) (each_below n f) e).0
]

next-le : (b : Bool) (n m : ℕ) → n ≤ m → cond b 0 (suc n) ≤ suc m
next-le true n m h = omega arith
next-le false n m h = omega arith

pub place-le : (ws : List (List ℕ)) (t : List ℕ) → place ws t ≤ length ws
place-le [] t = omega arith
place-le (w ∷ ws) t = next-le _ (place ws t) (length ws) (place-le ws t)

pub byte_place-le : (xs : List ℕ) (b : ℕ) → byte_place xs b ≤ length xs
byte_place-le [] b = omega arith
byte_place-le (x ∷ xs) b = next-le _ (byte_place xs b) (length xs) (byte_place-le xs b)

class-lt : (s : Shape) → class s < 60
class-lt (Ident t) = omega (arith, place-le keywords t)
class-lt (Mark b) = omega (arith, byte_place-le marks b)
class-lt (Int n) = omega arith
class-lt (Float t) = omega arith
class-lt (Str t) = omega arith
class-lt (LineComment t) = omega arith
class-lt (BlockComment t) = omega arith
class-lt Newline = omega arith
class-lt Invalid = omega arith

not_both : (a b : Bool) → not (a && b) ≡ true → a ≡ true → b ≡ false
not_both true true e h = absurd cc
not_both true false e h = refl
not_both false b e h = absurd cc

implied : (a b : Bool) → not a || b ≡ true → a ≡ true → b ≡ true
implied true b e h = e
implied false b e h = absurd cc

pub apart-at : (f g : Set) → apart f g ≡ true → (s : Shape) → f (class s) ≡ true → g (class s) ≡ false
apart-at f g e s h = not_both (f (class s)) (g (class s)) (each-at 60 (λ k. not (f k && g k)) (class s) e (class-lt s)) h

pub within-at : (f g : Set) → within f g ≡ true → (s : Shape) → f (class s) ≡ true → g (class s) ≡ true
within-at f g e s h = implied (f (class s)) (g (class s)) (each-at 60 (λ k. not (f k) || g k) (class s) e (class-lt s)) h

-- ---- the head of a list of rows

pub stops-front : {M : Type 0} (g : Set) (ys zs : Rows M) → Stops g (ys ++ zs) → Stops g ys
stops-front g [] zs h = tt
stops-front g (y ∷ ys) zs h = h

pub stops-left : {M : Type 0} (f g : Set) (zs : Rows M) → Stops (union f g) zs → Stops f zs
stops-left f g [] h = tt
stops-left f g (z ∷ zs) h = (or_false (f (class z.shape)) (g (class z.shape)) h).0

pub stops-right : {M : Type 0} (f g : Set) (zs : Rows M) → Stops (union f g) zs → Stops g zs
stops-right f g [] h = tt
stops-right f g (z ∷ zs) h = (or_false (f (class z.shape)) (g (class z.shape)) h).1

abbrev pub gated : Bool → Set → Set
gated e f k = e && f k

-- Rows that begin with a row of f don't begin with a row of g. If they may be empty, the rows after
-- them don't begin so either.
pub stops-then : {M : Type 0} (e : Bool) (f g : Set) → apart f g ≡ true → (ys zs : Rows M) → Starts e f ys → Stops (gated e g) zs → Stops g (ys ++ zs)
stops-then e f g d [] [] h k = tt
stops-then e f g d [] (z ∷ zs) h k = subst (λ b. b && g (class z.shape) ≡ false) h k
stops-then e f g d (y ∷ ys) zs h k = apart-at f g d y.shape h

pub starts-then : {M : Type 0} (ea eb : Bool) (fa fb : Set) (ys zs : Rows M) → Starts ea fa ys → Starts eb fb zs → Starts (ea && eb) (union fa (gated ea fb)) (ys ++ zs)
starts-then ea eb fa fb [] [] h k = both ea eb h k
  where
    both : (a b : Bool) → a ≡ true → b ≡ true → a && b ≡ true
    both true b p q = q
    both false b p q = absurd cc
starts-then ea eb fa fb [] (z ∷ zs) h k = or_right (fa (class z.shape)) _ (subst (λ b. b && fb (class z.shape) ≡ true) (sym h) k)
starts-then ea eb fa fb (y ∷ ys) zs h k = or_left _ _ h

pub starts-within : {M : Type 0} (e : Bool) (f g : Set) → within f g ≡ true → (ys : Rows M) → Starts e f ys → Starts e g ys
starts-within e f g d [] h = h
starts-within e f g d (y ∷ ys) h = within-at f g d y.shape h

-- Rows that begin with a row of the set don't stop at it.
pub clash : {M : Type 0} (P : Set) (ys y zs : Rows M) → Starts false P ys → Stops P zs → ys ++ y ≡ zs → ⊥
clash P [] y zs h k e = absurd cc
clash P (r ∷ ys) y [] h k e = absurd cc
clash P (r ∷ ys) y (z ∷ zs) h k e = let same : r ≡ z = cc in absurd (differ (P (class r.shape)) h (subst (λ (s : Row _). P (class s.shape) ≡ false) (sym same) k))
  where
    differ : (b : Bool) → b ≡ true → b ≡ false → ⊥
    differ true p q = absurd cc
    differ false p q = absurd cc
