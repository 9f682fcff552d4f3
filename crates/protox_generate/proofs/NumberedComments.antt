-- Lexemes whose comments have their own numbers as texts: what becomes of each number, and that the
-- texts are made of them.
use Rattle.std.proofs.Common.{◌≡◌, ℕ, suc, ◌+◌, ◌<◌, ◌≤◌, Bool, true, false, if◌then◌else◌, ◌==◌, List, [], ◌∷◌, ◌++◌, map, flat_map, Option, Some, None, refl, ap, sym, subst, ◌∙◌, arith}
use Rattle.std.proofs.lemmas.Bool.{eqb-true}
use Rattle.std.proofs.lemmas.Grind.{flat_map-append}
use Rattle.std.proofs.lemmas.List.{append-nil}
use Rattle.protox_lexeme.specs.Lexemes.{Lexeme}
use Rattle.protox_lexeme.specs.Shapes.{Shape, LineComment, BlockComment, Newline}
use Rattle.protox_lexeme.specs.Table.{in_front, gaps_of, is_gap}
use Rattle.protox_generate.specs.Commented.{text_of, text_at}
use Rattle.protox_generate.proofs.GapsWeighed.{of_shape, of_lexemes}
use Rattle.protox_generate.proofs.TextsNatural.{made_shape}

abbrev pub with_number : ℕ → Shape → Shape
with_number k (LineComment text) = LineComment (k ∷ [])
with_number k (BlockComment text) = BlockComment (k ∷ [])
with_number k other = other

abbrev pub numbered : ℕ → List Lexeme → List Lexeme
numbered k [] = []
numbered k (x ∷ xs) = record x { shape = with_number k x.shape } ∷ numbered (suc k) xs

-- ---- measures of lists of numbers

-- how often a number occurs
abbrev pub count : ℕ → List ℕ → ℕ
count n [] = 0
count n (k ∷ ks) = if k == n then 1 + count n ks else count n ks

abbrev pub is_empty : List ℕ → ℕ
is_empty [] = 1
is_empty (k ∷ ks) = 0

count-if : (b : Bool) (x y z : ℕ) → x ≡ y + z → (if b then 1 + x else x) ≡ (if b then 1 + y else y) + z
count-if true x y z h = omega (arith, h)
count-if false x y z h = h

pub count-append : (n : ℕ) (a b : List ℕ) → count n (a ++ b) ≡ count n a + count n b
count-append n [] b = omega arith
count-append n (k ∷ a) b = count-if (k == n) (count n (a ++ b)) (count n a) (count n b) (count-append n a b)

pub count-grows : (n : ℕ) (a b : List ℕ) → count n (a ++ b) ≤ count n a + count n b
count-grows n a b = omega (arith, count-append n a b)

pub empty-grows : (a b : List ℕ) → is_empty (a ++ b) ≤ is_empty a + is_empty b
empty-grows [] b = omega arith
empty-grows (k ∷ a) b = omega arith

shape-single : (e : List ℕ → ℕ) (k : ℕ) (x : Shape) → of_shape e (with_number k x) ≤ e (k ∷ [])
shape-single e k (LineComment text) = omega arith
shape-single e k (BlockComment text) = omega arith
shape-single e k other = omega arith

pub none-empty : (k : ℕ) (xs : List Lexeme) → of_lexemes is_empty (numbered k xs) ≤ 0
none-empty k [] = omega arith
none-empty k (x ∷ xs) = omega (arith, shape-single is_empty k x.shape, none-empty (suc k) xs)

single-other : (b : Bool) (n k : ℕ) → (k == n) ≡ b → n < k → (if b then 1 + 0 else 0) ≤ 0
single-other true n k h l = absurd (omega (arith, l, eqb-true k n h))
single-other false n k h l = omega arith

count-before : (n k : ℕ) (xs : List Lexeme) → n < k → of_lexemes (count n) (numbered k xs) ≤ 0
count-before n k [] l = omega arith
count-before n k (x ∷ xs) l = omega (arith, shape-single (count n) k x.shape, single-other (k == n) n k refl l, count-before n (suc k) xs (omega (arith, l)))

single-once : (b : Bool) (n k : ℕ) (rest : ℕ) → (k == n) ≡ b → (n < suc k → rest ≤ 0) → rest ≤ 1 → (if b then 1 + 0 else 0) + rest ≤ 1
single-once true n k rest h none most = omega (arith, none (omega (arith, eqb-true k n h)))
single-once false n k rest h none most = omega (arith, most)

pub count-once : (n k : ℕ) (xs : List Lexeme) → of_lexemes (count n) (numbered k xs) ≤ 1
count-once n k [] = omega arith
count-once n k (x ∷ xs) =
    omega (arith, shape-single (count n) k x.shape, single-once (k == n) n k (of_lexemes (count n) (numbered (suc k) xs)) refl (λ l. count-before n (suc k) xs l) (count-once n (suc k) xs))

-- ---- the lexemes from a number on

module _ (lexemes : List Lexeme) where
  abbrev pub From : ℕ → List Lexeme → Type 0
  From k xs = (i : ℕ) → text_at lexemes (k + i) ≡ text_at xs i

  pub from-start : From 0 lexemes
  from-start i = let e : 0 + i ≡ i = omega arith in ap (text_at lexemes) e

  from-next : (k : ℕ) (x : Lexeme) (xs : List Lexeme) → From k (x ∷ xs) → From (suc k) xs
  from-next k x xs h i = let e : suc k + i ≡ k + suc i = omega arith in ap (text_at lexemes) e ∙ h (suc i)

  from-here : (k : ℕ) (x : Lexeme) (xs : List Lexeme) → From k (x ∷ xs) → text_at lexemes k ≡ text_of x.shape
  from-here k x xs h = let e : k ≡ k + 0 = omega arith in ap (text_at lexemes) e ∙ h 0

  -- A number that is no comment's is given to nothing.
  here-none : (n k : ℕ) (x : Shape) (b : Bool) → (k == n) ≡ b → text_at lexemes k ≡ text_of x → text_at lexemes n ≡ None → of_shape (count n) (with_number k x) ≤ 0
  here-none n k (LineComment text) true h is none = absurd (some-none (sym is ∙ ap (text_at lexemes) (eqb-true k n h) ∙ none))
    where
      some-none : Some text ≡ None → ⊥
      some-none e = subst (λ (o : Option (List ℕ)). elim o as (λ _. Type 0) [ None ↦ ⊥ | Some y ↦ Unit {0} ]) e tt
  here-none n k (BlockComment text) true h is none = absurd (some-none (sym is ∙ ap (text_at lexemes) (eqb-true k n h) ∙ none))
    where
      some-none : Some text ≡ None → ⊥
      some-none e = subst (λ (o : Option (List ℕ)). elim o as (λ _. Type 0) [ None ↦ ⊥ | Some y ↦ Unit {0} ]) e tt
  here-none n k (LineComment text) false h is none = let e : (if k == n then 1 + 0 else 0) ≡ 0 = ap (λ c. if c then 1 + 0 else 0) h in omega (arith, e)
  here-none n k (BlockComment text) false h is none = let e : (if k == n then 1 + 0 else 0) ≡ 0 = ap (λ c. if c then 1 + 0 else 0) h in omega (arith, e)
  here-none n k other b h is none = omega arith

  pub count-none : (n k : ℕ) (xs : List Lexeme) → From k xs → text_at lexemes n ≡ None → of_lexemes (count n) (numbered k xs) ≤ 0
  count-none n k [] h none = omega arith
  count-none n k (x ∷ xs) h none = omega (arith, here-none n k x.shape (k == n) refl (from-here k x xs h) none, count-none n (suc k) xs (from-next k x xs h) none)

  -- ---- texts

  abbrev pub text_or : Option (List ℕ) → List ℕ
  text_or None = []
  text_or (Some text) = text

  -- the texts of the comments with these numbers, joined
  abbrev pub made : List ℕ → List ℕ
  made ns = flat_map (λ n. text_or (text_at lexemes n)) ns

  pub made-joins : (a b : List ℕ) → made (a ++ b) ≡ made a ++ made b
  made-joins a b = flat_map-append (λ n. text_or (text_at lexemes n)) a b

  made-single : (k : ℕ) (text : List ℕ) → text_at lexemes k ≡ Some text → made (k ∷ []) ≡ text
  made-single k text is = append-nil (text_or (text_at lexemes k)) ∙ ap text_or is

  in_front-made : (k : ℕ) (x y : Shape) → x ≡ made_shape made y → (gaps : List (List Shape)) → in_front (x ∷ []) (map (map (made_shape made)) gaps) ≡ map (map (made_shape made)) (in_front (y ∷ []) gaps)
  in_front-made k x y is [] = refl
  in_front-made k x y is (gap ∷ gaps) = ap (λ s. (s ∷ map (made_shape made) gap) ∷ map (map (made_shape made)) gaps) is

  gap-made : (k : ℕ) (x : Shape) → text_at lexemes k ≡ text_of x → (gaps : List (List Shape))
      → (if is_gap x then in_front (x ∷ []) (map (map (made_shape made)) gaps) else [] ∷ map (map (made_shape made)) gaps)
      ≡ map (map (made_shape made)) (if is_gap (with_number k x) then in_front (with_number k x ∷ []) gaps else [] ∷ gaps)
  gap-made k (LineComment text) is gaps = in_front-made k (LineComment text) (LineComment (k ∷ [])) (ap LineComment (sym (made-single k text is))) gaps
  gap-made k (BlockComment text) is gaps = in_front-made k (BlockComment text) (BlockComment (k ∷ [])) (ap BlockComment (sym (made-single k text is))) gaps
  gap-made k Newline is gaps = in_front-made k Newline Newline refl gaps
  gap-made k other is gaps = refl

  -- The gaps of the lexemes are made of the gaps of their numbers.
  pub gaps-made : (k : ℕ) (xs : List Lexeme) → From k xs → gaps_of xs ≡ map (map (made_shape made)) (gaps_of (numbered k xs))
  gaps-made k [] h = refl
  gaps-made k (x ∷ xs) h =
      ap (λ gaps. if is_gap x.shape then in_front (x.shape ∷ []) gaps else [] ∷ gaps) (gaps-made (suc k) xs (from-next k x xs h))
      ∙ gap-made k x.shape (from-here k x xs h) (gaps_of (numbered (suc k) xs))
