-- In locations sorted by path: those before a path, at it and behind it.
use Rattle.std.proofs.Common.{◌≡◌, ℕ, zero, suc, ◌<◌, ◌≤◌, true, false, List, [], ◌∷◌, length, drop, get_or, refl, ap, sym, ◌∙◌, arith, subst, inl, inr, Ordering, Less, Equal, Greater}
use Rattle.std.specs.Prelude.{ℤ, ◌<ℤ◌, ⊤, nat_lt}
use Rattle.std.specs.Cmp.{IsTotalOrder}
use Rattle.std.specs.Cmp.Lexicographic.{slice_cmp}
use Rattle.std.specs.List.{AllWithin}
use Rattle.std.specs.List.Sorted.{IsPartitionedBy}
use Rattle.std.specs.Ordering.{int_cmp, is_eq, is_lt, is_le, is_gt, MatchOrdering, ordering_reverse, ordering_then}
use Rattle.std.proofs.lemmas.Bool.{cases_lt, false≢true, le-ltb, lt-ltb}
use Rattle.std.proofs.lemmas.Cmp.{int_cmp_total, int_ranked, lists_total, tied_itself, upto}
use Rattle.protox_ast.specs.Basics.{Each}
use Rattle.protox_descriptor.specs.declared.descriptor.source_code_info.Location.{Location}
use Rattle.protox_places.specs.Order.{Ahead, AreByPath, AreThoseAt, by_path, by_start, ComesBefore, InOrder}

-- ---- lists

pub each_so : {A : Type 0} (P Q : A → Type 0) (xs : List A) → ((x : A) → P x → Q x) → Each P xs → Each Q xs
each_so P Q [] so a = tt
each_so P Q (x ∷ xs) so a = (so x a.0, each_so P Q xs so a.1)

-- ---- the order of paths

abbrev compared : List ℤ → List ℤ → Ordering
compared = slice_cmp int_cmp

abbrev total : IsTotalOrder compared
total = lists_total int_cmp_total

one-less : (m n : ℕ) → nat_lt m n ≡ nat_lt (suc m) (suc n)
one-less m n = elim (cases_lt m n) [
  | inl less ↦ lt-ltb m n less ∙ sym (lt-ltb (suc m) (suc n) (omega (arith, less)))
  | inr not ↦ le-ltb m n not ∙ sym (le-ltb (suc m) (suc n) (omega (arith, not)))
]

-- behind the numbers that both paths have, the lengths decide
pub lengths-decide : (xs ys : List ℤ) (i : ℕ) → i ≤ length xs → i ≤ length ys → (i < length xs → i < length ys → ⊥) → is_lt (compared (drop i xs) (drop i ys)) ≡ nat_lt (length xs) (length ys)
lengths-decide [] [] zero in_first in_second ended = refl
lengths-decide [] (y ∷ ys) zero in_first in_second ended = sym (lt-ltb 0 (suc (length ys)) (omega arith))
lengths-decide (x ∷ xs) [] zero in_first in_second ended = sym (le-ltb (suc (length xs)) 0 (omega arith))
lengths-decide (x ∷ xs) (y ∷ ys) zero in_first in_second ended = absurd (ended (omega arith) (omega arith))
lengths-decide [] ys (suc i) in_first in_second ended = absurd (omega (arith, in_first))
lengths-decide (x ∷ xs) [] (suc i) in_first in_second ended = absurd (omega (arith, in_second))
lengths-decide (x ∷ xs) (y ∷ ys) (suc i) in_first in_second ended =
    lengths-decide xs ys i (omega (arith, in_first)) (omega (arith, in_second)) (λ a b. ended (omega (arith, a)) (omega (arith, b))) ∙ one-less (length xs) (length ys)

less-is : (o : Ordering) → is_lt o ≡ true → o ≡ Less
less-is Less e = refl
less-is Equal e = absurd (false≢true e)
less-is Greater e = absurd (false≢true e)

less-turned : (o : Ordering) → is_lt (ordering_reverse o) ≡ true → is_gt o ≡ true
less-turned Less e = absurd (false≢true e)
less-turned Equal e = absurd (false≢true e)
less-turned Greater e = refl

greater-turned : (o : Ordering) → is_le o ≡ false → is_lt (ordering_reverse o) ≡ true
greater-turned Less e = absurd (false≢true (sym e))
greater-turned Equal e = absurd (false≢true (sym e))
greater-turned Greater e = refl

le-not-gt : (o : Ordering) → is_le o ≡ true → is_gt o ≡ true → ⊥
le-not-gt Less e f = false≢true f
le-not-gt Equal e f = false≢true f
le-not-gt Greater e f = false≢true e

le-gt : (o : Ordering) → is_le o ≡ true → is_gt o ≡ false
le-gt Less e = refl
le-gt Equal e = refl
le-gt Greater e = absurd (false≢true e)

gt-le : (o : Ordering) → is_gt o ≡ false → is_le o ≡ true
gt-le Less e = refl
gt-le Equal e = refl
gt-le Greater e = absurd (false≢true (sym e))

-- neither less nor greater
level : (o : Ordering) → (is_lt o ≡ true → ⊥) → (is_lt (ordering_reverse o) ≡ true → ⊥) → o ≡ Equal
level Less a b = absurd (a refl)
level Equal a b = refl
level Greater a b = absurd (b refl)

then-level : (o p : Ordering) → ordering_then o p ≡ Equal → (o ≡ Equal) × (p ≡ Equal)
then-level Less p e = absurd (false≢true (ap is_eq e))
then-level Equal p e = (refl, e)
then-level Greater p e = absurd (false≢true (ap is_eq e))

same-number : (x y : ℤ) → int_cmp x y ≡ Equal → x ≡ y
same-number x y e =
    subst (λ o. MatchOrdering o (x <ℤ y) (x ≡ y) (y <ℤ x)) e (int_ranked x y (int_cmp x y) refl)

same-path : (p q : List ℤ) → compared p q ≡ Equal → p ≡ q
same-path [] [] e = refl
same-path [] (y ∷ q) e = absurd (false≢true (ap is_eq e))
same-path (x ∷ p) [] e = absurd (false≢true (ap is_eq e))
same-path (x ∷ p) (y ∷ q) e =
    let both = then-level (int_cmp x y) (slice_cmp int_cmp p q) e in
    ap (λ z. z ∷ p) (same-number x y both.0) ∙ ap (λ z. y ∷ z) (same-path p q both.1)

-- the other way round
turned : (p q : List ℤ) → is_lt (compared q p) ≡ is_lt (ordering_reverse (compared p q))
turned p q = ap is_lt (total.antisymm q p)

-- a path doesn't come before itself
pub not-itself : (p q : List ℤ) → p ≡ q → ComesBefore p q → ⊥
not-itself p q e c =
    let tied : is_lt (compared p p) ≡ false = ap is_lt (tied_itself total p) in
    false≢true (sym tied ∙ subst (λ r. is_lt (compared p r) ≡ true) (sym e) c)

-- two paths don't both come before each other
not-both : (p q : List ℤ) → ComesBefore p q → ComesBefore q p → ⊥
not-both p q c d =
    not-itself p p refl (ap is_lt (total.trans p q p (less-is _ c) (less-is _ d)))

-- if neither comes before the other, they are the same
neither : (p q : List ℤ) → (ComesBefore p q → ⊥) → (ComesBefore q p → ⊥) → p ≡ q
neither p q a b = same-path p q (level (compared p q) a (λ g. b (turned p q ∙ g)))

neither-way : (o : Ordering) → (is_lt o ≡ true → ⊥) → is_gt o ≡ false → o ≡ Equal
neither-way Less a b = absurd (a refl)
neither-way Equal a b = refl
neither-way Greater a b = absurd (false≢true (sym b))

-- a path that neither comes before another nor is greater is the same
pub not-before-nor-behind : (p q : List ℤ) → (ComesBefore p q → ⊥) → is_gt (compared p q) ≡ false → p ≡ q
not-before-nor-behind p q a b = same-path p q (neither-way (compared p q) a b)

-- a path that is not greater than another doesn't come behind it
pub not-behind : (p q : List ℤ) → is_le (compared p q) ≡ true → ComesBefore q p → ⊥
not-behind p q e c = le-not-gt (compared p q) e (less-turned (compared p q) (sym (turned p q) ∙ c))

pub greater : (p q : List ℤ) → is_le (compared p q) ≡ false → ComesBefore q p
greater p q e = turned p q ∙ greater-turned (compared p q) e

-- ---- sorted locations

-- no path behind a location is smaller than its path
rising-from : (x : Location) (xs : List Location) (j : ℕ) (d : Location)
    → Each (Ahead (λ a b. ⊤) x) xs → j < length xs
    → is_gt (compared x.path (get_or xs j d).path) ≡ false
rising-from x [] j d h l = absurd (omega arith)
rising-from x (y ∷ ys) zero d h l = elim h.0 as (λ _. is_gt (compared x.path y.path) ≡ false) [
  | by_path c ↦ ap is_gt (less-is _ c)
  | by_start e s ↦
      subst (λ q. is_gt (compared x.path q) ≡ false) e (ap is_gt (tied_itself total x.path))
]
rising-from x (y ∷ ys) (suc j) d h l = rising-from x ys j d h.1 (omega arith)

-- of two indices, the path at the first isn't greater
pub rising : (xs : List Location) (i j : ℕ) (d : Location)
    → AreByPath xs → i ≤ j → j < length xs
    → is_gt (compared (get_or xs i d).path (get_or xs j d).path) ≡ false
rising [] i j d o h l = absurd (omega arith)
rising (x ∷ xs) zero zero d o h l = ap is_gt (tied_itself total x.path)
rising (x ∷ xs) zero (suc j) d o h l = rising-from x xs j d o.0 (omega arith)
rising (x ∷ xs) (suc i) zero d o h l = absurd (omega arith)
rising (x ∷ xs) (suc i) (suc j) d o h l = rising xs i j d o.1 (omega arith) (omega arith)

before-also : (p q r : List ℤ) (o : Ordering) → compared p q ≡ o → is_gt o ≡ false
    → ComesBefore q r → ComesBefore p r
before-also p q r Less e h c = ap is_lt (total.trans p q r e (less-is _ c))
before-also p q r Equal e h c = ap is_lt (total.congr p q r e) ∙ c
before-also p q r Greater e h c = absurd (false≢true (sym h))

-- the locations before a path are split from the others
pub before-parted : (xs : List Location) (path : List ℤ) → AreByPath xs
    → IsPartitionedBy (λ (l : Location). is_lt (slice_cmp int_cmp l.path path)) xs
before-parted xs path o i j d h l e =
    before-also (get_or xs i d).path (get_or xs j d).path path _ refl (rising xs i j d o h l) e

-- the locations not behind a path are split from the others
pub up-to-parted : (xs : List Location) (path : List ℤ) → AreByPath xs
    → IsPartitionedBy (λ (l : Location). is_le (slice_cmp int_cmp l.path path)) xs
up-to-parted xs path o i j d h l e =
    let p = (get_or xs i d).path in
    let q = (get_or xs j d).path in
    gt-le _ (upto total p q path (rising xs i j d o h l) (le-gt _ e))

-- the locations before a path and those behind it don't overlap
pub apart : (xs : List Location) (path : List ℤ) (i j : ℕ) → i ≤ length xs
    → AllWithin (λ (l : Location). ComesBefore l.path path) xs 0 i
    → AllWithin (λ (l : Location). ComesBefore path l.path) xs j (length xs) → i ≤ j
apart [] path i j h before behind = omega (arith, h)
apart (x ∷ xs) path i j h before behind = elim (cases_lt j i) [
  | inl lt ↦
      let smaller = before j x (omega arith) lt in
      let larger = behind j x (omega arith) (omega (arith, lt, h)) in
      absurd (not-both (get_or (x ∷ xs) j x).path path smaller larger)
  | inr le ↦ le
]

-- exactly the locations between them have the path
pub between : (xs : List Location) (path : List ℤ) (i j : ℕ)
    → AllWithin (λ (l : Location). ComesBefore l.path path) xs 0 i
    → AllWithin (λ (l : Location). ComesBefore l.path path → ⊥) xs i (length xs)
    → AllWithin (λ (l : Location). ComesBefore path l.path → ⊥) xs 0 j
    → AllWithin (λ (l : Location). ComesBefore path l.path) xs j (length xs)
    → AreThoseAt xs path i j
between xs path i j before from up_to behind k d h = (
  (λ e. (
    elim (cases_lt k i) [
      | inl lt ↦ absurd (not-itself (get_or xs k d).path path e (before k d (omega arith) lt))
      | inr le ↦ le
    ],
    elim (cases_lt k j) [
      | inl lt ↦ lt
      | inr le ↦ absurd (not-itself path (get_or xs k d).path (sym e) (behind k d le h))
    ],
  )),
  (λ w. neither (get_or xs k d).path path (from k d w.0 h) (up_to k d (omega arith) w.1)),
)

-- ---- sorted by path, in any order for one path

weaker : (Same : Location → Location → Type 0) (a b : Location)
    → Ahead Same a b → Ahead (λ a b. ⊤) a b
weaker Same a b (by_path c) = by_path c
weaker Same a b (by_start e s) = by_start e tt

pub sorted-by-path : (Same : Location → Location → Type 0) (ls : List Location)
    → InOrder Same ls → AreByPath ls
sorted-by-path Same [] o = tt
sorted-by-path Same (l ∷ ls) o =
    (each_so (Ahead Same l) (Ahead (λ a b. ⊤) l) ls (weaker Same l) o.0, sorted-by-path Same ls o.1)
