-- The nearest of the locations that hold a place is the innermost of them.
use Rattle.std.proofs.Common.{◌≡◌, true, false, Bool, cond, List, [], ◌∷◌, Option, Some, None, MatchOption, IfSome, IfNone, Ordering, Less, Equal, Greater, refl, ap, sym, ◌∙◌, subst, inl, inr, ◌⊎◌}
use Rattle.std.specs.Prelude.{ℤ}
use Rattle.std.specs.Cmp.{IsTotalOrder, then_total, on_total, back_total}
use Rattle.std.specs.Cmp.Lexicographic.{options_total}
use Rattle.std.specs.Borrow.{Bor}
use Rattle.std.specs.Option.{option_copied}
use Rattle.std.specs.Ordering.{is_lt, is_le, is_gt, ordering_reverse}
use Rattle.std.proofs.lemmas.Bool.{false≢true}
use Rattle.std.proofs.lemmas.Cmp.{int_cmp_total, upto}
use Rattle.protox_ast.specs.Basics.{Each}
use Rattle.protox_descriptor.specs.Spans.{start_of, end_of, place_cmp, is_within}
use Rattle.protox_descriptor.specs.declared.descriptor.source_code_info.Location.{Location}
use Rattle.protox_places.specs.Innermost.{Holds, IsInnermost, nearness}
use Rattle.protox_places.specs.inner.Nearer.{nearer, best_of}

-- ---- the order by nearness

place_total : IsTotalOrder place_cmp
place_total = then_total (on_total (λ p. p.0) int_cmp_total) (on_total (λ p. p.1) int_cmp_total)

near_total : IsTotalOrder nearness
near_total =
    then_total (back_total (on_total (λ (l : Location). start_of l.span) (options_total place_total)))
    (on_total (λ (l : Location). end_of l.span) (options_total place_total))

le-gt : (o : Ordering) → is_le o ≡ true → is_gt o ≡ false
le-gt Less e = refl
le-gt Equal e = refl
le-gt Greater e = absurd (false≢true e)

gt-le : (o : Ordering) → is_gt o ≡ false → is_le o ≡ true
gt-le Less e = refl
gt-le Equal e = refl
gt-le Greater e = absurd (false≢true (sym e))

lt-le : (o : Ordering) → is_lt o ≡ true → is_le o ≡ true
lt-le Less e = refl
lt-le Equal e = absurd (false≢true e)
lt-le Greater e = absurd (false≢true e)

not_le-reversed : (o : Ordering) → is_le o ≡ false → is_lt (ordering_reverse o) ≡ true
not_le-reversed Less e = absurd (false≢true (sym e))
not_le-reversed Equal e = absurd (false≢true (sym e))
not_le-reversed Greater e = refl

near-trans : (l m o : Location) → is_le (nearness l m) ≡ true → is_le (nearness m o) ≡ true → is_le (nearness l o) ≡ true
near-trans l m o e f = gt-le _ (upto near_total l m o (le-gt _ e) (le-gt _ f))

pub nearer-turned : (l m : Location) → is_le (nearness l m) ≡ false → is_lt (nearness m l) ≡ true
nearer-turned l m e = ap is_lt (near_total.antisymm m l) ∙ not_le-reversed (nearness l m) e

-- ---- the search

abbrev Misses : ℤ × ℤ → Location → Type 0
Misses place o = Holds place o → ⊥

abbrev Reaches : ℤ × ℤ → Location → Location → Type 0
Reaches place l o = Holds place o → is_le (nearness l o) ≡ true

abbrev Passes : ℤ × ℤ → Location → Location → Type 0
Passes place l o = Holds place o → is_lt (nearness l o) ≡ true

-- From a best one on: it stays, or a later one replaces it that is at least as near.
abbrev Stays : ℤ × ℤ → Location → List Location → Location → Type 0
Stays place b xs r = (r ≡ b) × Each (Passes place b) xs

abbrev Follows : ℤ × ℤ → Location → List Location → Location → Type 0
Follows place b xs r = IsInnermost place xs r × (is_le (nearness r b) ≡ true)

-- one more in front
longer : (place : ℤ × ℤ) (x : Location) (xs : List Location) (r : Location)
    → IsInnermost place xs r → Reaches place r x → IsInnermost place (x ∷ xs) r
longer place x xs r inner reach = record {
  front = x ∷ inner.front;
  back = inner.back;
  split = ap (λ ys. x ∷ ys) inner.split;
  held = inner.held;
  before = (reach, inner.before);
  behind = inner.behind;
}

-- the first of them
first : (place : ℤ × ℤ) (x : Location) (xs : List Location)
    → Holds place x → Each (Passes place x) xs → IsInnermost place (x ∷ xs) x
first place x xs held behind = record {
  front = [];
  back = xs;
  split = refl;
  held = held;
  before = tt;
  behind = behind;
}

untrue : (b : Bool) → b ≡ false → b ≡ true → ⊥
untrue b e f = false≢true (sym e ∙ f)

-- the answer of the search from a best one on
abbrev Answers : ℤ × ℤ → Location → List Location → Option Location → Type 0
Answers place b xs o = (r : Location) × ((o ≡ Some r) × (Stays place b xs r ⊎ Follows place b xs r))

-- the new one is the best
taken : (place : ℤ × ℤ) (b x : Location) (xs : List Location) (o : Option Location) → Holds place x
    → is_le (nearness x b) ≡ true → Answers place x xs o → Answers place b (x ∷ xs) o
taken place b x xs o held near a = (
  a.0,
  (
    a.1.0,
    elim a.1.1 [
      | inl stays ↦ inr (
        subst (λ z. IsInnermost place (x ∷ xs) z) (sym stays.0) (first place x xs held stays.1),
        subst (λ z. is_le (nearness z b) ≡ true) (sym stays.0) near,
      )
      | inr follows ↦ inr (
        longer place x xs a.0 follows.0 (λ h. follows.1),
        near-trans a.0 x b follows.1 near,
      )
    ],
  ),
)

-- the old one stays the best
kept : (place : ℤ × ℤ) (b x : Location) (xs : List Location) (o : Option Location)
    → Passes place b x → Answers place b xs o → Answers place b (x ∷ xs) o
kept place b x xs o pass a = (
  a.0,
  (
    a.1.0,
    elim a.1.1 [
      | inl stays ↦ inl (stays.0, (pass, stays.1))
      | inr follows ↦ inr (
        longer place x xs a.0 follows.0 (λ h. near-trans a.0 b x follows.1 (lt-le _ (pass h))),
        follows.1,
      )
    ],
  ),
)

-- the answer of the search from each best one on
abbrev Again : ℤ × ℤ → List Location → Type 0
Again place xs = (c : Location) → Answers place c xs (best_of place (Some c) xs)

by_near : (place : ℤ × ℤ) (b x : Location) (xs : List Location) → Again place xs → Holds place x
    → (t : Bool) → is_le (nearness x b) ≡ t
    → Answers place b (x ∷ xs) (best_of place (cond t (Some x) (Some b)) xs)
by_near place b x xs again held true e = taken place b x xs _ held e (again x)
by_near place b x xs again held false e = kept place b x xs _ (λ h. nearer-turned x b e) (again b)

by_held : (place : ℤ × ℤ) (b x : Location) (xs : List Location) → Again place xs
    → (t : Bool) → is_within place (start_of x.span) (end_of x.span) ≡ t
    → Answers place b (x ∷ xs) (best_of place (cond t (nearer (Some b) x) (Some b)) xs)
by_held place b x xs again true e = by_near place b x xs again e (is_le (nearness x b)) refl
by_held place b x xs again false e = kept place b x xs _ (λ h. absurd (untrue _ e h)) (again b)

from_best : (place : ℤ × ℤ) (xs : List Location) → Again place xs
from_best place [] b = (b, (refl, inl (refl, tt)))
from_best place (x ∷ xs) b = by_held place b x xs (from_best place xs) (is_within place (start_of x.span) (end_of x.span)) refl

-- the answer of the search from the start on
abbrev pub Found : ℤ × ℤ → List Location → Option Location → Type 0
Found place xs o = MatchOption o (Each (Misses place) xs) (IsInnermost place xs)

-- a location before them that doesn't hold the place
missed : (place : ℤ × ℤ) (x : Location) (xs : List Location) (o : Option Location)
    → Misses place x → Found place xs o → Found place (x ∷ xs) o
missed place x xs None miss found = (miss, found)
missed place x xs (Some r) miss found = longer place x xs r found (λ h. absurd (miss h))

-- a location before them that does
held_first : (place : ℤ × ℤ) (x : Location) (xs : List Location) (o : Option Location)
    → Holds place x → Answers place x xs o → Found place (x ∷ xs) o
held_first place x xs o held a = subst (λ z. Found place (x ∷ xs) z) (sym a.1.0) (elim a.1.1 as (λ _. IsInnermost place (x ∷ xs) a.0) [
  | inl stays ↦ subst (λ z. IsInnermost place (x ∷ xs) z) (sym stays.0) (first place x xs held stays.1)
  | inr follows ↦ longer place x xs a.0 follows.0 (λ h. follows.1)
])

by_first : (place : ℤ × ℤ) (x : Location) (xs : List Location)
    → Found place xs (best_of place None xs)
    → (t : Bool) → is_within place (start_of x.span) (end_of x.span) ≡ t
    → Found place (x ∷ xs) (best_of place (cond t (Some x) None) xs)
by_first place x xs found true e = held_first place x xs _ e (from_best place xs x)
by_first place x xs found false e = missed place x xs _ (untrue _ e) found

pub from_none : (place : ℤ × ℤ) (xs : List Location) → Found place xs (best_of place None xs)
from_none place [] = tt
from_none place (x ∷ xs) = by_first place x xs (from_none place xs) (is_within place (start_of x.span) (end_of x.span)) refl

-- the same for borrowed locations
pub innermost_of : (place : ℤ × ℤ) (xs : List Location) (r : Option (Bor Location))
    → option_copied r ≡ best_of place None xs → IfSome r (λ l. IsInnermost place xs l.now)
innermost_of place xs None e = tt
innermost_of place xs (Some l) e = subst (Found place xs) (sym e) (from_none place xs)

pub none_of : (place : ℤ × ℤ) (xs : List Location) (r : Option (Bor Location))
    → option_copied r ≡ best_of place None xs → IfNone r (Each (Misses place) xs)
none_of place xs None e = subst (Found place xs) (sym e) (from_none place xs)
none_of place xs (Some l) e = tt
