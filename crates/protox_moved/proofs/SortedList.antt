-- What is sorted by path and keeps those of one path in their order is the list of the definition.
use Rattle.std.proofs.Common.{◌≡◌, Bool, true, false, cond, map, not, List, [], ◌∷◌, refl, sym, ap, ◌∙◌, inl, inr}
use Rattle.std.specs.Option.{unwrap_or}
use Rattle.std.specs.Prelude.{None, ⊤, if◌then◌else◌}
use Rattle.std.specs.Cmp.{IsStrictWeakOrder}
use Rattle.std.specs.List.{filter}
use Rattle.std.specs.List.Sorted.{IsSortedBy, IsStableBy, ties}
use Rattle.std.proofs.lemmas.Bool.{cases_Bool, false≢true}
use Rattle.protox_ast.specs.Basics.{Each}
use Rattle.protox_descriptor.specs.declared.descriptor.source_code_info.Location.{Location}
use Rattle.protox_places.specs.Order.{Ahead, AreByPath, by_path, by_start}
use Rattle.protox_moved.specs.declared.Move.{Move}
use Rattle.protox_moved.specs.Moved.{after_moves, is_part, moved, new_path, NothingMoves, placed, sorted_by_path}
use Rattle.protox_moved.specs.inner.Sorting.{is_before}
use Rattle.protox_moved.proofs.Paths.{order_by, same_path}
use Rattle.protox_moved.proofs.Ties.{none_through, not_itself, NoneLess, same_from_ties, ties_parts, Up, up_from_sorted}

abbrev pub before : Location → Location → Bool
before a b = is_before a.path b.path

pub order : IsStrictWeakOrder before
order = order_by (λ (l : Location). l.path)

none-placed : (x l : Location) (ls : List Location) → before l x ≡ false → NoneLess before x ls
    → NoneLess before x (placed l ls)
none-placed x l [] e n = (e, tt)
none-placed x l (m ∷ ms) e n = go (before m l) (none-placed x l ms e n.1) where
  go : (b : Bool) → NoneLess before x (placed l ms)
      → NoneLess before x (if b then m ∷ placed l ms else l ∷ m ∷ ms)
  go true rest = (n.0, rest)
  go false rest = (e, n)

up-placed : (l : Location) (ls : List Location) → Up before ls → Up before (placed l ls)
up-placed l [] up = (tt, tt)
up-placed l (m ∷ ms) up = go (before m l) refl (up-placed l ms up.1) where
  go : (b : Bool) → before m l ≡ b → Up before (placed l ms)
      → Up before (if b then m ∷ placed l ms else l ∷ m ∷ ms)
  go true e rest = (none-placed m l ms (order.one_way m l e) up.0, rest)
  go false e rest = ((e, none_through before order l m ms e up.0), up)

-- two elements of which not both are kept
pub swapped : (m l : Location) (rest : List Location) (p q : Bool) → (p ≡ true → q ≡ true → ⊥)
    → cond p (m ∷ cond q (l ∷ rest) rest) (cond q (l ∷ rest) rest)
    ≡ cond q (l ∷ cond p (m ∷ rest) rest) (cond p (m ∷ rest) rest)
swapped m l rest true true h = absurd (h refl refl)
swapped m l rest true false h = refl
swapped m l rest false true h = refl
swapped m l rest false false h = refl

filter-placed : (x l : Location) (ls : List Location)
    → filter (ties before x) (placed l ls) ≡ filter (ties before x) (l ∷ ls)
filter-placed x l [] = refl
filter-placed x l (m ∷ ms) = go (before m l) refl (filter-placed x l ms) where
  apart : before m l ≡ true → ties before x m ≡ true → ties before x l ≡ true → ⊥
  apart e a b =
      false≢true (sym (order.chain m x l (ties_parts before x m a).1 (ties_parts before x l b).0) ∙ e)

  go : (b : Bool) → before m l ≡ b
      → filter (ties before x) (placed l ms) ≡ filter (ties before x) (l ∷ ms)
      → filter (ties before x) (if b then m ∷ placed l ms else l ∷ m ∷ ms)
      ≡ filter (ties before x) (l ∷ m ∷ ms)
  go true e same =
      ap (λ rest. cond (ties before x m) (m ∷ rest) rest) same
      ∙ swapped m l (filter (ties before x) ms) (ties before x m) (ties before x l) (apart e)
  go false e same = refl

pub up-sorted : (ls : List Location) → Up before (sorted_by_path ls)
up-sorted [] = tt
up-sorted (l ∷ ls) = up-placed l (sorted_by_path ls) (up-sorted ls)

filter-sorted : (x : Location) (ls : List Location)
    → filter (ties before x) (sorted_by_path ls) ≡ filter (ties before x) ls
filter-sorted x [] = refl
filter-sorted x (l ∷ ls) =
    filter-placed x l (sorted_by_path ls)
    ∙ ap (λ rest. cond (ties before x l) (l ∷ rest) rest) (filter-sorted x ls)

-- what a stable sort by path gives
pub only-sorted : (xs ys : List Location) → IsSortedBy before ys → IsStableBy before xs ys
    → ys ≡ sorted_by_path xs
only-sorted xs ys sorted stable =
    same_from_ties before order ys (sorted_by_path xs) (up_from_sorted before order ys sorted)
    (up-sorted xs) (λ x. stable x ∙ sym (filter-sorted x xs))

ahead : (l m : Location) → before m l ≡ false → Ahead (λ a b. ⊤) l m
ahead l m e = elim (cases_Bool (before l m)) [
  | inl less ↦ by_path less
  | inr not ↦ by_start (same_path l.path m.path not e) tt
]

all-ahead : (l : Location) (ls : List Location) → NoneLess before l ls → Each (Ahead (λ a b. ⊤) l) ls
all-ahead l [] n = tt
all-ahead l (m ∷ ms) n = (ahead l m n.0, all-ahead l ms n.1)

are-by-path : (ls : List Location) → Up before ls → AreByPath ls
are-by-path [] up = tt
are-by-path (l ∷ ls) up = (all-ahead l ls up.0, are-by-path ls up.1)

-- the definition's list is sorted
pub sorted-are-by-path : (ls : List Location) → AreByPath (sorted_by_path ls)
sorted-are-by-path ls = are-by-path (sorted_by_path ls) (up-sorted ls)

pub after-are-by-path : (moves : List Move) (ls : List Location) → AreByPath (after_moves moves ls)
after-are-by-path moves ls =
    sorted-are-by-path (map (moved moves) (filter (λ (l : Location). not (is_part moves l)) ls))

-- ---- what nothing moves

not-behind : (l m : Location) → Ahead (λ a b. ⊤) l m → before m l ≡ false
not-behind l m a = elim a as (λ _. before m l ≡ false) [
  | by_path less ↦ order.one_way l m less
  | by_start same t ↦ ap (λ p. is_before m.path p) same ∙ not_itself before order m
]

first-stays : (l : Location) (ls : List Location) → Each (Ahead (λ a b. ⊤) l) ls → placed l ls ≡ l ∷ ls
first-stays l [] a = refl
first-stays l (m ∷ ms) a = ap (λ b. if b then m ∷ placed l ms else l ∷ m ∷ ms) (not-behind l m a.0)

sorted-stays : (ls : List Location) → AreByPath ls → sorted_by_path ls ≡ ls
sorted-stays [] s = refl
sorted-stays (l ∷ ls) s = ap (placed l) (sorted-stays ls s.1) ∙ first-stays l ls s.0

all-stay : (moves : List Move) (ls : List Location)
    → Each (λ (l : Location). (is_part moves l ≡ false) × (new_path moves l.path ≡ None)) ls
    → map (moved moves) (filter (λ (l : Location). not (is_part moves l)) ls) ≡ ls
all-stay moves [] e = refl
all-stay moves (l ∷ ls) e =
    ap (λ b. map (moved moves) (cond (not b)
    (l ∷ filter (λ (l : Location). not (is_part moves l)) ls)
    (filter (λ (l : Location). not (is_part moves l)) ls))) e.0.0
    ∙ ap (λ p. record l { path = unwrap_or p l.path }
    ∷ map (moved moves) (filter (λ (l : Location). not (is_part moves l)) ls)) e.0.1
    ∙ ap (λ rest. l ∷ rest) (all-stay moves ls e.1)

pub nothing_moved : NothingMoves
nothing_moved moves ls sorted e = ap sorted_by_path (all-stay moves ls e) ∙ sorted-stays ls sorted
