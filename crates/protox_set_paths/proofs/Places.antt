-- Lists with one more at the end, the places of paths, and what is set where one has a place.
use Rattle.std.proofs.Common.{◌≡◌, ◌⊎◌, inl, inr, ◌<◌, ◌≤◌, ◌+◌, take, drop, get_or, not, ℕ, zero, suc, Bool, true, false, List, [], ◌∷◌, ◌++◌, length, Some, refl, sym, ap, subst, ◌∙◌, arith, length-append}
use Rattle.std.specs.Prelude.{◌||◌, ◌==◌}
use Rattle.std.specs.List.{slice_get}
use Rattle.std.proofs.lemmas.Bool.{and_parts, cases_Bool, false≢true}
use Rattle.std.proofs.lemmas.Bool.Decides.{nat_tests}
use Rattle.std.proofs.lemmas.List.{append-nil, append_assoc, get_or_append_left, take-append-drop, take_more}
use Rattle.std.proofs.lemmas.List.Folds.{list_any-append}
use Rattle.std.proofs.lemmas.Map.Views.{exact_unsigned_eq}
use Rattle.std.proofs.lemmas.Option.{none-some, same_Some, slice_get-get_or, slice_get_within}
use Rattle.std.proofs.Math.Seq.{get_or-append_seam}
use Rattle.protox_set_paths.specs.Paths.{begins_with, is_set, path_of}

-- ---- one more at the end

-- What holds of the empty list, and stays true with one more at the end, holds of each list.
pub by_last : {X : Type 0} (P : List X → Type 0) → P [] → ((xs : List X) (x : X) → P xs → P (xs ++ x ∷ []))
    → (xs : List X) → P xs
by_last {X} P none more xs = on [] xs none where
  on : (front rest : List X) → P front → P (front ++ rest)
  on front [] holds = subst P (sym (append-nil front)) holds
  on front (x ∷ rest) holds =
      subst P (append_assoc front (x ∷ []) rest) (on (front ++ x ∷ []) rest (more front x holds))

pub not_empty : {X : Type 0} (xs : List X) (x : X) → [] ≡ xs ++ x ∷ [] → ⊥
not_empty [] x e = cc
not_empty (y ∷ xs) x e = cc

-- Where two lists with one more at the end are equal, both parts are.
pub same_ends : {X : Type 0} (xs ys : List X) (x y : X) → xs ++ x ∷ [] ≡ ys ++ y ∷ [] → (xs ≡ ys) × (x ≡ y)
same_ends [] [] x y e = (refl, cc)
same_ends [] (b ∷ ys) x y e = let tails : [] ≡ ys ++ y ∷ [] = cc in absurd (not_empty ys y tails)
same_ends (a ∷ xs) [] x y e = let tails : [] ≡ xs ++ x ∷ [] = cc in absurd (not_empty xs x tails)
same_ends (a ∷ xs) (b ∷ ys) x y e =
    let tails : xs ++ x ∷ [] ≡ ys ++ y ∷ [] = cc in
    let both = same_ends xs ys x y tails in
    let front : xs ≡ ys = both.0 in
    (cc, both.1)

-- ---- the places of paths

module _ {X : Type 0} where
  pub get_kept : (xs more : List X) (k : ℕ) (x : X) → slice_get xs k ≡ Some x → slice_get (xs ++ more) k ≡ Some x
  get_kept xs more k x h =
      let below = slice_get_within xs k x h in
      slice_get-get_or (xs ++ more) k x (omega (arith, length-append xs more, below))
      ∙ ap (λ y. Some y) (get_or_append_left xs more x k below)
      ∙ sym (slice_get-get_or xs k x below) ∙ h

  pub get_last : (xs : List X) (x : X) → slice_get (xs ++ x ∷ []) (length xs) ≡ Some x
  get_last xs x =
      slice_get-get_or (xs ++ x ∷ []) (length xs) x (omega (arith, length-append xs (x ∷ [])))
      ∙ ap (λ y. Some y) (get_or-append_seam xs x [] x)

  -- what stands there stood there before, or is the last
  pub before_or_last : (xs : List X) (last : X) (k : ℕ) (x : X) → slice_get (xs ++ last ∷ []) k ≡ Some x
      → (slice_get xs k ≡ Some x) ⊎ ((k ≡ length xs) × (last ≡ x))
  before_or_last [] last zero x h = inr (refl, same_Some last x h)
  before_or_last [] last (suc k) x h = absurd (none-some x h)
  before_or_last (y ∷ xs) last zero x h = inl h
  before_or_last (y ∷ xs) last (suc k) x h =
      elim (before_or_last xs last k x h) [ inl before ↦ inl before | inr at ↦ inr (omega (arith, at.0), at.1) ]

-- more paths keep each place
pub path_kept : (paths more : List (List ℕ)) (n : ℕ) (path : List ℕ) → path_of paths n ≡ Some path
    → path_of (paths ++ more) n ≡ Some path
path_kept paths more zero path at = at
path_kept paths more (suc k) path at = get_kept paths more k path at

-- the place of one path more
pub path_last : (paths : List (List ℕ)) (path : List ℕ) (n : ℕ) → n ≡ length paths + 1 → path_of (paths ++ path ∷ []) n ≡ Some path
path_last paths path zero is = absurd (omega (arith, is))
path_last paths path (suc k) is =
    let last : k ≡ length paths = omega (arith, is) in
    ap (slice_get (paths ++ path ∷ [])) last ∙ get_last paths path

-- a place within the tree has a path
pub has_path : (paths : List (List ℕ)) (n : ℕ) → n ≤ length paths → (path : List ℕ) × (path_of paths n ≡ Some path)
has_path paths zero within = ([], refl)
has_path paths (suc k) within = (get_or paths k [], slice_get-get_or paths k [] (omega (arith, within)))

-- a place past the tree has none
pub no_path : (paths : List (List ℕ)) (n : ℕ) (path : List ℕ) → length paths < n → path_of paths n ≡ Some path → ⊥
no_path paths zero path past at = omega (arith, past)
no_path paths (suc k) path past at =
    let below = slice_get_within paths k path at in omega (arith, past, below)

-- ---- what is set

-- what begins with a front goes on behind it
pub goes_on : (front path : List ℕ) → begins_with front path ≡ true → (rest : List ℕ) × (path ≡ front ++ rest)
goes_on [] path h = (path, refl)
goes_on (m ∷ front) [] h = absurd (false≢true h)
goes_on (m ∷ front) (n ∷ path) h =
    let parts = and_parts (m == n) (begins_with front path) h in
    let more = goes_on front path parts.1 in
    let heads : m ≡ n = exact_unsigned_eq m n parts.0 in
    let tails : path ≡ front ++ more.0 = more.1 in
    (more.0, cc)

same_number : (n : ℕ) → (n == n) ≡ true
same_number n = grind (arith, nat_tests)

pub begins_on : (front rest : List ℕ) → begins_with front (front ++ rest) ≡ true
begins_on [] rest = refl
begins_on (n ∷ front) rest = rw (same_number n) (begins_on front rest)

pub begins_itself : (path : List ℕ) → begins_with path path ≡ true
begins_itself path = subst (λ p. begins_with path p ≡ true) (append-nil path) (begins_on path [])

-- what is set begins a path that is there
pub set_by : (paths : List (List ℕ)) (q : List ℕ) → is_set paths q ≡ true
    → (k : ℕ) × (path : List ℕ) × (slice_get paths k ≡ Some path) × (begins_with q path ≡ true)
set_by [] q h = absurd (false≢true h)
set_by (p ∷ paths) q h = elim (cases_Bool (begins_with q p)) [
  | inl begun ↦ (0, p, refl, begun)
  | inr other ↦
      let more = set_by paths q (sym (ap (λ b. b || is_set paths q) other) ∙ h) in
      (suc more.0, more.1, more.2, more.3)
]

-- what begins a path that is there is set
pub is_set_by : (paths : List (List ℕ)) (q : List ℕ) (k : ℕ) (path : List ℕ) → slice_get paths k ≡ Some path
    → begins_with q path ≡ true → is_set paths q ≡ true
is_set_by [] q k path at begun = absurd (none-some path at)
is_set_by (p ∷ paths) q zero path at begun =
    ap (λ b. b || is_set paths q) (ap (begins_with q) (same_Some p path at) ∙ begun)
is_set_by (p ∷ paths) q (suc k) path at begun =
    ap (λ b. begins_with q p || b) (is_set_by paths q k path at begun) ∙ settled (begins_with q p) where
      settled : (b : Bool) → (b || true) ≡ true
      settled true = refl
      settled false = refl

pub never_true : (b : Bool) → (b ≡ true → ⊥) → b ≡ false
never_true true never = absurd (never refl)
never_true false never = refl

-- what goes on behind a path that isn't set isn't set
pub not_set_behind : (paths : List (List ℕ)) (front rest : List ℕ) → is_set paths front ≡ false → is_set paths (front ++ rest) ≡ false
not_set_behind paths front rest none = never_true (is_set paths (front ++ rest)) (λ set.
    let (k, path, at, begun) = set_by paths (front ++ rest) set in
    let (more, is) = goes_on (front ++ rest) path begun in
    false≢true (sym none ∙ is_set_by paths front k path at
    (subst (λ p. begins_with front p ≡ true) (sym (is ∙ append_assoc front rest more)) (begins_on front (rest ++ more)))))

-- a path that is there adds nothing
pub set_already : (paths : List (List ℕ)) (q path : List ℕ) (k : ℕ) → slice_get paths k ≡ Some path
    → is_set paths q ≡ (begins_with q path || is_set paths q)
set_already paths q path k at = elim (cases_Bool (begins_with q path)) [
  | inl begun ↦ is_set_by paths q k path at begun ∙ sym (ap (λ b. b || is_set paths q) begun)
  | inr other ↦ sym (ap (λ b. b || is_set paths q) other)
]

-- nor does one that has a place
pub set_at_place : (paths : List (List ℕ)) (n : ℕ) (path : List ℕ) (number : ℕ) (q : List ℕ) → path_of paths n ≡ Some (path ++ number ∷ [])
    → is_set paths q ≡ (begins_with q (path ++ number ∷ []) || is_set paths q)
set_at_place paths zero path number q at = absurd (not_empty path number (same_Some [] (path ++ number ∷ []) at))
set_at_place paths (suc k) path number q at = set_already paths q (path ++ number ∷ []) k at

-- a path that has a place is set
pub set_there : (paths : List (List ℕ)) (n : ℕ) (path : List ℕ) (number : ℕ) → path_of paths n ≡ Some (path ++ number ∷ [])
    → is_set paths (path ++ number ∷ []) ≡ true
set_there paths zero path number at = absurd (not_empty path number (same_Some [] (path ++ number ∷ []) at))
set_there paths (suc k) path number at = is_set_by paths (path ++ number ∷ []) k (path ++ number ∷ []) at (begins_itself (path ++ number ∷ []))

-- one more path
pub set_more : (paths : List (List ℕ)) (q path : List ℕ) → is_set (paths ++ path ∷ []) q ≡ (begins_with q path || is_set paths q)
set_more paths q path = list_any-append (begins_with q) paths (path ∷ []) ∙ swapped (is_set paths q) (begins_with q path) where
  swapped : (b c : Bool) → (b || (c || false)) ≡ (c || b)
  swapped true true = refl
  swapped true false = refl
  swapped false true = refl
  swapped false false = refl

-- ---- the answer of a walk

-- a front that isn't set decides
pub decided_at : (paths : List (List ℕ)) (path : List ℕ) (i : ℕ) → i < length path
    → false ≡ is_set paths (take i path ++ get_or path i 0 ∷ []) → false ≡ is_set paths path
decided_at paths path i within none =
    sym (ap (is_set paths) (sym (take-append-drop (i + 1) path))
    ∙ not_set_behind paths (take (i + 1) path) (drop (i + 1) path) (ap (is_set paths) (take_more path i 0 within) ∙ sym none))

-- what has a place is set, if there is any path
set_if_any : (paths : List (List ℕ)) (p : List ℕ) (n : ℕ) (path : List ℕ) → path_of (p ∷ paths) n ≡ Some path → is_set (p ∷ paths) path ≡ true
set_if_any paths p zero path at = subst (λ q. is_set (p ∷ paths) q ≡ true) (same_Some [] path at) refl
set_if_any paths p (suc k) path at = is_set_by (p ∷ paths) path k path at (begins_itself path)

pub decided_by_place : (paths : List (List ℕ)) (n : ℕ) (path : List ℕ) (count : ℕ) → count ≡ length paths
    → path_of paths n ≡ Some path → not (count == 0) ≡ is_set paths path
decided_by_place [] n path count is at = ap (λ k. not (k == 0)) is
decided_by_place (p ∷ paths) n path count is at =
    ap (λ k. not (k == 0)) is ∙ some (length paths) ∙ sym (set_if_any paths p n path at) where
      some : (k : ℕ) → not (suc k == 0) ≡ true
      some k = let none : (suc k == 0) ≡ false = grind (arith, nat_tests) in ap not none
