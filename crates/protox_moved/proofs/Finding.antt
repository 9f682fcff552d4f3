-- The first move that begins at a path, in moves that are sorted by where they begin.
use Rattle.std.proofs.Common.{◌≡◌, ℕ, zero, suc, ◌<◌, ◌≤◌, Bool, true, false, cond, List, [], ◌∷◌, length, get_or, slice_get, Option, Some, None, refl, sym, ap, ◌∙◌, arith, inl, inr}
use Rattle.std.specs.Prelude.{ℤ, ◌||◌, if◌then◌else◌}
use Rattle.std.specs.Cmp.Lexicographic.{pointwise}
use Rattle.std.specs.Cmp.Rules.{signed_items}
use Rattle.std.specs.List.{AllWithin, filter, find, list_any}
use Rattle.std.specs.List.Sorted.{IsPartitionedBy, IsSortedBy, IsStableBy, ties}
use Rattle.std.specs.Option.{is_some, option_map, unwrap_or}
use Rattle.std.specs.Ordering.{int_eq}
use Rattle.std.proofs.lemmas.Bool.{cases_Bool, false≢true}
use Rattle.protox_descriptor.specs.declared.descriptor.source_code_info.Location.{Location}
use Rattle.protox_moved.specs.declared.Move.{Move}
use Rattle.protox_moved.specs.Moved.{moved, new_path}
use Rattle.protox_moved.specs.inner.Sorting.{AreByStart, is_before}
use Rattle.protox_moved.proofs.Paths.{order_by, same_is_tie, same_path}
use Rattle.protox_moved.proofs.Ties.{not_itself, up_at, up_from_sorted}

-- ---- lists

untrue : (b : Bool) → (b ≡ true → ⊥) → b ≡ false
untrue true h = absurd (h refl)
untrue false h = refl

-- the first element, if there is one
abbrev first_of : {X : Type 0} → List X → Option X
first_of [] = None
first_of (x ∷ xs) = Some x

module _ {X : Type 0} (test : X → Bool) where
  none_found : (xs : List X) → ((k : ℕ) (d : X) → k < length xs → test (get_or xs k d) ≡ false)
      → find test xs ≡ None
  none_found [] h = refl
  none_found (x ∷ xs) h =
      ap (λ b. cond b (Some x) (find test xs)) (h zero x (omega arith))
      ∙ none_found xs (λ k d l. h (suc k) d (omega arith))

  -- None before an index passes, and none from it on if the one at it doesn't: so it is there or
  -- nowhere.
  pub found_at : (xs : List X) (i : ℕ) (r : Option X)
      → ((k : ℕ) (d : X) → k < i → k < length xs → test (get_or xs k d) ≡ false)
      → ((k : ℕ) (d : X) → i ≤ k → k < length xs → test (get_or xs i d) ≡ false → test (get_or xs k d) ≡ false)
      → ((x : X) → slice_get xs i ≡ Some x → r ≡ (if test x then Some x else None))
      → (slice_get xs i ≡ None → r ≡ None)
      → r ≡ find test xs
  found_at [] zero r before from some none = none refl
  found_at [] (suc i) r before from some none = none refl
  found_at (x ∷ xs) zero r before from some none = some x refl ∙ go where
    go : cond (test x) (Some x) None ≡ cond (test x) (Some x) (find test xs)
    go = elim (cases_Bool (test x)) [
      | inl hit ↦
          ap (λ b. cond b (Some x) None) hit ∙ sym (ap (λ b. cond b (Some x) (find test xs)) hit)
      | inr miss ↦
          ap (cond (test x) (Some x))
          (sym (none_found xs (λ k d l. from (suc k) d (omega arith) (omega arith) miss)))
    ]
  found_at (x ∷ xs) (suc i) r before from some none =
      found_at xs i r (λ k d a b. before (suc k) d (omega arith) (omega arith))
      (λ k d a b e. from (suc k) d (omega arith) (omega arith) e) some none
      ∙ sym (ap (λ b. cond b (Some x) (find test xs)) (before zero x (omega arith) (omega arith)))

  find_filtered : (xs : List X) → find test xs ≡ first_of (filter test xs)
  find_filtered [] = refl
  find_filtered (x ∷ xs) =
      ap (cond (test x) (Some x)) (find_filtered xs) ∙ go (test x) (filter test xs)
    where
      go : (b : Bool) (ys : List X) → cond b (Some x) (first_of ys) ≡ first_of (cond b (x ∷ ys) ys)
      go true ys = refl
      go false ys = refl

  pub any_found : (xs : List X) → is_some (find test xs) ≡ list_any test xs
  any_found [] = refl
  any_found (x ∷ xs) = go (test x) ∙ ap (λ b. test x || b) (any_found xs) where
    go : (b : Bool) → is_some (cond b (Some x) (find test xs)) ≡ (b || is_some (find test xs))
    go true = refl
    go false = refl

-- ---- moves

abbrev pub begins : List ℤ → Move → Bool
begins path m = pointwise int_eq m.from path

pub new_path_found : (moves : List Move) (path : List ℤ)
    → new_path moves path ≡ option_map (λ (m : Move). m.to) (find (begins path) moves)
new_path_found [] path = refl
new_path_found (m ∷ moves) path =
    ap (cond (begins path m) (Some m.to)) (new_path_found moves path) ∙ go (begins path m)
  where
    go : (b : Bool) → cond b (Some m.to) (option_map (λ (m : Move). m.to) (find (begins path) moves))
        ≡ option_map (λ (m : Move). m.to) (cond b (Some m) (find (begins path) moves))
    go true = refl
    go false = refl

abbrev pub earlier : Move → Move → Bool
earlier a b = is_before a.from b.from

-- a stable sort keeps the first move from each path
pub new_path_kept : (xs ys : List Move) → IsStableBy earlier xs ys → (path : List ℤ)
    → new_path ys path ≡ new_path xs path
new_path_kept xs ys stable path =
    new_path_found ys path ∙ ap (option_map (λ (m : Move). m.to)) same ∙ sym (new_path_found xs path)
  where
    here : Move
    here = record { from = path; to = [] }

    tests : begins path ≡ ties earlier (record { from = path; to = [] })
    tests = λ i m. same_is_tie path m.from i

    kept : filter (begins path) ys ≡ filter (begins path) xs
    kept = ap (λ t. filter t ys) tests ∙ stable (record { from = path; to = [] })
        ∙ sym (ap (λ t. filter t xs) tests)

    same : find (begins path) ys ≡ find (begins path) xs
    same = find_filtered (begins path) ys ∙ ap first_of kept ∙ sym (find_filtered (begins path) xs)

pub are_by_start : (moves : List Move) → IsSortedBy earlier moves → AreByStart moves
are_by_start moves sorted =
    let order = order_by (λ (m : Move). m.from) in
    up_at earlier order moves (up_from_sorted earlier order moves sorted)

-- the moves that begin before a path are split from the others
pub start-parted : (moves : List Move) (path : List ℤ) → AreByStart moves
    → IsPartitionedBy (λ (m : Move). is_before m.from path) moves
start-parted moves path sorted i j d l h e =
    let order = order_by (λ (p : List ℤ). p) in
    let first = (get_or moves i d).from in
    let second = (get_or moves j d).from in
    elim (cases_Bool (is_before first path)) [
      | inl hit ↦ hit
      | inr miss ↦
          absurd (false≢true (sym (order.chain second first path (sorted i j d l h) miss) ∙ e))
    ]

module _ (moves : List Move) (path : List ℤ) (i : ℕ) (r : Option Move) (sorted : AreByStart moves)
    (before : AllWithin (λ (m : Move). is_before m.from path ≡ true) moves 0 i)
    (from : AllWithin (λ (m : Move). is_before m.from path ≡ false) moves i (length moves)) where
  smaller : (k : ℕ) (d : Move) → k < i → k < length moves → begins path (get_or moves k d) ≡ false
  smaller k d l h = untrue (begins path (get_or moves k d)) (λ e.
      let same = (signed_items (get_or moves k d).from path).0 e in
      let order = order_by (λ (p : List ℤ). p) in
      let never = not_itself is_before order path in
      false≢true (sym never ∙ ap (λ p. is_before p path) (sym same) ∙ before k d (omega arith) l))

  larger : (k : ℕ) (d : Move) → i ≤ k → k < length moves → begins path (get_or moves i d) ≡ false
      → begins path (get_or moves k d) ≡ false
  larger k d l h e = untrue (begins path (get_or moves k d)) (λ is.
      let same = (signed_items (get_or moves k d).from path).0 is in
      let behind = ap (λ p. is_before p (get_or moves i d).from) (sym same) ∙ sorted i k d l h in
      let here = same_path (get_or moves i d).from path (from i d (omega arith) (omega arith)) behind in
      false≢true (sym e ∙ (signed_items (get_or moves i d).from path).1 here))

  pub found_there : ((m : Move) → slice_get moves i ≡ Some m → r ≡ (if begins path m then Some m else None))
      → (slice_get moves i ≡ None → r ≡ None) → r ≡ find (begins path) moves
  found_there some none = found_at (begins path) moves i r smaller larger some none

-- ---- locations

-- a location at whose path a move begins
pub moved_found : (moves : List Move) (l : Location) (m : Move) → Some m ≡ find (begins l.path) moves
    → record l { path = m.to } ≡ moved moves l
moved_found moves l m e =
    ap (λ o. record l { path = unwrap_or o l.path })
    (ap (option_map (λ (m : Move). m.to)) e ∙ sym (new_path_found moves l.path))

-- one at whose path no move begins
pub moved_none : (moves : List Move) (l : Location) → None ≡ find (begins l.path) moves → l ≡ moved moves l
moved_none moves l e =
    ap (λ o. record l { path = unwrap_or o l.path })
    (ap (option_map (λ (m : Move). m.to)) e ∙ sym (new_path_found moves l.path))
