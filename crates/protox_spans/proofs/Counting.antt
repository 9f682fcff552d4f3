-- How many elements of a list pass a test.
use Rattle.std.proofs.Common.{◌≡◌, ℕ, zero, suc, ◌<◌, ◌≤◌, ◌+◌, Bool, true, false, cond, List, [], ◌∷◌, ◌++◌, length, get_or, take, drop, Some, None, nat_lt, add-one, refl, sym, ◌∙◌, ap, arith}
use Rattle.std.specs.List.{count_by, position, position_or_len}
use Rattle.std.proofs.Math.Seq.{take-add}
use Rattle.std.proofs.lemmas.List.Sums.{sum_by-append, sum_by-cons}
use Rattle.std.proofs.lemmas.Bool.Decides.{nat_tests}

is_true : (b : Bool) → 0 < cond b 1 0 → b ≡ true
is_true true h = refl
is_true false h = absurd (omega arith)

is_false : (b : Bool) (n : ℕ) → cond b 1 0 + n ≡ 0 → b ≡ false
is_false true n h = absurd (omega arith)
is_false false n h = refl

pub one_passes : (b : Bool) → b ≡ true → cond {A = ℕ} b 1 0 ≡ 1
one_passes b e = rw e refl

pub none_passes : (b : Bool) → b ≡ false → cond {A = ℕ} b 1 0 ≡ 0
none_passes b e = rw e refl

module _ {X : Type 0} (p : X → Bool) where
  -- the count with one more element in front
  pub count_cons : (x : X) (xs : List X) → count_by p (x ∷ xs) ≡ cond (p x) 1 0 + count_by p xs
  count_cons x xs = sum_by-cons (λ x. cond (p x) 1 0) x xs

  -- the count with one more element at the end
  pub count_push : (xs : List X) (x : X) → count_by p (xs ++ x ∷ []) ≡ count_by p xs + cond (p x) 1 0
  count_push xs x =
      let parts = sum_by-append (λ x. cond (p x) 1 0) xs (x ∷ []) in
      let last = count_cons x [] in
      omega (arith, parts, last)

  -- Where no element passes, the count is 0.
  pub count_none : (xs : List X) → ((k : ℕ) (d : X) → k < length xs → p (get_or xs k d) ≡ false)
      → count_by p xs ≡ 0
  count_none [] h = refl
  count_none (x ∷ xs) h =
      let nothing = none_passes (p x) (h 0 x (omega arith)) in
      let rest : count_by p xs ≡ 0 = count_none xs (λ k d l. h (suc k) d (omega arith)) in
      omega (arith, nothing, rest, count_cons x xs)

  -- Where the elements before a place pass, and no others, the place is the count.
  pub count_at : (xs : List X) (r : ℕ) → r ≤ length xs
      → ((k : ℕ) (d : X) → k < r → p (get_or xs k d) ≡ true)
      → ((k : ℕ) (d : X) → r ≤ k → k < length xs → p (get_or xs k d) ≡ false)
      → r ≡ count_by p xs
  count_at [] r l pass fail = omega arith
  count_at (x ∷ xs) zero l pass fail =
      sym (count_none (x ∷ xs) (λ k d h. fail k d (omega arith) h))
  count_at (x ∷ xs) (suc r) l pass fail =
      let one = one_passes (p x) (pass 0 x (omega arith)) in
      let rest : r ≡ count_by p xs = count_at xs r (omega arith)
      (λ k d h. pass (suc k) d (omega arith))
      (λ k d g h. fail (suc k) d (omega arith) (omega arith)) in
      omega (arith, one, rest, count_cons x xs)

  -- the count of a front, and then of a piece
  pub count_split : (a w : ℕ) (xs : List X)
      → count_by p (take (a + w) xs) ≡ count_by p (take a xs) + count_by p (take w (drop a xs))
  count_split a w xs =
      ap (count_by p) (take-add a w xs) ∙ sum_by-append (λ x. cond (p x) 1 0) (take a xs) (take w (drop a xs))

  first : (xs : List X) (a : ℕ) → count_by p (take a xs) ≡ 0 → 0 < count_by p (take (suc a) xs)
      → (position_or_len p xs ≡ a) × (a < length xs)
  first [] a none some = absurd (omega arith)
  first (x ∷ xs) zero none some =
      let here : p x ≡ true = is_true (p x) (omega (arith, some, count_cons x [])) in
      (rw here refl, omega arith)
  first (x ∷ xs) (suc a) none some =
      let cons = count_cons x (take a xs) in
      let more = count_cons x (take (suc a) xs) in
      let here : p x ≡ false = is_false (p x) (count_by p (take a xs)) (omega (arith, none, cons)) in
      let nothing = none_passes (p x) here in
      let found = first xs a (omega (arith, none, cons)) (omega (arith, some, nothing, more)) in
      let place : position_or_len p xs ≡ a = found.0 in
      (rw here (omega arith), omega (arith, found.1))

  -- Where the elements before a place don't pass, and the one at it does, it is the first place.
  pub position_at : (xs : List X) (a : ℕ) → count_by p (take a xs) ≡ 0
      → 0 < count_by p (take (a + 1) xs) → position p xs ≡ Some a
  position_at xs a none some =
      let found = first xs a none (rw add-one at some) in
      let place : position_or_len p xs ≡ a = found.0 in
      let within : a < length xs = found.1 in
      let test : nat_lt a (length xs) ≡ true = grind (arith, nat_tests) in
      rw place (rw test refl)

  nowhere : (xs : List X) → count_by p xs ≡ 0 → position_or_len p xs ≡ length xs
  nowhere [] none = refl
  nowhere (x ∷ xs) none =
      let cons = count_cons x xs in
      let here : p x ≡ false = is_false (p x) (count_by p xs) (omega (arith, none, cons)) in
      let rest : position_or_len p xs ≡ length xs = nowhere xs (omega (arith, none, cons)) in
      rw here (omega arith)

  -- Where nothing passes, there is no first place.
  pub no_position : (xs : List X) → count_by p xs ≡ 0 → position p xs ≡ None
  no_position xs none =
      let all : position_or_len p xs ≡ length xs = nowhere xs none in
      let test : nat_lt (length xs) (length xs) ≡ false = grind (arith, nat_tests) in
      rw all (rw test refl)
