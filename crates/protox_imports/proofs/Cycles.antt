-- Where there is an order, there is no cycle.
use Rattle.std.proofs.Common.{◌≡◌, ℕ, zero, suc, ◌<◌, ◌≤◌, ◌-◌, List, [], ◌∷◌, length, get_or, take, Some, refl, ◌∙◌, ap, arith}
use Rattle.std.specs.Prelude.{slice_get}
use Rattle.std.proofs.lemmas.Option.{slice_get-get_or}
use Rattle.protox_imports.specs.Order.{IsInOrder, IsCycle}
use Rattle.protox_imports.proofs.Elements as at

-- an element of a front stands in the list, before the end of the front
get_take : (xs : List ℕ) (p q f : ℕ) → slice_get (take p xs) q ≡ Some f
    → (q < p) × (slice_get xs q ≡ Some f)
get_take [] zero q f e = cc
get_take [] (suc p) q f e = cc
get_take (x ∷ xs) zero q f e = cc
get_take (x ∷ xs) (suc p) zero f e = (omega arith, e)
get_take (x ∷ xs) (suc p) (suc q) f e =
    let h = get_take xs p q f e in
    (omega (arith, h.0), h.1)

module _ (imports : ℕ → ℕ → Type 0) (count : ℕ) (order files : List ℕ)
    (within : (f g : ℕ) → imports f g → f < count) (o : IsInOrder imports count order)
    (c : IsCycle imports files) where
  -- What a file imports stands before it.
  before : (p f g : ℕ) → slice_get order p ≡ Some f → imports f g
      → (q : ℕ) × (q < p) × (slice_get order q ≡ Some g)
  before p f g e i =
      let there = at.at_contains (take p order) g (o.behind p f g e i) in
      let h = get_take order p there.0 g there.1 in
      (there.0, h.0, h.1)

  -- Along the cycle the places go down.
  down : (k p : ℕ) → k < length files → slice_get order p ≡ Some (get_or files 0 0)
      → (q : ℕ) × (q ≤ p) × (slice_get order q ≡ Some (get_or files k 0))
  down zero p below e = (p, omega arith, e)
  down (suc k) p below e =
      let here = down k p (omega (arith, below)) e in
      let next = c.next k (get_or files k 0) (get_or files (suc k) 0)
      (slice_get-get_or files k 0 (omega (arith, below)))
      (ap (slice_get files) (omega arith) ∙ slice_get-get_or files (suc k) 0 below) in
      let there = before here.0 (get_or files k 0) (get_or files (suc k) 0) here.2 next in
      (there.0, omega (arith, here.1, there.1), there.2)

  around : (p : ℕ) → slice_get order p ≡ Some (get_or files 0 0)
      → (q : ℕ) × (q < p) × (slice_get order q ≡ Some (get_or files 0 0))
  around p e =
      let some = c.some in
      let last = length files - 1 in
      let here = down last p (omega (arith, some)) e in
      let there = before here.0 (get_or files last 0) (get_or files 0 0) here.2
      (c.around (get_or files last 0) (get_or files 0 0)
      (slice_get-get_or files last 0 (omega (arith, some))) (slice_get-get_or files 0 0 some)) in
      (there.0, omega (arith, here.1, there.1), there.2)

  no_place : (n p : ℕ) → p < n → slice_get order p ≡ Some (get_or files 0 0) → ⊥
  no_place zero p below e = absurd (omega (arith, below))
  no_place (suc n) p below e =
      let lower = around p e in
      no_place n lower.0 (omega (arith, below, lower.1)) lower.2

  -- The first file of the cycle imports some file.
  first_imports : (n : ℕ) → length files ≡ n → (g : ℕ) × imports (get_or files 0 0) g
  first_imports zero e = absurd (omega (arith, e, c.some))
  first_imports (suc zero) e =
      let here = slice_get-get_or files 0 0 c.some in (
        get_or files 0 0,
        c.around (get_or files 0 0) (get_or files 0 0)
            (ap (slice_get files) (omega (arith, e)) ∙ here) here,
      )
  first_imports (suc (suc n)) e = (
    get_or files 1 0,
    c.next 0 (get_or files 0 0) (get_or files 1 0)
        (slice_get-get_or files 0 0 c.some)
        (ap (slice_get files) (omega arith) ∙ slice_get-get_or files 1 0 (omega (arith, e))),
  )

  pub no_cycle : ⊥
  no_cycle =
      let i = first_imports (length files) refl in
      let there = at.at_contains order (get_or files 0 0) (o.all (get_or files 0 0) (within (get_or files 0 0) i.0 i.1)) in
      no_place (suc there.0) there.0 (omega arith) there.1
