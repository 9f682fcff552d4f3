-- Of sorted moves, those that begin neither at nor below the start of one before them say the same as
-- all. The last of them that begins before a path is the only one that it can lie below.
use Rattle.std.proofs.Common.{◌≡◌, ℕ, zero, suc, ◌+◌, ◌-◌, ◌<◌, ◌≤◌, Bool, true, false, cond, List, [], ◌∷◌, length, get_or, refl, sym, ap, ◌∙◌, arith, inl, inr}
use Rattle.std.specs.Prelude.{ℤ, ⊤, ◌||◌, Option, Some}
use Rattle.std.specs.Cmp.{both_ways, IsStrictWeakOrder}
use Rattle.std.specs.Cmp.Rules.{signed_items}
use Rattle.std.specs.List.{AllWithin, dedup, dedup_from, list_any}
use Rattle.std.proofs.lemmas.Bool.{cases_Bool, cases_lt, false≢true}
use Rattle.std.proofs.lemmas.List.{get_or_default}
use Rattle.std.proofs.lemmas.List.Folds.{Any-from_list_any, list_any-from_Any}
use Rattle.protox_moved.specs.declared.Move.{Move}
use Rattle.protox_moved.specs.Moved.{is_below, new_path}
use Rattle.protox_moved.specs.inner.Sorting.{AreApart, AreByStart, is_before, is_start}
use Rattle.protox_moved.proofs.Finding.{begins, earlier}
use Rattle.protox_moved.proofs.Paths.{order_by}
use Rattle.protox_moved.proofs.Starts.{below_starts, below_through, between, start_apart, starts_below}
use Rattle.protox_moved.proofs.Ties.{NoneLess, not_itself, Up, up_at, up_from_sorted}

order : IsStrictWeakOrder earlier
order = order_by (λ (m : Move). m.from)

-- the later move begins at or below the start of the one that is kept
abbrev pub covered : Move → Move → Bool
covered later kept = is_start kept.from later.from

-- ---- the moves that are kept are sorted and apart

abbrev ApartFrom : Move → List Move → Type 0
ApartFrom k [] = ⊤
ApartFrom k (x ∷ xs) = (covered x k ≡ false) × ApartFrom k xs

abbrev Outer : List Move → Type 0
Outer [] = ⊤
Outer (x ∷ xs) = NoneLess earlier x xs × ApartFrom x xs × Outer xs

none-kept : (z k : Move) (xs : List Move) → NoneLess earlier z (k ∷ xs)
    → NoneLess earlier z (dedup_from covered k xs)
none-kept z k [] n = n
none-kept z k (x ∷ xs) n = go (covered x k) (none-kept z k xs (n.0, n.1.1)) (none-kept z x xs n.1) where
  go : (b : Bool) → NoneLess earlier z (dedup_from covered k xs)
      → NoneLess earlier z (dedup_from covered x xs)
      → NoneLess earlier z (cond b (dedup_from covered k xs) (k ∷ dedup_from covered x xs))
  go true goes stays = goes
  go false goes stays = (n.0, stays)

apart-kept : (k x : Move) (ys : List Move) → covered x k ≡ false → earlier x k ≡ false
    → NoneLess earlier x ys → ApartFrom k ys
apart-kept k x [] e f n = tt
apart-kept k x (y ∷ ys) e f n = (
  elim (cases_Bool (covered y k)) [
    | inl hit ↦ absurd (false≢true (sym e ∙ between k.from x.from y.from hit f n.0))
    | inr miss ↦ miss
  ],
  apart-kept k x ys e f n.1,
)

outer-kept : (k : Move) (xs : List Move) → Up earlier (k ∷ xs) → Outer (dedup_from covered k xs)
outer-kept k [] up = (tt, tt, tt)
outer-kept k (x ∷ xs) up =
    go (covered x k) refl (outer-kept k xs (up.0.1, up.1.1)) (outer-kept x xs up.1)
  where
    go : (b : Bool) → covered x k ≡ b → Outer (dedup_from covered k xs) → Outer (dedup_from covered x xs)
        → Outer (cond b (dedup_from covered k xs) (k ∷ dedup_from covered x xs))
    go true e goes stays = goes
    go false e goes stays = (
      none-kept k x xs up.0,
      apart-kept k x (dedup_from covered x xs) e up.0.0
          (none-kept x x xs (not_itself earlier order x, up.1.0)),
      stays,
    )

outer-up : (xs : List Move) → Outer xs → Up earlier xs
outer-up [] o = tt
outer-up (x ∷ xs) o = (o.0, outer-up xs o.2)

apart-from-at : (k : Move) (xs : List Move) (j : ℕ) (d : Move) → ApartFrom k xs → j < length xs
    → covered (get_or xs j d) k ≡ false
apart-from-at k [] j d a h = absurd (omega arith)
apart-from-at k (x ∷ xs) zero d a h = a.0
apart-from-at k (x ∷ xs) (suc j) d a h = apart-from-at k xs j d a.1 (omega arith)

apart-at : (xs : List Move) → Outer xs → AreApart xs
apart-at [] o i j d l h = absurd (omega arith)
apart-at (x ∷ xs) o i zero d l h = absurd (omega arith)
apart-at (x ∷ xs) o zero (suc j) d l h = apart-from-at x xs j d o.1 (omega arith)
apart-at (x ∷ xs) o (suc i) (suc j) d l h = apart-at xs o.2 i j d (omega arith) (omega arith)

outer : (moves : List Move) → AreByStart moves → Outer (dedup covered moves)
outer [] sorted = tt
outer (m ∷ moves) sorted =
    outer-kept m moves
    (up_from_sorted earlier order (m ∷ moves) (λ k d l h. sorted k (k + 1) d (omega arith) h))

pub kept-sorted : (moves : List Move) → AreByStart moves → AreByStart (dedup covered moves)
kept-sorted moves sorted =
    up_at earlier order (dedup covered moves) (outer-up (dedup covered moves) (outer moves sorted))

pub kept-apart : (moves : List Move) → AreByStart moves → AreApart (dedup covered moves)
kept-apart moves sorted = apart-at (dedup covered moves) (outer moves sorted)

-- ---- the moves that are kept say the same

absorbed : (a x r : Bool) → (x ≡ true → a ≡ true) → (a || r) ≡ (a || (x || r))
absorbed true x r h = refl
absorbed false true r h = absurd (false≢true (h refl))
absorbed false false r h = refl

abbrev below : List ℤ → Move → Bool
below path m = is_below m.from path

parts-from : (path : List ℤ) (k : Move) (xs : List Move)
    → list_any (below path) (dedup_from covered k xs) ≡ list_any (below path) (k ∷ xs)
parts-from path k [] = refl
parts-from path k (x ∷ xs) = go (covered x k) refl (parts-from path k xs) (parts-from path x xs) where
  go : (b : Bool) → covered x k ≡ b
      → list_any (below path) (dedup_from covered k xs) ≡ list_any (below path) (k ∷ xs)
      → list_any (below path) (dedup_from covered x xs) ≡ list_any (below path) (x ∷ xs)
      → list_any (below path) (cond b (dedup_from covered k xs) (k ∷ dedup_from covered x xs))
      ≡ list_any (below path) (k ∷ x ∷ xs)
  go true e goes stays =
      goes ∙ absorbed (below path k) (below path x) (list_any (below path) xs) (below_through k.from x.from path e)
  go false e goes stays = ap (λ r. below path k || r) stays

pub kept-parts : (moves : List Move) (path : List ℤ)
    → list_any (below path) (dedup covered moves) ≡ list_any (below path) moves
kept-parts [] path = refl
kept-parts (m ∷ moves) path = parts-from path m moves

neither : (a b : Bool) → (a || b) ≡ false → (a ≡ false) × (b ≡ false)
neither true b e = absurd (false≢true (sym e))
neither false b e = (refl, e)

-- of two moves the second doesn't count
skipped : (k x : Bool) (first second : Option (List ℤ)) (rest : Option (List ℤ))
    → (k ≡ false → x ≡ true → ⊥) → cond k first rest ≡ cond k first (cond x second rest)
skipped true x first second rest h = refl
skipped false true first second rest h = absurd (h refl refl)
skipped false false first second rest h = refl

paths-from : (path : List ℤ) (k : Move) (xs : List Move) → list_any (below path) (k ∷ xs) ≡ false
    → new_path (dedup_from covered k xs) path ≡ new_path (k ∷ xs) path
paths-from path k [] none = refl
paths-from path k (x ∷ xs) none =
    go (covered x k) refl (paths-from path k xs (without (below path k) (below path x) _ none))
    (paths-from path x xs (neither (below path k) _ none).1)
  where
    without : (a b r : Bool) → (a || (b || r)) ≡ false → (a || r) ≡ false
    without true b r e = e
    without false true r e = absurd (false≢true (sym e))
    without false false r e = e

    go : (b : Bool) → covered x k ≡ b
        → new_path (dedup_from covered k xs) path ≡ new_path (k ∷ xs) path
        → new_path (dedup_from covered x xs) path ≡ new_path (x ∷ xs) path
        → new_path (cond b (dedup_from covered k xs) (k ∷ dedup_from covered x xs)) path
        ≡ new_path (k ∷ x ∷ xs) path
    go true e goes stays =
        goes ∙ skipped (begins path k) (begins path x) (Some k.to) (Some x.to) (new_path xs path)
        (λ other same.
        let there = ap (is_start k.from) (sym ((signed_items x.from path).0 same)) ∙ e in
        false≢true (sym (neither (below path k) _ none).0 ∙ start_apart k.from path there other))
    go false e goes stays = ap (cond (begins path k) (Some k.to)) stays

pub kept-paths : (moves : List Move) (path : List ℤ) → list_any (below path) moves ≡ false
    → new_path (dedup covered moves) path ≡ new_path moves path
kept-paths [] path none = refl
kept-paths (m ∷ moves) path none = paths-from path m moves none

-- ---- the search

module _ (moves : List Move) (path : List ℤ) (at : ℕ) (sorted : AreByStart moves) (apart : AreApart moves)
    (before : AllWithin (λ (m : Move). is_before m.from path ≡ true) moves 0 at)
    (from : AllWithin (λ (m : Move). is_before m.from path ≡ false) moves at (length moves)) where
  -- a move that the path lies below begins before the path
  place : (m : Move) → list_any (below path) moves ≡ true
      → (k : ℕ) × (k < length moves) × (k < at) × (is_start (get_or moves k m).from path ≡ true)
  place m e =
      let found = Any-from_list_any (below path) moves e in
      let k = found.0 in
      let it : get_or moves k m ≡ found.1 = get_or_default moves k m found.1 found.2 ∙ found.3 in
      let is : below path (get_or moves k m) ≡ true = ap (below path) it ∙ found.4 in
      let facts = below_starts (get_or moves k m).from path is in
      let less : k < at = elim (cases_lt k at) [
        | inl lt ↦ lt
        | inr le ↦ absurd (false≢true (sym (from k m le found.2) ∙ facts.1))
      ] in
      (k, found.2, less, facts.0)

  pub none-before : at ≡ 0 → list_any (below path) moves ≡ false
  none-before e = elim (cases_Bool (list_any (below path) moves)) [
    | inl hit ↦
        let p = place (Any-from_list_any (below path) moves hit).1 hit in absurd (omega (arith, p.2, e))
    | inr miss ↦ miss
  ]

  last : (m : Move) → 0 < at → at ≤ length moves → m ≡ get_or moves (at - 1) m → (k : ℕ)
      → k < length moves → k < at → is_start (get_or moves k m).from path ≡ true
      → is_start m.from path ≡ true
  last m some bound is k inside less e =
      let at_end : at - 1 < length moves = omega arith in
      let pred = (get_or moves (at - 1) m).from in
      let smaller = before (at - 1) m (omega arith) (omega arith) in
      let ordered = order_by (λ (p : List ℤ). p) in
      elim (cases_lt k (at - 1)) [
        | inl lt ↦
            let inner = between (get_or moves k m).from pred path e
            (sorted k (at - 1) m (omega arith) at_end) (ordered.one_way pred path smaller) in
            absurd (false≢true (sym (apart k (at - 1) m lt at_end) ∙ inner))
        | inr le ↦
            let same : at - 1 ≡ k = omega arith in
            ap (λ (l : Move). is_start l.from path) (is ∙ ap (λ n. get_or moves n m) same) ∙ e
      ]

  pub last-decides : (m : Move) → 0 < at → at ≤ length moves → m ≡ get_or moves (at - 1) m
      → is_start m.from path ≡ list_any (below path) moves
  last-decides m some bound is = both_ways (is_start m.from path) (list_any (below path) moves)
      (λ e. list_any-from_Any (below path) moves (
        at - 1,
        m,
        omega arith,
        sym is,
        starts_below m.from path e
            (ap (λ (l : Move). is_before l.from path) is ∙ before (at - 1) m (omega arith) (omega arith)),
      ))
      (λ e. let p = place m e in last m some bound is p.0 p.1 p.2 p.3)
