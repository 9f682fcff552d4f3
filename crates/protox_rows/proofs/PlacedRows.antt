-- The rows of a table with their places, by number.
use Rattle.std.proofs.Common.{◌≡◌, ◌<◌, ◌≤◌, ◌+◌, ◌-◌, ℕ, zero, suc, Bool, true, false, List, [], ◌∷◌, drop, length, Option, Some, None, refl, sym, ap, subst, ◌∙◌, eqb, arith}
use Rattle.std.proofs.lemmas.Bool.{ne_eqb}
use Rattle.std.specs.Prelude.{slice_get, slice_index_or, option_map, Result, Ok, Err, IfOk}
use Rattle.protox_fault.specs.Faults.{Span}
use Rattle.protox_lexeme.specs.Gaps.{Attribution, attribution}
use Rattle.protox_lexeme.specs.Shapes.{Shape, Row, Rows}
use Rattle.protox_lexeme.specs.Table.{Table}
use Rattle.protox_ast.proofs.Lemmas.{as-many}
use Rattle.protox_grammar.specs.Class.{Set, class, in_set}
use Rattle.protox_grammar.specs.Reader.{head_in}
use Rattle.protox_rows.specs.Rows.{no_row, bare_row, shape_of_row, IsFirst}
use Rattle.protox_ast.specs.Places.{Place, placed, next_gap, later_gaps, next_shape, place_of, placed_from}

-- ---- gaps and rows by number

pub gap-at : (gaps : List (List Shape)) (k : ℕ) → next_gap (drop k gaps) ≡ slice_index_or gaps k []
gap-at [] zero = refl
gap-at [] (suc k) = refl
gap-at (g ∷ gs) zero = refl
gap-at (g ∷ gs) (suc k) = gap-at gs k

pub shape-at : (rows : Rows Span) (k : ℕ) → next_shape (drop k rows) ≡ shape_of_row rows k
shape-at [] zero = refl
shape-at [] (suc k) = refl
shape-at (r ∷ rs) zero = refl
shape-at (r ∷ rs) (suc k) = shape-at rs k

later : (gaps : List (List Shape)) (k : ℕ) → drop k (later_gaps gaps) ≡ drop (suc k) gaps
later [] zero = refl
later [] (suc k) = refl
later (g ∷ gs) k = refl

-- whether a row is the first of a file
abbrev pub begins : Bool → ℕ → Bool
begins first zero = first
begins first (suc k) = false

-- row k with its place
abbrev pub placed_row : Bool → Rows Span → List (List Shape) → ℕ → Row Span → Row Place
placed_row first rows gaps k r = record { shape = r.shape; at = place_of (begins first k) r (slice_index_or gaps k []) (drop (suc k) gaps) (drop (suc k) rows) }

shifted : (first : Bool) (r : Row Span) (rows : Rows Span) (gaps : List (List Shape)) (k : ℕ) (x : Row Span) → placed_row false rows (later_gaps gaps) k x ≡ placed_row first (r ∷ rows) gaps (suc k) x
shifted first r rows [] zero x = refl
shifted first r rows [] (suc k) x = refl
shifted first r rows (g ∷ gs) zero x = refl
shifted first r rows (g ∷ gs) (suc k) x = refl

pub row-placed : (first : Bool) (rows : Rows Span) (gaps : List (List Shape)) (k : ℕ) (d : Row Place) (e : Row Span) → k < length rows
    → slice_index_or (placed_from first rows gaps) k d ≡ placed_row first rows gaps k (slice_index_or rows k e)
row-placed first [] gaps k d e h = absurd (omega arith)
row-placed first (r ∷ rs) [] zero d e h = refl
row-placed first (r ∷ rs) (g ∷ gs) zero d e h = refl
row-placed first (r ∷ rs) gaps (suc k) d e h = row-placed false rs (later_gaps gaps) k d e (omega arith) ∙ shifted first r rs gaps k (slice_index_or rs k e)

-- ---- the rows that are left

pub drop-row : (xs : Rows Place) (k : ℕ) → k < length xs → drop k xs ≡ slice_index_or xs k no_row ∷ drop (suc k) xs
drop-row [] k h = absurd (omega arith)
drop-row (x ∷ xs) zero h = refl
drop-row (x ∷ xs) (suc k) h = drop-row xs k (omega arith)

pub drop-none : (xs : Rows Place) (k : ℕ) → length xs ≤ k → drop k xs ≡ []
drop-none [] zero h = refl
drop-none [] (suc k) h = refl
drop-none (x ∷ xs) zero h = absurd (omega arith)
drop-none (x ∷ xs) (suc k) h = drop-none xs k (omega arith)

pub dropped : (xs : Rows Place) (k : ℕ) → length (drop k xs) ≡ length xs - k
dropped xs zero = omega arith
dropped [] (suc k) = omega arith
dropped (x ∷ xs) (suc k) = let more = dropped xs k in let same : length xs - k ≡ length (x ∷ xs) - suc k = omega arith in more ∙ same

-- ---- what a row, and the rows that are left, stand for

module _ (table : Table) where
  all : Rows Place
  all = placed table

  many : length (placed table) ≡ length table.rows
  many = as-many true table.rows table.gaps

  pub within : (k : ℕ) → k < length table.rows → k + 1 ≤ length (placed table)
  within k h = omega (arith, h, many)

  pub left-some : (k : ℕ) → k < length table.rows → drop k (placed table) ≡ slice_index_or (placed table) (k + 1 - 1) no_row ∷ drop (k + 1) (placed table)
  left-some k h =
      let back : k ≡ k + 1 - 1 = omega arith in
      let next : suc k ≡ k + 1 = omega arith in
      drop-row (placed table) k (omega (arith, h, many)) ∙ ap (λ n. slice_index_or (placed table) n no_row ∷ drop (suc k) (placed table)) back ∙ ap (λ n. slice_index_or (placed table) (k + 1 - 1) no_row ∷ drop n (placed table)) next

  pub left-none : (k : ℕ) → length table.rows ≤ k → drop k (placed table) ≡ []
  left-none k h = drop-none (placed table) k (omega (arith, h, many))

  pub left-length : (k : ℕ) → length (drop k (placed table)) ≡ length table.rows - k
  left-length k = dropped (placed table) k ∙ ap (λ n. n - k) many

pub first-is : (x : Row Place) (xs ys : Rows Place) → x ∷ xs ≡ ys → IsFirst ys (Some x)
first-is x xs ys e = subst (λ (zs : Rows Place). IsFirst zs (Some x)) e refl

-- The comments before the row in front of gap k, and those after it.
module _ (table : Table) (k : ℕ) (some : 0 < k) (inside : k ≤ length (placed table)) where
  abbrev the_gap : ℕ → List Shape
  the_gap i = slice_index_or table.gaps i []

  there : k - 1 < length table.rows
  there = omega (arith, inside, some, as-many true table.rows table.gaps)

  own : (d : Row Span) → slice_index_or (placed table) (k - 1) no_row ≡ placed_row true table.rows table.gaps (k - 1) (slice_index_or table.rows (k - 1) d)
  own d = row-placed true table.rows table.gaps (k - 1) no_row d there

  seen-shape : (rows : Rows Span) (i : ℕ) (d : Row Span) → i < length rows → shape_of_row rows i ≡ Some (slice_index_or rows i d).shape
  seen-shape [] i d h = absurd (omega arith)
  seen-shape (r ∷ rs) zero d h = refl
  seen-shape (r ∷ rs) (suc i) d h = seen-shape rs i d (omega arith)

  -- whether row i begins the file
  begins-first : (i : ℕ) → begins true i ≡ eqb i 0
  begins-first zero = refl
  begins-first (suc i) = sym (ne_eqb (suc i) 0 (λ e. omega (arith, e)))

  abbrev before_it : Attribution
  before_it = attribution (the_gap (k - 1)) (eqb (k - 1) 0) (shape_of_row table.rows (k - 1))

  is-before : attribution (the_gap (k - 1)) (begins true (k - 1)) (Some (slice_index_or table.rows (k - 1) bare_row).shape) ≡ before_it
  is-before = rw (begins-first (k - 1), seen-shape table.rows (k - 1) bare_row there) refl

  pub detached-is : (slice_index_or (placed table) (k - 1) no_row).at.detached ≡ before_it.detached
  detached-is = ap (λ (r : Row Place). r.at.detached) (own bare_row) ∙ ap (λ a. a.detached) is-before

  pub leading-is : (slice_index_or (placed table) (k - 1) no_row).at.leading ≡ before_it.leading
  leading-is = ap (λ (r : Row Place). r.at.leading) (own bare_row) ∙ ap (λ a. a.leading) is-before

  pub trailing-is : (slice_index_or (placed table) (k - 1) no_row).at.trailing ≡ (attribution (the_gap k) false (shape_of_row table.rows k)).trailing
  trailing-is =
      let next : suc (k - 1) ≡ k = omega (arith, some) in
      ap (λ (r : Row Place). r.at.trailing) (own bare_row)
      ∙ ap (λ n. (attribution (next_gap (drop n table.gaps)) false (next_shape (drop n table.rows))).trailing) next
      ∙ ap (λ g. (attribution g false (next_shape (drop k table.rows))).trailing) (gap-at table.gaps k)
      ∙ ap (λ s. (attribution (the_gap k) false s).trailing) (shape-at table.rows k)

  pub shape-is : (slice_index_or (placed table) (k - 1) no_row).shape ≡ (slice_index_or table.rows (k - 1) bare_row).shape
  shape-is = ap (λ (r : Row Place). r.shape) (own bare_row)

  pub span-is : (slice_index_or (placed table) (k - 1) no_row).at.span ≡ (slice_index_or table.rows (k - 1) bare_row).at
  span-is = ap (λ (r : Row Place). r.at.span) (own bare_row)

-- ---- answers

pub sided : {X Y E : Type 0} (r : Result X E) (f : X → Y) (y z : Y) → IfOk r (λ x. f x ≡ y) → z ≡ y → IfOk r (λ x. f x ≡ z)
sided (Ok x) f y z h e = h ∙ sym e
sided (Err d) f y z h e = tt

-- After the last row there is none.
pub none-there : {A : Type 0} (xs : List A) (k : ℕ) (d : A) → slice_get xs k ≡ None → slice_index_or xs k d ≡ d
none-there [] zero d e = refl
none-there [] (suc k) d e = refl
none-there (x ∷ xs) zero d e = absurd cc
none-there (x ∷ xs) (suc k) d e = none-there xs k d e

pub none-mapped : {A B : Type 0} (f : A → B) (o : Option A) → option_map f o ≡ None → o ≡ None
none-mapped f None e = refl
none-mapped f (Some x) e = absurd cc

-- Whether the first row is in a set of classes.
pub first-in : (P : Set) (rows : Rows Place) (first : Row Place) → IsFirst rows (Some first) → P (class first.shape) ≡ head_in (in_set P) rows
first-in P [] first is = absurd is
first-in P (x ∷ xs) first is = ap (λ (r : Row Place). P (class r.shape)) (sym is)
