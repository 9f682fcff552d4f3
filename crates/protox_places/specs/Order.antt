-- The order of locations: by path, and for one path by where they start.
use Rattle.std.specs.Prelude.{◌≡◌, ◌≤◌, ◌<◌, ◌↔◌, true, ℕ, ℤ, List, [], ◌∷◌, length, slice_index_or, take, ⊤}
use Rattle.std.specs.Ordering.{is_lt, int_cmp}
use Rattle.std.specs.Cmp.Lexicographic.{slice_cmp}
use Rattle.protox_ast.specs.Basics.{Each}
use Rattle.protox_descriptor.specs.declared.descriptor.source_code_info.Location.{Location}

-- The one path comes before the other: number by number, and a path before those that begin with
-- it.
abbrev pub ComesBefore : List ℤ → List ℤ → Type 0
ComesBefore xs ys = is_lt (slice_cmp int_cmp xs ys) ≡ true

-- The one location starts before the other, by line and then by column.
abbrev pub StartsBefore : Location → Location → Type 0
StartsBefore a b = ComesBefore (take 2 a.span) (take 2 b.span)

-- The one location comes before the other: its path does, or they have the same path and `Same`
-- holds of them.
pub data Ahead (Same : Location → Location → Type 0) (a b : Location) : Type 0 where
  by_path : ComesBefore a.path b.path → Ahead Same a b
  by_start : a.path ≡ b.path → Same a b → Ahead Same a b

-- Each element comes before all behind it.
abbrev pub InOrder : (Location → Location → Type 0) → List Location → Type 0
InOrder Same [] = ⊤
InOrder Same (l ∷ more) = Each (Ahead Same l) more × InOrder Same more

-- The locations are sorted by path. Those of one path may be in any order.
abbrev pub AreByPath : List Location → Type 0
AreByPath = InOrder (λ a b. ⊤)

-- The locations with this path are those from one index to before another.
abbrev pub AreThoseAt : List Location → List ℤ → ℕ → ℕ → Type 0
AreThoseAt locations path start end = (index : ℕ) (other : Location) → index < length locations
    → ((slice_index_or locations index other).path ≡ path) ↔ ((start ≤ index) × (index < end))
