-- A map from names to the index of the first that is the name.
use Rattle.std.specs.Prelude.{ℕ, List, Option, Some, None, Bool, if◌then◌else◌}
use Rattle.std.specs.BTreeMap.{BTreeMap, get_by}
use Rattle.std.specs.Borrow.{Bor}
use Rattle.std.specs.Cmp.Lexicographic.{slice_cmp}
use Rattle.std.specs.Ordering.{nat_cmp}

-- the index that the map has for a name
abbrev pub first_in : BTreeMap (Bor (List ℕ)) ℕ → List ℕ → Option ℕ
first_in firsts name = get_by (λ key. slice_cmp nat_cmp name key.now) firsts

-- the index there was, else the new one, if it is for this name
abbrev pub first_of : Option ℕ → Bool → ℕ → Option ℕ
first_of (Some n) is_for new = Some n
first_of None is_for new = if is_for then Some new else None
