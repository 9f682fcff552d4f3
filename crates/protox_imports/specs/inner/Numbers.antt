-- A map from the names of files to their numbers.
use Rattle.std.specs.Prelude.{ℕ, List, Option, Some, None, Bool, if◌then◌else◌}
use Rattle.std.specs.BTreeMap.{BTreeMap, get_by}
use Rattle.std.specs.Borrow.{Bor}
use Rattle.std.specs.Cmp.Lexicographic.{slice_cmp}
use Rattle.std.specs.Ordering.{nat_cmp}

-- the number that the map has for a name
abbrev pub number_in : BTreeMap (Bor (List ℕ)) ℕ → List ℕ → Option ℕ
number_in numbers name = get_by (λ key. slice_cmp nat_cmp name key.now) numbers

-- the number there was, else the new one, if it is for this name
abbrev pub first_of : Option ℕ → Bool → ℕ → Option ℕ
first_of (Some g) is_for g' = Some g
first_of None is_for g' = if is_for then Some g' else None
