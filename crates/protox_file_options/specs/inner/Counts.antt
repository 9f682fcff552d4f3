-- How many values each field has, as a map has it.
use Rattle.std.specs.Prelude.{ℕ, List}
use Rattle.std.specs.BTreeMap.{BTreeMap, get_by}
use Rattle.std.specs.Borrow.{Bor}
use Rattle.std.specs.Cmp.Lexicographic.{slice_cmp}
use Rattle.std.specs.Option.{unwrap_or}
use Rattle.std.specs.Ordering.{nat_cmp}

-- the count that the map has for a path; none is 0
abbrev pub count_in : BTreeMap (Bor (List ℕ)) ℕ → List ℕ → ℕ
count_in counts path = unwrap_or (get_by (λ key. slice_cmp nat_cmp path key.now) counts) 0
