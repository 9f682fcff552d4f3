-- Sets of names.
use Rattle.std.specs.Prelude.{ℕ, Bool, List}
use Rattle.std.specs.Borrow.{Bor}
use Rattle.std.specs.BTreeSet.{BTreeSet, contains_by}
use Rattle.std.specs.Cmp.Lexicographic.{slice_cmp}
use Rattle.std.specs.Ordering.{nat_cmp}

-- The set has the name.
abbrev pub has : BTreeSet (Bor (List ℕ)) → List ℕ → Bool
has names name = contains_by (λ key. slice_cmp nat_cmp name key.now) names
