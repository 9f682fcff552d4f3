-- Ranges without numbers.
use Rattle.std.specs.Prelude.{ℕ, ◌+◌, ℤ, Bool, List, [], ◌∷◌, ◌++◌, if◌then◌else◌}
use Rattle.protox_link_fault.specs.declared.LinkFault.{LinkFault}
use Rattle.protox_link_fault.specs.declared.LinkFaultKind.TheVariants.{EmptyRange}
use Rattle.protox_walk.specs.Declarations.{Path, nth}

module _ (file : ℕ) (path : Path) (tag : ℤ) where
  abbrev pub empty_fault : ℕ → LinkFault
  empty_fault n = record { file = file; path = nth path tag n; kind = EmptyRange }

  -- the faults of ranges, of which the first has the index n
  abbrev pub empty_faults : {A : Type 0} → (A → Bool) → ℕ → List A → List LinkFault
  empty_faults is_empty n [] = []
  empty_faults is_empty n (range ∷ more) = (if is_empty range then empty_fault n ∷ [] else []) ++ empty_faults is_empty (n + 1) more
