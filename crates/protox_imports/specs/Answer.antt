-- The answer of `in_order`.
use Rattle.std.specs.Prelude.{ℕ}
use Rattle.protox_imports.specs.Order.{IsInOrder, IsCycle}
use Rattle.protox_imports.specs.declared.sorted.Order.{Order}
use Rattle.protox_imports.specs.declared.sorted.Order.TheVariants.{Sorted, Cycle}

-- An order in which imports come first, or a cycle of imports.
abbrev pub IsAnswer : (ℕ → ℕ → Type 0) → ℕ → Order → Type 0
IsAnswer imports count (Sorted files) = IsInOrder imports count files.items
IsAnswer imports count (Cycle files) = IsCycle imports files.items
