use Rattle.std.proofs.Common.{◌≡◌, ◌<◌, ℕ, []}
use Rattle.protox_imports.specs.DepthFirst.{Visits, all_files}
use Rattle.protox_imports.specs.inner.Walk.{IsNew, IsWalk}
use Rattle.protox_imports.proofs.sorted.in_order.Given as goal

abbrev pub invariant-loop-file : goal.invariant-loop-file
invariant-loop-file l = record {
  walk : IsWalk l.imports.files l.walk.states.items [] l.walk.placed.items;
  ends : l.walk.stack.items ≡ [];
  visits : Visits l.imports.files [] (all_files l.file) l.walk.placed.items;
  came : (f : ℕ) → f < l.file → IsNew l.walk.states.items f → ⊥;
}
