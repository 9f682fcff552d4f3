use Rattle.std.proofs.Common.{ℕ, Some, Contains, take}
use Rattle.protox_imports.specs.Passing.{PassedIn}
use Rattle.protox_imports.specs.inner.Passing.{Adds}
use Rattle.protox_imports.proofs.passes.add_named.Given as goal

abbrev pub invariant-loop-file : goal.invariant-loop-file
invariant-loop-file l =
    Adds l.initial.marks (λ h. (g : ℕ) × Contains (take l.file-index l.named) (Some g) × PassedIn l.rows g h) l.marks
