use Rattle.std.proofs.Common.{ℕ, Contains, take}
use Rattle.protox_imports.specs.Passing.{PassedIn}
use Rattle.protox_imports.specs.inner.Passing.{Adds}
use Rattle.protox_imports.proofs.passes.add_rows.Given as goal

abbrev pub invariant-loop-file : goal.invariant-loop-file
invariant-loop-file l =
    Adds l.initial.marks (λ h. (g : ℕ) × Contains (take l.file-index l.files) g × PassedIn l.rows g h) l.marks
