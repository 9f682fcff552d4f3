-- What a file sees, as a mark for each file.
use Rattle.std.specs.Prelude.{◌≡◌, ◌↔◌, ℕ, Bool, true, false, List, Some, slice_get, unwrap_or, IsTrue}
use Rattle.protox_imports.specs.Rows.{ImportsIn, PassesOnIn}
use Rattle.protox_imports.specs.Sees.{Sees, IsClosed}
use Rattle.protox_imports.specs.declared.row.FileImports.{FileImports}

-- The marks are those of the files that file f sees.
abbrev pub AreSeen : List FileImports → ℕ → List Bool → Type 0
AreSeen rows f marks = (h : ℕ)
    → (slice_get marks h ≡ Some true) ↔ Sees (ImportsIn rows) (PassesOnIn rows) f h

-- The marked files hold the file and what it imports, and with each file what that one imports
-- publicly; and all other files that do so hold them.
pub record AreLeast (rows : List FileImports) (f : ℕ) (marks : List Bool) : Type 0 where
  pub closed : IsClosed (ImportsIn rows) (PassesOnIn rows) f (λ h. unwrap_or (slice_get marks h) false)
  pub least : (holds : ℕ → Bool) → IsClosed (ImportsIn rows) (PassesOnIn rows) f holds
      → (h : ℕ) → slice_get marks h ≡ Some true → IsTrue (holds h)
