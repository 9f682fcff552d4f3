-- What a file sees of a set of files.
use Rattle.std.specs.Prelude.{◌≡◌, ℕ, Bool, IsTrue, ◌⊎◌}

-- File f passes on file h: itself, or what a file passes on that it imports publicly.
pub data Passes (publicly : ℕ → ℕ → Type 0) : ℕ → ℕ → Type 0 where
  Itself : (f : ℕ) → Passes publicly f f
  Publicly : (f g h : ℕ) → publicly f g → Passes publicly g h → Passes publicly f h

-- A file sees itself, what it imports, and what those pass on by public imports.
abbrev pub Sees : (ℕ → ℕ → Type 0) → (ℕ → ℕ → Type 0) → ℕ → ℕ → Type 0
Sees imports publicly f h = (f ≡ h) ⊎ ((g : ℕ) × imports f g × Passes publicly g h)

-- These files are at least what a file sees: they hold it and what it imports, and with each file
-- what that one imports publicly.
pub record IsClosed (imports publicly : ℕ → ℕ → Type 0) (f : ℕ) (holds : ℕ → Bool) : Type 0 where
  pub itself : IsTrue (holds f)
  pub imported : (g : ℕ) → imports f g → IsTrue (holds g)
  pub passed_on : (g h : ℕ) → IsTrue (holds g) → publicly g h → IsTrue (holds h)
