-- What a refusal says of its source.
use Rattle.std.specs.Prelude.{◌≡◌, ◌≢◌, ℕ, List, [], ◌∷◌, length, ◌⊎◌}
use Rattle.protox_fault.specs.Faults.{LiesIn}
use Rattle.protox_fault.specs.declared.error.ParseErrorKind.TheVariants.{FileTooLarge}
use Rattle.protox_ast.specs.Accepted.{Fits}
pub use Rattle.protox_ast.specs.AstParts.{first_of}
use Rattle.protox_ast.specs.Keywords.{Each}
use Rattle.protox_ast.specs.declared.ast.File.{File}
use Rattle.protox_checks.specs.Faults.{Wrong}
use Rattle.protox_parse.specs.Refusal.{Refusal}
use Rattle.protox_parse.specs.declared.failure.ParseFailure.{ParseFailure}
use Rattle.protox_parse.specs.declared.failure.ParseFailure.TheVariants.{Refused, OutOfMemory}

-- The failure is want of memory.
abbrev pub IsOutOfMemory : ParseFailure → Type 0
IsOutOfMemory OutOfMemory = Unit {0}
IsOutOfMemory (Refused e) = ⊥

-- If the source is within the length limit, the refusal holds the source, has at least one fault,
-- and each fault lies in the source. If it is too long, that is the only fault, and the refusal
-- holds no text.
abbrev pub IsOfSource : List ℕ → Refusal → Type 0
IsOfSource source e =
    (Fits source × (e.source ≡ source) × (e.errors ≢ []) × Each (LiesIn (length source)) e.errors)
    ⊎ ((Fits source → ⊥) × (e.source ≡ []) × (e.errors ≡ FileTooLarge ∷ []))

-- The refusal has the file's name and is of this source; or memory ran out.
abbrev pub IsRefusalOf : List ℕ → List ℕ → ParseFailure → Type 0
IsRefusalOf name source OutOfMemory = Unit {0}
IsRefusalOf name source (Refused e) = (e.file ≡ name) × IsOfSource source e

-- Each fault of the refusal is a fault of the syntax tree; or memory ran out.
abbrev pub AreWrongOf : File → ParseFailure → Type 0
AreWrongOf file OutOfMemory = Unit {0}
AreWrongOf file (Refused e) = Each (Wrong file) e.errors
