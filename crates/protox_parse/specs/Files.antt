-- Which sources are files, and the translation of a file.
use Rattle.std.specs.Prelude.{◌≡◌, ℕ, List, length}
use Rattle.protox_ast.specs.Accepted.{IsAccepted}
use Rattle.protox_ast.specs.Ast as ast
use Rattle.protox_ast.specs.Places.{Place}
use Rattle.protox_ast.specs.Tree as t
use Rattle.protox_checks.specs.Faults.{IsFaultless}
use Rattle.protox_descriptor.specs.declared.descriptor.FileDescriptorProto.{FileDescriptorProto}
use Rattle.protox_generate.specs.File.{file_descriptor}

-- The source is accepted with a tree, and the checks find no fault in its syntax tree.
abbrev pub IsFile : List ℕ → Type 0
IsFile source = (f : t.File Place) × IsAccepted source f × IsFaultless (ast.file (length source) f)

-- The source is such a file, and this is its descriptor under that name.
abbrev pub IsTranslation : List ℕ → List ℕ → FileDescriptorProto → Type 0
IsTranslation name source d = (f : t.File Place) × IsAccepted source f
    × IsFaultless (ast.file (length source) f)
    × (d ≡ file_descriptor name source (ast.file (length source) f))
