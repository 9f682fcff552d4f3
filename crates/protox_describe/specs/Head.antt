-- What begins a file: its syntax, its package, and which imports are public or weak.
use Rattle.std.specs.Prelude.{ℕ, Bool, true, false, List, Option, Some, None, codes}
use Rattle.protox_fault.specs.Faults.{Span}
use Rattle.protox_ast.specs.Names.{name_text}
use Rattle.protox_ast.specs.declared.ast.Import.{Import}
use Rattle.protox_ast.specs.declared.ast.ImportKind.{ImportKind}
use Rattle.protox_ast.specs.declared.ast.ImportKind.TheVariants as import_kind
use Rattle.protox_ast.specs.declared.ast.Package.{Package}
use Rattle.protox_ast.specs.declared.ast.Syntax.{Syntax}
use Rattle.protox_ast.specs.declared.ast.Syntax.TheVariants.{Proto2, Proto3}

-- what `syntax` says: `proto3`, or nothing for proto2
abbrev pub syntax_name : Syntax → Option (List ℕ)
syntax_name Proto2 = None
syntax_name Proto3 = Some (codes "proto3")

-- the package's name as it is written, with dots
abbrev pub package_name : Option Package → Option (List ℕ)
package_name None = None
package_name (Some statement) = Some (name_text statement.name)

-- The import is `public`.
abbrev pub kind_is_public : Option (ImportKind × Span) → Bool
kind_is_public (Some (import_kind.Public, span)) = true
kind_is_public _ = false

-- The import is `weak`.
abbrev pub kind_is_weak : Option (ImportKind × Span) → Bool
kind_is_weak (Some (import_kind.Weak, span)) = true
kind_is_weak _ = false

-- The import is `public`.
abbrev pub is_public : Import → Bool
is_public statement = kind_is_public statement.kind

-- The import is `weak`.
abbrev pub is_weak : Import → Bool
is_weak statement = kind_is_weak statement.kind
