-- A source that is read, and whose items are handed over.
use Rattle.std.specs.Prelude.{◌≡◌, ℕ, List, []}
use Rattle.std.specs.List.{FoldsTo}
use Rattle.protox_ast.specs.Accepted.{IsFileOf}
use Rattle.protox_ast.specs.declared.ast.File.{File}
use Rattle.protox_ast.specs.declared.ast.FileItem.{FileItem}
use Rattle.protox_ast.specs.declared.ast.Syntax.{Syntax}

-- The source has a syntax tree. The head is this tree without its items, and the taker has taken these,
-- one after another.
pub record IsTakenFrom {T : Type 0} (takes : Syntax → T → FileItem → T → Type 0) (source : List ℕ) (head : File) (old new : T) : Type 0 where
  pub file : File
  pub of_source : IsFileOf source file
  pub head_is : head ≡ record file { items = [] }
  pub taken : FoldsTo (takes head.syntax) old file.items new
