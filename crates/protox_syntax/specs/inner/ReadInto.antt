-- What reading a source gives, if nothing is wrong with it.
use Rattle.std.specs.Prelude.{◌≡◌, ℕ, List, [], length}
use Rattle.std.specs.List.{FoldsTo}
use Rattle.protox_ast.specs.Ast as ast
use Rattle.protox_ast.specs.Places.{Place}
use Rattle.protox_ast.specs.Tree as tree
use Rattle.protox_ast.specs.declared.ast.File.{File}
use Rattle.protox_ast.specs.declared.ast.FileItem.{FileItem}
use Rattle.protox_ast.specs.declared.ast.Syntax.{Syntax}
use Rattle.protox_syntax.specs.inner.OnWay.{table_in}
use Rattle.protox_syntax.specs.inner.ParsedTable.{IsWhole}

-- The tokens of the source are those of this file, and nothing is wrong with them. The head is the
-- file's syntax tree without its items, and the taker has taken these.
pub record IsReadInto {T : Type 0} (takes : Syntax → T → FileItem → T → Type 0) (source : List ℕ) (head : File) (old new : T) : Type 0 where
  pub f : tree.File Place
  pub whole : IsWhole (table_in source) f
  pub head_is : head ≡ record (ast.file (length source) f) { items = [] }
  pub taken : FoldsTo (takes head.syntax) old (ast.file (length source) f).items new
