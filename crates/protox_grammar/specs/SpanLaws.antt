-- Where the nodes of a syntax tree stand in the source.
use Rattle.std.specs.Prelude.{◌≡◌, ℕ, List, length}
use Rattle.std.specs.Str.{IsUtf8}
use Rattle.protox_lexeme.specs.Lexemes.{cut}
use Rattle.protox_lexeme.specs.Table.{table_of}
use Rattle.protox_ast.specs.Ast as ast
use Rattle.protox_ast.specs.Places.{Place, placed}
use Rattle.protox_ast.specs.Siblings.{FileStands}
use Rattle.protox_ast.specs.Spelling.{spell}
use Rattle.protox_ast.specs.Tree as tree

-- If the tokens of a source spell a tree, the nodes of its syntax tree stand in the source. The
-- parts of a node stand within its span, one after another, and each has at least one byte.
abbrev pub NodesStand : Type 0
NodesStand = (source : List ℕ) → IsUtf8 source → (f : tree.File Place)
    → placed (table_of (cut 0 source)) ≡ spell f
    → FileStands (length source) (ast.file (length source) f)
