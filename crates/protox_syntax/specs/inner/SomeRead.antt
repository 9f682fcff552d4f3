-- Statements of a part that are read, with which nothing is wrong.
use Rattle.std.specs.Prelude.{◌≡◌, List, [], ◌∷◌, ◌++◌, map, Option}
use Rattle.protox_fault.specs.Faults.{Span}
use Rattle.protox_lexeme.specs.Shapes.{Row, Rows}
use Rattle.protox_ast.specs.Places.{Place}
use Rattle.protox_ast.specs.Spelling as s
use Rattle.protox_ast.specs.Tree as tree
use Rattle.protox_ast.specs.declared.ast.Comments.{Comments}
use Rattle.protox_ast.specs.declared.ast.File.{File}
use Rattle.protox_ast.specs.declared.ast.Syntax.{Syntax}
use Rattle.protox_syntax.specs.NextStatement.{IsNextStatement, IsNextSyntax, IsRight}
use Rattle.protox_syntax.specs.declared.statement_types.Statement.{Statement}
use Rattle.protox_syntax.specs.inner.Parts.{place_in, with_statement, with_statements, with_syntax}
use Rattle.protox_syntax.specs.inner.Statements.{next_first, statement_seen}

-- The syntax statement is read, or there is none, and other rows are left. The head has it.
pub record IsSyntaxRead (old new : Rows Place) (head now : File) : Type 0 where
  pub found : Option (Syntax × (Span × Comments))
  pub next : IsNextSyntax old new found
  pub now_is : now ≡ with_syntax head found
  pub some : new ≡ [] → ⊥

-- These are the rows behind the first.
abbrev pub IsBehindFirst : Rows Place → Rows Place → Type 0
IsBehindFirst old new = (first : Row Place) × (old ≡ first ∷ new)

-- One right statement is read, and other rows are left. The head has it.
pub record IsOneRead (old new : Rows Place) (head now : File) : Type 0 where
  pub found : Statement
  pub next : IsNextStatement (place_in head) old new found
  pub now_is : now ≡ with_statement head found
  pub some : new ≡ [] → ⊥

-- Each of these statements is right behind those before it. The first package statement before them
-- all has this place.
abbrev pub AreRight : Option Span → List (tree.Statement Place) → Type 0
AreRight first [] = Unit {0}
AreRight first (x ∷ xs) = IsRight first x × AreRight (next_first first (statement_seen x)) xs

-- Some right statements are read, and other rows are left, unless there are none. The head has them.
pub record AreRead (old new : Rows Place) (head now : File) : Type 0 where
  pub them : List (tree.Statement Place)
  pub rows : old ≡ s.many s.statement them ++ new
  pub right : AreRight (place_in head) them
  pub now_is : now ≡ with_statements head (map statement_seen them)
  pub some : (them ≡ [] → ⊥) → new ≡ [] → ⊥
