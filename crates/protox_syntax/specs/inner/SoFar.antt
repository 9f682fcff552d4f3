-- A file, as far as it has been read.
use Rattle.std.specs.Prelude.{◌≡◌, [], Option, None}
use Rattle.protox_fault.specs.Faults.{Span}
use Rattle.protox_ast.specs.inner.Fine.{IsFine}
use Rattle.protox_ast.specs.KeywordWalk as k
use Rattle.protox_ast.specs.Keywords.{Each}
use Rattle.protox_ast.specs.Places.{Place}
use Rattle.protox_ast.specs.Tree as tree
use Rattle.protox_grammar.specs.Bodies as bodies
use Rattle.protox_grammar.specs.Noted.{noted_nodes, steps}
use Rattle.protox_grammar.specs.Told.{first_behind, place_of}
use Rattle.protox_declarations.specs.inner.Options.{here}
use Rattle.protox_syntax.specs.inner.Statements.{levels}

-- A syntax statement, or none, and no other statement yet.
abbrev pub begun : Option (tree.Syntax Place) → tree.File Place
begun x = record { syntax = x; statements = [] }

-- Nothing is wrong with the file so far. Its first package statement has this place.
pub record IsRightSoFar (first : Option Span) (f : tree.File Place) : Type 0 where
  pub fits : k.Each (bodies.StatementHas (bodies.FitsMbody levels)) f.statements
  pub fine : Each IsFine (noted_nodes None here (steps levels f))
  pub place : place_of (first_behind None (steps levels f)) ≡ first
