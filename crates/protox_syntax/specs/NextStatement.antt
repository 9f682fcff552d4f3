-- What rows begin with, if nothing is wrong with it.
use Rattle.std.specs.Prelude.{◌≡◌, ◌++◌, Bool, true, false, Option, None, option_map}
use Rattle.protox_fault.specs.Faults.{Span}
use Rattle.protox_lexeme.specs.Shapes.{Rows}
use Rattle.protox_ast.specs.inner.Fine.{IsFine}
use Rattle.protox_ast.specs.Keywords.{Each}
use Rattle.protox_ast.specs.Places.{Place}
use Rattle.protox_ast.specs.Spelling as s
use Rattle.protox_ast.specs.Tree as tree
use Rattle.protox_ast.specs.declared.ast.Comments.{Comments}
use Rattle.protox_ast.specs.declared.ast.Syntax.{Syntax}
use Rattle.protox_grammar.specs.Bodies as bodies
use Rattle.protox_grammar.specs.Class.{in_set, only}
use Rattle.protox_grammar.specs.Noted.{noted_nodes}
use Rattle.protox_grammar.specs.Reader.{head_in}
use Rattle.protox_grammar.specs.Rules as r
use Rattle.protox_grammar.specs.Steps.{Steps, steps_of_option}
use Rattle.protox_grammar.specs.Told.{first_behind, place_of}
use Rattle.protox_grammar.specs.Token as token
use Rattle.protox_grammar.specs.declared.note.Noted.{Noted}
use Rattle.protox_grammar.specs.declared.note.Noted.TheVariants.{Fault, TextFormat}
use Rattle.protox_syntax.specs.declared.statement_types.Statement as statement_type
use Rattle.protox_syntax.specs.inner.Statements.{levels, next_first, statement_rule, statement_seen, syntax_seen}

-- Whether what is noted is no fault.
abbrev pub is_no_fault : Noted → Bool
is_no_fault (Fault f) = false
is_no_fault (TextFormat open_now) = true

-- the steps of a syntax statement that may be absent
abbrev pub syntax_steps : Option (tree.Syntax Place) → Steps Place
syntax_steps x = steps_of_option r.syntax.steps x

-- The rows begin with the word `syntax`.
abbrev pub BeginWithSyntax : Rows Place → Type 0
BeginWithSyntax rows = head_in (in_set (only token.syntax)) rows ≡ true

-- The rows begin with a syntax statement, or with none, and its syntax is known.
pub record IsNextSyntax (old new : Rows Place) (found : Option (Syntax × (Span × Comments))) : Type 0 where
  pub it : Option (tree.Syntax Place)
  pub rows : old ≡ s.maybe s.syntax it ++ new
  pub seen : found ≡ option_map syntax_seen it
  pub fine : (keyword : Place) → Each IsFine (noted_nodes None keyword (syntax_steps it))
  pub no_package : first_behind None (syntax_steps it) ≡ None
  pub absent : it ≡ None → BeginWithSyntax old → ⊥

-- The statement keeps the keyword rules, has messages of at most 31 levels, and none of its nodes
-- has a fault, where `first` is the place of the first package statement before it.
pub record IsRight (first : Option Span) (x : tree.Statement Place) : Type 0 where
  pub fits : bodies.StatementHas (bodies.FitsMbody levels) x
  pub fine : (before : Option (tree.Package Place)) (keyword : Place) → place_of before ≡ first → Each IsFine (noted_nodes before keyword (statement_rule.steps x))
  pub next : (before : Option (tree.Package Place)) → place_of before ≡ first → place_of (first_behind before (statement_rule.steps x)) ≡ next_first first (statement_seen x)

-- The rows begin with a statement, and nothing is wrong with it.
pub record IsNextStatement (first : Option Span) (old new : Rows Place) (found : statement_type.Statement) : Type 0 where
  pub it : tree.Statement Place
  pub rows : old ≡ s.statement it ++ new
  pub seen : found ≡ statement_seen it
  pub right : IsRight first it
