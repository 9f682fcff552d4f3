-- What is noted while a file is read: checked nodes, and whether an aggregate is open.
use Rattle.std.specs.Prelude.{ℕ, List, [], ◌∷◌, Bool, true, false, Option, Some, None}
use Rattle.protox_lexeme.specs.Shapes.{Rows}
use Rattle.protox_ast.specs.Tree as t
use Rattle.protox_ast.specs.CheckedNodes.{CheckedNode, APackageAgain, ATooDeep}
use Rattle.protox_grammar.specs.Steps.{ANode, APackage, AKeyword, ADeepBody, ADeeperBody, AnOpenBrace, ACloseBrace, Token, Note, Steps}
use Rattle.protox_grammar.specs.Bodies as rule

-- The steps of reading rows as a file. Bodies are read at most n deep.
abbrev pub trace : {M : Type 0} → ℕ → Rows M → Steps M
trace n rows = (rule.file (rule.mbody_at n)).trace rows

-- The steps of a file's tree. Bodies are read at most n deep.
abbrev pub steps : {M : Type 0} → ℕ → t.File M → Steps M
steps n f = (rule.file (rule.mbody_at n)).steps f

-- The checked nodes that are noted. A package statement after the first is noted with the first. A
-- body that is too deep is noted with the keyword before it. `first` is the first package statement
-- so far, if there is one, and `keyword` the last keyword.
abbrev pub noted_nodes : {M : Type 0} → Option (t.Package M) → M → Steps M → List (CheckedNode M)
noted_nodes first keyword [] = []
noted_nodes first keyword (Token r ∷ l) = noted_nodes first keyword l
noted_nodes first keyword (Note (ANode x) ∷ l) = x ∷ noted_nodes first keyword l
noted_nodes None keyword (Note (APackage x) ∷ l) = noted_nodes (Some x) keyword l
noted_nodes (Some first) keyword (Note (APackage x) ∷ l) = APackageAgain first x ∷ noted_nodes (Some first) keyword l
noted_nodes first keyword (Note (AKeyword m) ∷ l) = noted_nodes first m l
noted_nodes first keyword (Note (ADeepBody m) ∷ l) = ATooDeep keyword m ∷ noted_nodes first keyword l
noted_nodes first keyword (Note (ADeeperBody m) ∷ l) = noted_nodes first keyword l
noted_nodes first keyword (Note (AnOpenBrace m) ∷ l) = noted_nodes first keyword l
noted_nodes first keyword (Note (ACloseBrace m) ∷ l) = noted_nodes first keyword l

-- Whether an aggregate is open after these steps: the last brace that they note opens one. If they
-- note none, it is as before.
abbrev pub open_behind : {M : Type 0} → Bool → Steps M → Bool
open_behind before [] = before
open_behind before (Token r ∷ l) = open_behind before l
open_behind before (Note (AnOpenBrace m) ∷ l) = open_behind true l
open_behind before (Note (ACloseBrace m) ∷ l) = open_behind false l
open_behind before (Note e ∷ l) = open_behind before l
