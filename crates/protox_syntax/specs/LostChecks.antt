-- No check is lost: if some file goes on from the first tokens of a source, and a node of it that
-- ends among them is wrong, the fault is in the list. CheckedNodes and Checks of protox_ast say
-- which nodes are checked while reading, and what is wrong with each.
use Rattle.std.specs.Prelude.{◌≡◌, ◌≢◌, ◌<◌, ℕ, true, false, List, IfSome, Any, Contains, slice_get}
use Rattle.protox_fault.specs.declared.error.ParseErrorKind.{ParseErrorKind}
use Rattle.protox_fault.specs.declared.error.SyntaxFailure.{SyntaxFailure}
use Rattle.protox_fault.specs.declared.error.SyntaxFailure.TheVariants.{Faults, OutOfMemory}
use Rattle.protox_lexeme.specs.Lexemes.{Lexeme, cut}
use Rattle.protox_lexeme.specs.Shapes.{Invalid}
use Rattle.protox_lexeme.specs.Table.{rows_of}
use Rattle.protox_ast.specs.AstParts.{strings_value}
use Rattle.protox_ast.specs.Basics.{Each}
use Rattle.protox_ast.specs.CheckedNodes.{CheckedNode, ASyntax, ATooDeep, checked_nodes, node_end}
use Rattle.protox_ast.specs.Checks.{is_known_syntax}
use Rattle.protox_ast.specs.Fronts.{GoesOn, shapes}
use Rattle.protox_ast.specs.Tree as t
use Rattle.protox_ast.specs.Truth.{IsWrongBefore, is_run}

-- ---- exceptions

-- Two nodes end reading: a syntax statement that names no known syntax, and a body that is too
-- deep. Of such a body nothing is read up to its `}`.
abbrev pub EndsReading : CheckedNode ℕ → Type 0
EndsReading (ASyntax x) = is_known_syntax (strings_value x) ≡ false
EndsReading (ATooDeep keyword open_at) = Unit {0}
EndsReading _ = ⊥

-- A node is reached if no other node of its file ends reading among the first n tokens.
abbrev pub IsReached : t.File ℕ → ℕ → CheckedNode ℕ → Type 0
IsReached f n node = Each (λ other. EndsReading other → node_end other < n → other ≡ node) (checked_nodes f)

-- A run of strings is checked once it has ended: at a token that is no string, or at the end of the
-- source. An invalid character may be part of one more string, so a run before one isn't checked.
-- The character is a fault itself.
abbrev pub HasEnded : List Lexeme → ℕ → CheckedNode ℕ → Type 0
HasEnded lexemes n node = is_run node ≡ true → IfSome (slice_get (rows_of lexemes) n) (λ row. row.shape ≢ Invalid)

-- ---- what is kept

-- The node ends with the last of the first n tokens, the fault is one of that node, and no
-- exception holds.
abbrev pub IsCheckedBefore : List Lexeme → t.File ℕ → ℕ → ParseErrorKind → CheckedNode ℕ → Type 0
IsCheckedBefore lexemes f n wrong node = IsWrongBefore lexemes n wrong node × IsReached f n node × HasEnded lexemes n node

-- If some file goes on behind the first n tokens and has such a node, the fault is in the list. No
-- file goes on behind an unexpected token. `AllFaults` alone says which faults are found there.
abbrev pub NoneIsLost : List Lexeme → List ParseErrorKind → Type 0
NoneIsLost lexemes errors =
    (n : ℕ) (f : t.File ℕ) (wrong : ParseErrorKind) → GoesOn (shapes (rows_of lexemes)) n f → Any (IsCheckedBefore lexemes f n wrong) (checked_nodes f) → Contains errors wrong

-- No check of the source is lost; or memory ran out.
abbrev pub NoCheckIsLost : List ℕ → SyntaxFailure → Type 0
NoCheckIsLost source OutOfMemory = Unit {0}
NoCheckIsLost source (Faults v) = NoneIsLost (cut 0 source) v.items
