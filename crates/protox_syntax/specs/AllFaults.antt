-- The whole list of faults of a source, in the order in which they are found. The rules of the
-- grammar define it. Reading a statement is a list of steps: a token is taken, a node ends that is
-- checked, an aggregate begins or ends.
use Rattle.std.specs.Prelude.{codes, ◌≡◌, ℕ, zero, suc, ◌+◌, ◌-◌, ◌==◌, Bool, true, false, if◌then◌else◌, List, [], ◌∷◌, ◌++◌, drop, length, map, slice_index_or, slice_get, Option, Some, None, Result, Ok, Err}
use Rattle.protox_fault.specs.Faults.{Span, faults_in}
use Rattle.protox_fault.specs.declared.error.ParseErrorKind.{ParseErrorKind}
use Rattle.protox_fault.specs.declared.error.ParseErrorKind.TheVariants as fault
use Rattle.protox_lexeme.specs.Lexemes.{cut}
use Rattle.protox_lexeme.specs.Shapes.{Row, Rows}
use Rattle.protox_lexeme.specs.Printed.{printed}
use Rattle.protox_lexeme.specs.Table.{Table, table_of}
use Rattle.protox_lexeme.specs.TokenClass.{class}
use Rattle.protox_ast.specs.AstParts.{text_of, strings_value, strings_span}
use Rattle.protox_ast.specs.CheckedNodes.{CheckedNode, ASyntax, AnImport, AReservedName, AGroupName, APackageAgain, ATooDeep}
use Rattle.protox_ast.specs.Checks.{package_span}
use Rattle.protox_ast.specs.Places.{Place, placed}
use Rattle.protox_ast.specs.Tree as tree
use Rattle.protox_ast.specs.Truth.{is_terminator}
use Rattle.protox_grammar.specs.Bodies.{mbody_at, statement}
use Rattle.protox_grammar.specs.Class.{among, in_set, just_word}
use Rattle.protox_grammar.specs.Reader.{Refusal, Unexpected, Deep, head_in}
use Rattle.protox_grammar.specs.Rule.{Rule, optional}
use Rattle.protox_grammar.specs.Rules.{syntax}
use Rattle.protox_grammar.specs.Steps.{ANode, APackage, AKeyword, ADeepBody, ADeeperBody, AnOpenBrace, ACloseBrace, Token, Note, Steps}
use Rattle.protox_grammar.specs.Token as token
use Rattle.protox_grammar.specs.Told.{behind, first_behind, group_faults, ident_faults, is_invalid, path_faults, span_of, syntax_faults, text_faults}

-- ---- reading rows

-- How far the list has come: the faults so far, the next row whose faults are not among them, and
-- whether that row counts as inside an aggregate. A row is a token with the gap before it.
pub record Progress : Type 0 where
  pub errors : List ParseErrorKind
  pub next : ℕ
  pub text_format : Bool

-- the same three as one value
abbrev pub progress : List ParseErrorKind → ℕ → Bool → Progress
progress errors next text_format = record { errors = errors; next = next; text_format = text_format }

-- before anything is read
abbrev pub beginning : Progress
beginning = progress [] 0 false

-- The faults of `n` rows and their gaps, from row `low` on, in their order.
abbrev pub faults_of_rows : Bool → List (List ParseErrorKind) → ℕ → ℕ → List ParseErrorKind
faults_of_rows text_format faults low zero = []
faults_of_rows text_format faults low (suc n) = faults_of_rows text_format faults low n ++ faults_in text_format (slice_index_or faults (low + n) [])

-- how many rows must be read until `left` of `total` rows are left
abbrev pub rows_to_read : ℕ → ℕ → ℕ → ℕ
rows_to_read total left next = (total - left) - next

-- All rows are read until `left` of them are left. Their faults join the list.
abbrev pub read_until : List (List ParseErrorKind) → ℕ → ℕ → Progress → Progress
read_until faults total left p = progress (p.errors ++ faults_of_rows p.text_format faults p.next (rows_to_read total left p.next)) (p.next + rows_to_read total left p.next) p.text_format

-- All rows of a table are read until `left` of them are left. A row's faults are found when it is
-- read, in the mode of that moment. The end of the source counts as a row.
abbrev pub read : Table → ℕ → Progress → Progress
read t left p = read_until t.faults (length t.rows + 1) left p

-- ---- what is found at a node

-- One fault joins the list.
abbrev pub found : ParseErrorKind → Progress → Progress
found wrong p = progress (p.errors ++ wrong ∷ []) p.next p.text_format

-- From here on rows count as inside an aggregate, or as outside.
abbrev pub in_mode : Bool → Progress → Progress
in_mode inside p = progress p.errors p.next inside

-- Faults of a node join the list once the first row behind the node is read.
abbrev pub found_behind : Table → Rows Place → List ParseErrorKind → Progress → Progress
found_behind t rows [] p = p
found_behind t rows (wrong ∷ more) p = found_behind t rows more (found wrong (read t (length rows) p))

-- A run of strings ends before the first token that is no string. If an invalid character stands
-- there, the run isn't checked.
abbrev pub found_of_run : Table → Rows Place → List ParseErrorKind → Progress → Progress
found_of_run t rows wrong p = if head_in is_invalid rows then p else found_behind t rows wrong p

-- A group's name is checked before the row behind it is read.
abbrev pub found_at_once : Table → Rows Place → List ParseErrorKind → Progress → Progress
found_at_once t rows [] p = p
found_at_once t rows (wrong ∷ more) p = found_at_once t rows more (found wrong (read t (suc (length rows)) p))

-- the faults of a checked node, with the rows behind it
abbrev pub found_at : Table → CheckedNode Place → Rows Place → Progress → Progress
found_at t (ASyntax x) rows p = found_of_run t rows (syntax_faults (strings_value x) (strings_span x)) p
found_at t (AnImport x) rows p = found_of_run t rows (text_faults (strings_value x) (strings_span x) ++ path_faults (text_of (strings_value x)) (strings_span x)) p
found_at t (AReservedName x) rows p = found_of_run t rows (text_faults (strings_value x) (strings_span x) ++ ident_faults (text_of (strings_value x)) (strings_span x)) p
found_at t (AGroupName x) rows p = found_at_once t rows (group_faults x.0 x.1.span) p
found_at t (APackageAgain first again) rows p = found_behind t rows (fault.DuplicatePackage (package_span span_of first) (package_span span_of again) ∷ []) p
found_at t (ATooDeep keyword brace) rows p = found_behind t rows (fault.MessageNestingTooDeep keyword.span ∷ []) p

-- ---- along a statement

-- The faults along these steps. `first` is the first package statement before them, if there is
-- one. `keyword` is the latest word that began a message or a group.
abbrev pub along : Table → Option (tree.Package Place) → Place → Steps Place → Rows Place → Progress → Progress
along t first keyword [] rows p = p
along t first keyword (Token row ∷ more) rows p = along t first keyword more (behind rows) p
along t first keyword (Note (ANode node) ∷ more) rows p = along t first keyword more rows (found_at t node rows p)
along t None keyword (Note (APackage x) ∷ more) rows p = along t (Some x) keyword more rows p
along t (Some first) keyword (Note (APackage x) ∷ more) rows p = along t (Some first) keyword more rows (found_at t (APackageAgain first x) rows p)
along t first keyword (Note (AKeyword word) ∷ more) rows p = along t first word more rows p
along t first keyword (Note (ADeepBody brace) ∷ more) rows p = along t first keyword more rows (found_at t (ATooDeep keyword brace) rows p)
along t first keyword (Note (ADeeperBody brace) ∷ more) rows p = along t first keyword more rows p
along t first keyword (Note (AnOpenBrace brace) ∷ more) rows p = along t first keyword more rows (in_mode true (read t (suc (length rows)) p))
along t first keyword (Note (ACloseBrace brace) ∷ more) rows p = along t first keyword more rows (in_mode false (read t (suc (length rows)) p))

-- the keyword before any keyword is read
abbrev pub nowhere : Place
nowhere = record { span = record { start = 0; end = 0 }; detached = []; leading = None; trailing = None }

-- ---- a statement that is refused

-- the row at which `left` rows are left, if there is one
abbrev pub row_at : Rows Span → ℕ → Option (Row Span)
row_at rows left = slice_get rows (length rows - left)

-- The fault of a token that isn't expected. An invalid token has none here: its own fault says so.
abbrev pub refusal : List ℕ → Option (Row Span) → Option ParseErrorKind
refusal expected None = Some (fault.UnexpectedEof expected)
refusal expected (Some r) = if is_invalid r.shape then None else Some (fault.UnexpectedToken r.at expected (printed r.shape))

-- Reading stops with this fault, if there is one, and outside any aggregate.
abbrev pub stopped_with : Option ParseErrorKind → Progress → Progress
stopped_with None p = in_mode false p
stopped_with (Some wrong) p = in_mode false (found wrong p)

-- The row at which `left` rows are left isn't expected. What is skipped behind it counts as outside
-- any aggregate. (The words of what was expected are left out.)
abbrev pub refused : Table → ℕ → Progress → Progress
refused t left p = stopped_with (refusal [] (row_at t.rows left)) (read t left p)

-- ---- the rows with which reading goes on

-- the classes of the words that begin a statement
abbrev pub statement_words : List ℕ
statement_words = token.enum ∷ token.extend ∷ token.«import» ∷ token.message ∷ token.option ∷ token.service ∷ token.«package» ∷ []

-- the rows from the next such word on
abbrev pub from_statement : Rows Place → Rows Place
from_statement [] = []
from_statement (r ∷ rs) = if in_set (among statement_words) r.shape then r ∷ rs else from_statement rs

-- The rows behind the `}` of a block. `depth` blocks are open inside that block.
abbrev pub behind_block : ℕ → Rows Place → Rows Place
behind_block depth [] = []
behind_block zero (r ∷ rs) = if class r.shape == token.open_brace then behind_block 1 rs else if class r.shape == token.close_brace then rs else behind_block 0 rs
behind_block (suc depth) (r ∷ rs) = if class r.shape == token.open_brace then behind_block (suc (suc depth)) rs else if class r.shape == token.close_brace then behind_block depth rs else behind_block (suc depth) rs

-- the last `count` of these rows
abbrev pub last : ℕ → Rows Place → Rows Place
last count rows = drop (length rows - count) rows

-- ---- statements

-- a statement, with bodies of at most 31 levels
abbrev pub statement_rule : Rule Place (tree.Statement Place)
statement_rule = statement (mbody_at 31)

-- Reading goes on behind each statement:
-- * one that was read: right behind it;
-- * one that is refused: at the next word that begins a statement, from the refused row on, but not
-- at the statement's first row;
-- * one with a body that is too deep: at the next such word behind the `}` of that body.
abbrev pub after_statement : Table → (Option (tree.Package Place) → Rows Place → Progress → List ParseErrorKind) → Option (tree.Package Place) → Rows Place
    → Result (tree.Statement Place × Rows Place) Refusal → Progress → List ParseErrorKind
after_statement t go first rows (Ok x) p = go (first_behind first (statement_rule.trace rows)) x.1 p
after_statement t go first rows (Err (Unexpected left)) p = go first (from_statement (last left (behind rows))) (refused t left p)
after_statement t go first rows (Err (Deep left)) p = go first (from_statement (behind_block 0 (last (left - 1) (behind rows)))) (in_mode false (read t (left - 1) p))

-- All faults of a file, where these rows are left to be read. `n` bounds the number of statements.
abbrev pub statements : Table → ℕ → Option (tree.Package Place) → Rows Place → Progress → List ParseErrorKind
statements t zero first rows p = p.errors
statements t (suc n) first [] p = (read t 0 p).errors
statements t (suc n) first (r ∷ rs) p = after_statement t (statements t n) first (r ∷ rs) (statement_rule.read (r ∷ rs)) (along t first nowhere (statement_rule.trace (r ∷ rs)) (r ∷ rs) p)

-- ---- a file

-- a syntax statement, if the rows begin with the word `syntax`
abbrev pub syntax_rule : Rule Place (Option (tree.Syntax Place))
syntax_rule = optional (just_word (codes "syntax")) syntax

-- Reading ends at a syntax statement that is refused.
abbrev pub after_syntax : Table → Result (Option (tree.Syntax Place) × Rows Place) Refusal → Progress → List ParseErrorKind
after_syntax t (Ok x) p = statements t (suc (length x.1)) None x.1 p
after_syntax t (Err (Unexpected left)) p = (refused t left p).errors
after_syntax t (Err (Deep left)) p = p.errors

-- A syntax statement can have one fault: it names no known syntax. Reading ends there.
abbrev pub unless_found : List ParseErrorKind → List ParseErrorKind → List ParseErrorKind
unless_found [] more = more
unless_found (wrong ∷ others) more = wrong ∷ others

-- All faults of the source with this table. Reading ends at once if the first token is an invalid
-- character.
abbrev pub faults_of_table : Table → List ParseErrorKind
faults_of_table t =
    if head_in is_invalid (placed t) then (read t (length t.rows) beginning).errors
    else unless_found (along t None nowhere (syntax_rule.trace (placed t)) (placed t) beginning).errors
    (after_syntax t (syntax_rule.read (placed t)) (along t None nowhere (syntax_rule.trace (placed t)) (placed t) beginning))

-- all faults of a source, in the order in which they are found
abbrev pub faults_of : List ℕ → List ParseErrorKind
faults_of source = faults_of_table (table_of (cut 0 source))

-- ---- faults without the words of what was expected

-- The fault without the words that say what the parser expected. A missing end of a string or
-- comment keeps its word.
abbrev pub unworded : ParseErrorKind → ParseErrorKind
unworded (fault.UnexpectedToken span expected found) = fault.UnexpectedToken span [] found
unworded (fault.UnexpectedEof expected) = if is_terminator expected then fault.UnexpectedEof expected else fault.UnexpectedEof []
unworded wrong = wrong

-- These are all faults of the source, in their order. Only the words of what was expected may
-- differ.
abbrev pub AreAllFaults : List ℕ → List ParseErrorKind → Type 0
AreAllFaults source errors = map unworded errors ≡ map unworded (faults_of source)
