-- How far a source has been read, part by part.
use Rattle.std.specs.Prelude.{◌≡◌, ◌⊎◌, ℕ, Bool, true, false, List, [], ◌∷◌, ◌++◌, drop, Option, Some, None, length, option_map}
use Rattle.protox_fault.specs.Faults.{Span, span_from}
use Rattle.protox_lexeme.specs.Lexemes.{Lexeme, cut}
use Rattle.protox_lexeme.specs.Shapes.{Rows}
use Rattle.protox_lexeme.specs.Table.{Table, gaps_of, is_gap, rows_of, table_of}
use Rattle.protox_ast.specs.Ast as ast
use Rattle.protox_ast.specs.AstParts.{rows_span}
use Rattle.protox_ast.specs.Basics.{Each}
use Rattle.protox_ast.specs.Places.{Place, placed, placed_from}
use Rattle.protox_ast.specs.Spelling as s
use Rattle.protox_ast.specs.Tree as tree
use Rattle.protox_ast.specs.declared.ast.Comments.{Comments}
use Rattle.protox_ast.specs.declared.ast.File.{File}
use Rattle.protox_ast.specs.declared.ast.FileItem.{FileItem}
use Rattle.protox_ast.specs.declared.ast.Syntax.{Syntax}
use Rattle.protox_ast.specs.declared.ast.Syntax.TheVariants.{Proto2}
use Rattle.protox_grammar.specs.Told.{is_invalid}
use Rattle.protox_syntax.specs.declared.parts.Part.{Part}
use Rattle.protox_syntax.specs.declared.parts.Progress.{Progress}
use Rattle.protox_syntax.specs.declared.statement_types.Statement as statement_type
use Rattle.protox_syntax.specs.declared.statement_types.Statement.TheVariants as statement_of
use Rattle.protox_syntax.specs.inner.ParsedTable.{IsWhole, bare_span, syntax_or_default, syntax_place}
use Rattle.protox_syntax.specs.inner.SoFar.{IsRightSoFar, begun}
use Rattle.protox_syntax.specs.inner.Statements.{Statements, first_place, or_package, statements_seen, syntax_seen}

-- ---- the rows of a part

-- the rows of these lexemes, where nothing comes behind them; `first` says that they begin the file
abbrev pub places : Bool → List Lexeme → Rows Place
places first xs = placed_from first (rows_of xs) (gaps_of xs)

-- The lexeme is valid and has no fault.
abbrev pub IsFlawless : Lexeme → Type 0
IsFlawless x = (is_invalid x.shape ≡ false) × (x.faults ≡ [])

-- the rows of the source
abbrev pub rows : List ℕ → Rows Place
rows source = placed (table_of (cut 0 source))

-- ---- the head of a file, with the items that wait in it

-- a file without a statement
abbrev pub no_file : File
no_file = record { span = span_from 0 0; syntax = Proto2; syntax_span = None; «package» = None; imports = []; options = []; items = [] }

-- the syntax that is found, or else the other one
abbrev pub syntax_or : Syntax → Option (Syntax × (Span × Comments)) → Syntax
syntax_or other None = other
syntax_or other (Some found) = found.0

-- where the syntax stands that is found, or else the other place
abbrev pub place_or : Option (Span × Comments) → Option (Syntax × (Span × Comments)) → Option (Span × Comments)
place_or other None = other
place_or other (Some found) = Some found.1

-- the head with the syntax that is found
abbrev pub with_syntax : File → Option (Syntax × (Span × Comments)) → File
with_syntax head found = record head { syntax = syntax_or head.syntax found; syntax_span = place_or head.syntax_span found }

-- A statement adds what it declares.
abbrev pub with_statement : File → statement_type.Statement → File
with_statement head statement_of.Empty = head
with_statement head (statement_of.Import x) = record head { imports = head.imports ++ x ∷ [] }
with_statement head (statement_of.Package x) = record head { «package» = or_package head.«package» x }
with_statement head (statement_of.Option x) = record head { options = head.options ++ x ∷ [] }
with_statement head (statement_of.Item x) = record head { items = head.items ++ x ∷ [] }

-- all statements, one after another
abbrev pub with_statements : File → List statement_type.Statement → File
with_statements head [] = head
with_statements head (x ∷ xs) = with_statements (with_statement head x) xs

-- the place of the first package statement
abbrev pub place_in : File → Option Span
place_in head = option_map (λ x. x.span) head.«package»

-- The head holds what these statements declare in a file of this syntax, but for the items that are
-- gone, since they were handed over.
pub record IsHeld (syntax : Syntax) (statements : Statements) (gone : List FileItem) (head : File) : Type 0 where
  pub syntax_is : head.syntax ≡ syntax
  pub package_is : head.«package» ≡ statements.first
  pub imports : head.imports ≡ statements.imports
  pub options : head.options ≡ statements.options
  pub items : statements.items ≡ gone ++ head.items

-- Nothing is wrong with this file so far, and the head holds it.
pub record IsReached (f : tree.File Place) (gone : List FileItem) (head : File) : Type 0 where
  pub right : IsRightSoFar (first_place (statements_seen f.statements)) f
  pub syntax_span : head.syntax_span ≡ option_map syntax_place (option_map syntax_seen f.syntax)
  pub held : IsHeld (syntax_or_default (option_map syntax_seen f.syntax)) (statements_seen f.statements) gone head

-- ---- between two parts

-- What has been noted of the rows that have been read: where the first begins, and where the last
-- stands.
abbrev pub IsNoted : List ℕ → Bool → List Lexeme → tree.File Place → Progress → Type 0
IsNoted source first read f progress =
    ((first ≡ true) × (read ≡ []) × (f ≡ begun None) × (progress.last ≡ None) × (progress.start ≡ length source))
    ⊎ ((first ≡ false) × (front : List Lexeme) × (last : Lexeme) × (read ≡ front ++ last ∷ []) × (is_gap last.shape ≡ false) × (progress.last ≡ Some (span_from last.start last.stop)) × (progress.start ≡ (rows_span (length source) (rows source)).start))

-- Before a part: nothing has been noted if the source begins with it, and else where the first token
-- begins.
abbrev pub IsOpen : List ℕ → Bool → Progress → Type 0
IsOpen source true progress = (progress.last ≡ None) × (progress.start ≡ length source)
IsOpen source false progress = progress.start ≡ (rows_span (length source) (rows source)).start

-- Between two parts.
pub record IsBetween (source : List ℕ) (progress : Progress) (gone : List FileItem) (head : File) : Type 0 where
  pub f : tree.File Place
  pub first : Bool
  pub read : List Lexeme
  pub left : List Lexeme
  pub all : cut 0 source ≡ read ++ left
  pub flawless : Each IsFlawless read
  pub whole : rows source ≡ s.spell f ++ places first left
  pub reached : IsReached f gone head
  pub noted : IsNoted source first read f progress

-- where the last row ends; 0 without a row
abbrev pub last_end : Option Span → ℕ
last_end None = 0
last_end (Some last) = last.end

-- the lexemes from the last token read on; all, before any is read
abbrev pub lexemes_from : List ℕ → Option Span → List Lexeme
lexemes_from source None = cut 0 source
lexemes_from source (Some last) = cut last.start (drop last.start source)

-- ---- a part

-- A part with these lexemes, behind which the others come.
pub record IsPartOf (all : List Lexeme) (part : Part) : Type 0 where
  pub inside : List Lexeme
  pub behind : List Lexeme
  pub split : all ≡ inside ++ behind
  pub table_is : part.table ≡ table_of inside
  pub ended_here : part.ends ≡ true → behind ≡ []

-- Nothing has been read yet, and the file begins here; or the last row that has been read is that of
-- a lexeme.
abbrev pub IsLast : Bool → Bool → List Lexeme → tree.File Place → Type 0
IsLast begins first read f =
    ((first ≡ true) × (begins ≡ true) × (read ≡ []) × (f ≡ begun None))
    ⊎ ((first ≡ false) × (front : List Lexeme) × (last : Lexeme) × (read ≡ front ++ last ∷ []) × (is_gap last.shape ≡ false))

-- Within a part without a fault of a lexeme. These rows of it are left.
pub record IsInPart (source : List ℕ) (part : Part) (left_rows : Rows Place) (gone : List FileItem) (head : File) : Type 0 where
  pub f : tree.File Place
  pub first : Bool
  pub outside : List Lexeme
  pub read : List Lexeme
  pub left : List Lexeme
  pub behind : List Lexeme
  pub all : cut 0 source ≡ outside ++ (read ++ (left ++ behind))
  pub table_is : part.table ≡ table_of (read ++ left)
  pub begun_here : part.begins ≡ true → outside ≡ []
  pub flawless_before : Each IsFlawless outside
  pub flawless : Each IsFlawless (read ++ left)
  pub rows_are : left_rows ≡ places first left
  pub whole : rows source ≡ s.spell f ++ places first (left ++ behind)
  pub reached : IsReached f gone head
  pub last : IsLast part.begins first read f

-- ---- the last part

-- the span from the first row of a source to the last, where the part with this table ends it
abbrev pub span_to_end : ℕ → Bool → Table → Progress → Span
span_to_end size true t progress = bare_span size t.rows
span_to_end size false t progress = span_from progress.start (bare_span size t.rows).end

-- The source is read, and nothing is wrong with it. The head is its syntax tree, but for the items
-- that are gone.
abbrev pub IsAll : List ℕ → List FileItem → File → Type 0
IsAll source gone head = (f : tree.File Place) × IsWhole (table_of (cut 0 source)) f × (record head { items = gone ++ head.items } ≡ ast.file (length source) f)

-- The source is read, and nothing is wrong with it. With the span of the source the head is its
-- syntax tree, but for the items that are gone.
abbrev pub IsAllButSpan : List ℕ → List FileItem → File → Type 0
IsAllButSpan source gone head = IsAll source gone (record head { span = rows_span (length source) (rows source) })

-- How far the source has been read when a part has been. `ends` says that it was the last.
abbrev pub IsTurned : List ℕ → List FileItem → Bool → Progress → File → Type 0
IsTurned source gone true progress head = IsAll source gone head
IsTurned source gone false progress head = IsBetween source progress gone head
