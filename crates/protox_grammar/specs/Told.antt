-- What the parser notes while it reads: the faults of checked nodes, and where an
-- aggregate begins and ends. Each note says how many rows are left.
use Rattle.std.specs.Prelude.{◌≡◌, ℕ, suc, List, [], ◌∷◌, ◌++◌, length, Bool, true, false, if◌then◌else◌, Option, Some, None, option_map, Result, Ok, Err}
use Rattle.protox_fault.specs.Faults.{Span}
use Rattle.protox_fault.specs.declared.error.ParseErrorKind.{ParseErrorKind}
use Rattle.protox_fault.specs.declared.error.ParseErrorKind.TheVariants as fault
use Rattle.protox_lexeme.specs.Shapes.{Shape, Invalid, Rows}
use Rattle.protox_ast.specs.AstParts.{text_of, strings_value, strings_span}
use Rattle.protox_ast.specs.CheckedNodes.{CheckedNode, ASyntax, AnImport, AReservedName, AGroupName, APackageAgain, ATooDeep}
use Rattle.protox_ast.specs.Checks.{is_group_name, is_ident, is_known_syntax, is_text, is_import_path, package_span}
use Rattle.protox_ast.specs.Places.{Place}
use Rattle.protox_ast.specs.Tree as t
use Rattle.protox_grammar.specs.Reader.{Refusal, head_in}
use Rattle.protox_grammar.specs.Steps.{Event, ANode, APackage, AKeyword, ADeepBody, ADeeperBody, AnOpenBrace, ACloseBrace, Token, Note, Steps}
use Rattle.protox_grammar.specs.declared.note.Note as note_type
use Rattle.protox_grammar.specs.declared.note.Noted.{Noted}
use Rattle.protox_grammar.specs.declared.note.Noted.TheVariants.{Fault, TextFormat}

-- Notes, in order.
abbrev pub Notes : Type 0
Notes = List note_type.Note

-- What is noted is no fault.
abbrev pub IsNoFault : Noted → Type 0
IsNoFault (Fault f) = ⊥
IsNoFault (TextFormat open_now) = Unit {0}

-- No fault is noted.
abbrev pub IsFaultless : Notes → Type 0
IsFaultless [] = Unit {0}
IsFaultless (n ∷ ns) = IsNoFault n.noted × IsFaultless ns

-- ---- the faults of a node, in the order in which they are found

-- The fault, unless the test is true.
abbrev pub unless_so : Bool → ParseErrorKind → List ParseErrorKind
unless_so so wrong = if so then [] else wrong ∷ []

-- The fault of an unknown syntax.
abbrev pub syntax_faults : List ℕ → Span → List ParseErrorKind
syntax_faults value span = unless_so (is_known_syntax value) (fault.UnknownSyntax span (text_of value))

-- The fault of a string that is not UTF-8.
abbrev pub text_faults : List ℕ → Span → List ParseErrorKind
text_faults value span = unless_so (is_text value) (fault.InvalidUtf8String span)

-- The fault of a path that no import may have.
abbrev pub path_faults : List ℕ → Span → List ParseErrorKind
path_faults path span = unless_so (is_import_path path) (fault.InvalidImport span)

-- The fault of a name that is no identifier.
abbrev pub ident_faults : List ℕ → Span → List ParseErrorKind
ident_faults name span = unless_so (is_ident name) (fault.InvalidIdentifier span)

-- The fault of a group's name.
abbrev pub group_faults : List ℕ → Span → List ParseErrorKind
group_faults name span = unless_so (is_group_name name) (fault.InvalidGroupName span)

-- ---- notes, given the rows after the node

-- Whether the row is invalid.
abbrev pub is_invalid : Shape → Bool
is_invalid Invalid = true
is_invalid _ = false

-- All rows are valid tokens.
abbrev pub AreValidTokens : Rows Place → Type 0
AreValidTokens [] = Unit {0}
AreValidTokens (r ∷ rs) = (is_invalid r.shape ≡ false) × AreValidTokens rs

-- The note for a fault of a run of strings. The run ends only when the row after it is read. If
-- that row is invalid, it is reported alone, and there is no note.
abbrev pub run_note : ParseErrorKind → Rows Place → Notes
run_note wrong xs = if head_in is_invalid xs then [] else record { left = length xs; noted = Fault wrong } ∷ []

-- The notes for several faults of a run.
abbrev pub noted : List ParseErrorKind → Rows Place → Notes
noted [] xs = []
noted (f ∷ fs) xs = run_note f xs ++ noted fs xs

-- The note for a fault of any other node. The row after it doesn't matter.
abbrev pub read_note : ParseErrorKind → Rows Place → Notes
read_note wrong xs = record { left = length xs; noted = Fault wrong } ∷ []

-- The notes for faults that are reported before the next row is read.
abbrev pub at_once : List ParseErrorKind → Rows Place → Notes
at_once [] xs = []
at_once (f ∷ fs) xs = record { left = suc (length xs); noted = Fault f } ∷ at_once fs xs

-- The notes of the syntax statement.
abbrev pub syntax_notes : List ℕ × Span → Rows Place → Notes
syntax_notes x xs = noted (syntax_faults x.0 x.1) xs

-- The notes of an import.
abbrev pub import_notes : List ℕ × Span → Rows Place → Notes
import_notes x xs = noted (text_faults x.0 x.1) xs ++ noted (path_faults (text_of x.0) x.1) xs

-- The notes of a reserved name.
abbrev pub name_notes : List ℕ × Span → Rows Place → Notes
name_notes x xs = noted (text_faults x.0 x.1) xs ++ noted (ident_faults (text_of x.0) x.1) xs

-- The notes of a group's name.
abbrev pub group_notes : List ℕ × Span → Rows Place → Notes
group_notes x xs = at_once (group_faults x.0 x.1) xs

-- The span of a place.
abbrev pub span_of : Place → Span
span_of place = place.span

-- The place of the first package statement, if there is one.
abbrev pub place_of : Option (t.Package Place) → Option Span
place_of first = option_map (package_span span_of) first

-- The note of a second package statement.
abbrev pub package_notes : Span → Span → Rows Place → Notes
package_notes first again xs = read_note (fault.DuplicatePackage first again) xs

-- The note of a body that is too deep.
abbrev pub deep_notes : Span → Rows Place → Notes
deep_notes keyword xs = read_note (fault.MessageNestingTooDeep keyword) xs

-- The notes of a checked node.
abbrev pub node_notes : CheckedNode Place → Rows Place → Notes
node_notes (ASyntax x) xs = syntax_notes (strings_value x, strings_span x) xs
node_notes (AnImport x) xs = import_notes (strings_value x, strings_span x) xs
node_notes (AReservedName x) xs = name_notes (strings_value x, strings_span x) xs
node_notes (AGroupName x) xs = group_notes (x.0, x.1.span) xs
node_notes (APackageAgain first again) xs = package_notes (package_span span_of first) (package_span span_of again) xs
node_notes (ATooDeep keyword open_at) xs = deep_notes keyword.span xs

-- The note of a brace of an aggregate. After `{` the rows are in text format, after `}` they no
-- longer are.
abbrev pub brace_notes : Bool → Rows Place → Notes
brace_notes opens xs = record { left = suc (length xs); noted = TextFormat opens } ∷ []

-- ---- the notes of steps

-- The rows after the first.
abbrev pub behind : Rows Place → Rows Place
behind [] = []
behind (r ∷ rs) = rs

-- The notes of steps among these rows. `first` is the first package statement so far, if there is
-- one. `keyword` is the keyword of the message or group that was read last.
abbrev pub told : Option (t.Package Place) → Place → Steps Place → Rows Place → Notes
told first keyword [] xs = []
told first keyword (Token r ∷ l) xs = told first keyword l (behind xs)
told first keyword (Note (ANode x) ∷ l) xs = node_notes x xs ++ told first keyword l xs
told None keyword (Note (APackage x) ∷ l) xs = told (Some x) keyword l xs
told (Some first) keyword (Note (APackage x) ∷ l) xs = node_notes (APackageAgain first x) xs ++ told (Some first) keyword l xs
told first keyword (Note (AKeyword m) ∷ l) xs = told first m l xs
told first keyword (Note (ADeepBody m) ∷ l) xs = node_notes (ATooDeep keyword m) xs ++ told first keyword l xs
told first keyword (Note (ADeeperBody m) ∷ l) xs = told first keyword l xs
told first keyword (Note (AnOpenBrace m) ∷ l) xs = brace_notes true xs ++ told first keyword l xs
told first keyword (Note (ACloseBrace m) ∷ l) xs = brace_notes false xs ++ told first keyword l xs

-- The rows after those that the steps take.
abbrev pub past : Steps Place → Rows Place → Rows Place
past [] xs = xs
past (Token r ∷ l) xs = past l (behind xs)
past (Note e ∷ l) xs = past l xs

-- The first package statement after one more.
abbrev pub or_else : Option (t.Package Place) → t.Package Place → Option (t.Package Place)
or_else None x = Some x
or_else (Some first) x = Some first

-- The first package statement after an event.
abbrev pub first_with : Option (t.Package Place) → Event Place → Option (t.Package Place)
first_with first (APackage x) = or_else first x
first_with first _ = first

-- The last keyword after an event.
abbrev pub keyword_with : Place → Event Place → Place
keyword_with keyword (AKeyword m) = m
keyword_with keyword _ = keyword

-- The first package statement after steps.
abbrev pub first_behind : Option (t.Package Place) → Steps Place → Option (t.Package Place)
first_behind first [] = first
first_behind first (Token r ∷ l) = first_behind first l
first_behind first (Note e ∷ l) = first_behind (first_with first e) l

-- The last keyword after steps.
abbrev pub keyword_behind : Place → Steps Place → Place
keyword_behind keyword [] = keyword
keyword_behind keyword (Token r ∷ l) = keyword_behind keyword l
keyword_behind keyword (Note e ∷ l) = keyword_behind (keyword_with keyword e) l

-- ---- the notes of readers

-- What is noted of a value that was read. Nothing if reading failed.
abbrev pub checked : {A : Type 0} → (A → Rows Place → Notes) → Result (A × Rows Place) Refusal → Notes
checked notes (Ok x) = notes x.0 x.1
checked notes (Err e) = []

-- What is noted of the rows after it. Nothing if reading failed.
abbrev pub then_notes : {A : Type 0} → (Rows Place → Notes) → Result (A × Rows Place) Refusal → Notes
then_notes more (Ok x) = more x.1
then_notes more (Err e) = []
