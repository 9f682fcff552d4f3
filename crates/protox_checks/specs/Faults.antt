-- What may be wrong with a file that the grammar allows, as a relation without order. The checks
-- that are made while reading are defined in protox_ast.
use Rattle.std.specs.Prelude.{◌≡◌, ◌≢◌, false, List, [], Any}
pub use Rattle.protox_fault.specs.Faults.{placed, settled, IsSame}
use Rattle.protox_fault.specs.declared.error.ParseErrorKind.{ParseErrorKind}
use Rattle.protox_fault.specs.declared.error.ParseErrorKind.TheVariants as fault
use Rattle.protox_fault.specs.declared.error.SyntaxFailure.{SyntaxFailure}
use Rattle.protox_fault.specs.declared.error.SyntaxFailure.TheVariants as failure
use Rattle.protox_ast.specs.Keywords.{Each}
use Rattle.protox_ast.specs.declared.ast.File.{File}
use Rattle.protox_ast.specs.declared.ast.Syntax.{Syntax}
use Rattle.protox_checks.specs.FieldFaults.{WrongField}
use Rattle.protox_checks.specs.Nodes.{Node, AMessageNumber, AnEnumNumber, AField, AJsonName, AnOption, AnEmptyOneof, file_nodes}
use Rattle.protox_ast.specs.FieldNumbers.{in_message_range}
use Rattle.protox_checks.specs.ValueFaults.{WrongUninterpreted, WrongValue}
use Rattle.protox_ast.specs.Values.{a_text, is_in, signed_32}

-- The fault is one of this node.
abbrev pub WrongNode : Syntax → Node → ParseErrorKind → Type 0
WrongNode syntax (AMessageNumber int) wrong = (in_message_range int ≡ false) × (wrong ≡ fault.InvalidMessageNumber int.span)
WrongNode syntax (AnEnumNumber int) wrong = (is_in signed_32 int ≡ false) × (wrong ≡ fault.InvalidEnumNumber int.span)
WrongNode syntax (AField scope field) wrong = WrongField syntax scope field wrong
WrongNode syntax (AJsonName value) wrong = WrongValue a_text value wrong
WrongNode syntax (AnOption value) wrong = WrongUninterpreted value wrong
WrongNode syntax (AnEmptyOneof span) wrong = wrong ≡ fault.EmptyOneof span

-- The fault is one of some node of the file.
abbrev pub Wrong : File → ParseErrorKind → Type 0
Wrong file wrong = Any (λ node. WrongNode file.syntax node wrong) (file_nodes file)

-- Nothing is wrong with the file.
abbrev pub IsFaultless : File → Type 0
IsFaultless file = (wrong : ParseErrorKind) → Wrong file wrong → ⊥

-- ---- faults that were found

-- Each of the faults is one of the file.
abbrev pub EachIsWrong : File → List ParseErrorKind → Type 0
EachIsWrong file found = Each (Wrong file) found

-- Each fault of the file is in the list.
abbrev pub HasEachWrong : File → List ParseErrorKind → Type 0
HasEachWrong file found = (wrong : ParseErrorKind) → Wrong file wrong → Any (IsSame wrong) found

-- ---- the faults of a refusal

-- The list has at least one fault, and each is one of the file; or memory ran out.
abbrev pub AreWrong : File → SyntaxFailure → Type 0
AreWrong file (failure.Faults found) = (found.items ≢ []) × EachIsWrong file found.items
AreWrong file failure.OutOfMemory = Unit {0}

-- Each fault of the file is in the list; or memory ran out.
abbrev pub HaveAll : File → SyntaxFailure → Type 0
HaveAll file (failure.Faults found) = HasEachWrong file found.items
HaveAll file failure.OutOfMemory = Unit {0}
