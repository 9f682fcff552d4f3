-- The faults that are found while a file is read: which they are, without an order. Faults of the
-- generator are defined elsewhere.
use Rattle.std.specs.Prelude.{◌≡◌, ◌⊎◌, ℕ, Bool, false, not, ◌&&◌, ◌||◌, ◌==◌, List, codes, length, Any}
use Rattle.std.specs.List.{list_all, list_any, slice_split}
use Rattle.std.specs.Str.{bytes_eq}
use Rattle.std.specs.Str.Lossy.{utf8_valid_len}
pub use Rattle.protox_descriptor.specs.Case.{is_ident, is_group_name}
use Rattle.protox_fault.specs.Faults.{Span}
use Rattle.protox_fault.specs.declared.error.ParseErrorKind.{ParseErrorKind}
use Rattle.protox_fault.specs.declared.error.ParseErrorKind.TheVariants as fault
use Rattle.protox_ast.specs.AstParts.{join, run_span, strings_value, text_of}
use Rattle.protox_ast.specs.CheckedNodes.{CheckedNode, ASyntax, AnImport, AReservedName, AGroupName, APackageAgain, ATooDeep, checked_nodes}
use Rattle.protox_ast.specs.Places.{Place}
use Rattle.protox_ast.specs.Tree as t

-- ---- conditions

-- Whether the syntax is `proto2` or `proto3`.
abbrev pub is_known_syntax : List ℕ → Bool
is_known_syntax value = bytes_eq value (codes "proto2") || bytes_eq value (codes "proto3")

-- Whether the bytes are UTF-8.
abbrev pub is_text : List ℕ → Bool
is_text bytes = utf8_valid_len bytes == length bytes

-- The parts of a path between its slashes.
abbrev pub components : List ℕ → List (List ℕ)
components path = slice_split (λ b. b == 47) path

-- Whether a component is not empty, not `.` and not `..`, and has no backslash.
abbrev pub is_plain_component : List ℕ → Bool
is_plain_component c = not (length c == 0) && (not (bytes_eq c (codes ".")) && (not (bytes_eq c (codes "..")) && not (list_any (λ b. b == 92) c)))

-- Whether the path may be that of an import: each of its components is plain.
abbrev pub is_import_path : List ℕ → Bool
is_import_path path = list_all is_plain_component (components path)

-- ---- faults

-- A string that is not UTF-8.
abbrev pub WrongText : Span → List ℕ → ParseErrorKind → Type 0
WrongText span bytes wrong = (is_text bytes ≡ false) × (wrong ≡ fault.InvalidUtf8String span)

-- A syntax that is neither `proto2` nor `proto3`.
abbrev pub WrongSyntax : Span → List ℕ → ParseErrorKind → Type 0
WrongSyntax span value wrong = (is_known_syntax value ≡ false) × (wrong ≡ fault.UnknownSyntax span (text_of value))

-- An import that is not UTF-8, or whose path has a wrong component. If it is not UTF-8, its path is
-- checked with U+FFFD in it.
abbrev pub WrongImport : Span → List ℕ → ParseErrorKind → Type 0
WrongImport span value wrong = WrongText span value wrong ⊎ ((is_import_path (text_of value) ≡ false) × (wrong ≡ fault.InvalidImport span))

-- A reserved name that is not UTF-8, or no identifier. If it is not UTF-8, it is checked with
-- U+FFFD in it.
abbrev pub WrongReservedName : Span → List ℕ → ParseErrorKind → Type 0
WrongReservedName span value wrong = WrongText span value wrong ⊎ ((is_ident (text_of value) ≡ false) × (wrong ≡ fault.InvalidIdentifier span))

-- The span of a package statement: from `package` to `;`.
abbrev pub package_span : {M : Type 0} → (M → Span) → t.Package M → Span
package_span span x = join (span x.keyword) (span x.end)

-- The fault is a fault of the node. `span` gives the span of a token by its tag.
abbrev pub WrongCheckedNode : {M : Type 0} → (M → Span) → CheckedNode M → ParseErrorKind → Type 0
WrongCheckedNode span (ASyntax x) wrong = WrongSyntax (run_span span x) (strings_value x) wrong
WrongCheckedNode span (AnImport x) wrong = WrongImport (run_span span x) (strings_value x) wrong
WrongCheckedNode span (AReservedName x) wrong = WrongReservedName (run_span span x) (strings_value x) wrong
WrongCheckedNode span (AGroupName x) wrong = (is_group_name x.0 ≡ false) × (wrong ≡ fault.InvalidGroupName (span x.1))
WrongCheckedNode span (APackageAgain first again) wrong = wrong ≡ fault.DuplicatePackage (package_span span first) (package_span span again)
WrongCheckedNode span (ATooDeep keyword open_at) wrong = wrong ≡ fault.MessageNestingTooDeep (span keyword)

-- The fault is a fault of some node of the file.
abbrev pub WrongTree : t.File Place → ParseErrorKind → Type 0
WrongTree f wrong = Any (λ node. WrongCheckedNode (λ place. place.span) node wrong) (checked_nodes f)

-- No node of the file has a fault.
abbrev pub NothingWrong : t.File Place → Type 0
NothingWrong f = (wrong : ParseErrorKind) → WrongTree f wrong → ⊥
