-- The faults of a file as a list, in the order in which they are found. A fault is in the list
-- exactly if it is `Wrong`, up to how the word of its kind is held in memory.
use Rattle.std.specs.Prelude.{◌≡◌, Bool, true, false, not, ◌&&◌, is_none, List, [], ◌∷◌, ◌++◌, map, Option, Some, None, codes}
use Rattle.std.specs.List.{flat_map}
use Rattle.protox_fault.specs.Faults.{Span}
use Rattle.protox_fault.specs.declared.error.ParseErrorKind.{ParseErrorKind}
use Rattle.protox_fault.specs.declared.error.ParseErrorKind.TheVariants as fault
use Rattle.protox_ast.specs.Checks.{is_text}
use Rattle.protox_ast.specs.declared.ast.FieldLabel.{FieldLabel}
use Rattle.protox_ast.specs.declared.ast.FieldLabel.TheVariants as label
use Rattle.protox_ast.specs.declared.ast.File.{File}
use Rattle.protox_ast.specs.declared.ast.FileItem.{FileItem}
use Rattle.protox_ast.specs.declared.ast.Int.{Int}
use Rattle.protox_ast.specs.declared.ast.OptionBody.{OptionBody}
use Rattle.protox_ast.specs.declared.ast.OptionValue.{OptionValue}
use Rattle.protox_ast.specs.declared.ast.OptionValue.TheVariants as value
use Rattle.protox_ast.specs.declared.ast.Syntax.{Syntax}
use Rattle.protox_ast.specs.declared.ast.Syntax.TheVariants.{Proto2, Proto3}
use Rattle.protox_ast.specs.declared.ast.Ty.{Ty}
use Rattle.protox_checks.specs.Faults.{placed, settled}
use Rattle.protox_checks.specs.FieldFaults.{Scope, InMessage, InOneof, InExtend, KindNode, Normal, Group, Map, FieldNode, may_be_key, is_map, is_group, is_repeated}
use Rattle.protox_checks.specs.Nodes.{Node, AMessageNumber, AnEnumNumber, AField, AJsonName, AnOption, AnEmptyOneof, file_nodes, item_nodes}
use Rattle.protox_ast.specs.FieldNumbers.{in_message_range}
use Rattle.protox_ast.specs.Spans.{body_span}
use Rattle.protox_checks.specs.ValueFaults.{invalid_type, out_of_range}
use Rattle.protox_ast.specs.Values.{Interval, is_in, any_64, signed_32, Wanted, a_float, an_integer, a_bool, a_text, some_bytes, anything, wanted, as_bool, as_float_text}

-- the fault if the test holds, else none
abbrev pub only_if : Bool → ParseErrorKind → List ParseErrorKind
only_if true wrong = wrong ∷ []
only_if false wrong = []

-- ---- values

-- the fault of an integer outside the interval; none for one inside
abbrev pub integer_faults : Interval → Int → List ParseErrorKind
integer_faults interval int = only_if (not (is_in interval int)) (out_of_range interval int)

-- the fault of a value that is not what is wanted
abbrev pub value_faults : Wanted → OptionValue → List ParseErrorKind
value_faults a_float v = only_if (is_none (as_float_text v)) (invalid_type (codes "a floating-point number") v)
value_faults (an_integer interval) (value.Int int) = integer_faults interval int
value_faults (an_integer interval) v = invalid_type (codes "an integer") v ∷ []
value_faults a_bool v = only_if (is_none (as_bool v)) (invalid_type (codes "either 'true' or 'false'") v)
value_faults a_text (value.String string) = only_if (not (is_text string.value)) (fault.InvalidUtf8String string.span)
value_faults a_text v = invalid_type (codes "a string") v ∷ []
value_faults some_bytes (value.String string) = []
value_faults some_bytes v = invalid_type (codes "a string") v ∷ []
value_faults anything v = []

-- the fault of an uninterpreted option's value: an identifier with a minus sign, or an integer that
-- no 64 bits hold
abbrev pub option_faults : OptionValue → List ParseErrorKind
option_faults (value.Ident negative ident span) = only_if negative (fault.NegativeIdentOutsideDefault span)
option_faults (value.Int int) = integer_faults any_64 int
option_faults v = []

-- ---- fields

-- The fault of a field's label, or of a missing label. A map has none here.
abbrev pub label_faults : Syntax → Scope → KindNode → Option (FieldLabel × Span) → Span → List ParseErrorKind
label_faults syntax scope (Map key key_span) label span = []
label_faults syntax InExtend kind (Some (label.Required, at)) span = fault.RequiredExtendField at ∷ []
label_faults syntax InOneof kind (Some (label, at)) span = fault.OneofFieldWithLabel at ∷ []
label_faults syntax InOneof kind None span = []
label_faults Proto2 scope kind None span = fault.Proto2FieldMissingLabel span ∷ []
label_faults Proto3 scope kind (Some (label.Required, at)) span = fault.Proto3RequiredField at ∷ []
label_faults syntax scope kind label span = []

-- the fault of a map where none is allowed, or with a label
abbrev pub map_faults : Scope → Option (FieldLabel × Span) → Span → List ParseErrorKind
map_faults InOneof label span = fault.InvalidOneofFieldKind span (placed (codes "map")) ∷ []
map_faults InExtend label span = fault.InvalidExtendFieldKind span (placed (codes "map")) ∷ []
map_faults InMessage (Some label) span = fault.MapFieldWithLabel label.1 ∷ []
map_faults InMessage None span = []

-- the fault of a type that a map's keys can't have
abbrev pub key_faults : Ty → Span → List ParseErrorKind
key_faults key span = only_if (not (may_be_key key)) (fault.InvalidMapFieldKeyType span)

-- the faults of a field's kind
abbrev pub kind_faults : Syntax → Scope → FieldNode → KindNode → List ParseErrorKind
kind_faults syntax scope f (Normal type) = []
kind_faults Proto2 scope f Group = []
kind_faults Proto3 scope f Group = fault.Proto3GroupField f.span ∷ []
kind_faults syntax scope f (Map key key_span) = map_faults scope f.label f.span ++ key_faults key key_span

-- The syntax is proto3.
abbrev pub is_proto3 : Syntax → Bool
is_proto3 Proto2 = false
is_proto3 Proto3 = true

-- the fault of a `default` on a map, on a repeated field, or in proto3
abbrev pub place_faults : Syntax → FieldNode → Span → List ParseErrorKind
place_faults syntax f span =
    only_if (is_map f.kind) (fault.InvalidDefault span (placed (codes "map")))
    ++ (only_if (not (is_map f.kind) && is_repeated f.label) (fault.InvalidDefault span (placed (codes "repeated")))
    ++ only_if (is_proto3 syntax && (not (is_map f.kind) && not (is_repeated f.label))) (fault.Proto3DefaultValue span))

-- the fault of a `default` on a group
abbrev pub group_faults : FieldNode → Span → List ParseErrorKind
group_faults f span = only_if (is_group f.kind) (fault.InvalidDefault span (placed (codes "group")))

-- the fault of a `default` whose value does not fit the field's type
abbrev pub default_value_faults : KindNode → OptionBody → List ParseErrorKind
default_value_faults (Normal type) body = value_faults (wanted type) body.value
default_value_faults kind body = []

-- the faults of the `default` option, if there is one
abbrev pub at_default : (OptionBody → List ParseErrorKind) → Option OptionBody → List ParseErrorKind
at_default faults None = []
at_default faults (Some body) = faults body

-- the faults of a field's label, kind and `default`, in the order in which they are found
abbrev pub field_faults : Syntax → Scope → FieldNode → List ParseErrorKind
field_faults syntax scope f =
    at_default (λ body. place_faults syntax f (body_span body)) f.default
    ++ (label_faults syntax scope f.kind f.label f.span
    ++ (kind_faults syntax scope f f.kind
    ++ (at_default (λ body. group_faults f (body_span body)) f.default
    ++ at_default (λ body. default_value_faults f.kind body) f.default)))

-- ---- numbers

-- the fault of a number of a field, or of a range in a message, outside 1 to 536870911
abbrev pub message_number_faults : Int → List ParseErrorKind
message_number_faults int = only_if (not (in_message_range int)) (fault.InvalidMessageNumber int.span)

-- the fault of a number of an enum value, or of a range in an enum, that 32 bits can't hold
abbrev pub enum_number_faults : Int → List ParseErrorKind
enum_number_faults int = only_if (not (is_in signed_32 int)) (fault.InvalidEnumNumber int.span)

-- ---- a file

-- the faults of one node
abbrev pub node_faults : Syntax → Node → List ParseErrorKind
node_faults syntax (AMessageNumber int) = message_number_faults int
node_faults syntax (AnEnumNumber int) = enum_number_faults int
node_faults syntax (AField scope field) = field_faults syntax scope field
node_faults syntax (AJsonName value) = value_faults a_text value
node_faults syntax (AnOption value) = option_faults value
node_faults syntax (AnEmptyOneof span) = fault.EmptyOneof span ∷ []

-- the faults of these nodes, in order
abbrev pub nodes_faults : Syntax → List Node → List ParseErrorKind
nodes_faults syntax nodes = flat_map (node_faults syntax) nodes

-- all faults of a file's syntax tree, in the order in which they are found
abbrev pub file_faults : File → List ParseErrorKind
file_faults file = nodes_faults file.syntax (file_nodes file)

-- The list is exactly the faults of the file, in order, up to how the word of a kind is held in
-- memory.
abbrev pub AreListed : File → List ParseErrorKind → Type 0
AreListed file found = map settled found ≡ file_faults file

-- The list is exactly the faults of an item in a file of this syntax, in the same sense.
abbrev pub AreListedOfItem : Syntax → FileItem → List ParseErrorKind → Type 0
AreListedOfItem syntax item found = map settled found ≡ nodes_faults syntax (item_nodes item)

-- The list is exactly the faults of these items, one item behind another, in the same sense.
abbrev pub AreListedOfItems : Syntax → List FileItem → List ParseErrorKind → Type 0
AreListedOfItems syntax items found = map settled found ≡ nodes_faults syntax (flat_map item_nodes items)
