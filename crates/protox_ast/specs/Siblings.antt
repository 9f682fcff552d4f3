-- Where the nodes of a syntax tree stand: each span with the spans of its parts, in the order of
-- the source. Each span of a tree, except the file's own, is among those parts.
use Rattle.std.specs.Prelude.{ℕ, ◌<◌, ◌≤◌, List, [], ◌∷◌, ◌++◌, map, flat_map, Option, Some, None}
use Rattle.protox_fault.specs.Faults.{Span, span_from}
use Rattle.protox_ast.specs.Steps.{Steps, of_message, of_extend}
use Rattle.protox_ast.specs.Spans.{part_span, value_span, body_span, range_span}
use Rattle.protox_ast.specs.Keywords.{Each}
use Rattle.protox_ast.specs.declared.ast.Comments.{Comments}
use Rattle.protox_ast.specs.declared.ast.Ident.{Ident}
use Rattle.protox_ast.specs.declared.ast.TypeName.{TypeName}
use Rattle.protox_ast.specs.declared.ast.OptionNamePart.{OptionNamePart}
use Rattle.protox_ast.specs.declared.ast.OptionNamePart.TheVariants as name_part
use Rattle.protox_ast.specs.declared.ast.OptionValue.{OptionValue}
use Rattle.protox_ast.specs.declared.ast.OptionValue.TheVariants as option_value
use Rattle.protox_ast.specs.declared.ast.OptionBody.{OptionBody}
use Rattle.protox_ast.specs.declared.ast.OptionList.{OptionList}
use Rattle.protox_ast.specs.declared.ast.Option as option_type
use Rattle.protox_ast.specs.declared.ast.Import.{Import}
use Rattle.protox_ast.specs.declared.ast.Package.{Package}
use Rattle.protox_ast.specs.declared.ast.Ty.{Ty}
use Rattle.protox_ast.specs.declared.ast.Ty.TheVariants as ty
use Rattle.protox_ast.specs.declared.ast.ReservedRange.{ReservedRange}
use Rattle.protox_ast.specs.declared.ast.ReservedRangeEnd.{ReservedRangeEnd}
use Rattle.protox_ast.specs.declared.ast.ReservedRangeEnd.TheVariants as range_ends
use Rattle.protox_ast.specs.declared.ast.ReservedKind.TheVariants as reserved_kinds
use Rattle.protox_ast.specs.declared.ast.Reserved.{Reserved}
use Rattle.protox_ast.specs.declared.ast.Extensions.{Extensions}
use Rattle.protox_ast.specs.declared.ast.EnumValue.{EnumValue}
use Rattle.protox_ast.specs.declared.ast.Enum.{Enum}
use Rattle.protox_ast.specs.declared.ast.Method.{Method}
use Rattle.protox_ast.specs.declared.ast.Service.{Service}
use Rattle.protox_ast.specs.declared.ast.FieldKind.TheOpen.{MessageBody-F, MessageItem-F, Field-F, FieldKind-F, Oneof-F, Extend-F}
use Rattle.protox_ast.specs.declared.ast.FileItem.{FileItem}
use Rattle.protox_ast.specs.declared.ast.FileItem.TheVariants as file_item
use Rattle.protox_ast.specs.declared.ast.File.{File}

-- The spans stand between two offsets, each after the one before, and each has at least one byte.
abbrev pub SpansStand : ℕ → ℕ → List Span → Type 0
SpansStand low high [] = low ≤ high
SpansStand low high (x ∷ xs) = (low ≤ x.start) × (x.start < x.end) × SpansStand x.end high xs

-- A span, and the spans of some of its parts.
pub record Siblings : Type 0 where
  pub parent : Span
  pub children : List Span

-- This span with these parts.
abbrev pub siblings : Span → List Span → Siblings
siblings parent children = record { parent = parent; children = children }

-- The parts stand in their parent, each after the one before. The parent stands between two
-- offsets.
pub record SiblingsStand (low high : ℕ) (s : Siblings) : Type 0 where
  pub from : low ≤ s.parent.start
  pub parts : SpansStand s.parent.start s.parent.end s.children
  pub to : s.parent.end ≤ high

-- ---- names, types and options

-- The span, if there is one.
abbrev pub span_if_any : Option Span → List Span
span_if_any None = []
span_if_any (Some span) = span ∷ []

-- The span of a value that has one, if there is a value.
abbrev pub place_if_any : {A : Type 0} → Option (A × Span) → List Span
place_if_any None = []
place_if_any (Some place) = place.1 ∷ []

-- The spans of identifiers.
abbrev pub ident_spans : List Ident → List Span
ident_spans = map (λ x. x.span)

-- The spans of a type's name: of its leading dot, and of its parts.
abbrev pub type_name_spans : TypeName → List Span
type_name_spans x = span_if_any x.leading_dot ++ ident_spans x.name

-- The parts of a type with this span. A scalar type has none.
abbrev pub type_siblings : Ty → Span → List Siblings
type_siblings (ty.Named x) span = siblings span (type_name_spans x) ∷ []
type_siblings _ span = []

-- The parts of an extension's name in an option's name.
abbrev pub part_siblings : OptionNamePart → List Siblings
part_siblings (name_part.Ident x) = []
part_siblings (name_part.Extension x span) = siblings span (type_name_spans x) ∷ []

-- The parts of an option's value.
abbrev pub value_siblings : OptionValue → List Siblings
value_siblings (option_value.Ident negative x span) = siblings span (x.span ∷ []) ∷ []
value_siblings _ = []

-- The parts of an option: those of its name, and then its value.
abbrev pub body_siblings : OptionBody → List Siblings
body_siblings x = siblings (body_span x) (map part_span x.name ++ value_span x.value ∷ []) ∷ (flat_map part_siblings x.name ++ value_siblings x.value)

-- The span of a list of options, if there is one.
abbrev pub list_span : Option OptionList → List Span
list_span None = []
list_span (Some x) = x.span ∷ []

-- The options of a list, and their parts.
abbrev pub list_siblings : Option OptionList → List Siblings
list_siblings None = []
list_siblings (Some x) = siblings x.span (map body_span x.options) ∷ flat_map body_siblings x.options

-- The parts of an option statement.
abbrev pub option_siblings : option_type.Option → List Siblings
option_siblings x = siblings x.span (body_span x.body ∷ []) ∷ body_siblings x.body

-- The spans of option statements.
abbrev pub option_spans : List option_type.Option → List Span
option_spans = map (λ x. x.span)

-- ---- ranges, reserved and extensions statements

-- The span of the end of a range, if it has one.
abbrev pub end_if_any : ReservedRangeEnd → List Span
end_if_any range_ends.None = []
end_if_any (range_ends.Int x) = x.span ∷ []
end_if_any (range_ends.Max span) = span ∷ []

-- The parts of a range.
abbrev pub range_siblings : ReservedRange → List Siblings
range_siblings x = siblings (range_span x) (x.start.span ∷ end_if_any x.end) ∷ []

-- The parts of a reserved statement: its ranges or its names.
abbrev pub reserved_siblings : Reserved → List Siblings
reserved_siblings x = elim x.kind as (λ _. List Siblings) [
  | reserved_kinds.Ranges ranges ↦ siblings x.span (map range_span ranges) ∷ flat_map range_siblings ranges
  | reserved_kinds.Names names ↦ siblings x.span (ident_spans names) ∷ []
]

-- The span of a reserved statement that holds ranges.
abbrev pub range_statement : Reserved → List Span
range_statement x = elim x.kind as (λ _. List Span) [ reserved_kinds.Ranges ranges ↦ x.span ∷ [] | reserved_kinds.Names names ↦ [] ]

-- The spans of its ranges.
abbrev pub reserved_ranges : Reserved → List Span
reserved_ranges x = elim x.kind as (λ _. List Span) [ reserved_kinds.Ranges ranges ↦ map range_span ranges | reserved_kinds.Names names ↦ [] ]

-- The span of a reserved statement that holds names.
abbrev pub name_statement : Reserved → List Span
name_statement x = elim x.kind as (λ _. List Span) [ reserved_kinds.Ranges ranges ↦ [] | reserved_kinds.Names names ↦ x.span ∷ [] ]

-- The spans of its names.
abbrev pub reserved_names : Reserved → List Span
reserved_names x = elim x.kind as (λ _. List Span) [ reserved_kinds.Ranges ranges ↦ [] | reserved_kinds.Names names ↦ ident_spans names ]

-- The reserved statements of the message or the enum with this span: those of each kind, what they
-- hold, and all of them.
abbrev pub all_reserved : Span → List Reserved → List Siblings
all_reserved whole xs =
    siblings whole (flat_map range_statement xs) ∷ siblings whole (flat_map reserved_ranges xs) ∷ siblings whole (flat_map name_statement xs) ∷ siblings whole (flat_map reserved_names xs)
    ∷ siblings whole (map (λ x. x.span) xs) ∷ []

-- The parts of an extensions statement.
abbrev pub extensions_siblings : Extensions → List Siblings
extensions_siblings x = siblings x.span (map range_span x.ranges ++ list_span x.options) ∷ (flat_map range_siblings x.ranges ++ list_siblings x.options)

-- The spans of the ranges of an extensions statement.
abbrev pub extension_ranges : Extensions → List Span
extension_ranges x = map range_span x.ranges

-- The extensions statements of the message with this span, and the ranges of all of them.
abbrev pub all_extensions : Span → List Extensions → List Siblings
all_extensions whole xs = siblings whole (map (λ x. x.span) xs) ∷ siblings whole (flat_map extension_ranges xs) ∷ []

-- ---- enums and services

-- The parts of an enum value.
abbrev pub enum_value_siblings : EnumValue → List Siblings
enum_value_siblings x = siblings x.span (x.name.span ∷ (x.number.span ∷ list_span x.options)) ∷ list_siblings x.options

-- The parts of an enum: its name, its options, its values and its reserved statements.
abbrev pub enum_siblings : Enum → List Siblings
enum_siblings x =
    siblings x.span (x.name.span ∷ []) ∷ siblings x.span (option_spans x.options) ∷ siblings x.span (map (λ v. v.span) x.values)
    ∷ (all_reserved x.span x.reserved ++ (flat_map option_siblings x.options ++ (flat_map enum_value_siblings x.values ++ flat_map reserved_siblings x.reserved)))

-- The parts of a method.
abbrev pub method_siblings : Method → List Siblings
method_siblings x =
    siblings x.span (x.name.span ∷ ((span_if_any x.client_streaming ++ type_name_spans x.input_ty) ++ (span_if_any x.server_streaming ++ type_name_spans x.output_ty)))
    ∷ siblings x.span (option_spans x.options) ∷ flat_map option_siblings x.options

-- The parts of a service: its name, its options and its methods.
abbrev pub service_siblings : Service → List Siblings
service_siblings x =
    siblings x.span (x.name.span ∷ []) ∷ siblings x.span (option_spans x.options) ∷ siblings x.span (map (λ m. m.span) x.methods)
    ∷ (flat_map option_siblings x.options ++ flat_map method_siblings x.methods)

-- ---- messages, and what holds them or stands in them

-- The kinds of declarations in messages and files. Each kind is numbered by itself.
pub data SiblingKind : Type 0 where
  -- a field of a message, or of a oneof in it
  AField : SiblingKind
  -- a message, the message of a group, or the entry of a map
  AMessage : SiblingKind
  AnEnum : SiblingKind
  AOneof : SiblingKind
  AnExtend : SiblingKind
  -- a field of an extend
  AnExtension : SiblingKind
  AService : SiblingKind

-- All kinds.
abbrev pub sibling_kinds : List SiblingKind
sibling_kinds = AField ∷ AMessage ∷ AnEnum ∷ AOneof ∷ AnExtend ∷ AnExtension ∷ AService ∷ []

-- The span of a node, all that stands in it, and the spans of each kind that it adds to what holds
-- it.
pub record Node : Type 0 where
  pub span : Span
  pub inside : List Siblings
  pub brings : SiblingKind → List Span

-- The spans of nodes.
abbrev pub node_spans : List Node → List Span
node_spans = map (λ x. x.span)

-- All that stands in these nodes.
abbrev pub inside_all : List Node → List Siblings
inside_all = flat_map (λ x. x.inside)

-- The spans of a kind that these nodes add.
abbrev pub brought : SiblingKind → List Node → List Span
brought kind = flat_map (λ x. x.brings kind)

-- The declarations of each kind, in the message or the file with this span.
abbrev pub like_siblings : Span → List Node → List Siblings
like_siblings whole items = map (λ kind. siblings whole (brought kind items)) sibling_kinds

-- What a field adds: itself, and the messages that it declares.
abbrev pub field_brings : Span → List Span → SiblingKind → List Span
field_brings span messages AField = span ∷ []
field_brings span messages AMessage = messages
field_brings span messages _ = []

-- What a message adds: itself.
abbrev pub message_brings : Span → SiblingKind → List Span
message_brings span AMessage = span ∷ []
message_brings span _ = []

-- What an enum adds: itself.
abbrev pub enum_brings : Span → SiblingKind → List Span
enum_brings span AnEnum = span ∷ []
enum_brings span _ = []

-- What a oneof adds: itself, its fields and the messages that these declare.
abbrev pub oneof_brings : Span → List Node → SiblingKind → List Span
oneof_brings span fields AField = brought AField fields
oneof_brings span fields AMessage = brought AMessage fields
oneof_brings span fields AOneof = span ∷ []
oneof_brings span fields _ = []

-- What an extend adds: itself, its fields and the messages that these declare.
abbrev pub extend_brings : Span → List Node → SiblingKind → List Span
extend_brings span fields AMessage = brought AMessage fields
extend_brings span fields AnExtend = span ∷ []
extend_brings span fields AnExtension = brought AField fields
extend_brings span fields _ = []

-- What a service adds: itself.
abbrev pub service_brings : Span → SiblingKind → List Span
service_brings span AService = span ∷ []
service_brings span _ = []

-- The node of an enum.
abbrev pub enum_node : Enum → Node
enum_node x = record { span = x.span; inside = enum_siblings x; brings = enum_brings x.span }

-- The node of a service.
abbrev pub service_node : Service → Node
service_node x = record { span = x.span; inside = service_siblings x; brings = service_brings x.span }

-- What is known of a field by its kind: the span of its type, and, given the span of the field,
-- what stands in it and the messages that it declares.
pub record OfKind : Type 0 where
  pub type : Span
  pub inside : Span → List Siblings
  pub messages : Span → List Span

-- A layer of the tree whose inner parts are replaced by what is known of them.
abbrev Layer : (Type 0 → Type 0 → Type 0 → Type 0 → Type 0 → Type 0 → Type 0 → Type 0) → Type 0
Layer F = F OfKind Node Node Node Node (Span → List Siblings) Node

-- What is known of a field by its kind.
abbrev pub of_field_kind : Layer FieldKind-F → OfKind
of_field_kind (FieldKind-F.Normal type span) = record { type = span; inside = λ whole. type_siblings type span; messages = λ whole. [] }
of_field_kind (FieldKind-F.Group span body) = record { type = span; inside = body; messages = λ whole. whole ∷ [] }
of_field_kind (FieldKind-F.Map span key key_span value value_span) = record {
  type = span;
  inside = λ whole. siblings span (key_span ∷ (value_span ∷ [])) ∷ (type_siblings key key_span ++ type_siblings value value_span);
  messages = λ whole. whole ∷ [];
}

-- The node of an item of a message.
abbrev pub of_message_item : Layer MessageItem-F → Node
of_message_item (MessageItem-F.Field x) = x
of_message_item (MessageItem-F.Enum x) = enum_node x
of_message_item (MessageItem-F.Message x) = x
of_message_item (MessageItem-F.Extend x) = x
of_message_item (MessageItem-F.Oneof x) = x

-- What stands in the body of the message or group with this span: its declarations of each kind,
-- its items, its options, its extensions and its reserved statements.
abbrev pub inside_body : Layer MessageBody-F → Span → List Siblings
inside_body x whole =
    like_siblings whole x.items
    ++ siblings whole (node_spans x.items) ∷ siblings whole (option_spans x.options) ∷ (all_extensions whole x.extensions ++ (all_reserved whole x.reserved
    ++ (inside_all x.items ++ (flat_map option_siblings x.options ++ (flat_map extensions_siblings x.extensions ++ flat_map reserved_siblings x.reserved)))))

-- What stands in a field: its label, type, name, number and options.
abbrev pub inside_field : Layer Field-F → List Siblings
inside_field x =
    siblings x.span (place_if_any x.label ++ (x.kind.type ∷ (x.name.span ∷ (x.number.span ∷ list_span x.options))))
    ∷ (x.kind.inside x.span ++ list_siblings x.options)

-- What stands in a oneof: its name, its options and its fields.
abbrev pub inside_oneof : Layer Oneof-F → List Siblings
inside_oneof x =
    siblings x.span (x.name.span ∷ []) ∷ siblings x.span (option_spans x.options) ∷ siblings x.span (node_spans x.fields)
    ∷ (flat_map option_siblings x.options ++ inside_all x.fields)

-- What stands in an extend: the name of the message, and the fields.
abbrev pub inside_extend : Layer Extend-F → List Siblings
inside_extend x = siblings x.span (type_name_spans x.extendee) ∷ siblings x.span (node_spans x.fields) ∷ inside_all x.fields

-- The nodes of all levels, as one step for each.
abbrev pub nodes : Steps OfKind Node Node Node Node (Span → List Siblings) Node
nodes = record {
  kind = of_field_kind;
  item = of_message_item;
  extend = λ x. record { span = x.span; inside = inside_extend x; brings = extend_brings x.span x.fields };
  field = λ x. record { span = x.span; inside = inside_field x; brings = field_brings x.span (x.kind.messages x.span) };
  message = λ x. record { span = x.span; inside = siblings x.span (x.name.span ∷ []) ∷ x.body x.span; brings = message_brings x.span };
  body = inside_body;
  oneof = λ x. record { span = x.span; inside = inside_oneof x; brings = oneof_brings x.span x.fields };
}

-- ---- files

-- The node of a declaration of a file.
abbrev pub file_node : FileItem → Node
file_node (file_item.Enum x) = enum_node x
file_node (file_item.Message x) = of_message nodes x
file_node (file_item.Extend x) = of_extend nodes x
file_node (file_item.Service x) = service_node x

-- The span of the syntax statement, if there is one.
abbrev pub syntax_span : Option (Span × Comments) → List Span
syntax_span None = []
syntax_span (Some x) = x.0 ∷ []

-- The span of the package statement, if there is one.
abbrev pub package_span : Option Package → List Span
package_span None = []
package_span (Some x) = x.span ∷ []

-- The parts of the package statement.
abbrev pub package_siblings : Option Package → List Siblings
package_siblings None = []
package_siblings (Some x) = siblings x.span (ident_spans x.name) ∷ []

-- The parts of an import: the word after `import`, and the name of the file.
abbrev pub import_siblings : Import → List Siblings
import_siblings x = siblings x.span (place_if_any x.kind ++ x.value_span ∷ []) ∷ []

-- All of a file, in a source of `size` bytes.
abbrev pub file_siblings : ℕ → File → List Siblings
file_siblings size x =
    let whole = span_from 0 size in
    let items = map file_node x.items in
    like_siblings whole items
    ++ siblings whole (syntax_span x.syntax_span) ∷ siblings whole (package_span x.«package») ∷ siblings whole (map (λ i. i.span) x.imports)
    ∷ siblings whole (option_spans x.options) ∷ siblings whole (node_spans items)
    ∷ (package_siblings x.«package» ++ (flat_map import_siblings x.imports ++ (flat_map option_siblings x.options ++ inside_all items)))

-- All nodes of a file stand in the source, and those of a list stand one after another.
abbrev pub FileStands : ℕ → File → Type 0
FileStands size x = Each (SiblingsStand 0 size) (file_siblings size x)
