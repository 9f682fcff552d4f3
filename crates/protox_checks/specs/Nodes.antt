-- The parts of a file that are checked, in the order of the file.
use Rattle.std.specs.Prelude.{List, [], ◌∷◌, ◌++◌, map, Option, Some, None}
use Rattle.std.specs.List.{flat_map}
use Rattle.protox_fault.specs.Faults.{Span}
use Rattle.protox_ast.specs.Steps.{Steps, of_extend, of_message}
use Rattle.protox_ast.specs.declared.ast.Enum.{Enum}
use Rattle.protox_ast.specs.declared.ast.EnumValue.{EnumValue}
use Rattle.protox_ast.specs.declared.ast.Extensions.{Extensions}
use Rattle.protox_ast.specs.declared.ast.FieldKind.TheOpen.{Field-F, FieldKind-F, MessageItem-F}
use Rattle.protox_ast.specs.declared.ast.File.{File}
use Rattle.protox_ast.specs.declared.ast.FileItem.{FileItem}
use Rattle.protox_ast.specs.declared.ast.FileItem.TheVariants as item
use Rattle.protox_ast.specs.declared.ast.Int.{Int}
use Rattle.protox_ast.specs.declared.ast.Method.{Method}
use Rattle.protox_ast.specs.declared.ast.OptionBody.{OptionBody}
use Rattle.protox_ast.specs.declared.ast.OptionValue.{OptionValue}
use Rattle.protox_ast.specs.declared.ast.Reserved.{Reserved}
use Rattle.protox_ast.specs.declared.ast.ReservedRange.{ReservedRange}
use Rattle.protox_ast.specs.declared.ast.ReservedRangeEnd.{ReservedRangeEnd}
use Rattle.protox_ast.specs.declared.ast.ReservedRangeEnd.TheVariants as range_end
use Rattle.protox_ast.specs.declared.ast.Service.{Service}
use Rattle.protox_checks.specs.FieldFaults.{Scope, InMessage, InOneof, InExtend, KindNode, Normal, Group, Map, FieldNode}
use Rattle.protox_ast.specs.Options.{bodies_of, default_of, json_name_of, listed, options_left}
use Rattle.protox_ast.specs.Ranges.{reserved_ranges}

-- a part of a file that is checked
pub data Node : Type 0 where
  -- the number of a field, or a bound of a range in a message
  AMessageNumber : Int → Node
  -- the number of an enum's value, or a bound of a range in an enum
  AnEnumNumber : Int → Node
  AField : Scope → FieldNode → Node
  -- the value of the first `json_name` of a field
  AJsonName : OptionValue → Node
  -- the value of an option that isn't interpreted
  AnOption : OptionValue → Node
  -- a oneof without a field
  AnEmptyOneof : Span → Node

-- ---- options and ranges

-- the values of options that aren't interpreted
abbrev pub option_nodes : List OptionBody → List Node
option_nodes bodies = map (λ body. AnOption body.value) bodies

-- the value of `json_name`, if there is one
abbrev pub json_name_nodes : Option OptionBody → List Node
json_name_nodes None = []
json_name_nodes (Some body) = AJsonName body.value ∷ []

-- the end of a range, if it is a number
abbrev pub end_nodes : (Int → Node) → ReservedRangeEnd → List Node
end_nodes node range_end.None = []
end_nodes node (range_end.Int int) = node int ∷ []
end_nodes node (range_end.Max span) = []

-- the bounds of a range that are numbers
abbrev pub range_nodes : (Int → Node) → ReservedRange → List Node
range_nodes node range = node range.start ∷ end_nodes node range.end

-- the bounds of reserved ranges
abbrev pub reserved_nodes : (Int → Node) → List Reserved → List Node
reserved_nodes node statements = flat_map (range_nodes node) (reserved_ranges statements)

-- the ranges of an `extensions` statement; each has the options of the statement
abbrev pub extensions_nodes : Extensions → List Node
extensions_nodes statement = flat_map (λ range. option_nodes (listed statement.options) ++ range_nodes AMessageNumber range) statement.ranges

-- ---- enums and services

-- the number and the options of an enum value
abbrev pub enum_value_nodes : EnumValue → List Node
enum_value_nodes value = AnEnumNumber value.number ∷ option_nodes (listed value.options)

-- the parts of an enum
abbrev pub enum_nodes : Enum → List Node
enum_nodes enum = flat_map enum_value_nodes enum.values ++ (reserved_nodes AnEnumNumber enum.reserved ++ option_nodes (bodies_of enum.options))

-- the parts of a method
abbrev pub method_nodes : Method → List Node
method_nodes method = option_nodes (bodies_of method.options)

-- the parts of a service
abbrev pub service_nodes : Service → List Node
service_nodes service = flat_map method_nodes service.methods ++ option_nodes (bodies_of service.options)

-- ---- messages

-- a node of the tree, with the checked parts of each node below in its place
abbrev Layer : (Type 0 → Type 0 → Type 0 → Type 0 → Type 0 → Type 0 → Type 0 → Type 0) → Type 0
Layer F = F (KindNode × List Node) (List Node) (List Node) (Scope → List Node) (List Node) (List Node) (List Node)

-- a field's kind, with the parts in it
abbrev pub kind_step : Layer FieldKind-F → KindNode × List Node
kind_step (FieldKind-F.Normal type span) = (Normal type, [])
kind_step (FieldKind-F.Group span body) = (Group, body)
kind_step (FieldKind-F.Map span key key_span value value_span) = (Map key key_span, [])

-- the parts of a field, given the place where it stands
abbrev pub field_step : Layer Field-F → Scope → List Node
field_step f scope =
    AMessageNumber f.number
    ∷ AField scope (record { label = f.label; kind = f.kind.0; default = default_of f.options; span = f.span })
    ∷ (f.kind.1 ++ (json_name_nodes (json_name_of f.options) ++ option_nodes (options_left f.options)))

-- the parts of an item of a message
abbrev pub item_step : Layer MessageItem-F → List Node
item_step (MessageItem-F.Field field) = field InMessage
item_step (MessageItem-F.Message message) = message
item_step (MessageItem-F.Oneof oneof) = oneof
item_step (MessageItem-F.Enum enum) = enum_nodes enum
item_step (MessageItem-F.Extend extend) = extend

-- the parts of fields in one place
abbrev pub fields_nodes : Scope → List (Scope → List Node) → List Node
fields_nodes scope fields = flat_map (λ field. field scope) fields

-- the oneof at this span, if it has no field
abbrev pub empty_nodes : {A : Type 0} → List A → Span → List Node
empty_nodes [] span = AnEmptyOneof span ∷ []
empty_nodes (x ∷ xs) span = []

-- The steps that list the parts of a message: `of_message node_steps message`.
abbrev pub node_steps : Steps (KindNode × List Node) (List Node) (List Node) (Scope → List Node) (List Node) (List Node) (List Node)
node_steps = record {
  kind = kind_step;
  item = item_step;
  extend = λ e. fields_nodes InExtend e.fields;
  field = field_step;
  message = λ m. m.body;
  body = λ b. flat_map (λ nodes. nodes) b.items ++ (reserved_nodes AMessageNumber b.reserved ++ (flat_map extensions_nodes b.extensions ++ option_nodes (bodies_of b.options)));
  oneof = λ o. option_nodes (bodies_of o.options) ++ (empty_nodes o.fields o.span ++ fields_nodes InOneof o.fields);
}

-- ---- a file

-- the parts of an item of a file
abbrev pub item_nodes : FileItem → List Node
item_nodes (item.Enum enum) = enum_nodes enum
item_nodes (item.Message message) = of_message node_steps message
item_nodes (item.Extend extend) = of_extend node_steps extend
item_nodes (item.Service service) = service_nodes service

-- all parts of a file that are checked, in order
abbrev pub file_nodes : File → List Node
file_nodes file = flat_map item_nodes file.items ++ option_nodes (bodies_of file.options)
