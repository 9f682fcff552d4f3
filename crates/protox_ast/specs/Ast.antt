-- The syntax tree of a file's tree. The span of a node goes from the start of its first token to
-- the end of its last. The syntax tree drops empty statements and the order between elements that
-- go into different fields. It doesn't tell whether an rpc without options ends with `;` or with
-- braces, nor how a string is cut into literals.
use Rattle.std.specs.Prelude.{ℕ, List, [], ◌∷◌, Option, Some, None, option_map}
use Rattle.std.specs.List.{filter_map}
use Rattle.protox_fault.specs.Faults.{Span}
use Rattle.protox_ast.specs.declared.ast.Comments.{Comments}
use Rattle.protox_ast.specs.declared.ast.Option as option_type
use Rattle.protox_ast.specs.declared.ast.Package as package_type
use Rattle.protox_ast.specs.declared.ast.Import as import_type
use Rattle.protox_ast.specs.declared.ast.Field as field_type
use Rattle.protox_ast.specs.declared.ast.Field.{roll-Field}
use Rattle.protox_ast.specs.declared.ast.FieldKind.{FieldKind}
use Rattle.protox_ast.specs.declared.ast.FieldKind.TheVariants as field_kind
use Rattle.protox_ast.specs.declared.ast.Reserved as reserved_type
use Rattle.protox_ast.specs.declared.ast.Extensions as extensions_type
use Rattle.protox_ast.specs.declared.ast.EnumValue.{EnumValue}
use Rattle.protox_ast.specs.declared.ast.Enum as enum_type
use Rattle.protox_ast.specs.declared.ast.Method.{Method}
use Rattle.protox_ast.specs.declared.ast.Service as service_type
use Rattle.protox_ast.specs.declared.ast.Oneof as oneof_type
use Rattle.protox_ast.specs.declared.ast.Oneof.{roll-Oneof}
use Rattle.protox_ast.specs.declared.ast.Extend as extend_type
use Rattle.protox_ast.specs.declared.ast.Extend.{roll-Extend}
use Rattle.protox_ast.specs.declared.ast.MessageItem.{MessageItem}
use Rattle.protox_ast.specs.declared.ast.MessageItem.TheVariants as item
use Rattle.protox_ast.specs.declared.ast.MessageBody.{MessageBody, roll-MessageBody}
use Rattle.protox_ast.specs.declared.ast.Message as message_type
use Rattle.protox_ast.specs.declared.ast.Message.{roll-Message}
use Rattle.protox_ast.specs.declared.ast.FileItem.{FileItem}
use Rattle.protox_ast.specs.declared.ast.FileItem.TheVariants as file_item
use Rattle.protox_ast.specs.declared.ast.File as file_type
use Rattle.protox_ast.specs.Tree as t
use Rattle.protox_ast.specs.Spelling.{spell}
use Rattle.protox_ast.specs.Places.{Place}
pub use Rattle.protox_ast.specs.AstParts.{join, join_if_any, last_place, text_of, ident, fullident, span_if_any, typename, typename_span, int, values, strings_value, run_span, strings_span, syntax_of, file_syntax, import_kind, signed_text, spaced, aggregate_text, value, part, body, list, scalar, type, type_span, type_first, label, label_place, field_first, body_open, body_close, range_end, range, ranges, reserved_name, reserved_kind, first_of, rows_span}

-- ---- declarations

-- The comments of a declaration: those before its first token, and the one after its `;` or `{`.
-- For an rpc with braces it is the one after its `}`.
abbrev pub comments : Place → Place → Comments
comments first last = record { leading_detached_comments = first.detached; leading_comment = first.leading; trailing_comment = last.trailing }

-- The span of the syntax statement, and its comments.
abbrev pub syntax_place : t.Syntax Place → Span × Comments
syntax_place x = (join x.keyword.span x.end.span, comments x.keyword x.end)

-- An import.
abbrev pub «import» : t.Import Place → import_type.Import
«import» x = record {
  kind = option_map import_kind x.kind;
  value = text_of (strings_value x.value);
  value_span = strings_span x.value;
  comments = comments x.keyword x.end;
  span = join x.keyword.span x.end.span;
}

-- The package statement.
abbrev pub «package» : t.Package Place → package_type.Package
«package» x = record { name = fullident x.name; comments = comments x.keyword x.end; span = join x.keyword.span x.end.span }

-- An option statement.
abbrev pub option : t.OptionStatement Place → option_type.Option
option x = record { body = body x.body; comments = comments x.keyword x.end; span = join x.keyword.span x.end.span }

-- A reserved statement.
abbrev pub reserved : t.Reserved Place → reserved_type.Reserved
reserved x = record { kind = reserved_kind x.kind; comments = comments x.keyword x.end; span = join x.keyword.span x.end.span }

-- An extensions statement.
abbrev pub extensions : t.Extensions Place → extensions_type.Extensions
extensions x = record { ranges = ranges x.ranges; options = option_map list x.options; comments = comments x.keyword x.end; span = join x.keyword.span x.end.span }

-- ---- enums

-- A value of an enum.
abbrev pub evalue : t.Evalue Place → EnumValue
evalue x = record { name = ident x.name; number = int x.number; options = option_map list x.options; comments = comments x.name.1 x.end; span = join x.name.1.span x.end.span }

-- The option statement, if the element is one.
abbrev pub enum_option : t.EnumElement Place → Option option_type.Option
enum_option (t.enum_option x) = Some (option x)
enum_option _ = None

-- The value, if the element is one.
abbrev pub enum_value : t.EnumElement Place → Option EnumValue
enum_value (t.enum_value x) = Some (evalue x)
enum_value _ = None

-- The reserved statement, if the element is one.
abbrev pub enum_reserved : t.EnumElement Place → Option reserved_type.Reserved
enum_reserved (t.enum_reserved x) = Some (reserved x)
enum_reserved _ = None

-- An enum.
abbrev pub enum : t.Enum Place → enum_type.Enum
enum x = record {
  name = ident x.name;
  options = filter_map enum_option x.elements;
  values = filter_map enum_value x.elements;
  reserved = filter_map enum_reserved x.elements;
  comments = comments x.keyword x.open_at;
  span = join x.keyword.span x.close_at.span;
}

-- ---- services

-- The option statement, if the element is one.
abbrev pub rpc_option : t.RpcElement Place → Option option_type.Option
rpc_option (t.rpc_option x) = Some (option x)
rpc_option (t.rpc_empty place) = None

-- The options of an rpc.
abbrev pub rpc_options : t.RpcEnd Place → List option_type.Option
rpc_options (t.rpc_semicolon place) = []
rpc_options (t.rpc_braces open_at xs close_at) = filter_map rpc_option xs

-- The last token of an rpc.
abbrev pub rpc_last : t.RpcEnd Place → Place
rpc_last (t.rpc_semicolon place) = place
rpc_last (t.rpc_braces open_at xs close_at) = close_at

-- A method.
abbrev pub rpc : t.Rpc Place → Method
rpc x = record {
  name = ident x.name;
  input_ty = typename x.input.name;
  output_ty = typename x.output.name;
  options = rpc_options x.end;
  client_streaming = span_if_any x.input.stream;
  server_streaming = span_if_any x.output.stream;
  comments = comments x.keyword (rpc_last x.end);
  span = join x.keyword.span (rpc_last x.end).span;
}

-- The option statement, if the element is one.
abbrev pub service_option : t.ServiceElement Place → Option option_type.Option
service_option (t.service_option x) = Some (option x)
service_option _ = None

-- The method, if the element is one.
abbrev pub service_rpc : t.ServiceElement Place → Option Method
service_rpc (t.service_rpc x) = Some (rpc x)
service_rpc _ = None

-- A service.
abbrev pub service : t.Service Place → service_type.Service
service x = record {
  name = ident x.name;
  options = filter_map service_option x.elements;
  methods = filter_map service_rpc x.elements;
  comments = comments x.keyword x.open_at;
  span = join x.keyword.span x.close_at.span;
}

-- ---- fields and messages

-- A field with these parts. It begins with its label, or without one with the first token of its
-- kind. Its comments are those before it, and the one after its `;` or `{`.
abbrev pub field_with : Option (t.Label Place) → FieldKind → t.Word Place → t.Int Place → Option (t.OptionList Place) → Place → Place → Place → field_type.Field
field_with l kind name number options first commented last = roll-Field (record {
  label = option_map label l;
  name = ident name;
  kind = kind;
  number = int number;
  options = option_map list options;
  comments = comments (field_first l first) commented;
  span = join (field_first l first).span last.span;
})

-- A normal field.
abbrev pub normal : Option (t.Label Place) → t.Normal Place → field_type.Field
normal l x = field_with l (field_kind.Normal (type x.type) (type_span x.type)) x.name x.number x.options (type_first x.type) x.end x.end

-- A map field. The span of its type goes from `map` to `>`.
abbrev pub map_field : Option (t.Label Place) → t.Map Place → field_type.Field
map_field l x =
    field_with l (field_kind.Map (join x.keyword.span x.close_at.span) (type x.key) (type_span x.key) (type x.value) (type_span x.value)) x.name x.number x.options x.keyword x.end x.end

-- The option statements of a message.
abbrev pub options_in : t.Elements Place → List option_type.Option
options_in t.no_elements = []
options_in (t.elements (t.option x) es) = option x ∷ options_in es
options_in (t.elements _ es) = options_in es

-- The extensions statements of a message.
abbrev pub extensions_in : t.Elements Place → List extensions_type.Extensions
extensions_in t.no_elements = []
extensions_in (t.elements (t.extensions x) es) = extensions x ∷ extensions_in es
extensions_in (t.elements _ es) = extensions_in es

-- The reserved statements of a message.
abbrev pub reserved_in : t.Elements Place → List reserved_type.Reserved
reserved_in t.no_elements = []
reserved_in (t.elements (t.reserved x) es) = reserved x ∷ reserved_in es
reserved_in (t.elements _ es) = reserved_in es

-- The option statements of a oneof.
abbrev pub oneof_options : t.OneofElements Place → List option_type.Option
oneof_options t.no_oneof_elements = []
oneof_options (t.oneof_elements (t.oneof_option x) es) = option x ∷ oneof_options es
oneof_options (t.oneof_elements _ es) = oneof_options es

abbrev mutual
  -- A message.
  pub message : t.Message Place → message_type.Message
  message (t.message_of keyword name b) = roll-Message (record {
    name = ident name;
    body = mbody b;
    comments = comments keyword (body_open b);
    span = join keyword.span (body_close b).span;
  })

  -- The body of a message.
  pub mbody : t.Mbody Place → MessageBody
  mbody (t.mbody_of open_at es close_at) = roll-MessageBody (record { items = items es; extensions = extensions_in es; options = options_in es; reserved = reserved_in es })

  -- The fields, enums, messages, extends and oneofs of a body, in order.
  pub items : t.Elements Place → List MessageItem
  items t.no_elements = []
  items (t.elements (t.field x) es) = item.Field (field x) ∷ items es
  items (t.elements (t.oneof x) es) = item.Oneof (oneof x) ∷ items es
  items (t.elements (t.enum x) es) = item.Enum (enum x) ∷ items es
  items (t.elements (t.message x) es) = item.Message (message x) ∷ items es
  items (t.elements (t.extend x) es) = item.Extend (extend x) ∷ items es
  items (t.elements _ es) = items es

  -- A field of any kind.
  pub field : t.Field Place → field_type.Field
  field (t.field_of l (t.normal x)) = normal l x
  field (t.field_of l (t.map x)) = map_field l x
  field (t.field_of l (t.group x)) = group l x

  -- A group. The span of its type is its keyword.
  pub group : Option (t.Label Place) → t.Group Place → field_type.Field
  group l (t.group_of keyword name equals_sign number options b) = field_with l (field_kind.Group keyword.span (mbody b)) name number options keyword (body_open b) (body_close b)

  -- A oneof.
  pub oneof : t.Oneof Place → oneof_type.Oneof
  oneof (t.oneof_of keyword name open_at es close_at) = roll-Oneof (record {
    name = ident name;
    options = oneof_options es;
    fields = oneof_fields es;
    comments = comments keyword open_at;
    span = join keyword.span close_at.span;
  })

  -- The fields of a oneof.
  pub oneof_fields : t.OneofElements Place → List field_type.Field
  oneof_fields t.no_oneof_elements = []
  oneof_fields (t.oneof_elements (t.oneof_field x) es) = field x ∷ oneof_fields es
  oneof_fields (t.oneof_elements _ es) = oneof_fields es

  -- An extend.
  pub extend : t.Extend Place → extend_type.Extend
  extend (t.extend_of keyword extendee open_at es close_at) = roll-Extend (record {
    extendee = typename extendee;
    fields = extend_fields es;
    comments = comments keyword open_at;
    span = join keyword.span close_at.span;
  })

  -- The fields of an extend.
  pub extend_fields : t.ExtendElements Place → List field_type.Field
  extend_fields t.no_extend_elements = []
  extend_fields (t.extend_elements (t.extend_field x) es) = field x ∷ extend_fields es
  extend_fields (t.extend_elements (t.extend_empty place) es) = extend_fields es

-- ---- files

-- The import, if the statement is one.
abbrev pub imported : t.Statement Place → Option import_type.Import
imported (t.an_import x) = Some («import» x)
imported _ = None

-- The package statement, if the statement is one.
abbrev pub packaged : t.Statement Place → Option package_type.Package
packaged (t.a_package x) = Some («package» x)
packaged _ = None

-- The option statement, if the statement is one.
abbrev pub file_option : t.Statement Place → Option option_type.Option
file_option (t.an_option x) = Some (option x)
file_option _ = None

-- The message, enum, extend or service, if the statement is one.
abbrev pub file_element : t.Statement Place → Option FileItem
file_element (t.a_message x) = Some (file_item.Message (message x))
file_element (t.an_enum x) = Some (file_item.Enum (enum x))
file_element (t.an_extend x) = Some (file_item.Extend (extend x))
file_element (t.a_service x) = Some (file_item.Service (service x))
file_element _ = None

-- The syntax tree of a source of `size` bytes. Of several package statements it keeps the first.
abbrev pub file : ℕ → t.File Place → file_type.File
file size x = record {
  span = rows_span size (spell x);
  syntax = file_syntax x.syntax;
  syntax_span = option_map syntax_place x.syntax;
  «package» = first_of (filter_map packaged x.statements);
  imports = filter_map imported x.statements;
  options = filter_map file_option x.statements;
  items = filter_map file_element x.statements;
}
