-- Syntax trees written shortly, and locations as lists of numbers, for examples.
use Prim.Native.String.{String}
use Rattle.std.specs.Prelude.{ℕ, ◌+◌, true, false, List, [], ◌∷◌, length, map, Option, Some, None, codes, nat_abs, unwrap_or}
use Rattle.protox_fault.specs.Faults.{Span}
use Rattle.protox_ast.specs.declared.ast.Comments.{Comments}
use Rattle.protox_ast.specs.declared.ast.Enum.{Enum}
use Rattle.protox_ast.specs.declared.ast.EnumValue.{EnumValue}
use Rattle.protox_ast.specs.declared.ast.Extensions.{Extensions}
use Rattle.protox_ast.specs.declared.ast.FieldLabel.{FieldLabel}
use Rattle.protox_ast.specs.declared.ast.FieldLabel.TheVariants as label
use Rattle.protox_ast.specs.declared.ast.File.{File}
use Rattle.protox_ast.specs.declared.ast.Ident.{Ident}
use Rattle.protox_ast.specs.declared.ast.Int.{Int}
use Rattle.protox_ast.specs.declared.ast.OptionBody.{OptionBody}
use Rattle.protox_ast.specs.declared.ast.OptionList.{OptionList}
use Rattle.protox_ast.specs.declared.ast.OptionNamePart.TheVariants as part
use Rattle.protox_ast.specs.declared.ast.OptionValue.{OptionValue}
use Rattle.protox_ast.specs.declared.ast.OptionValue.TheVariants as value
use Rattle.protox_ast.specs.declared.ast.Reserved.{Reserved}
use Rattle.protox_ast.specs.declared.ast.ReservedKind.TheVariants as reserved_kind
use Rattle.protox_ast.specs.declared.ast.ReservedRange.{ReservedRange}
use Rattle.protox_ast.specs.declared.ast.ReservedRangeEnd.{ReservedRangeEnd}
use Rattle.protox_ast.specs.declared.ast.Syntax.TheVariants.{Proto2, Proto3}
use Rattle.protox_ast.specs.declared.ast.TypeName.{TypeName}
use Rattle.protox_descriptor.specs.declared.descriptor.DescriptorProto.{DescriptorProto, roll-DescriptorProto}
use Rattle.protox_descriptor.specs.FieldDescriptorProto.{FieldDescriptorProto}
use Rattle.protox_descriptor.specs.declared.descriptor.OneofDescriptorProto.{OneofDescriptorProto}
use Rattle.protox_descriptor.specs.declared.descriptor.options.MessageOptions.{MessageOptions}
use Rattle.protox_descriptor.specs.declared.descriptor.options.UninterpretedOption.{UninterpretedOption}
use Rattle.protox_descriptor.specs.declared.descriptor.source_code_info.Location.{Location}
use Rattle.protox_ast.specs.Options.{OptionStatement}

-- ---- leaves

abbrev pub at : ℕ → ℕ → Span
at start end = record { start = start; end = end }

abbrev pub quiet : Comments
quiet = record { leading_detached_comments = []; leading_comment = None; trailing_comment = None }

-- what stands at a span is led by a comment that holds the span's start
abbrev pub noted : Span → Comments
noted span = record { leading_detached_comments = []; leading_comment = Some (span.start ∷ []); trailing_comment = None }

-- a word that begins at an offset
abbrev pub word : String → ℕ → Ident
word text start = record { value = codes text; span = at start (start + length (codes text)) }

abbrev pub int : ℕ → Span → Int
int number span = record { negative = false; value = number; span = span }

abbrev pub minus : ℕ → Span → Int
minus number span = record { negative = true; value = number; span = span }

-- a name of one part, and one with a leading dot
abbrev pub name : Ident → TypeName
name ident = record { leading_dot = None; name = ident ∷ [] }

abbrev pub dotted : Span → List Ident → TypeName
dotted dot parts = record { leading_dot = Some dot; name = parts }

-- ---- options

abbrev pub body_of : Ident → OptionValue → OptionBody
body_of ident v = record { name = part.Ident ident ∷ []; value = v }

abbrev pub string : String → Span → OptionValue
string text span = value.String (record { value = codes text; span = span })

abbrev pub float : String → Span → OptionValue
float text span = value.Float (record { value = codes text; span = span })

abbrev pub identifier : Ident → OptionValue
identifier ident = value.Ident false ident ident.span

abbrev pub list : List OptionBody → Span → Option OptionList
list bodies span = Some (record { options = bodies; span = span })

abbrev pub statement : OptionBody → Span → OptionStatement
statement option span = record { body = option; comments = noted span; span = span }

-- ---- fields and messages

abbrev pub optional : Span → Option (FieldLabel × Span)
optional span = Some (label.Optional, span)

abbrev pub required : Span → Option (FieldLabel × Span)
required span = Some (label.Required, span)

abbrev pub repeated : Span → Option (FieldLabel × Span)
repeated span = Some (label.Repeated, span)

-- ---- ranges, enums

abbrev pub range : Int → ReservedRangeEnd → ReservedRange
range start end = record { start = start; end = end }

abbrev pub ranges : List ReservedRange → Span → Reserved
ranges all span = record { kind = reserved_kind.Ranges all; comments = noted span; span = span }

abbrev pub names : List Ident → Span → Reserved
names all span = record { kind = reserved_kind.Names all; comments = noted span; span = span }

abbrev pub extensions : List ReservedRange → Option OptionList → Span → Extensions
extensions all options span = record { ranges = all; options = options; comments = noted span; span = span }

abbrev pub enum_value : Ident → Int → Option OptionList → Span → EnumValue
enum_value ident number options span = record { name = ident; number = number; options = options; comments = noted span; span = span }

abbrev pub enum : Ident → List EnumValue → List Reserved → Span → Enum
enum ident values reserved span = record { name = ident; options = []; values = values; reserved = reserved; comments = noted span; span = span }

-- ---- files

-- a file without items, of proto2
abbrev pub file : Span → File
file span = record { span = span; syntax = Proto2; syntax_span = None; «package» = None; imports = []; options = []; items = [] }

-- and of proto3, with the place of its syntax statement
abbrev pub file3 : Span → Span → File
file3 syntax_at span = record { span = span; syntax = Proto3; syntax_span = Some (syntax_at, quiet); «package» = None; imports = []; options = []; items = [] }

-- ---- what is shown of a file

-- a location's path and its span
abbrev pub shown : Location → List ℕ × List ℕ
shown location = (map nat_abs location.path, map nat_abs location.span)

-- and the comment that leads it
abbrev pub shown_whole : Location → List ℕ × List ℕ × List ℕ
shown_whole location = (map nat_abs location.path, map nat_abs location.span, unwrap_or location.leading_comments [])

-- ---- descriptors

abbrev pub no_field : FieldDescriptorProto
no_field = record {
  name = None;
  number = None;
  label = None;
  field_type = None;
  type_name = None;
  extendee = None;
  default_value = None;
  oneof_index = None;
  json_name = None;
  options = None;
  proto3_optional = None;
}

abbrev pub made_oneof : String → OneofDescriptorProto
made_oneof text = record { name = Some (codes text); options = None }

-- a message of these fields, messages and oneofs
abbrev pub made_message : String → List FieldDescriptorProto → List DescriptorProto → List OneofDescriptorProto → DescriptorProto
made_message text fields nested oneofs = roll-DescriptorProto (record {
  name = Some (codes text);
  field = fields;
  extension = [];
  nested_type = nested;
  enum_type = [];
  extension_range = [];
  oneof_decl = oneofs;
  options = None;
  reserved_range = [];
  reserved_name = [];
})

-- an option of one name that isn't interpreted, without a value
abbrev pub no_option : String → UninterpretedOption
no_option text = record {
  name = record { name_part = codes text; is_extension = false } ∷ [];
  identifier_value = None;
  positive_int_value = None;
  negative_int_value = None;
  double_value = None;
  string_value = None;
  aggregate_value = None;
}

-- the options of a message, each `message_set_wire_format` with a word
abbrev pub set_options : List (List ℕ) → Option MessageOptions
set_options words = Some (record { map_entry = None; uninterpreted_option = map (λ text. record (no_option "message_set_wire_format") { identifier_value = Some text }) words })

abbrev pub number : Int → OptionValue
number one = value.Int one
