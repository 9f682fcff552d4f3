-- The text format of a file's descriptor: each message of descriptor.proto with its fields, in the
-- order of their numbers. A field that is absent has no line.
use Rattle.std.specs.Prelude.{ℕ, ℤ, Bool, true, false, List, ◌++◌, codes, Option, None}
use Rattle.protox_descriptor.specs.FieldDescriptorProto.{FieldDescriptorProto}
use Rattle.protox_descriptor.specs.Location.{Location}
use Rattle.protox_descriptor.specs.declared.descriptor.DescriptorProto.{DescriptorProto}
use Rattle.protox_descriptor.specs.declared.descriptor.DescriptorProto.TheFolds.{fold-DescriptorProto}
use Rattle.protox_descriptor.specs.declared.descriptor.DescriptorProto.TheOpen.{DescriptorProto-F}
use Rattle.protox_descriptor.specs.declared.descriptor.EnumDescriptorProto.{EnumDescriptorProto}
use Rattle.protox_descriptor.specs.declared.descriptor.EnumValueDescriptorProto.{EnumValueDescriptorProto}
use Rattle.protox_descriptor.specs.declared.descriptor.FileDescriptorProto.{FileDescriptorProto}
use Rattle.protox_descriptor.specs.declared.descriptor.MethodDescriptorProto.{MethodDescriptorProto}
use Rattle.protox_descriptor.specs.declared.descriptor.OneofDescriptorProto.{OneofDescriptorProto}
use Rattle.protox_descriptor.specs.declared.descriptor.ServiceDescriptorProto.{ServiceDescriptorProto}
use Rattle.protox_descriptor.specs.declared.descriptor.SourceCodeInfo.{SourceCodeInfo}
use Rattle.protox_descriptor.specs.declared.descriptor.descriptor_proto.ExtensionRange.{ExtensionRange}
use Rattle.protox_descriptor.specs.declared.descriptor.descriptor_proto.ReservedRange.{ReservedRange}
use Rattle.protox_descriptor.specs.declared.descriptor.enum_descriptor_proto.EnumReservedRange.{EnumReservedRange}
use Rattle.protox_descriptor.specs.declared.descriptor.options.EnumOptions.{EnumOptions}
use Rattle.protox_descriptor.specs.declared.descriptor.options.EnumValueOptions.{EnumValueOptions}
use Rattle.protox_descriptor.specs.declared.descriptor.options.ExtensionRangeOptions.{ExtensionRangeOptions}
use Rattle.protox_descriptor.specs.declared.descriptor.options.FieldOptions.{FieldOptions}
use Rattle.protox_descriptor.specs.declared.descriptor.options.FileOptions.{FileOptions}
use Rattle.protox_descriptor.specs.declared.descriptor.options.MessageOptions.{MessageOptions}
use Rattle.protox_descriptor.specs.declared.descriptor.options.MethodOptions.{MethodOptions}
use Rattle.protox_descriptor.specs.declared.descriptor.options.OneofOptions.{OneofOptions}
use Rattle.protox_descriptor.specs.declared.descriptor.options.ServiceOptions.{ServiceOptions}
use Rattle.protox_descriptor.specs.declared.descriptor.options.UninterpretedOption.{UninterpretedOption}
use Rattle.protox_descriptor.specs.declared.descriptor.uninterpreted_option.NamePart.{NamePart}
use Rattle.protox_text.specs.TextLines.{At, value_line, bytes_line, number_line, count_line, flag_line, within, if_any, each}
use Rattle.protox_text.specs.TextNames.{label_name, type_name}

-- ---- options

abbrev pub name_part_fields : NamePart → ℕ → List ℕ
name_part_fields p d = bytes_line p.name_part d (codes "name_part") ++ flag_line p.is_extension d (codes "is_extension")

abbrev pub name_part_text : NamePart → At
name_part_text p = within (name_part_fields p)

-- one of the six kinds of values
abbrev pub value_text : UninterpretedOption → ℕ → List ℕ
value_text o d =
    if_any bytes_line o.identifier_value d (codes "identifier_value")
    ++ (if_any count_line o.positive_int_value d (codes "positive_int_value")
    ++ (if_any number_line o.negative_int_value d (codes "negative_int_value")
    ++ (if_any value_line o.double_value d (codes "double_value")
    ++ (if_any bytes_line o.string_value d (codes "string_value")
    ++ if_any bytes_line o.aggregate_value d (codes "aggregate_value")))))

abbrev pub option_fields : UninterpretedOption → ℕ → List ℕ
option_fields o d = each name_part_text o.name d (codes "name") ++ value_text o d

abbrev pub option_text : UninterpretedOption → At
option_text o = within (option_fields o)

abbrev pub listed_text : List UninterpretedOption → ℕ → List ℕ
listed_text options d = each option_text options d (codes "uninterpreted_option")

-- a message of options
abbrev pub options_text : List UninterpretedOption → At
options_text options = within (listed_text options)

abbrev pub message_options_fields : MessageOptions → ℕ → List ℕ
message_options_fields o d = if_any flag_line o.map_entry d (codes "map_entry") ++ listed_text o.uninterpreted_option d

abbrev pub message_options_text : MessageOptions → At
message_options_text o = within (message_options_fields o)

-- ---- fields and oneofs

abbrev pub label_line : ℤ → At
label_line number = value_line (label_name number)

abbrev pub type_line : ℤ → At
type_line number = value_line (type_name number)

-- what a field has from its label on
abbrev pub field_type_text : FieldDescriptorProto → ℕ → List ℕ
field_type_text f d =
    if_any label_line f.label d (codes "label")
    ++ (if_any type_line f.field_type d (codes "type")
    ++ if_any bytes_line f.type_name d (codes "type_name"))

abbrev pub field_options_text : FieldOptions → At
field_options_text o = options_text o.uninterpreted_option

-- what a field has from its default value on
abbrev pub field_end_text : FieldDescriptorProto → ℕ → List ℕ
field_end_text f d =
    if_any bytes_line f.default_value d (codes "default_value")
    ++ (if_any field_options_text f.options d (codes "options")
    ++ (if_any number_line f.oneof_index d (codes "oneof_index")
    ++ (if_any bytes_line f.json_name d (codes "json_name")
    ++ if_any flag_line f.proto3_optional d (codes "proto3_optional"))))

abbrev pub field_fields : FieldDescriptorProto → ℕ → List ℕ
field_fields f d =
    if_any bytes_line f.name d (codes "name")
    ++ (if_any bytes_line f.extendee d (codes "extendee")
    ++ (if_any number_line f.number d (codes "number")
    ++ (field_type_text f d ++ field_end_text f d)))

abbrev pub field_text : FieldDescriptorProto → At
field_text f = within (field_fields f)

abbrev pub oneof_options_text : OneofOptions → At
oneof_options_text o = options_text o.uninterpreted_option

abbrev pub oneof_fields : OneofDescriptorProto → ℕ → List ℕ
oneof_fields o d = if_any bytes_line o.name d (codes "name") ++ if_any oneof_options_text o.options d (codes "options")

abbrev pub oneof_text : OneofDescriptorProto → At
oneof_text o = within (oneof_fields o)

-- ---- enums

abbrev pub enum_value_options_text : EnumValueOptions → At
enum_value_options_text o = options_text o.uninterpreted_option

abbrev pub enum_value_fields : EnumValueDescriptorProto → ℕ → List ℕ
enum_value_fields v d =
    if_any bytes_line v.name d (codes "name")
    ++ (if_any number_line v.number d (codes "number")
    ++ if_any enum_value_options_text v.options d (codes "options"))

abbrev pub enum_value_text : EnumValueDescriptorProto → At
enum_value_text v = within (enum_value_fields v)

abbrev pub enum_reserved_fields : EnumReservedRange → ℕ → List ℕ
enum_reserved_fields r d = if_any number_line r.start d (codes "start") ++ if_any number_line r.end d (codes "end")

abbrev pub enum_reserved_text : EnumReservedRange → At
enum_reserved_text r = within (enum_reserved_fields r)

abbrev pub enum_options_text : EnumOptions → At
enum_options_text o = options_text o.uninterpreted_option

abbrev pub enum_fields : EnumDescriptorProto → ℕ → List ℕ
enum_fields e d =
    if_any bytes_line e.name d (codes "name")
    ++ (each enum_value_text e.value d (codes "value")
    ++ (if_any enum_options_text e.options d (codes "options")
    ++ (each enum_reserved_text e.reserved_range d (codes "reserved_range")
    ++ each bytes_line e.reserved_name d (codes "reserved_name"))))

abbrev pub enum_text : EnumDescriptorProto → At
enum_text e = within (enum_fields e)

-- ---- services

abbrev pub method_options_text : MethodOptions → At
method_options_text o = options_text o.uninterpreted_option

abbrev pub method_fields : MethodDescriptorProto → ℕ → List ℕ
method_fields m d =
    if_any bytes_line m.name d (codes "name")
    ++ (if_any bytes_line m.input_type d (codes "input_type")
    ++ (if_any bytes_line m.output_type d (codes "output_type")
    ++ (if_any method_options_text m.options d (codes "options")
    ++ (if_any flag_line m.client_streaming d (codes "client_streaming")
    ++ if_any flag_line m.server_streaming d (codes "server_streaming")))))

abbrev pub method_text : MethodDescriptorProto → At
method_text m = within (method_fields m)

abbrev pub service_options_text : ServiceOptions → At
service_options_text o = options_text o.uninterpreted_option

abbrev pub service_fields : ServiceDescriptorProto → ℕ → List ℕ
service_fields s d =
    if_any bytes_line s.name d (codes "name")
    ++ (each method_text s.method d (codes "method")
    ++ if_any service_options_text s.options d (codes "options"))

abbrev pub service_text : ServiceDescriptorProto → At
service_text s = within (service_fields s)

-- ---- messages

abbrev pub range_options_text : ExtensionRangeOptions → At
range_options_text o = options_text o.uninterpreted_option

abbrev pub extension_range_fields : ExtensionRange → ℕ → List ℕ
extension_range_fields r d =
    if_any number_line r.start d (codes "start")
    ++ (if_any number_line r.end d (codes "end")
    ++ if_any range_options_text r.options d (codes "options"))

abbrev pub extension_range_text : ExtensionRange → At
extension_range_text r = within (extension_range_fields r)

abbrev pub reserved_range_fields : ReservedRange → ℕ → List ℕ
reserved_range_fields r d = if_any number_line r.start d (codes "start") ++ if_any number_line r.end d (codes "end")

abbrev pub reserved_range_text : ReservedRange → At
reserved_range_text r = within (reserved_range_fields r)

-- what stands behind the nested messages
abbrev pub message_middle_text : {M : Type 0} → DescriptorProto-F M → ℕ → List ℕ
message_middle_text m d =
    each enum_text m.enum_type d (codes "enum_type")
    ++ (each extension_range_text m.extension_range d (codes "extension_range")
    ++ each field_text m.extension d (codes "extension"))

-- what stands behind the extensions
abbrev pub message_end_text : {M : Type 0} → DescriptorProto-F M → ℕ → List ℕ
message_end_text m d =
    if_any message_options_text m.options d (codes "options")
    ++ (each oneof_text m.oneof_decl d (codes "oneof_decl")
    ++ (each reserved_range_text m.reserved_range d (codes "reserved_range")
    ++ each bytes_line m.reserved_name d (codes "reserved_name")))

-- a message, given the texts of the messages in it
abbrev pub message_fields : DescriptorProto-F At → ℕ → List ℕ
message_fields m d =
    if_any bytes_line m.name d (codes "name")
    ++ (each field_text m.field d (codes "field")
    ++ (each (λ text. text) m.nested_type d (codes "nested_type")
    ++ (message_middle_text m d ++ message_end_text m d)))

abbrev pub message_step : DescriptorProto-F At → At
message_step m = within (message_fields m)

abbrev pub message_text : DescriptorProto → At
message_text = fold-DescriptorProto At message_step

-- ---- locations

abbrev pub location_fields : Location → ℕ → List ℕ
location_fields l d =
    each number_line l.path d (codes "path")
    ++ (each number_line l.span d (codes "span")
    ++ (if_any bytes_line l.leading_comments d (codes "leading_comments")
    ++ (if_any bytes_line l.trailing_comments d (codes "trailing_comments")
    ++ each bytes_line l.leading_detached_comments d (codes "leading_detached_comments"))))

abbrev pub location_text : Location → At
location_text l = within (location_fields l)

abbrev pub source_info_fields : SourceCodeInfo → ℕ → List ℕ
source_info_fields i d = each location_text i.location d (codes "location")

abbrev pub source_info_text : SourceCodeInfo → At
source_info_text i = within (source_info_fields i)

-- ---- files

abbrev pub types_text : FileDescriptorProto → List ℕ
types_text f =
    each message_text f.message_type 0 (codes "message_type")
    ++ (each enum_text f.enum_type 0 (codes "enum_type")
    ++ (each service_text f.service 0 (codes "service")
    ++ each field_text f.extension 0 (codes "extension")))

abbrev pub file_options_text : FileOptions → At
file_options_text o = options_text o.uninterpreted_option

-- the locations, if they are asked for
abbrev pub asked : {A : Type 0} → Bool → Option A → Option A
asked true part = part
asked false part = None

abbrev pub file_end_text : Bool → FileDescriptorProto → List ℕ
file_end_text source_info f =
    if_any file_options_text f.options 0 (codes "options")
    ++ (if_any source_info_text (asked source_info f.source_code_info) 0 (codes "source_code_info")
    ++ (each number_line f.public_dependency 0 (codes "public_dependency")
    ++ (each number_line f.weak_dependency 0 (codes "weak_dependency")
    ++ if_any bytes_line f.syntax 0 (codes "syntax"))))

abbrev pub file_text : Bool → FileDescriptorProto → List ℕ
file_text source_info f =
    if_any bytes_line f.name 0 (codes "name")
    ++ (if_any bytes_line f.«package» 0 (codes "package")
    ++ (each bytes_line f.dependency 0 (codes "dependency")
    ++ (types_text f ++ file_end_text source_info f)))
