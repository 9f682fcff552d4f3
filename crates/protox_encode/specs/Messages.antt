-- What each message of descriptor.proto holds on the wire: the numbers of its fields, in the order
-- in which they are written, each with its values.
use Rattle.std.specs.Prelude.{List, [], ◌∷◌, Some}
use Rattle.protox_descriptor.specs.FieldDescriptorProto.{FieldDescriptorProto}
use Rattle.protox_descriptor.specs.Location.{Location}
use Rattle.protox_descriptor.specs.declared.descriptor.DescriptorProto.{DescriptorProto}
use Rattle.protox_descriptor.specs.declared.descriptor.DescriptorProto.TheFolds.{fold-DescriptorProto}
use Rattle.protox_descriptor.specs.declared.descriptor.DescriptorProto.TheOpen.{DescriptorProto-F}
use Rattle.protox_descriptor.specs.declared.descriptor.EnumDescriptorProto.{EnumDescriptorProto}
use Rattle.protox_descriptor.specs.declared.descriptor.EnumValueDescriptorProto.{EnumValueDescriptorProto}
use Rattle.protox_descriptor.specs.declared.descriptor.FileDescriptorProto.{FileDescriptorProto}
use Rattle.protox_descriptor.specs.declared.descriptor.MethodDescriptorProto.{MethodDescriptorProto}
use Rattle.protox_descriptor.specs.declared.descriptor.OneofDescriptorProto.{OneofDescriptorProto}
use Rattle.protox_descriptor.specs.declared.descriptor.ServiceDescriptorProto.{ServiceDescriptorProto}
use Rattle.protox_descriptor.specs.declared.descriptor.SourceCodeInfo.{SourceCodeInfo}
use Rattle.protox_descriptor.specs.declared.descriptor.descriptor_proto.ExtensionRange.{ExtensionRange}
use Rattle.protox_descriptor.specs.declared.descriptor.descriptor_proto.ReservedRange.{ReservedRange}
use Rattle.protox_descriptor.specs.declared.descriptor.enum_descriptor_proto.EnumReservedRange.{EnumReservedRange}
use Rattle.protox_descriptor.specs.declared.descriptor.options.EnumOptions.{EnumOptions}
use Rattle.protox_descriptor.specs.declared.descriptor.options.EnumValueOptions.{EnumValueOptions}
use Rattle.protox_descriptor.specs.declared.descriptor.options.ExtensionRangeOptions.{ExtensionRangeOptions}
use Rattle.protox_descriptor.specs.declared.descriptor.options.FieldOptions.{FieldOptions}
use Rattle.protox_descriptor.specs.declared.descriptor.options.FileOptions.{FileOptions}
use Rattle.protox_descriptor.specs.declared.descriptor.options.MessageOptions.{MessageOptions}
use Rattle.protox_descriptor.specs.declared.descriptor.options.MethodOptions.{MethodOptions}
use Rattle.protox_descriptor.specs.declared.descriptor.options.OneofOptions.{OneofOptions}
use Rattle.protox_descriptor.specs.declared.descriptor.options.ServiceOptions.{ServiceOptions}
use Rattle.protox_descriptor.specs.declared.descriptor.options.UninterpretedOption.{UninterpretedOption}
use Rattle.protox_descriptor.specs.declared.descriptor.uninterpreted_option.NamePart.{NamePart}
use Rattle.protox_encode.specs.Payloads.{text, texts, signed, signeds, unsigned, double, flag, packed, nested, each}
use Rattle.protox_encode.specs.Wire.{Parts}

unfoldable pub name_part : NamePart → Parts
name_part p = (1, text (Some p.name_part)) ∷ (2, flag (Some p.is_extension)) ∷ []

unfoldable pub uninterpreted_option : UninterpretedOption → Parts
uninterpreted_option o =
    (2, each name_part o.name) ∷ (3, text o.identifier_value) ∷ (4, unsigned o.positive_int_value) ∷ (5, signed o.negative_int_value)
    ∷ (6, double o.double_value) ∷ (7, text o.string_value) ∷ (8, text o.aggregate_value) ∷ []

-- Each message of options holds its uninterpreted options as field 999.
unfoldable pub options : List UninterpretedOption → Parts
options os = (999, each uninterpreted_option os) ∷ []

unfoldable pub file_options : FileOptions → Parts
file_options o = options o.uninterpreted_option

unfoldable pub message_options : MessageOptions → Parts
message_options o = (7, flag o.map_entry) ∷ options o.uninterpreted_option

unfoldable pub field_options : FieldOptions → Parts
field_options o = options o.uninterpreted_option

unfoldable pub oneof_options : OneofOptions → Parts
oneof_options o = options o.uninterpreted_option

unfoldable pub enum_options : EnumOptions → Parts
enum_options o = options o.uninterpreted_option

unfoldable pub enum_value_options : EnumValueOptions → Parts
enum_value_options o = options o.uninterpreted_option

unfoldable pub service_options : ServiceOptions → Parts
service_options o = options o.uninterpreted_option

unfoldable pub method_options : MethodOptions → Parts
method_options o = options o.uninterpreted_option

unfoldable pub extension_range_options : ExtensionRangeOptions → Parts
extension_range_options o = options o.uninterpreted_option

unfoldable pub location : Location → Parts
location l = (1, packed l.path) ∷ (2, packed l.span) ∷ (3, text l.leading_comments) ∷ (4, text l.trailing_comments) ∷ (6, texts l.leading_detached_comments) ∷ []

unfoldable pub source_code_info : SourceCodeInfo → Parts
source_code_info i = (1, each location i.location) ∷ []

-- The parts that few fields have.
unfoldable pub rare_parts : FieldDescriptorProto → Parts
rare_parts f = (7, text f.default_value) ∷ (8, nested field_options f.options) ∷ (9, signed f.oneof_index) ∷ (10, text f.json_name) ∷ (17, flag f.proto3_optional) ∷ []

unfoldable pub field_descriptor : FieldDescriptorProto → Parts
field_descriptor f =
    (1, text f.name) ∷ (2, text f.extendee) ∷ (3, signed f.number) ∷ (4, signed f.label) ∷ (5, signed f.field_type) ∷ (6, text f.type_name) ∷ rare_parts f

unfoldable pub oneof_descriptor : OneofDescriptorProto → Parts
oneof_descriptor o = (1, text o.name) ∷ (2, nested oneof_options o.options) ∷ []

unfoldable pub enum_value_descriptor : EnumValueDescriptorProto → Parts
enum_value_descriptor v = (1, text v.name) ∷ (2, signed v.number) ∷ (3, nested enum_value_options v.options) ∷ []

unfoldable pub enum_reserved_range : EnumReservedRange → Parts
enum_reserved_range r = (1, signed r.start) ∷ (2, signed r.end) ∷ []

unfoldable pub enum_descriptor : EnumDescriptorProto → Parts
enum_descriptor e =
    (1, text e.name) ∷ (2, each enum_value_descriptor e.value) ∷ (3, nested enum_options e.options) ∷ (4, each enum_reserved_range e.reserved_range) ∷ (5, texts e.reserved_name) ∷ []

unfoldable pub method_descriptor : MethodDescriptorProto → Parts
method_descriptor m =
    (1, text m.name) ∷ (2, text m.input_type) ∷ (3, text m.output_type) ∷ (4, nested method_options m.options) ∷ (5, flag m.client_streaming) ∷ (6, flag m.server_streaming) ∷ []

unfoldable pub service_descriptor : ServiceDescriptorProto → Parts
service_descriptor s = (1, text s.name) ∷ (2, each method_descriptor s.method) ∷ (3, nested service_options s.options) ∷ []

unfoldable pub extension_range : ExtensionRange → Parts
extension_range r = (1, signed r.start) ∷ (2, signed r.end) ∷ (3, nested extension_range_options r.options) ∷ []

unfoldable pub reserved_range : ReservedRange → Parts
reserved_range r = (1, signed r.start) ∷ (2, signed r.end) ∷ []

-- The fields of a message from 7 on, after its definitions.
unfoldable pub message_end : {M : Type 0} → DescriptorProto-F M → Parts
message_end m =
    (7, nested message_options m.options) ∷ (8, each oneof_descriptor m.oneof_decl) ∷ (9, each reserved_range m.reserved_range) ∷ (10, texts m.reserved_name) ∷ []

-- The fields of a message from 4 on, after the messages nested in it.
unfoldable pub message_middle : {M : Type 0} → DescriptorProto-F M → Parts
message_middle m = (4, each enum_descriptor m.enum_type) ∷ (5, each extension_range m.extension_range) ∷ (6, each field_descriptor m.extension) ∷ message_end m

-- The fields of a message, given the fields of the messages nested in it.
unfoldable pub message_step : DescriptorProto-F Parts → Parts
message_step m = (1, text m.name) ∷ (2, each field_descriptor m.field) ∷ (3, each (λ inner. inner) m.nested_type) ∷ message_middle m

unfoldable pub message_descriptor : DescriptorProto → Parts
message_descriptor = fold-DescriptorProto Parts message_step

-- The fields of a file from 8 on, after its definitions.
unfoldable pub file_end : FileDescriptorProto → Parts
file_end f =
    (8, nested file_options f.options) ∷ (9, nested source_code_info f.source_code_info) ∷ (10, signeds f.public_dependency) ∷ (11, signeds f.weak_dependency) ∷ (12, text f.syntax) ∷ []

-- The fields of a file from 4 on, beginning with its definitions.
unfoldable pub file_definitions : FileDescriptorProto → Parts
file_definitions f = (4, each message_descriptor f.message_type) ∷ (5, each enum_descriptor f.enum_type) ∷ (6, each service_descriptor f.service) ∷ (7, each field_descriptor f.extension) ∷ file_end f

unfoldable pub file_descriptor : FileDescriptorProto → Parts
file_descriptor f = (1, text f.name) ∷ (2, text f.«package») ∷ (3, texts f.dependency) ∷ file_definitions f

-- A `FileDescriptorSet`: each file as a field of its own.
unfoldable pub file_set : List FileDescriptorProto → Parts
file_set files = (1, each file_descriptor files) ∷ []
