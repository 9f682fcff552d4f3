-- Whether each `double_value` of a descriptor is the text of a float. No other text can be written
-- on the wire.
use Rattle.std.specs.Prelude.{Bool, true, ◌&&◌, List, Option, Some, None}
use Rattle.std.specs.List.{list_all}
use Rattle.std.specs.Float.Parse.{is_float_text}
use Rattle.protox_descriptor.specs.FieldDescriptorProto.{FieldDescriptorProto}
use Rattle.protox_descriptor.specs.declared.descriptor.DescriptorProto.{DescriptorProto}
use Rattle.protox_descriptor.specs.declared.descriptor.DescriptorProto.TheFolds.{fold-DescriptorProto}
use Rattle.protox_descriptor.specs.declared.descriptor.DescriptorProto.TheOpen.{DescriptorProto-F}
use Rattle.protox_descriptor.specs.declared.descriptor.EnumDescriptorProto.{EnumDescriptorProto}
use Rattle.protox_descriptor.specs.declared.descriptor.EnumValueDescriptorProto.{EnumValueDescriptorProto}
use Rattle.protox_descriptor.specs.declared.descriptor.FileDescriptorProto.{FileDescriptorProto}
use Rattle.protox_descriptor.specs.declared.descriptor.MethodDescriptorProto.{MethodDescriptorProto}
use Rattle.protox_descriptor.specs.declared.descriptor.OneofDescriptorProto.{OneofDescriptorProto}
use Rattle.protox_descriptor.specs.declared.descriptor.ServiceDescriptorProto.{ServiceDescriptorProto}
use Rattle.protox_descriptor.specs.declared.descriptor.descriptor_proto.ExtensionRange.{ExtensionRange}
use Rattle.protox_descriptor.specs.declared.descriptor.options.EnumOptions.{EnumOptions}
use Rattle.protox_descriptor.specs.declared.descriptor.options.EnumValueOptions.{EnumValueOptions}
use Rattle.protox_descriptor.specs.declared.descriptor.options.ExtensionRangeOptions.{ExtensionRangeOptions}
use Rattle.protox_descriptor.specs.declared.descriptor.options.FieldOptions.{FieldOptions}
use Rattle.protox_descriptor.specs.declared.descriptor.options.FileOptions.{FileOptions}
use Rattle.protox_descriptor.specs.declared.descriptor.options.MessageOptions.{MessageOptions}
use Rattle.protox_descriptor.specs.declared.descriptor.options.MethodOptions.{MethodOptions}
use Rattle.protox_descriptor.specs.declared.descriptor.options.OneofOptions.{OneofOptions}
use Rattle.protox_descriptor.specs.declared.descriptor.options.ServiceOptions.{ServiceOptions}
use Rattle.protox_descriptor.specs.declared.descriptor.options.UninterpretedOption.{UninterpretedOption}

-- Whether the value passes the test, or there is none.
abbrev pub if_there : {M : Type 0} → (M → Bool) → Option M → Bool
if_there test None = true
if_there test (Some m) = test m

-- Whether the `double_value` of an option is the text of a float, or there is none. Such a text has
-- digits with a point or an exponent, `inf` or `nan`, after a sign or none.
unfoldable pub uninterpreted_option : UninterpretedOption → Bool
uninterpreted_option o = if_there is_float_text o.double_value

-- Whether each of the options passes the test.
abbrev pub options : List UninterpretedOption → Bool
options os = list_all uninterpreted_option os

unfoldable pub field_descriptor : FieldDescriptorProto → Bool
field_descriptor f = if_there (λ (o : FieldOptions). options o.uninterpreted_option) f.options

unfoldable pub oneof_descriptor : OneofDescriptorProto → Bool
oneof_descriptor o = if_there (λ (o : OneofOptions). options o.uninterpreted_option) o.options

unfoldable pub enum_value_descriptor : EnumValueDescriptorProto → Bool
enum_value_descriptor v = if_there (λ (o : EnumValueOptions). options o.uninterpreted_option) v.options

unfoldable pub enum_descriptor : EnumDescriptorProto → Bool
enum_descriptor e = list_all enum_value_descriptor e.value && if_there (λ (o : EnumOptions). options o.uninterpreted_option) e.options

unfoldable pub method_descriptor : MethodDescriptorProto → Bool
method_descriptor m = if_there (λ (o : MethodOptions). options o.uninterpreted_option) m.options

unfoldable pub service_descriptor : ServiceDescriptorProto → Bool
service_descriptor s = list_all method_descriptor s.method && if_there (λ (o : ServiceOptions). options o.uninterpreted_option) s.options

unfoldable pub extension_range : ExtensionRange → Bool
extension_range r = if_there (λ (o : ExtensionRangeOptions). options o.uninterpreted_option) r.options

-- Whether a message passes, without the messages nested in it.
unfoldable pub message_own : {M : Type 0} → DescriptorProto-F M → Bool
message_own m =
    list_all field_descriptor m.field && (list_all enum_descriptor m.enum_type && (list_all extension_range m.extension_range
    && (list_all field_descriptor m.extension && (list_all oneof_descriptor m.oneof_decl && if_there (λ (o : MessageOptions). options o.uninterpreted_option) m.options))))

-- Whether a message passes, given whether each message nested in it does.
unfoldable pub message_step : DescriptorProto-F Bool → Bool
message_step m = list_all (λ inner. inner) m.nested_type && message_own m

unfoldable pub message_descriptor : DescriptorProto → Bool
message_descriptor = fold-DescriptorProto Bool message_step

-- Whether each `double_value` of a file is the text of a float.
unfoldable pub has_floats : FileDescriptorProto → Bool
has_floats f =
    list_all message_descriptor f.message_type && (list_all enum_descriptor f.enum_type && (list_all service_descriptor f.service
    && (list_all field_descriptor f.extension && if_there (λ (o : FileOptions). options o.uninterpreted_option) f.options)))
