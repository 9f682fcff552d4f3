-- Files without statements of options. Their options messages are empty, but for the one in the
-- entry of a map.
use Rattle.std.specs.Prelude.{◌≡◌, Bool, true, false, List, [], ◌∷◌}
use Rattle.protox_descriptor.specs.FieldDescriptorProto.{FieldDescriptorProto}
use Rattle.protox_descriptor.specs.declared.descriptor.DescriptorProto.{DescriptorProto}
use Rattle.protox_descriptor.specs.declared.descriptor.DescriptorProto.TheFolds.{fold-DescriptorProto}
use Rattle.protox_descriptor.specs.declared.descriptor.DescriptorProto.TheOpen.{DescriptorProto-F}
use Rattle.protox_descriptor.specs.declared.descriptor.EnumDescriptorProto.{EnumDescriptorProto}
use Rattle.protox_descriptor.specs.declared.descriptor.EnumValueDescriptorProto.{EnumValueDescriptorProto}
use Rattle.protox_descriptor.specs.declared.descriptor.FileDescriptorProto.{FileDescriptorProto}
use Rattle.protox_descriptor.specs.declared.descriptor.MethodDescriptorProto.{MethodDescriptorProto}
use Rattle.protox_descriptor.specs.declared.descriptor.OneofDescriptorProto.{OneofDescriptorProto}
use Rattle.protox_descriptor.specs.declared.descriptor.ServiceDescriptorProto.{ServiceDescriptorProto}
use Rattle.protox_descriptor.specs.declared.descriptor.descriptor_proto.ExtensionRange.{ExtensionRange}
use Rattle.protox_descriptor.specs.declared.descriptor.options.EnumOptions.{EnumOptions}
use Rattle.protox_descriptor.specs.declared.descriptor.options.EnumValueOptions.{EnumValueOptions}
use Rattle.protox_descriptor.specs.declared.descriptor.options.ExtensionRangeOptions.{ExtensionRangeOptions}
use Rattle.protox_descriptor.specs.declared.descriptor.options.FieldOptions.{FieldOptions}
use Rattle.protox_descriptor.specs.declared.descriptor.options.FileOptions.{FileOptions}
use Rattle.protox_descriptor.specs.declared.descriptor.options.MessageOptions.{MessageOptions}
use Rattle.protox_descriptor.specs.declared.descriptor.options.MethodOptions.{MethodOptions}
use Rattle.protox_descriptor.specs.declared.descriptor.options.OneofOptions.{OneofOptions}
use Rattle.protox_descriptor.specs.declared.descriptor.options.ServiceOptions.{ServiceOptions}
use Rattle.protox_descriptor.specs.declared.descriptor.options.UninterpretedOption.{UninterpretedOption}
use Rattle.protox_encode.specs.Exact.{all, each}
use Rattle.protox_encode.specs.Floats.{if_there}
use Rattle.protox_encode.specs.Messages as plain
use Rattle.protox_encode.specs.Wire.{message}
use Rattle.protox_encode_linked.specs.Linked as linked

-- Whether there are no statements.
abbrev pub none : List UninterpretedOption → Bool
none [] = true
none (o ∷ os) = false

-- ---- the tests of each message: whether its options have no statements, and those within it

unfoldable pub field_descriptor : FieldDescriptorProto → List Bool
field_descriptor f = if_there (λ (o : FieldOptions). none o.uninterpreted_option) f.options ∷ []

unfoldable pub oneof_descriptor : OneofDescriptorProto → List Bool
oneof_descriptor o = if_there (λ (p : OneofOptions). none p.uninterpreted_option) o.options ∷ []

unfoldable pub enum_value_descriptor : EnumValueDescriptorProto → List Bool
enum_value_descriptor v =
    if_there (λ (o : EnumValueOptions). none o.uninterpreted_option) v.options ∷ []

unfoldable pub enum_descriptor : EnumDescriptorProto → List Bool
enum_descriptor e =
    each enum_value_descriptor e.value
    ∷ if_there (λ (o : EnumOptions). none o.uninterpreted_option) e.options ∷ []

unfoldable pub method_descriptor : MethodDescriptorProto → List Bool
method_descriptor m = if_there (λ (o : MethodOptions). none o.uninterpreted_option) m.options ∷ []

unfoldable pub service_descriptor : ServiceDescriptorProto → List Bool
service_descriptor s =
    each method_descriptor s.method
    ∷ if_there (λ (o : ServiceOptions). none o.uninterpreted_option) s.options ∷ []

unfoldable pub extension_range : ExtensionRange → List Bool
extension_range r =
    if_there (λ (o : ExtensionRangeOptions). none o.uninterpreted_option) r.options ∷ []

-- The tests of a message, without those of the messages nested in it.
unfoldable pub message_own : {M : Type 0} → DescriptorProto-F M → List Bool
message_own m =
    each field_descriptor m.field ∷ each enum_descriptor m.enum_type
    ∷ each extension_range m.extension_range ∷ each field_descriptor m.extension
    ∷ if_there (λ (o : MessageOptions). none o.uninterpreted_option) m.options
    ∷ each oneof_descriptor m.oneof_decl ∷ []

-- The tests of a message, given the tests of the messages nested in it.
unfoldable pub message_step : DescriptorProto-F (List Bool) → List Bool
message_step m = each (λ inner. inner) m.nested_type ∷ message_own m

unfoldable pub message_descriptor : DescriptorProto → List Bool
message_descriptor = fold-DescriptorProto (List Bool) message_step

unfoldable pub file_descriptor : FileDescriptorProto → List Bool
file_descriptor f =
    each message_descriptor f.message_type ∷ each enum_descriptor f.enum_type
    ∷ each service_descriptor f.service ∷ each field_descriptor f.extension
    ∷ if_there (λ (o : FileOptions). none o.uninterpreted_option) f.options ∷ []

-- Whether a file has no statements.
abbrev pub has_no_statements : FileDescriptorProto → Bool
has_no_statements f = all (file_descriptor f)

-- Where nothing is set, a file without statements has the bytes that it has before it is linked.
abbrev pub NothingIsAdded : Type 0
NothingIsAdded = (file : FileDescriptorProto) → has_no_statements file ≡ true
    → message (linked.file_descriptor [] file) ≡ message (plain.file_descriptor file)
