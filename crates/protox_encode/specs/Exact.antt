-- Descriptors of which nothing is lost on the wire. Each of their signed numbers fits in 64 bits,
-- as all do by their types, and no option has a double. The wire keeps the nearest float of a
-- double and not its text: `1.0` and `1.00` give the same bytes.
use Rattle.std.specs.Prelude.{◌≡◌, ℕ, ◌^◌, ℤ, pos, negsuc, Bool, true, false, nat_lt, List, [], ◌∷◌, Option, Some, None}
use Rattle.std.specs.List.{list_all}
use Rattle.protox_descriptor.specs.FieldDescriptorProto.{FieldDescriptorProto}
use Rattle.protox_descriptor.specs.Location.{Location}
use Rattle.protox_descriptor.specs.declared.descriptor.DescriptorProto.{DescriptorProto}
use Rattle.protox_descriptor.specs.declared.descriptor.DescriptorProto.TheFolds.{fold-DescriptorProto}
use Rattle.protox_descriptor.specs.declared.descriptor.DescriptorProto.TheOpen.{DescriptorProto-F}
use Rattle.protox_descriptor.specs.declared.descriptor.EnumDescriptorProto.{EnumDescriptorProto}
use Rattle.protox_descriptor.specs.declared.descriptor.EnumValueDescriptorProto.{EnumValueDescriptorProto}
use Rattle.protox_descriptor.specs.declared.descriptor.FileDescriptorProto.{FileDescriptorProto}
use Rattle.protox_descriptor.specs.declared.descriptor.MethodDescriptorProto.{MethodDescriptorProto}
use Rattle.protox_descriptor.specs.declared.descriptor.OneofDescriptorProto.{OneofDescriptorProto}
use Rattle.protox_descriptor.specs.declared.descriptor.ServiceDescriptorProto.{ServiceDescriptorProto}
use Rattle.protox_descriptor.specs.declared.descriptor.SourceCodeInfo.{SourceCodeInfo}
use Rattle.protox_descriptor.specs.declared.descriptor.descriptor_proto.ExtensionRange.{ExtensionRange}
use Rattle.protox_descriptor.specs.declared.descriptor.descriptor_proto.ReservedRange.{ReservedRange}
use Rattle.protox_descriptor.specs.declared.descriptor.enum_descriptor_proto.EnumReservedRange.{EnumReservedRange}
use Rattle.protox_descriptor.specs.declared.descriptor.options.EnumOptions.{EnumOptions}
use Rattle.protox_descriptor.specs.declared.descriptor.options.EnumValueOptions.{EnumValueOptions}
use Rattle.protox_descriptor.specs.declared.descriptor.options.ExtensionRangeOptions.{ExtensionRangeOptions}
use Rattle.protox_descriptor.specs.declared.descriptor.options.FieldOptions.{FieldOptions}
use Rattle.protox_descriptor.specs.declared.descriptor.options.FileOptions.{FileOptions}
use Rattle.protox_descriptor.specs.declared.descriptor.options.MessageOptions.{MessageOptions}
use Rattle.protox_descriptor.specs.declared.descriptor.options.MethodOptions.{MethodOptions}
use Rattle.protox_descriptor.specs.declared.descriptor.options.OneofOptions.{OneofOptions}
use Rattle.protox_descriptor.specs.declared.descriptor.options.ServiceOptions.{ServiceOptions}
use Rattle.protox_descriptor.specs.declared.descriptor.options.UninterpretedOption.{UninterpretedOption}
use Rattle.protox_encode.specs.Floats.{if_there}
use Rattle.protox_encode.specs.Messages as words
use Rattle.protox_encode.specs.Wire.{message}

-- Whether a number fits in 64 bits with a sign.
abbrev pub fits : ℤ → Bool
fits (pos n) = nat_lt n (2 ^ 63)
fits (negsuc n) = nat_lt n (2 ^ 63)

-- Whether there is no text.
abbrev pub is_none : Option (List ℕ) → Bool
is_none None = true
is_none (Some text) = false

-- Whether all of the tests pass.
abbrev pub all : List Bool → Bool
all tests = list_all (λ passes. passes) tests

-- Whether each of the messages passes its tests.
abbrev pub each : {M : Type 0} → (M → List Bool) → List M → Bool
each tests ms = list_all (λ m. all (tests m)) ms

-- Whether the message passes its tests, or there is none.
abbrev pub there : {M : Type 0} → (M → List Bool) → Option M → Bool
there tests m = if_there (λ m. all (tests m)) m

-- ---- the tests of each message, one for each part that could be lost

unfoldable pub uninterpreted_option : UninterpretedOption → List Bool
uninterpreted_option m = if_there fits m.negative_int_value ∷ is_none m.double_value ∷ []

unfoldable pub file_options : FileOptions → List Bool
file_options m = each uninterpreted_option m.uninterpreted_option ∷ []

unfoldable pub message_options : MessageOptions → List Bool
message_options m = each uninterpreted_option m.uninterpreted_option ∷ []

unfoldable pub field_options : FieldOptions → List Bool
field_options m = each uninterpreted_option m.uninterpreted_option ∷ []

unfoldable pub oneof_options : OneofOptions → List Bool
oneof_options m = each uninterpreted_option m.uninterpreted_option ∷ []

unfoldable pub enum_options : EnumOptions → List Bool
enum_options m = each uninterpreted_option m.uninterpreted_option ∷ []

unfoldable pub enum_value_options : EnumValueOptions → List Bool
enum_value_options m = each uninterpreted_option m.uninterpreted_option ∷ []

unfoldable pub service_options : ServiceOptions → List Bool
service_options m = each uninterpreted_option m.uninterpreted_option ∷ []

unfoldable pub method_options : MethodOptions → List Bool
method_options m = each uninterpreted_option m.uninterpreted_option ∷ []

unfoldable pub extension_range_options : ExtensionRangeOptions → List Bool
extension_range_options m = each uninterpreted_option m.uninterpreted_option ∷ []

unfoldable pub location : Location → List Bool
location m = list_all fits m.path ∷ list_all fits m.span ∷ []

unfoldable pub source_code_info : SourceCodeInfo → List Bool
source_code_info m = each location m.location ∷ []

unfoldable pub field_descriptor : FieldDescriptorProto → List Bool
field_descriptor m = if_there fits m.number ∷ if_there fits m.label ∷ if_there fits m.field_type ∷ there field_options m.options ∷ if_there fits m.oneof_index ∷ []

unfoldable pub oneof_descriptor : OneofDescriptorProto → List Bool
oneof_descriptor m = there oneof_options m.options ∷ []

unfoldable pub enum_value_descriptor : EnumValueDescriptorProto → List Bool
enum_value_descriptor m = if_there fits m.number ∷ there enum_value_options m.options ∷ []

unfoldable pub enum_reserved_range : EnumReservedRange → List Bool
enum_reserved_range m = if_there fits m.start ∷ if_there fits m.end ∷ []

unfoldable pub enum_descriptor : EnumDescriptorProto → List Bool
enum_descriptor m = each enum_value_descriptor m.value ∷ there enum_options m.options ∷ each enum_reserved_range m.reserved_range ∷ []

unfoldable pub method_descriptor : MethodDescriptorProto → List Bool
method_descriptor m = there method_options m.options ∷ []

unfoldable pub service_descriptor : ServiceDescriptorProto → List Bool
service_descriptor m = each method_descriptor m.method ∷ there service_options m.options ∷ []

unfoldable pub extension_range : ExtensionRange → List Bool
extension_range m = if_there fits m.start ∷ if_there fits m.end ∷ there extension_range_options m.options ∷ []

unfoldable pub reserved_range : ReservedRange → List Bool
reserved_range m = if_there fits m.start ∷ if_there fits m.end ∷ []

-- The tests of a message, without those of the messages nested in it.
unfoldable pub message_own : {M : Type 0} → DescriptorProto-F M → List Bool
message_own m =
    each field_descriptor m.field ∷ each enum_descriptor m.enum_type ∷ each extension_range m.extension_range ∷ each field_descriptor m.extension
    ∷ there message_options m.options ∷ each oneof_descriptor m.oneof_decl ∷ each reserved_range m.reserved_range ∷ []

-- The tests of a message, given the tests of the messages nested in it.
unfoldable pub message_step : DescriptorProto-F (List Bool) → List Bool
message_step m = each (λ inner. inner) m.nested_type ∷ message_own m

unfoldable pub message_descriptor : DescriptorProto → List Bool
message_descriptor = fold-DescriptorProto (List Bool) message_step

unfoldable pub file_descriptor : FileDescriptorProto → List Bool
file_descriptor m =
    each message_descriptor m.message_type ∷ each enum_descriptor m.enum_type ∷ each service_descriptor m.service ∷ each field_descriptor m.extension
    ∷ there file_options m.options ∷ there source_code_info m.source_code_info ∷ list_all fits m.public_dependency ∷ list_all fits m.weak_dependency ∷ []

-- Whether nothing of the file is lost on the wire.
abbrev pub is_exact : FileDescriptorProto → Bool
is_exact f = all (file_descriptor f)

-- Two files with the same bytes are the same file, if nothing of either is lost.
abbrev pub NothingIsLost : Type 0
NothingIsLost = (these those : FileDescriptorProto) → is_exact these ≡ true → is_exact those ≡ true
    → message (words.file_descriptor these) ≡ message (words.file_descriptor those) → these ≡ those
