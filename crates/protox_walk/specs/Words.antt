-- The kind of a declaration in a word, its own name, and its options.
use Rattle.std.specs.Prelude.{ℕ, List, [], Option, Some, None, codes}
use Rattle.protox_descriptor.specs.declared.descriptor.DescriptorProto.{out-DescriptorProto}
use Rattle.protox_descriptor.specs.declared.descriptor.options.EnumOptions.{EnumOptions}
use Rattle.protox_descriptor.specs.declared.descriptor.options.EnumValueOptions.{EnumValueOptions}
use Rattle.protox_descriptor.specs.declared.descriptor.options.FieldOptions.{FieldOptions}
use Rattle.protox_descriptor.specs.declared.descriptor.options.MessageOptions.{MessageOptions}
use Rattle.protox_descriptor.specs.declared.descriptor.options.MethodOptions.{MethodOptions}
use Rattle.protox_descriptor.specs.declared.descriptor.options.OneofOptions.{OneofOptions}
use Rattle.protox_descriptor.specs.declared.descriptor.options.ServiceOptions.{ServiceOptions}
use Rattle.protox_descriptor.specs.declared.descriptor.options.UninterpretedOption.{UninterpretedOption}
use Rattle.protox_walk.specs.Parts.{Described, Message, Field, Oneof, Enum, Value, Service, Method}

-- A field that extends a message is an extension.
abbrev pub field_kind : Option (List ℕ) → List ℕ
field_kind None = codes "field"
field_kind (Some extendee) = codes "extension"

abbrev pub kind_of : Described → List ℕ
kind_of (Message message) = codes "message"
kind_of (Field field) = field_kind field.extendee
kind_of (Oneof oneof) = codes "oneof"
kind_of (Enum enum) = codes "enum"
kind_of (Value value) = codes "value"
kind_of (Service service) = codes "service"
kind_of (Method method) = codes "method"

abbrev pub name_of : Described → Option (List ℕ)
name_of (Message message) = (out-DescriptorProto message).name
name_of (Field field) = field.name
name_of (Oneof oneof) = oneof.name
name_of (Enum enum) = enum.name
name_of (Value value) = value.name
name_of (Service service) = service.name
name_of (Method method) = method.name

-- what is read of options, if there are any
abbrev pub options_in : {O : Type 0} → (O → List UninterpretedOption) → Option O → List UninterpretedOption
options_in read None = []
options_in read (Some options) = read options

abbrev pub options_of : Described → List UninterpretedOption
options_of (Message message) = options_in (λ (o : MessageOptions). o.uninterpreted_option) (out-DescriptorProto message).options
options_of (Field field) = options_in (λ (o : FieldOptions). o.uninterpreted_option) field.options
options_of (Oneof oneof) = options_in (λ (o : OneofOptions). o.uninterpreted_option) oneof.options
options_of (Enum enum) = options_in (λ (o : EnumOptions). o.uninterpreted_option) enum.options
options_of (Value value) = options_in (λ (o : EnumValueOptions). o.uninterpreted_option) value.options
options_of (Service service) = options_in (λ (o : ServiceOptions). o.uninterpreted_option) service.options
options_of (Method method) = options_in (λ (o : MethodOptions). o.uninterpreted_option) method.options
