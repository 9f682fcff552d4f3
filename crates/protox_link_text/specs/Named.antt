-- The names and the numbers that errors speak of.
use Rattle.std.specs.Prelude.{ℕ, ℤ, pos, List, [], ◌∷◌, slice_get, if◌then◌else◌}
use Rattle.std.specs.Option.{option_and_then, unwrap_or}
use Rattle.std.specs.Ordering.{int_eq}
use Rattle.protox_descriptor.specs.FieldDescriptorProto.{FieldDescriptorProto}
use Rattle.protox_descriptor.specs.declared.descriptor.DescriptorProto.{DescriptorProto, out-DescriptorProto}
use Rattle.protox_descriptor.specs.declared.descriptor.EnumValueDescriptorProto.{EnumValueDescriptorProto}
use Rattle.protox_descriptor.specs.declared.descriptor.FileDescriptorProto.{FileDescriptorProto}
use Rattle.protox_descriptor.specs.declared.descriptor.MethodDescriptorProto.{MethodDescriptorProto}
use Rattle.protox_descriptor.specs.declared.descriptor.OneofDescriptorProto.{OneofDescriptorProto}
use Rattle.protox_descriptor.specs.declared.tag.message.TheConstants as message_tag
use Rattle.protox_link_text.specs.Places.{Holder, OfEnum, OfFile, OfMessage, OfService, at_index, text_of}

-- the name of the file with a number
abbrev pub file_name : List FileDescriptorProto → ℕ → List ℕ
file_name files n = text_of (option_and_then (λ file. file.name) (slice_get files n))

-- ---- parts with an index: an unset name is empty, and so is that of no part

abbrev pub field_named : List FieldDescriptorProto → ℤ → List ℕ
field_named fields n = text_of (option_and_then (λ field. field.name) (at_index fields n))

abbrev pub value_named : List EnumValueDescriptorProto → ℤ → List ℕ
value_named values n = text_of (option_and_then (λ value. value.name) (at_index values n))

abbrev pub oneof_named : List OneofDescriptorProto → ℤ → List ℕ
oneof_named oneofs n = text_of (option_and_then (λ oneof. oneof.name) (at_index oneofs n))

abbrev pub method_named : List MethodDescriptorProto → ℤ → List ℕ
method_named methods n = text_of (option_and_then (λ method. method.name) (at_index methods n))

-- ---- the name of the declaration at the end of a path

-- in a message: of a field, an extension or a oneof
abbrev pub named_in_message : DescriptorProto → ℤ → ℤ → List ℕ
named_in_message m tag n =
    if int_eq tag message_tag.FIELD then field_named (out-DescriptorProto m).field n
    else if int_eq tag message_tag.EXTENSION then field_named (out-DescriptorProto m).extension n
    else oneof_named (out-DescriptorProto m).oneof_decl n

-- of the holder itself, or of what stands in it
abbrev pub named_in : Holder → List ℤ → List ℕ
named_in (OfFile f) (tag ∷ n ∷ rest) = field_named f.extension n
named_in (OfFile f) (tag ∷ []) = text_of f.«package»
named_in (OfFile f) [] = text_of f.«package»
named_in (OfMessage m) (tag ∷ n ∷ rest) = named_in_message m tag n
named_in (OfMessage m) (tag ∷ []) = text_of (out-DescriptorProto m).name
named_in (OfMessage m) [] = text_of (out-DescriptorProto m).name
named_in (OfEnum e) (tag ∷ n ∷ rest) = value_named e.value n
named_in (OfEnum e) (tag ∷ []) = text_of e.name
named_in (OfEnum e) [] = text_of e.name
named_in (OfService s) (tag ∷ n ∷ rest) = method_named s.method n
named_in (OfService s) (tag ∷ []) = text_of s.name
named_in (OfService s) [] = text_of s.name

-- the import at the end of a path
abbrev pub import_named : Holder → List ℤ → List ℕ
import_named (OfFile f) (tag ∷ n ∷ rest) = unwrap_or (at_index f.dependency n) []
import_named _ _ = []

-- the name with an index among those that the holder reserves
abbrev pub reserved_at : Holder → ℕ → List ℕ
reserved_at (OfMessage m) n = text_of (slice_get (out-DescriptorProto m).reserved_name n)
reserved_at (OfEnum e) n = text_of (slice_get e.reserved_name n)
reserved_at _ n = []

-- the name of the field, or of the value, that has this index in the holder
abbrev pub sibling_at : Holder → ℕ → List ℕ
sibling_at (OfMessage m) n = text_of (option_and_then (λ field. field.name) (slice_get (out-DescriptorProto m).field n))
sibling_at (OfEnum e) n = text_of (option_and_then (λ value. value.name) (slice_get e.value n))
sibling_at _ n = []

-- the default of a field or an extension with an index
abbrev pub default_of : List FieldDescriptorProto → ℤ → List ℕ
default_of fields n = text_of (option_and_then (λ field. field.default_value) (at_index fields n))

-- the default of the field or the extension at the end of a path
abbrev pub default_in : Holder → List ℤ → List ℕ
default_in (OfFile f) (tag ∷ n ∷ rest) = default_of f.extension n
default_in (OfMessage m) (tag ∷ n ∷ rest) =
    if int_eq tag message_tag.FIELD then default_of (out-DescriptorProto m).field n
    else default_of (out-DescriptorProto m).extension n
default_in _ _ = []

-- the number of a field or an extension with an index; an unset number counts as 0
abbrev pub number_of_field : List FieldDescriptorProto → ℤ → ℤ
number_of_field fields n = unwrap_or (option_and_then (λ field. field.number) (at_index fields n)) (pos 0)

-- the number of the field or the extension at the end of a path
abbrev pub number_in : Holder → List ℤ → ℤ
number_in (OfFile f) (tag ∷ n ∷ rest) = number_of_field f.extension n
number_in (OfMessage m) (tag ∷ n ∷ rest) =
    if int_eq tag message_tag.FIELD then number_of_field (out-DescriptorProto m).field n
    else number_of_field (out-DescriptorProto m).extension n
number_in _ _ = pos 0
