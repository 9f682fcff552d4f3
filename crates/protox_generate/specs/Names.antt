-- The name to which a location's path leads in a file's descriptor. A path goes down the
-- descriptor: a field number, then an index into that list, and so on. The number 1 at the end
-- stands for the name.
use Rattle.std.specs.Prelude.{◌≡◌, ◌≤◌, ◌-◌, ℕ, Bool, false, if◌then◌else◌, List, [], ◌∷◌, length, take, drop, Option, Some, None, option_map, option_and_then, slice_get, ℤ, pos, negsuc}
use Rattle.std.specs.Ordering.{int_eq}
use Rattle.std.specs.Str.{str_to_ascii_lowercase}
use Rattle.protox_ast.specs.Basics.{Each}
use Rattle.protox_describe.specs.Siblings.{Given}
use Rattle.protox_descriptor.specs.declared.descriptor.DescriptorProto.{DescriptorProto}
use Rattle.protox_descriptor.specs.declared.descriptor.DescriptorProto.TheFolds.{fold-DescriptorProto}
use Rattle.protox_descriptor.specs.declared.descriptor.DescriptorProto.TheOpen.{DescriptorProto-F}
use Rattle.protox_descriptor.specs.declared.descriptor.EnumDescriptorProto.{EnumDescriptorProto}
use Rattle.protox_descriptor.specs.declared.descriptor.EnumValueDescriptorProto.{EnumValueDescriptorProto}
use Rattle.protox_descriptor.specs.FieldDescriptorProto.{FieldDescriptorProto}
use Rattle.protox_descriptor.specs.declared.descriptor.FileDescriptorProto.{FileDescriptorProto}
use Rattle.protox_descriptor.specs.declared.descriptor.MethodDescriptorProto.{MethodDescriptorProto}
use Rattle.protox_descriptor.specs.declared.descriptor.OneofDescriptorProto.{OneofDescriptorProto}
use Rattle.protox_descriptor.specs.declared.descriptor.ServiceDescriptorProto.{ServiceDescriptorProto}
use Rattle.protox_descriptor.specs.declared.descriptor.source_code_info.Location.{Location}
use Rattle.protox_descriptor.specs.declared.tag.enum_.TheConstants as enum_tag
use Rattle.protox_descriptor.specs.declared.tag.file.TheConstants as file_tag
use Rattle.protox_descriptor.specs.declared.tag.message.TheConstants as message_tag
use Rattle.protox_descriptor.specs.declared.tag.service.TheConstants as service_tag
use Rattle.protox_fault.specs.Faults.{span_from}
use Rattle.protox_places.specs.Lines.{span_numbers}
use Rattle.protox_locate.specs.LocationWords.{Path}

-- The name as it is written; or in small letters where the source may have capitals, as for the
-- field of a group.
pub data Name : Type 0 where
  Written : List ℕ → Name
  InSmallLetters : List ℕ → Name

-- This text of the source writes the name.
abbrev pub Writes : List ℕ → Name → Type 0
Writes text (Written name) = text ≡ name
Writes text (InSmallLetters name) = str_to_ascii_lowercase text ≡ name

-- the name to which a path leads, if it leads to one
abbrev pub Lookup : Type 0
Lookup = Path → Option Name

-- the name of the part itself: the path is the number 1 alone
abbrev pub own : Option Name → Lookup
own name [] = None
own name (tag ∷ []) = if int_eq tag (pos 1) then name else None
own name (tag ∷ place ∷ rest) = None

-- a name that is written as it is
abbrev pub written : Option (List ℕ) → Option Name
written name = option_map Written name

-- what the rest of the path leads to, in the element at this index of a list
abbrev pub at : {A : Type 0} → (A → Lookup) → List A → ℤ → Lookup
at look xs (pos n) rest = option_and_then (λ x. look x rest) (slice_get xs n)
at look xs (negsuc n) rest = None

-- The type is that of a group: number 10.
abbrev pub is_group : Option ℤ → Bool
is_group None = false
is_group (Some type) = int_eq type (pos 10)

-- in a field; a group's field has its name in small letters
abbrev pub in_field : FieldDescriptorProto → Lookup
in_field field = own (option_map (if is_group field.field_type then InSmallLetters else Written) field.name)

-- in a oneof
abbrev pub in_oneof : OneofDescriptorProto → Lookup
in_oneof oneof = own (written oneof.name)

-- in an enum value
abbrev pub in_value : EnumValueDescriptorProto → Lookup
in_value value = own (written value.name)

-- in an enum and its values
abbrev pub in_enum : EnumDescriptorProto → Lookup
in_enum enum (tag ∷ place ∷ rest) = if int_eq tag enum_tag.VALUE then at in_value enum.value place rest else None
in_enum enum path = own (written enum.name) path

-- in a method
abbrev pub in_method : MethodDescriptorProto → Lookup
in_method method = own (written method.name)

-- in a service and its methods
abbrev pub in_service : ServiceDescriptorProto → Lookup
in_service service (tag ∷ place ∷ rest) = if int_eq tag service_tag.METHOD then at in_method service.method place rest else None
in_service service path = own (written service.name) path

-- in one message, given what paths lead to in its nested messages
abbrev pub message_step : DescriptorProto-F Lookup → Lookup
message_step message (tag ∷ place ∷ rest) =
    if int_eq tag message_tag.FIELD then at in_field message.field place rest
    else if int_eq tag message_tag.NESTED_TYPE then at (λ inner. inner) message.nested_type place rest
    else if int_eq tag message_tag.ENUM_TYPE then at in_enum message.enum_type place rest
    else if int_eq tag message_tag.EXTENSION then at in_field message.extension place rest
    else if int_eq tag message_tag.ONEOF_DECL then at in_oneof message.oneof_decl place rest
    else None
message_step message path = own (written message.name) path

-- in a message, at every depth
abbrev pub in_message : DescriptorProto → Lookup
in_message = fold-DescriptorProto Lookup message_step

-- the name to which a path leads in a file, if it leads to one
abbrev pub in_file : FileDescriptorProto → Lookup
in_file file (tag ∷ place ∷ rest) =
    if int_eq tag file_tag.MESSAGE_TYPE then at in_message file.message_type place rest
    else if int_eq tag file_tag.ENUM_TYPE then at in_enum file.enum_type place rest
    else if int_eq tag file_tag.SERVICE then at in_service file.service place rest
    else if int_eq tag file_tag.EXTENSION then at in_field file.extension place rest
    else None
in_file file path = None

-- The numbers are the lines and columns of a span of the source, and the source writes the name
-- there.
pub record IsNamed (source : List ℕ) (numbers : List ℤ) (name : Name) : Type 0 where
  pub start : ℕ
  pub end : ℕ
  pub in_order : start ≤ end
  pub within : end ≤ length source
  pub is : numbers ≡ span_numbers source (span_from start end)
  pub writes : Writes (take (end - start) (drop start source)) name

-- If the path of a location leads to a name, the source writes that name in the location's span.
abbrev pub HasNames : List ℕ → FileDescriptorProto → Type 0
HasNames source file = elim file.source_code_info as (λ _. Type 0) [
  | None ↦ ⊥
  | Some info ↦ Each (λ (l : Location). Given (IsNamed source l.span) (in_file file l.path)) info.location
]
