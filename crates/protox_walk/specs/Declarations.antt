-- The declarations of a file, each once, in the order of their paths.
use Rattle.std.specs.Prelude.{ℕ, ◌+◌, ℤ, pos, List, [], ◌∷◌, ◌++◌, map, Option, Some, None, codes}
use Rattle.protox_descriptor.specs.FieldDescriptorProto.{FieldDescriptorProto}
use Rattle.protox_descriptor.specs.declared.descriptor.DescriptorProto.{DescriptorProto, out-DescriptorProto}
use Rattle.protox_descriptor.specs.declared.descriptor.DescriptorProto.TheFolds.{fold-DescriptorProto}
use Rattle.protox_descriptor.specs.declared.descriptor.DescriptorProto.TheOpen.{DescriptorProto-F}
use Rattle.protox_descriptor.specs.declared.descriptor.EnumDescriptorProto.{EnumDescriptorProto}
use Rattle.protox_descriptor.specs.declared.descriptor.EnumValueDescriptorProto.{EnumValueDescriptorProto}
use Rattle.protox_descriptor.specs.declared.descriptor.FileDescriptorProto.{FileDescriptorProto}
use Rattle.protox_descriptor.specs.declared.descriptor.MethodDescriptorProto.{MethodDescriptorProto}
use Rattle.protox_descriptor.specs.declared.descriptor.OneofDescriptorProto.{OneofDescriptorProto}
use Rattle.protox_descriptor.specs.declared.descriptor.ServiceDescriptorProto.{ServiceDescriptorProto}
use Rattle.protox_descriptor.specs.declared.tag.enum_.TheConstants as enum_tag
use Rattle.protox_descriptor.specs.declared.tag.file.TheConstants as file_tag
use Rattle.protox_descriptor.specs.declared.tag.message.TheConstants as message_tag
use Rattle.protox_descriptor.specs.declared.tag.service.TheConstants as service_tag
use Rattle.protox_walk.specs.Parts.{Declared, Described, Message, Field, Oneof, Enum, Value, Service, Method}

abbrev pub Path : Type 0
Path = List ℤ

-- the path of the nth of like siblings
abbrev pub nth : Path → ℤ → ℕ → Path
nth path tag n = path ++ tag ∷ pos n ∷ []

-- the text of a name; the empty one where the name is not set
abbrev pub text_of : Option (List ℕ) → List ℕ
text_of None = []
text_of (Some name) = name

-- a name in a scope: a dot stands between the two. In the empty scope it is the name alone.
abbrev pub full_name : List ℕ → Option (List ℕ) → List ℕ
full_name [] name = text_of name
full_name (byte ∷ scope) name = byte ∷ scope ++ codes "." ++ text_of name

abbrev pub declared : Path → List ℕ → Described → Declared
declared path name part = record { path = path; full_name = name; part = part }

-- what declares something: its declarations, from its path on
abbrev pub At : Type 0
At = Path → List Declared

-- like siblings, of which the first has the number n
abbrev pub numbered : Path → ℤ → ℕ → List At → List Declared
numbered path tag n [] = []
numbered path tag n (at ∷ more) = at (nth path tag n) ++ numbered path tag (n + 1) more

-- all like siblings of a kind, numbered from 0
abbrev pub siblings_at : Path → ℤ → List At → List Declared
siblings_at path tag siblings = numbered path tag 0 siblings

-- all of a list, each in the scope
abbrev pub all_in : {A : Type 0} → (A → List ℕ → At) → List ℕ → List A → List At
all_in declares scope parts = map (λ part. declares part scope) parts

-- ---- each kind, in a scope

abbrev pub field_at : FieldDescriptorProto → List ℕ → At
field_at field scope path = declared path (full_name scope field.name) (Field field) ∷ []

abbrev pub oneof_at : OneofDescriptorProto → List ℕ → At
oneof_at oneof scope path = declared path (full_name scope oneof.name) (Oneof oneof) ∷ []

abbrev pub value_at : EnumValueDescriptorProto → List ℕ → At
value_at value scope path = declared path (full_name scope value.name) (Value value) ∷ []

-- The values of an enum stand in the enum's own scope.
abbrev pub enum_at : EnumDescriptorProto → List ℕ → At
enum_at enum scope path =
    declared path (full_name scope enum.name) (Enum enum)
    ∷ siblings_at path enum_tag.VALUE (all_in value_at scope enum.value)

abbrev pub method_at : MethodDescriptorProto → List ℕ → At
method_at method scope path = declared path (full_name scope method.name) (Method method) ∷ []

abbrev pub service_at : ServiceDescriptorProto → List ℕ → At
service_at service scope path =
    declared path (full_name scope service.name) (Service service)
    ∷ siblings_at path service_tag.METHOD (all_in method_at (full_name scope service.name) service.method)

-- ---- messages

-- what a message declares, where the message itself is told
abbrev pub OfMessage : Type 0
OfMessage = DescriptorProto → List ℕ → At

-- what each of the messages in a message declares
abbrev pub each_told : List ℕ → List OfMessage → List DescriptorProto → List At
each_told scope (declares ∷ more) (message ∷ messages) = declares message scope ∷ each_told scope more messages
each_told scope _ _ = []

-- itself, its fields, the messages, the enums and the extensions in it, and its oneofs
abbrev pub message_step : DescriptorProto-F OfMessage → OfMessage
message_step m whole scope path =
    declared path (full_name scope m.name) (Message whole)
    ∷ (siblings_at path message_tag.FIELD (all_in field_at (full_name scope m.name) m.field)
    ++ (siblings_at path message_tag.NESTED_TYPE (each_told (full_name scope m.name) m.nested_type (out-DescriptorProto whole).nested_type)
    ++ (siblings_at path message_tag.ENUM_TYPE (all_in enum_at (full_name scope m.name) m.enum_type)
    ++ (siblings_at path message_tag.EXTENSION (all_in field_at (full_name scope m.name) m.extension)
    ++ siblings_at path message_tag.ONEOF_DECL (all_in oneof_at (full_name scope m.name) m.oneof_decl)))))

abbrev pub message_at : DescriptorProto → List ℕ → At
message_at message = fold-DescriptorProto OfMessage message_step message message

-- ---- a file

-- The scope is the package, or the empty one.
abbrev pub file_declarations : FileDescriptorProto → List Declared
file_declarations file =
    siblings_at [] file_tag.MESSAGE_TYPE (all_in message_at (text_of file.«package») file.message_type)
    ++ (siblings_at [] file_tag.ENUM_TYPE (all_in enum_at (text_of file.«package») file.enum_type)
    ++ (siblings_at [] file_tag.SERVICE (all_in service_at (text_of file.«package») file.service)
    ++ siblings_at [] file_tag.EXTENSION (all_in field_at (text_of file.«package») file.extension)))
