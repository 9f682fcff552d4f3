-- The paths of the names in a file's descriptor. Each of these names has exactly one location.
-- Names that no source writes have no path here: those of map entries and of their fields, and
-- those of the oneofs that are made for proto3 `optional` fields.
use Rattle.std.specs.Prelude.{◌≡◌, ◌+◌, ◌-◌, ℕ, Bool, false, if◌then◌else◌, List, [], ◌∷◌, ◌++◌, length, map, take, Option, Some, None, unwrap_or, ℤ, pos}
use Rattle.protox_ast.specs.Basics.{Each}
use Rattle.protox_describe.specs.Oneofs.{is_optional}
use Rattle.protox_describe.specs.Siblings.{count}
use Rattle.protox_descriptor.specs.declared.descriptor.DescriptorProto.{DescriptorProto}
use Rattle.protox_descriptor.specs.declared.descriptor.DescriptorProto.TheFolds.{fold-DescriptorProto}
use Rattle.protox_descriptor.specs.declared.descriptor.DescriptorProto.TheOpen.{DescriptorProto-F}
use Rattle.protox_descriptor.specs.declared.descriptor.EnumDescriptorProto.{EnumDescriptorProto}
use Rattle.protox_descriptor.specs.declared.descriptor.EnumValueDescriptorProto.{EnumValueDescriptorProto}
use Rattle.protox_descriptor.specs.FieldDescriptorProto.{FieldDescriptorProto}
use Rattle.protox_descriptor.specs.declared.descriptor.FileDescriptorProto.{FileDescriptorProto}
use Rattle.protox_descriptor.specs.declared.descriptor.MethodDescriptorProto.{MethodDescriptorProto}
use Rattle.protox_descriptor.specs.declared.descriptor.OneofDescriptorProto.{OneofDescriptorProto}
use Rattle.protox_descriptor.specs.declared.descriptor.ServiceDescriptorProto.{ServiceDescriptorProto}
use Rattle.protox_descriptor.specs.declared.descriptor.options.MessageOptions.{MessageOptions}
use Rattle.protox_descriptor.specs.declared.tag.enum_.TheConstants as enum_tag
use Rattle.protox_descriptor.specs.declared.tag.file.TheConstants as file_tag
use Rattle.protox_descriptor.specs.declared.tag.message.TheConstants as message_tag
use Rattle.protox_descriptor.specs.declared.tag.service.TheConstants as service_tag
use Rattle.protox_locate.specs.LocationWords.{Path}
use Rattle.protox_places.specs.First.{is_at}

-- the path of a name, if there is one: the field number 1
abbrev pub to_name : Option (List ℕ) → List Path
to_name None = []
to_name (Some name) = (pos 1 ∷ []) ∷ []

-- the paths, each with this number in front
abbrev pub behind : ℤ → List Path → List Path
behind number paths = map (λ path. number ∷ path) paths

-- The paths in each element of a list, with its index in front. The first index is n.
abbrev pub in_places : ℕ → List (List Path) → List Path
in_places n [] = []
in_places n (paths ∷ more) = behind (pos n) paths ++ in_places (n + 1) more

-- The paths in each element of a list, with the list's field number and the index in front.
abbrev pub in_list : ℤ → List (List Path) → List Path
in_list number siblings = behind number (in_places 0 siblings)

-- ---- the names in each part; paths begin at the part

-- in a field
abbrev pub field_paths : FieldDescriptorProto → List Path
field_paths field = to_name field.name

-- in a oneof
abbrev pub oneof_paths : OneofDescriptorProto → List Path
oneof_paths oneof = to_name oneof.name

-- in an enum value
abbrev pub value_paths : EnumValueDescriptorProto → List Path
value_paths value = to_name value.name

-- in an enum: its own name, and those of its values
abbrev pub enum_paths : EnumDescriptorProto → List Path
enum_paths enum = to_name enum.name ++ in_list enum_tag.VALUE (map value_paths enum.value)

-- in a method
abbrev pub method_paths : MethodDescriptorProto → List Path
method_paths method = to_name method.name

-- in a service: its own name, and those of its methods
abbrev pub service_paths : ServiceDescriptorProto → List Path
service_paths service = to_name service.name ++ in_list service_tag.METHOD (map method_paths service.method)

-- The field has a oneof of its own that no source writes: it is `optional` in proto3.
abbrev pub is_alone : FieldDescriptorProto → Bool
is_alone field = is_optional field.proto3_optional

-- The oneofs that the source writes. They come first: the others, one for each such field, are
-- last.
abbrev pub written_oneofs : List FieldDescriptorProto → List OneofDescriptorProto → List OneofDescriptorProto
written_oneofs fields oneofs = take (length oneofs - count is_alone fields) oneofs

-- The message is the entry of a map.
abbrev pub is_map_entry : Option MessageOptions → Bool
is_map_entry None = false
is_map_entry (Some options) = unwrap_or options.map_entry false

-- the paths in one message, given those in its nested messages
abbrev pub paths_step : DescriptorProto-F (List Path) → List Path
paths_step message =
    if is_map_entry message.options then []
    else to_name message.name
    ++ (in_list message_tag.FIELD (map field_paths message.field)
    ++ (in_list message_tag.NESTED_TYPE message.nested_type
    ++ (in_list message_tag.ENUM_TYPE (map enum_paths message.enum_type)
    ++ (in_list message_tag.EXTENSION (map field_paths message.extension)
    ++ in_list message_tag.ONEOF_DECL (map oneof_paths (written_oneofs message.field message.oneof_decl))))))

-- the paths of all names in a message, at every depth
abbrev pub message_paths : DescriptorProto → List Path
message_paths = fold-DescriptorProto (List Path) paths_step

-- ---- a file

-- the paths of all names in a file
abbrev pub name_paths : FileDescriptorProto → List Path
name_paths file =
    in_list file_tag.MESSAGE_TYPE (map message_paths file.message_type)
    ++ (in_list file_tag.ENUM_TYPE (map enum_paths file.enum_type)
    ++ (in_list file_tag.SERVICE (map service_paths file.service)
    ++ in_list file_tag.EXTENSION (map field_paths file.extension)))

-- The path of each name has exactly one location.
abbrev pub HasPlaces : FileDescriptorProto → Type 0
HasPlaces file = elim file.source_code_info as (λ _. Type 0) [
  | None ↦ ⊥
  | Some info ↦ Each (λ path. count (is_at path) info.location ≡ 1) (name_paths file)
]
