-- The places of a file where statements of options stand.
use Rattle.std.specs.Prelude.{ℕ, ◌+◌, ℤ, List, [], ◌∷◌, ◌++◌, codes, map, unsigned_abs}
use Rattle.std.specs.List.{flat_map}
use Rattle.protox_aggregate.specs.Names.{innermost}
use Rattle.protox_descriptor.specs.declared.descriptor.DescriptorProto.{out-DescriptorProto}
use Rattle.protox_descriptor.specs.declared.descriptor.FileDescriptorProto.{FileDescriptorProto}
use Rattle.protox_descriptor.specs.declared.descriptor.descriptor_proto.ExtensionRange.{ExtensionRange}
use Rattle.protox_descriptor.specs.declared.descriptor.options.ExtensionRangeOptions.{ExtensionRangeOptions}
use Rattle.protox_descriptor.specs.declared.descriptor.options.FileOptions.{FileOptions}
use Rattle.protox_descriptor.specs.declared.descriptor.options.UninterpretedOption.{UninterpretedOption}
use Rattle.protox_descriptor.specs.declared.tag.enum_.TheConstants as enum_tag
use Rattle.protox_descriptor.specs.declared.tag.enum_value.TheConstants as value_tag
use Rattle.protox_descriptor.specs.declared.tag.field.TheConstants as field_tag
use Rattle.protox_descriptor.specs.declared.tag.file.TheConstants as file_tag
use Rattle.protox_descriptor.specs.declared.tag.message.TheConstants as message_tag
use Rattle.protox_descriptor.specs.declared.tag.message.extension_range.TheConstants as range_tag
use Rattle.protox_descriptor.specs.declared.tag.method.TheConstants as method_tag
use Rattle.protox_descriptor.specs.declared.tag.oneof.TheConstants as oneof_tag
use Rattle.protox_descriptor.specs.declared.tag.service.TheConstants as service_tag
use Rattle.protox_names.specs.Names.{scopes}
use Rattle.protox_walk.specs.Declarations.{Path, file_declarations, nth, text_of}
use Rattle.protox_walk.specs.Parts.{Declared, Described, Message, Field, Oneof, Enum, Value, Service, Method}
use Rattle.protox_walk.specs.Words.{options_in, options_of}

-- A place where statements stand: the path of the options message, the full name of the scope in
-- which what has the options stands, the full name of the type of the options message, and the
-- statements.
pub record Place : Type 0 where
  pub path : Path
  pub scope : List ℕ
  pub options : List ℕ
  pub statements : List UninterpretedOption

-- the path, as `OptionBytes` has it: a path has no negative numbers
abbrev pub key_of : Place → List ℕ
key_of place = map unsigned_abs place.path

-- Without a statement there is no place.
abbrev pub place_if_any : Path → List ℕ → List ℕ → List UninterpretedOption → List Place
place_if_any path scope options [] = []
place_if_any path scope options (statement ∷ more) =
    record { path = path; scope = scope; options = options; statements = statement ∷ more } ∷ []

-- ---- declarations

-- the scope in which what has this full name stands
abbrev pub scope_around : List ℕ → List ℕ
scope_around full_name = innermost (scopes full_name)

-- the full name of the type of its options
abbrev pub options_type : Described → List ℕ
options_type (Message message) = codes "google.protobuf.MessageOptions"
options_type (Field field) = codes "google.protobuf.FieldOptions"
options_type (Oneof oneof) = codes "google.protobuf.OneofOptions"
options_type (Enum enum) = codes "google.protobuf.EnumOptions"
options_type (Value value) = codes "google.protobuf.EnumValueOptions"
options_type (Service service) = codes "google.protobuf.ServiceOptions"
options_type (Method method) = codes "google.protobuf.MethodOptions"

-- the number of the field `options` in its descriptor
abbrev pub options_tag : Described → ℤ
options_tag (Message message) = message_tag.OPTIONS
options_tag (Field field) = field_tag.OPTIONS
options_tag (Oneof oneof) = oneof_tag.OPTIONS
options_tag (Enum enum) = enum_tag.OPTIONS
options_tag (Value value) = value_tag.OPTIONS
options_tag (Service service) = service_tag.OPTIONS
options_tag (Method method) = method_tag.OPTIONS

-- the place of its own options, where this is the path of the descriptor
abbrev pub place_of_part : Path → List ℕ → Described → List Place
place_of_part path scope part =
    place_if_any (path ++ options_tag part ∷ []) scope (options_type part) (options_of part)

-- ---- extension ranges

-- Only a message has extension ranges.
abbrev pub ranges_of : Described → List ExtensionRange
ranges_of (Message message) = (out-DescriptorProto message).extension_range
ranges_of (Field field) = []
ranges_of (Oneof oneof) = []
ranges_of (Enum enum) = []
ranges_of (Value value) = []
ranges_of (Service service) = []
ranges_of (Method method) = []

abbrev pub statements_of_range : ExtensionRange → List UninterpretedOption
statements_of_range range =
    options_in (λ (o : ExtensionRangeOptions). o.uninterpreted_option) range.options

-- the path of the options of the nth range of a message
abbrev pub path_of_range : Path → ℕ → Path
path_of_range path n = nth path message_tag.EXTENSION_RANGE n ++ range_tag.OPTIONS ∷ []

abbrev pub place_of_range : Path → List ℕ → ℕ → ExtensionRange → List Place
place_of_range path scope n range =
    place_if_any (path_of_range path n) scope (codes "google.protobuf.ExtensionRangeOptions") (statements_of_range range)

-- the places of ranges, of which the first has the number n
abbrev pub ranges_from : Path → List ℕ → ℕ → List ExtensionRange → List Place
ranges_from path scope n [] = []
ranges_from path scope n (range ∷ more) =
    place_of_range path scope n range ++ ranges_from path scope (n + 1) more

-- ---- a file

-- The places of a declaration: that of its own options, and those of its extension ranges. All are
-- in the scope in which the declaration stands.
abbrev pub places_at : Declared → List Place
places_at d =
    place_of_part d.path (scope_around d.full_name) d.part
    ++ ranges_from d.path (scope_around d.full_name) 0 (ranges_of d.part)

abbrev pub statements_of_file : FileDescriptorProto → List UninterpretedOption
statements_of_file file = options_in (λ (o : FileOptions). o.uninterpreted_option) file.options

-- the place of the options of the file as a whole, in the scope of the package
abbrev pub place_of_file : FileDescriptorProto → List Place
place_of_file file =
    place_if_any (file_tag.OPTIONS ∷ []) (text_of file.«package») (codes "google.protobuf.FileOptions") (statements_of_file file)

-- all places of a file, in the order of its declarations, and then that of the file as a whole
abbrev pub places_of : FileDescriptorProto → List Place
places_of file = flat_map places_at (file_declarations file) ++ place_of_file file
