-- The names that a file looks up, and who uses them.
use Rattle.std.specs.Prelude.{ℕ, ◌==◌, Bool, false, not, ◌&&◌, ◌||◌, List, [], ◌∷◌, ◌++◌, filter, map, Option, Some, None, codes}
use Rattle.std.specs.List.{flat_map, list_any}
use Rattle.std.specs.Str.{bytes_eq}
use Rattle.protox_descriptor.specs.declared.descriptor.FileDescriptorProto.{FileDescriptorProto}
use Rattle.protox_descriptor.specs.declared.descriptor.options.UninterpretedOption.{UninterpretedOption}
use Rattle.protox_descriptor.specs.declared.descriptor.uninterpreted_option.NamePart.{NamePart}
use Rattle.protox_names.specs.Names.{within}
use Rattle.protox_scopes.specs.declared.kind.Wanted.{Wanted}
use Rattle.protox_scopes.specs.declared.kind.Wanted.TheVariants.{AType, Anything}
use Rattle.protox_walk.specs.Declarations.{file_declarations, text_of}
use Rattle.protox_walk.specs.Parts.{Declared, Described, Message, Field, Oneof, Enum, Value, Service, Method}
use Rattle.protox_usage.specs.Options.{options_in_file, options_of_declared, options_of_file}

-- Something of the full name `user` looks up a name, and this is wanted of it.
pub record Lookup : Type 0 where
  pub wanted : Wanted
  pub name : List ℕ
  pub user : List ℕ

-- one for a name, if it is set
abbrev pub lookup_if_set : Wanted → List ℕ → Option (List ℕ) → List Lookup
lookup_if_set wanted user None = []
lookup_if_set wanted user (Some name) = record { wanted = wanted; name = name; user = user } ∷ []

-- ---- options

-- The part of the name of an option stands in parentheses.
abbrev pub is_extension : NamePart → Bool
is_extension part = part.is_extension

abbrev pub lookup_of_part : List ℕ → NamePart → Lookup
lookup_of_part user part = record { wanted = Anything; name = part.name_part; user = user }

-- any option looks up a message of descriptor.proto
abbrev pub lookup_of_options : List ℕ → Lookup
lookup_of_options user =
    record { wanted = Anything; name = codes ".google.protobuf.FileOptions"; user = user }

-- The parts of the name that stand in parentheses are names of extensions.
abbrev pub lookups_of_option : List ℕ → UninterpretedOption → List Lookup
lookups_of_option user option =
    lookup_of_options user ∷ map (lookup_of_part user) (filter is_extension option.name)

abbrev pub lookups_of_options : List ℕ → List UninterpretedOption → List Lookup
lookups_of_options user options = flat_map (lookups_of_option user) options

-- An identifier may name a value of an enum of another file. These do not.
abbrev pub is_plain_word : List ℕ → Bool
is_plain_word word =
    bytes_eq word (codes "true") || (bytes_eq word (codes "false")
    || (bytes_eq word (codes "inf") || bytes_eq word (codes "nan")))

-- A value in braces may name an extension of another file: in brackets.
abbrev pub has_bracket : Option (List ℕ) → Bool
has_bracket None = false
has_bracket (Some value) = list_any (λ byte. byte == 91) value

abbrev pub may_name : Option (List ℕ) → Option (List ℕ) → Bool
may_name (Some word) braces = not (is_plain_word word)
may_name None braces = has_bracket braces

-- An option of a custom name has a value that may name something of another file.
abbrev pub may_use_more : UninterpretedOption → Bool
may_use_more option =
    list_any is_extension option.name && may_name option.identifier_value option.aggregate_value

-- ---- declarations

-- An extension looks up what it extends, a field its type, and a method what it takes and gives.
abbrev pub lookups_of_part : List ℕ → Described → List Lookup
lookups_of_part user (Message message) = []
lookups_of_part user (Field field) = lookup_if_set Anything user field.extendee ++ lookup_if_set AType user field.type_name
lookups_of_part user (Oneof oneof) = []
lookups_of_part user (Enum enum) = []
lookups_of_part user (Value value) = []
lookups_of_part user (Service service) = []
lookups_of_part user (Method method) = lookup_if_set Anything user method.input_type ++ lookup_if_set Anything user method.output_type

abbrev pub lookups_of_declared : Declared → List Lookup
lookups_of_declared d = lookups_of_options d.full_name (options_of_declared d) ++ lookups_of_part d.full_name d.part

-- ---- a file

-- What uses the options of a file as a whole stands in its package. The name of the user itself
-- plays no part, so it is left out here.
abbrev pub user_of_file : FileDescriptorProto → List ℕ
user_of_file file = within (text_of file.«package») []

abbrev pub lookups_in_file : FileDescriptorProto → List Lookup
lookups_in_file file =
    lookups_of_options (user_of_file file) (options_of_file file)
    ++ flat_map lookups_of_declared (file_declarations file)

-- Some option may use more than is looked up here.
abbrev pub may_use_all : FileDescriptorProto → Bool
may_use_all file = list_any may_use_more (options_in_file file)
