-- The options of a file, as they are written.
use Rattle.std.specs.Prelude.{Bool, true, false, List, [], ◌∷◌, ◌++◌}
use Rattle.std.specs.List.{flat_map}
use Rattle.protox_descriptor.specs.declared.descriptor.DescriptorProto.{out-DescriptorProto}
use Rattle.protox_descriptor.specs.declared.descriptor.FileDescriptorProto.{FileDescriptorProto}
use Rattle.protox_descriptor.specs.declared.descriptor.descriptor_proto.ExtensionRange.{ExtensionRange}
use Rattle.protox_descriptor.specs.declared.descriptor.options.ExtensionRangeOptions.{ExtensionRangeOptions}
use Rattle.protox_descriptor.specs.declared.descriptor.options.FileOptions.{FileOptions}
use Rattle.protox_descriptor.specs.declared.descriptor.options.UninterpretedOption.{UninterpretedOption}
use Rattle.protox_walk.specs.Declarations.{file_declarations}
use Rattle.protox_walk.specs.Parts.{Declared, Described, Message, Field, Oneof, Enum, Value, Service, Method}
use Rattle.protox_walk.specs.Words.{options_in, options_of}

-- those of the file as a whole
abbrev pub options_of_file : FileDescriptorProto → List UninterpretedOption
options_of_file file = options_in (λ (o : FileOptions). o.uninterpreted_option) file.options

abbrev pub options_of_range : ExtensionRange → List UninterpretedOption
options_of_range range =
    options_in (λ (o : ExtensionRangeOptions). o.uninterpreted_option) range.options

-- those of the extension ranges of a message
abbrev pub options_of_ranges : Described → List UninterpretedOption
options_of_ranges (Message message) = flat_map options_of_range (out-DescriptorProto message).extension_range
options_of_ranges (Field field) = []
options_of_ranges (Oneof oneof) = []
options_of_ranges (Enum enum) = []
options_of_ranges (Value value) = []
options_of_ranges (Service service) = []
options_of_ranges (Method method) = []

-- those of a declaration, and of its extension ranges
abbrev pub options_of_declared : Declared → List UninterpretedOption
options_of_declared d = options_of d.part ++ options_of_ranges d.part

-- all of a file
abbrev pub options_in_file : FileDescriptorProto → List UninterpretedOption
options_in_file file = options_of_file file ++ flat_map options_of_declared (file_declarations file)

-- There is one at least.
abbrev pub are_some : List UninterpretedOption → Bool
are_some [] = false
are_some (option ∷ options) = true

-- The file sets an option.
abbrev pub has_options : FileDescriptorProto → Bool
has_options file = are_some (options_in_file file)
