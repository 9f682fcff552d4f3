-- What is known of the files of a set, and of their messages, before their parts are looked at.
use Rattle.std.specs.Prelude.{ℕ, Bool, false, ◌&&◌, ◌||◌, List, map, bytes_eq, codes, slice_get}
use Rattle.std.specs.Option.{option_and_then, option_map_or, unwrap_or}
use Rattle.protox_descriptor.specs.declared.descriptor.DescriptorProto.{DescriptorProto, out-DescriptorProto}
use Rattle.protox_descriptor.specs.declared.descriptor.FileDescriptorProto.{FileDescriptorProto}
use Rattle.protox_descriptor.specs.declared.descriptor.options.FileOptions.{FileOptions}
use Rattle.protox_descriptor.specs.declared.descriptor.options.MessageOptions.{MessageOptions}
use Rattle.protox_descriptor.specs.declared.descriptor.options.UninterpretedOption.{UninterpretedOption}
use Rattle.protox_option_checks.specs.Statements.{is_true, says}
use Rattle.protox_settings.specs.Fields.{message_at}
use Rattle.protox_symbols.specs.Symbols.{Table}
use Rattle.protox_symbols.specs.declared.thing.Thing.{Thing}
use Rattle.protox_walk.specs.Words.{options_in}

-- ---- files

abbrev pub statements_of_file : FileDescriptorProto → List UninterpretedOption
statements_of_file file = options_in (λ (o : FileOptions). o.uninterpreted_option) file.options

-- The file is for the lite runtime.
abbrev pub is_lite : FileDescriptorProto → Bool
is_lite file = says (statements_of_file file) (codes "optimize_for") (codes "LITE_RUNTIME")

abbrev pub is_proto3 : FileDescriptorProto → Bool
is_proto3 file = option_map_or (λ syntax. bytes_eq syntax (codes "proto3")) file.syntax false

-- It asks for generic services, of C++ or of Java.
abbrev pub has_generic_services : FileDescriptorProto → Bool
has_generic_services file =
    is_true (statements_of_file file) (codes "cc_generic_services") || is_true (statements_of_file file) (codes "java_generic_services")

-- It may not have a service: the lite runtime has no generic services.
abbrev pub bars_services : FileDescriptorProto → Bool
bars_services file = is_lite file && has_generic_services file

-- ---- messages

abbrev pub statements_of_message : DescriptorProto → List UninterpretedOption
statements_of_message message = options_in (λ (o : MessageOptions). o.uninterpreted_option) (out-DescriptorProto message).options

-- The message is a message set.
abbrev pub is_message_set : DescriptorProto → Bool
is_message_set message = is_true (statements_of_message message) (codes "message_set_wire_format")

-- What stands there is a message set.
abbrev pub is_set_at : List FileDescriptorProto → Thing → Bool
is_set_at files thing =
    option_map_or is_message_set (option_and_then (λ file. message_at file thing.path) (slice_get files thing.file)) false

-- ---- marks

-- Files are marked by their number in the list, messages by their number in the table.
pub record Marks : Type 0 where
  pub lite : List Bool
  pub proto3 : List Bool
  pub without_services : List Bool
  pub message_sets : List Bool

abbrev pub marks_of : Table → List FileDescriptorProto → Marks
marks_of table files = record {
  lite = map is_lite files;
  proto3 = map is_proto3 files;
  without_services = map bars_services files;
  message_sets = map (is_set_at files) table.things;
}

-- What has this number is marked.
abbrev pub is_marked : List Bool → ℕ → Bool
is_marked marks n = unwrap_or (slice_get marks n) false
