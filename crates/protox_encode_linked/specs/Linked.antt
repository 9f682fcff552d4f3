-- What each message of descriptor.proto holds on the wire in a linked file: as in `Messages` of
-- `protox_encode`, but in place of the statements of an options message stands what they set. Each
-- definition gets what is set in the file, and the path of the thing in the file.
use Rattle.std.specs.Prelude.{ℕ, ◌+◌, List, [], ◌∷◌, ◌++◌, Option, None, Some}
use Rattle.protox_descriptor.specs.FieldDescriptorProto.{FieldDescriptorProto}
use Rattle.protox_descriptor.specs.declared.descriptor.DescriptorProto.{DescriptorProto}
use Rattle.protox_descriptor.specs.declared.descriptor.DescriptorProto.TheFolds.{fold-DescriptorProto}
use Rattle.protox_descriptor.specs.declared.descriptor.DescriptorProto.TheOpen.{DescriptorProto-F}
use Rattle.protox_descriptor.specs.declared.descriptor.EnumDescriptorProto.{EnumDescriptorProto}
use Rattle.protox_descriptor.specs.declared.descriptor.EnumValueDescriptorProto.{EnumValueDescriptorProto}
use Rattle.protox_descriptor.specs.declared.descriptor.FileDescriptorProto.{FileDescriptorProto}
use Rattle.protox_descriptor.specs.declared.descriptor.MethodDescriptorProto.{MethodDescriptorProto}
use Rattle.protox_descriptor.specs.declared.descriptor.OneofDescriptorProto.{OneofDescriptorProto}
use Rattle.protox_descriptor.specs.declared.descriptor.ServiceDescriptorProto.{ServiceDescriptorProto}
use Rattle.protox_descriptor.specs.declared.descriptor.descriptor_proto.ExtensionRange.{ExtensionRange}
use Rattle.protox_descriptor.specs.declared.descriptor.options.MessageOptions.{MessageOptions}
use Rattle.protox_encode.specs.Messages.{enum_reserved_range, reserved_range, source_code_info}
use Rattle.protox_encode.specs.Payloads.{text, texts, signed, signeds, flag, nested, each}
use Rattle.protox_encode.specs.Wire.{Payload, Bytes, Parts, message, part}
use Rattle.protox_encode_linked.specs.Setting.{Path, OptionsSet, set_at}

-- An options message holds what is set at its path. Without one there is nothing.
abbrev pub options : {O : Type 0} → OptionsSet → Path → Option O → List Payload
options set path None = []
options set path (Some o) = Bytes (set_at set path) ∷ []

-- The options of a message also hold whether it is the entry of a map. That isn't a statement.
abbrev pub message_options : OptionsSet → Path → Option MessageOptions → List Payload
message_options set path None = []
message_options set path (Some o) = Bytes (part 7 (flag o.map_entry) ++ set_at set path) ∷ []

-- Several messages within the message, one field each. The path of each is the path of their list
-- with an index, from this one on.
abbrev pub each_from : {M : Type 0} → (Path → M → Parts) → Path → ℕ → List M → List Payload
each_from parts path index [] = []
each_from parts path index (m ∷ ms) =
    Bytes (message (parts (path ++ index ∷ []) m)) ∷ each_from parts path (index + 1) ms

-- All messages of a list with this path.
abbrev pub each_at : {M : Type 0} → (Path → M → Parts) → Path → List M → List Payload
each_at parts path ms = each_from parts path 0 ms

-- The parts that few fields have.
unfoldable pub rare_parts : OptionsSet → Path → FieldDescriptorProto → Parts
rare_parts set path f =
    (7, text f.default_value) ∷ (8, options set (path ++ 8 ∷ []) f.options)
    ∷ (9, signed f.oneof_index) ∷ (10, text f.json_name) ∷ (17, flag f.proto3_optional) ∷ []

unfoldable pub field_descriptor : OptionsSet → Path → FieldDescriptorProto → Parts
field_descriptor set path f =
    (1, text f.name) ∷ (2, text f.extendee) ∷ (3, signed f.number) ∷ (4, signed f.label)
    ∷ (5, signed f.field_type) ∷ (6, text f.type_name)
    ∷ rare_parts set path f

unfoldable pub oneof_descriptor : OptionsSet → Path → OneofDescriptorProto → Parts
oneof_descriptor set path o = (1, text o.name) ∷ (2, options set (path ++ 2 ∷ []) o.options) ∷ []

unfoldable pub enum_value_descriptor : OptionsSet → Path → EnumValueDescriptorProto → Parts
enum_value_descriptor set path v =
    (1, text v.name) ∷ (2, signed v.number) ∷ (3, options set (path ++ 3 ∷ []) v.options) ∷ []

unfoldable pub enum_descriptor : OptionsSet → Path → EnumDescriptorProto → Parts
enum_descriptor set path e =
    (1, text e.name) ∷ (2, each_at (enum_value_descriptor set) (path ++ 2 ∷ []) e.value)
    ∷ (3, options set (path ++ 3 ∷ []) e.options)
    ∷ (4, each enum_reserved_range e.reserved_range) ∷ (5, texts e.reserved_name) ∷ []

unfoldable pub method_descriptor : OptionsSet → Path → MethodDescriptorProto → Parts
method_descriptor set path m =
    (1, text m.name) ∷ (2, text m.input_type) ∷ (3, text m.output_type)
    ∷ (4, options set (path ++ 4 ∷ []) m.options) ∷ (5, flag m.client_streaming)
    ∷ (6, flag m.server_streaming) ∷ []

unfoldable pub service_descriptor : OptionsSet → Path → ServiceDescriptorProto → Parts
service_descriptor set path s =
    (1, text s.name) ∷ (2, each_at (method_descriptor set) (path ++ 2 ∷ []) s.method)
    ∷ (3, options set (path ++ 3 ∷ []) s.options) ∷ []

unfoldable pub extension_range : OptionsSet → Path → ExtensionRange → Parts
extension_range set path r =
    (1, signed r.start) ∷ (2, signed r.end) ∷ (3, options set (path ++ 3 ∷ []) r.options) ∷ []

-- The fields of a message from 7 on, after its definitions.
unfoldable pub message_end : {M : Type 0} → OptionsSet → Path → DescriptorProto-F M → Parts
message_end set path m =
    (7, message_options set (path ++ 7 ∷ []) m.options)
    ∷ (8, each_at (oneof_descriptor set) (path ++ 8 ∷ []) m.oneof_decl)
    ∷ (9, each reserved_range m.reserved_range) ∷ (10, texts m.reserved_name) ∷ []

-- The fields of a message from 4 on, after the messages nested in it.
unfoldable pub message_middle : {M : Type 0} → OptionsSet → Path → DescriptorProto-F M → Parts
message_middle set path m =
    (4, each_at (enum_descriptor set) (path ++ 4 ∷ []) m.enum_type)
    ∷ (5, each_at (extension_range set) (path ++ 5 ∷ []) m.extension_range)
    ∷ (6, each_at (field_descriptor set) (path ++ 6 ∷ []) m.extension) ∷ message_end set path m

-- The fields of a message, given the fields of the messages nested in it, whatever their paths.
unfoldable pub message_step : OptionsSet → DescriptorProto-F (Path → Parts) → Path → Parts
message_step set m path =
    (1, text m.name) ∷ (2, each_at (field_descriptor set) (path ++ 2 ∷ []) m.field)
    ∷ (3, each_at (λ place inner. inner place) (path ++ 3 ∷ []) m.nested_type)
    ∷ message_middle set path m

unfoldable pub message_descriptor : OptionsSet → Path → DescriptorProto → Parts
message_descriptor set path m = fold-DescriptorProto (Path → Parts) (message_step set) m path

-- The fields of a file from 8 on, after its definitions.
unfoldable pub file_end : OptionsSet → Path → FileDescriptorProto → Parts
file_end set path f =
    (8, options set (path ++ 8 ∷ []) f.options) ∷ (9, nested source_code_info f.source_code_info)
    ∷ (10, signeds f.public_dependency)
    ∷ (11, signeds f.weak_dependency) ∷ (12, text f.syntax) ∷ []

-- The fields of a file from 4 on, beginning with its definitions.
unfoldable pub file_definitions : OptionsSet → Path → FileDescriptorProto → Parts
file_definitions set path f =
    (4, each_at (message_descriptor set) (path ++ 4 ∷ []) f.message_type)
    ∷ (5, each_at (enum_descriptor set) (path ++ 5 ∷ []) f.enum_type)
    ∷ (6, each_at (service_descriptor set) (path ++ 6 ∷ []) f.service)
    ∷ (7, each_at (field_descriptor set) (path ++ 7 ∷ []) f.extension) ∷ file_end set path f

-- A file whose parts have paths that begin with this one.
unfoldable pub file_at : OptionsSet → Path → FileDescriptorProto → Parts
file_at set path f =
    (1, text f.name) ∷ (2, text f.«package») ∷ (3, texts f.dependency) ∷ file_definitions set path f

-- A file. The paths of its parts begin with it.
unfoldable pub file_descriptor : OptionsSet → FileDescriptorProto → Parts
file_descriptor set f = file_at set [] f

-- A `FileDescriptorSet` that holds only this file.
unfoldable pub file_set : OptionsSet → FileDescriptorProto → Parts
file_set set f = (1, Bytes (message (file_descriptor set f)) ∷ []) ∷ []
