-- What is wrong with the extensions of a file: with their numbers, and in proto3 with what they extend.
use Rattle.std.specs.Prelude.{ℕ, ◌==◌, ℤ, pos, negsuc, Bool, true, false, ◌&&◌, List, [], ◌∷◌, ◌++◌, Option, Some, None, codes, bytes_eq, map, position, slice_get, if◌then◌else◌}
use Rattle.std.specs.List.{flat_map, list_any}
use Rattle.std.specs.Option.{option_and_then, option_map_or}
use Rattle.std.specs.Ordering.{int_eq}
use Rattle.protox_descriptor.specs.FieldDescriptorProto.{FieldDescriptorProto}
use Rattle.protox_descriptor.specs.declared.descriptor.DescriptorProto.{DescriptorProto, out-DescriptorProto}
use Rattle.protox_descriptor.specs.declared.descriptor.FileDescriptorProto.{FileDescriptorProto}
use Rattle.protox_descriptor.specs.declared.tag.field.TheConstants as field_tag
use Rattle.protox_descriptor.specs.declared.tag.file.TheConstants as file_tag
use Rattle.protox_descriptor.specs.declared.tag.message.TheConstants as message_tag
use Rattle.protox_link_checks.specs.Proto3.{is_proto3}
use Rattle.protox_link_checks.specs.Uses.{fault_at}
use Rattle.protox_link_checks.specs.declared.extensions.Extension.{Extension}
use Rattle.protox_link_fault.specs.declared.LinkFault.{LinkFault}
use Rattle.protox_link_fault.specs.declared.LinkFaultKind.TheVariants.{ExtensionReused, NotOfOptions, OutOfRanges}
use Rattle.protox_name_tree.specs.Tree.{dotted, kind_at, name_at, number_of}
use Rattle.protox_names.specs.Names.{is_identifier}
use Rattle.protox_numbers.specs.Clashes.{with_earlier}
use Rattle.protox_numbers.specs.Message.{extension_spans}
use Rattle.protox_numbers.specs.Numbers.{rank, single}
use Rattle.protox_numbers.specs.declared.clash.Clash.{Clash}
use Rattle.protox_scopes.specs.Scopes.{resolve}
use Rattle.protox_scopes.specs.declared.kind.Kind.{Kind}
use Rattle.protox_scopes.specs.declared.kind.Kind.TheVariants as kind
use Rattle.protox_scopes.specs.declared.kind.Wanted.TheVariants.{Anything}
use Rattle.protox_spans.specs.Spans.{meets}
use Rattle.protox_spans.specs.declared.span.Span.{Span}
use Rattle.protox_symbols.specs.Symbols.{Table}
use Rattle.protox_views.specs.Views.{seen}
use Rattle.protox_walk.specs.Declarations.{Path, file_declarations, text_of}
use Rattle.protox_walk.specs.Parts.{Declared, Described, Message, Field, Oneof, Enum, Value, Service, Method}

-- ---- messages, and their extension ranges

-- the part with an index, if there is one
abbrev pub part_at : {A : Type 0} → List A → ℤ → Option A
part_at parts (pos n) = slice_get parts n
part_at parts (negsuc n) = None

-- the message to which the rest of a path leads from a message: itself, or one inside it
abbrev pub message_in : DescriptorProto → Path → Option DescriptorProto
message_in m [] = Some m
message_in m (tag ∷ []) = None
message_in m (tag ∷ n ∷ rest) =
    if int_eq tag message_tag.NESTED_TYPE then option_and_then (λ inner. message_in inner rest) (part_at (out-DescriptorProto m).nested_type n)
    else None

-- the message to which a path leads from a file
abbrev pub message_at : FileDescriptorProto → Path → Option DescriptorProto
message_at file [] = None
message_at file (tag ∷ []) = None
message_at file (tag ∷ n ∷ rest) =
    if int_eq tag file_tag.MESSAGE_TYPE then option_and_then (λ m. message_in m rest) (part_at file.message_type n)
    else None

module _ (files : List FileDescriptorProto) (table : Table) where
  -- the message that has a number in the table
  abbrev pub message_numbered : ℕ → Option DescriptorProto
  message_numbered n = option_and_then (λ thing. option_and_then (λ file. message_at file thing.path) (slice_get files thing.file)) (slice_get table.things n)

  -- its extension ranges
  abbrev pub ranges_numbered : ℕ → List Span
  ranges_numbered n = option_map_or extension_spans (message_numbered n) []

-- ---- extensions

-- what has a number of its own, and extends what has one
abbrev pub numbered_extension : Path → Option ℤ → Option ℕ → Option ℕ → List Extension
numbered_extension path number (Some own) (Some message) = record { message = message; own = own; number = number; path = path } ∷ []
numbered_extension path number (Some own) None = []
numbered_extension path number None message = []

abbrev pub is_message : Kind → Bool
is_message kind.Message = true
is_message _ = false

abbrev pub if_message : Table → ℕ → Option ℕ
if_message table n = if is_message (kind_at table.names n) then Some n else None

module _ (table : Table) (sees packages : List Bool) where
  -- the number of the message that a name stands for, where something with this full name uses it
  abbrev pub message_named : List ℕ → List ℕ → Option ℕ
  message_named user name = option_and_then (if_message table) (resolve (kind_at table.names) (seen table sees packages) Anything name user)

  abbrev pub extension_in : Path → List ℕ → FieldDescriptorProto → List Extension
  extension_in path full_name field =
      if is_identifier (text_of field.name) then numbered_extension path field.number (number_of table.names full_name) (option_and_then (message_named full_name) field.extendee)
      else []

  -- A field that extends a message of the table is an extension.
  abbrev pub part_extension : Path → List ℕ → Described → List Extension
  part_extension path full_name (Field field) = extension_in path full_name field
  part_extension path full_name (Message message) = []
  part_extension path full_name (Oneof oneof) = []
  part_extension path full_name (Enum enum) = []
  part_extension path full_name (Value value) = []
  part_extension path full_name (Service service) = []
  part_extension path full_name (Method method) = []

  abbrev pub extension_of : Declared → List Extension
  extension_of d = part_extension d.path d.full_name d.part

  -- those of a file, in the order of paths
  abbrev pub extensions_of : FileDescriptorProto → List Extension
  extensions_of file = flat_map extension_of (file_declarations file)

-- Two extensions extend the same message with the same number.
abbrev pub same_number : Extension → Extension → Bool
same_number e f = (e.message == f.message) && (rank e.number == rank f.number)

-- each extension with an earlier one that has the same message and number, with the first of these
abbrev pub reused_extensions : List Extension → List Clash
reused_extensions extensions = with_earlier (map (λ e. position (same_number e) extensions) extensions)

-- a dot and the full name of each message of options: in proto3 nothing else is extended
abbrev pub options_messages : List (List ℕ)
options_messages =
    codes ".google.protobuf.FileOptions" ∷ codes ".google.protobuf.MessageOptions" ∷ codes ".google.protobuf.FieldOptions"
    ∷ codes ".google.protobuf.OneofOptions" ∷ codes ".google.protobuf.ExtensionRangeOptions" ∷ codes ".google.protobuf.EnumOptions"
    ∷ codes ".google.protobuf.EnumValueOptions" ∷ codes ".google.protobuf.ServiceOptions" ∷ codes ".google.protobuf.MethodOptions"
    ∷ codes ".proto2.FileOptions" ∷ codes ".proto2.MessageOptions" ∷ codes ".proto2.FieldOptions" ∷ codes ".proto2.OneofOptions"
    ∷ codes ".proto2.ExtensionRangeOptions" ∷ codes ".proto2.EnumOptions" ∷ codes ".proto2.EnumValueOptions" ∷ codes ".proto2.ServiceOptions" ∷ codes ".proto2.MethodOptions" ∷ []

abbrev pub is_options : List ℕ → Bool
is_options name = list_any (bytes_eq name) options_messages

-- ---- faults

module _ (file : ℕ) where
  -- The number of an extension is in a range of the message that it extends.
  abbrev pub range_faults : List Span → Extension → List LinkFault
  range_faults ranges e =
      if list_any (meets (single e.number)) ranges then []
      else fault_at file e.path field_tag.NUMBER (OutOfRanges e.message) ∷ []

  -- No earlier extension of the file has it.
  abbrev pub pair_faults : Option Extension → Option Extension → List LinkFault
  pair_faults (Some e) (Some earlier) = fault_at file e.path field_tag.NUMBER (ExtensionReused e.message earlier.own) ∷ []
  pair_faults _ _ = []

  abbrev pub reused_faults : List Extension → List LinkFault
  reused_faults extensions = flat_map (λ clash. pair_faults (slice_get extensions clash.part) (slice_get extensions clash.«with»)) (reused_extensions extensions)

  -- In proto3 it extends a message of options.
  abbrev pub options_faults : Table → Extension → List LinkFault
  options_faults table e =
      if is_options (dotted (name_at table.names e.message)) then []
      else fault_at file e.path field_tag.EXTENDEE NotOfOptions ∷ []

module _ (files : List FileDescriptorProto) (table : Table) (file : ℕ) where
  abbrev pub all_extension_faults : Bool → List Extension → List LinkFault
  all_extension_faults proto3 extensions =
      flat_map (λ e. range_faults file (ranges_numbered files table e.message) e) extensions
      ++ (reused_faults file extensions
      ++ (if proto3 then flat_map (options_faults file table) extensions else []))

  -- what is wrong with the extensions of a file
  abbrev pub extended_faults : List Bool → List Bool → FileDescriptorProto → List LinkFault
  extended_faults sees packages f = all_extension_faults (is_proto3 f) (extensions_of table sees packages f)
