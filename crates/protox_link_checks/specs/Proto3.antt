-- What is wrong in a file of proto3 alone.
use Rattle.std.specs.Prelude.{ℕ, ℤ, Bool, false, List, [], ◌∷◌, ◌++◌, bytes_eq, codes, map, if◌then◌else◌}
use Rattle.std.specs.List.{flat_map}
use Rattle.std.specs.Option.{option_map_or}
use Rattle.protox_alike.specs.Alike.{fields_alike, values_alike}
use Rattle.protox_descriptor.specs.declared.descriptor.DescriptorProto.{DescriptorProto, out-DescriptorProto}
use Rattle.protox_descriptor.specs.declared.descriptor.EnumDescriptorProto.{EnumDescriptorProto}
use Rattle.protox_descriptor.specs.declared.descriptor.EnumValueDescriptorProto.{EnumValueDescriptorProto}
use Rattle.protox_descriptor.specs.declared.descriptor.FileDescriptorProto.{FileDescriptorProto}
use Rattle.protox_descriptor.specs.declared.descriptor.descriptor_proto.ExtensionRange.{ExtensionRange}
use Rattle.protox_descriptor.specs.declared.tag.enum_.TheConstants as enum_tag
use Rattle.protox_descriptor.specs.declared.tag.enum_value.TheConstants as value_tag
use Rattle.protox_descriptor.specs.declared.tag.message.TheConstants as message_tag
use Rattle.protox_link_fault.specs.declared.LinkFault.{LinkFault}
use Rattle.protox_link_fault.specs.declared.LinkFaultKind.TheVariants.{Alike, ExtensionsInProto3, FirstNotZero}
use Rattle.protox_numbers.specs.Enums.{begins_with_zero}
use Rattle.protox_numbers.specs.declared.clash.Clash.{Clash}
use Rattle.protox_walk.specs.Declarations.{Path, file_declarations, nth}
use Rattle.protox_walk.specs.Parts.{Declared, Described, Message, Field, Oneof, Enum, Value, Service, Method}

abbrev pub is_proto3 : FileDescriptorProto → Bool
is_proto3 file = option_map_or (λ syntax. bytes_eq syntax (codes "proto3")) file.syntax false

module _ (file : ℕ) (path : Path) where
  -- Of the values of an enum, the first one has the number 0.
  abbrev pub first_value_faults : EnumDescriptorProto → List EnumValueDescriptorProto → List LinkFault
  first_value_faults enum [] = []
  first_value_faults enum (value ∷ more) =
      if begins_with_zero enum then []
      else record { file = file; path = nth path enum_tag.VALUE 0 ++ value_tag.NUMBER ∷ []; kind = FirstNotZero } ∷ []

  -- A message has no extension range. The first one is at fault.
  abbrev pub extension_faults : List ExtensionRange → List LinkFault
  extension_faults [] = []
  extension_faults (range ∷ more) =
      record { file = file; path = nth path message_tag.EXTENSION_RANGE 0; kind = ExtensionsInProto3 } ∷ []

  -- the fault of a part whose name is like that of an earlier one
  abbrev pub alike_fault : ℤ → Clash → LinkFault
  alike_fault tag clash =
      record { file = file; path = nth path tag clash.part ++ message_tag.NAME ∷ []; kind = Alike clash.«with» }

  abbrev pub alike_faults : ℤ → List Clash → List LinkFault
  alike_faults tag clashes = map (alike_fault tag) clashes

  -- No two fields of a message have names that are alike, and no two values of an enum.
  abbrev pub message_in_proto3 : DescriptorProto → List LinkFault
  message_in_proto3 message =
      extension_faults (out-DescriptorProto message).extension_range
      ++ alike_faults message_tag.FIELD (fields_alike message)

  abbrev pub enum_in_proto3 : EnumDescriptorProto → List LinkFault
  enum_in_proto3 enum = first_value_faults enum enum.value ++ alike_faults enum_tag.VALUE (values_alike enum)

  abbrev pub part_faults : Described → List LinkFault
  part_faults (Message message) = message_in_proto3 message
  part_faults (Field field) = []
  part_faults (Oneof oneof) = []
  part_faults (Enum enum) = enum_in_proto3 enum
  part_faults (Value value) = []
  part_faults (Service service) = []
  part_faults (Method method) = []

module _ (file : ℕ) where
  abbrev pub faults_of_proto3 : Declared → List LinkFault
  faults_of_proto3 d = part_faults file d.path d.part

  -- all of a file, in the order of paths
  abbrev pub proto3_faults : FileDescriptorProto → List LinkFault
  proto3_faults f = if is_proto3 f then flat_map faults_of_proto3 (file_declarations f) else []
