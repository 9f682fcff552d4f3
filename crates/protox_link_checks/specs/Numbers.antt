-- What is wrong with the numbers of a message, and of an enum.
use Rattle.std.specs.Prelude.{ℕ, ◌+◌, ◌==◌, ℤ, length, List, [], ◌∷◌, ◌++◌, map, if◌then◌else◌}
use Rattle.protox_descriptor.specs.FieldDescriptorProto.{FieldDescriptorProto}
use Rattle.protox_descriptor.specs.declared.descriptor.DescriptorProto.{DescriptorProto, out-DescriptorProto}
use Rattle.protox_descriptor.specs.declared.descriptor.EnumDescriptorProto.{EnumDescriptorProto}
use Rattle.protox_descriptor.specs.declared.tag.enum_.TheConstants as enum_tag
use Rattle.protox_descriptor.specs.declared.tag.enum_value.TheConstants as value_tag
use Rattle.protox_descriptor.specs.declared.tag.field.TheConstants as field_tag
use Rattle.protox_descriptor.specs.declared.tag.message.TheConstants as message_tag
use Rattle.protox_link_checks.specs.Empty.{empty_faults}
use Rattle.protox_link_fault.specs.declared.LinkFault.{LinkFault}
use Rattle.protox_link_fault.specs.declared.LinkFaultKind.TheVariants.{Clash, ForImplementation, NoValue}
use Rattle.protox_link_fault.specs.declared.NumberFault.{NumberFault}
use Rattle.protox_link_fault.specs.declared.NumberFault.TheVariants as fault
use Rattle.protox_numbers.specs.Enums as of_enum
use Rattle.protox_numbers.specs.Message as of_message
use Rattle.protox_numbers.specs.Parts.{is_backward_enum_range, is_empty_extension_range, is_for_implementation}
use Rattle.protox_numbers.specs.declared.clash.Clash.{Clash as Clashing}
use Rattle.protox_walk.specs.Declarations.{Path, nth}

module _ (file : ℕ) (path : Path) where
  -- The fault of a part that clashes: it is one of like siblings, and told at this part of it.
  abbrev pub clash_fault : ℤ → Path → NumberFault → Clashing → LinkFault
  clash_fault tag at how clash = record { file = file; path = nth path tag clash.part ++ at; kind = Clash how clash.«with» }

  abbrev pub clash_faults : ℤ → Path → NumberFault → List Clashing → List LinkFault
  clash_faults tag at how clashes = map (clash_fault tag at how) clashes

  -- Numbers of fields are told at the number.
  abbrev pub field_number_faults : DescriptorProto → List LinkFault
  field_number_faults message =
      clash_faults message_tag.FIELD (field_tag.NUMBER ∷ []) fault.Reused (of_message.reused_numbers message)
      ++ (clash_faults message_tag.FIELD (field_tag.NUMBER ∷ []) fault.Reserved (of_message.fields_in_reserved_ranges message)
      ++ clash_faults message_tag.FIELD (field_tag.NUMBER ∷ []) fault.ForExtensions (of_message.fields_in_extension_ranges message))

  -- Ranges are told where they stand.
  abbrev pub clashing_ranges : DescriptorProto → List LinkFault
  clashing_ranges message =
      clash_faults message_tag.RESERVED_RANGE [] fault.ReservedTwice (of_message.overlapping_reserved_ranges message)
      ++ (clash_faults message_tag.EXTENSION_RANGE [] fault.ExtensionsTwice (of_message.overlapping_extension_ranges message)
      ++ clash_faults message_tag.EXTENSION_RANGE [] fault.ExtensionsReserved (of_message.extension_ranges_in_reserved message))

  -- An extension range has a number. A reserved range of a message may be without.
  abbrev pub empty_ranges : DescriptorProto → List LinkFault
  empty_ranges message =
      empty_faults file path message_tag.EXTENSION_RANGE is_empty_extension_range 0 (out-DescriptorProto message).extension_range

  abbrev pub message_number_faults : DescriptorProto → List LinkFault
  message_number_faults message = field_number_faults message ++ (empty_ranges message ++ clashing_ranges message)

  abbrev pub clashing_values : EnumDescriptorProto → List LinkFault
  clashing_values enum =
      clash_faults enum_tag.VALUE (value_tag.NUMBER ∷ []) fault.ValueReserved (of_enum.values_in_reserved_ranges enum)
      ++ clash_faults enum_tag.RESERVED_RANGE [] fault.ValuesReservedTwice (of_enum.overlapping_enum_ranges enum)

  -- An enum has a value.
  abbrev pub no_value : EnumDescriptorProto → List LinkFault
  no_value enum = if length enum.value == 0 then record { file = file; path = path ++ enum_tag.NAME ∷ []; kind = NoValue } ∷ [] else []

  -- Numbers from 19000 to 19999 are for the implementation of protocol buffers.
  abbrev pub implementation_faults : FieldDescriptorProto → List LinkFault
  implementation_faults field =
      if is_for_implementation field then record { file = file; path = path ++ field_tag.NUMBER ∷ []; kind = ForImplementation } ∷ [] else []

  abbrev pub enum_number_faults : EnumDescriptorProto → List LinkFault
  enum_number_faults enum =
      no_value enum
      ++ (empty_faults file path enum_tag.RESERVED_RANGE is_backward_enum_range 0 enum.reserved_range ++ clashing_values enum)
