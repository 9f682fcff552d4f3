-- What a field or a range may not be, whatever stands beside it.
use Rattle.std.specs.Prelude.{ℤ, pos, int_le, int_lt, Bool, ◌&&◌, Option}
use Rattle.std.specs.Option.{unwrap_or}
use Rattle.protox_descriptor.specs.FieldDescriptorProto.{FieldDescriptorProto}
use Rattle.protox_descriptor.specs.declared.descriptor.descriptor_proto.ReservedRange.{ReservedRange}
use Rattle.protox_descriptor.specs.declared.descriptor.descriptor_proto.ExtensionRange.{ExtensionRange}
use Rattle.protox_descriptor.specs.declared.descriptor.enum_descriptor_proto.EnumReservedRange.{EnumReservedRange}

-- An unset number counts as 0.
abbrev pub or_zero : Option ℤ → ℤ
or_zero number = unwrap_or number (pos 0)

-- Numbers from 19000 to 19999 are for the implementation of protocol buffers.
abbrev pub is_for_implementation : FieldDescriptorProto → Bool
is_for_implementation field = int_le (pos 19000) (or_zero field.number) && int_le (or_zero field.number) (pos 19999)

-- In a message the end isn't in the range.
abbrev pub is_empty_reserved_range : ReservedRange → Bool
is_empty_reserved_range range = int_le (or_zero range.end) (or_zero range.start)

abbrev pub is_empty_extension_range : ExtensionRange → Bool
is_empty_extension_range range = int_le (or_zero range.end) (or_zero range.start)

-- In an enum the end is in the range.
abbrev pub is_backward_enum_range : EnumReservedRange → Bool
is_backward_enum_range range = int_lt (or_zero range.end) (or_zero range.start)
