-- The numbers of fields, values and ranges, as spans. So that none is negative, a number is told by
-- how many numbers of 32 bits are smaller: 0 by 2147483648.
use Rattle.std.specs.Prelude.{ℕ, ◌+◌, ◌-◌, ℤ, pos, negsuc, Option}
use Rattle.std.specs.Option.{unwrap_or}
use Rattle.protox_spans.specs.declared.span.Span.{Span}
use Rattle.protox_descriptor.specs.FieldDescriptorProto.{FieldDescriptorProto}
use Rattle.protox_descriptor.specs.declared.descriptor.EnumValueDescriptorProto.{EnumValueDescriptorProto}
use Rattle.protox_descriptor.specs.declared.descriptor.descriptor_proto.ReservedRange.{ReservedRange}
use Rattle.protox_descriptor.specs.declared.descriptor.descriptor_proto.ExtensionRange.{ExtensionRange}
use Rattle.protox_descriptor.specs.declared.descriptor.enum_descriptor_proto.EnumReservedRange.{EnumReservedRange}

-- how many numbers of 32 bits are smaller
abbrev pub rank_of : ℤ → ℕ
rank_of (pos n) = n + 2147483648
rank_of (negsuc n) = 2147483647 - n

-- An unset number counts as 0.
abbrev pub rank : Option ℤ → ℕ
rank number = rank_of (unwrap_or number (pos 0))

-- the number alone
abbrev pub single : Option ℤ → Span
single number = record { start = rank number; end = rank number + 1 }

-- the numbers from the start to before the end
abbrev pub half_open : Option ℤ → Option ℤ → Span
half_open start end = record { start = rank start; end = rank end }

unfoldable pub of_field : FieldDescriptorProto → Span
of_field field = single field.number

unfoldable pub of_value : EnumValueDescriptorProto → Span
of_value value = single value.number

-- In a message the end isn't in the range.
unfoldable pub of_reserved_range : ReservedRange → Span
of_reserved_range range = half_open range.start range.end

unfoldable pub of_extension_range : ExtensionRange → Span
of_extension_range range = half_open range.start range.end

-- In an enum the end is the last number of the range.
unfoldable pub of_enum_range : EnumReservedRange → Span
of_enum_range range = record { start = rank range.start; end = rank range.end + 1 }
