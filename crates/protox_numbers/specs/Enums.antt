-- Numbers and ranges of an enum that clash.
use Rattle.std.specs.Prelude.{◌==◌, Bool, false, List, map, slice_get}
use Rattle.std.specs.Option.{option_map_or}
use Rattle.protox_spans.specs.declared.span.Span.{Span}
use Rattle.protox_spans.specs.Spans.{first_met_in}
use Rattle.protox_descriptor.specs.declared.descriptor.EnumDescriptorProto.{EnumDescriptorProto}
use Rattle.protox_numbers.specs.declared.clash.Clash.{Clash}
use Rattle.protox_numbers.specs.Clashes.{with_earlier, with_first}
use Rattle.protox_numbers.specs.Numbers.{of_value, of_enum_range, rank}

abbrev pub value_spans : EnumDescriptorProto → List Span
value_spans of_ = map of_value of_.value

abbrev pub range_spans : EnumDescriptorProto → List Span
range_spans of_ = map of_enum_range of_.reserved_range

-- each value with a reserved number, with the first reserved range that has it
abbrev pub values_in_reserved_ranges : EnumDescriptorProto → List Clash
values_in_reserved_ranges of_ = with_first (map (first_met_in (range_spans of_)) (value_spans of_))

-- each reserved range that overlaps an earlier one, with the first that it overlaps
abbrev pub overlapping_enum_ranges : EnumDescriptorProto → List Clash
overlapping_enum_ranges of_ = with_earlier (map (first_met_in (range_spans of_)) (range_spans of_))

-- There is a first value, and its number is 0.
abbrev pub begins_with_zero : EnumDescriptorProto → Bool
begins_with_zero of_ = option_map_or (λ value. rank value.number == 2147483648) (slice_get of_.value 0) false
