-- Numbers and ranges of a message that clash.
use Rattle.std.specs.Prelude.{List, map}
use Rattle.protox_spans.specs.declared.span.Span.{Span}
use Rattle.protox_spans.specs.Spans.{first_met_in}
use Rattle.protox_descriptor.specs.declared.descriptor.DescriptorProto.{DescriptorProto, out-DescriptorProto}
use Rattle.protox_numbers.specs.declared.clash.Clash.{Clash}
use Rattle.protox_numbers.specs.Clashes.{with_earlier, with_first}
use Rattle.protox_numbers.specs.Numbers.{of_field, of_reserved_range, of_extension_range}

abbrev pub field_spans : DescriptorProto → List Span
field_spans message = map of_field (out-DescriptorProto message).field

abbrev pub reserved_spans : DescriptorProto → List Span
reserved_spans message = map of_reserved_range (out-DescriptorProto message).reserved_range

abbrev pub extension_spans : DescriptorProto → List Span
extension_spans message = map of_extension_range (out-DescriptorProto message).extension_range

-- each field whose number an earlier field has, with the first field of this number
abbrev pub reused_numbers : DescriptorProto → List Clash
reused_numbers message = with_earlier (map (first_met_in (field_spans message)) (field_spans message))

-- each field with a reserved number, with the first reserved range that has it
abbrev pub fields_in_reserved_ranges : DescriptorProto → List Clash
fields_in_reserved_ranges message = with_first (map (first_met_in (reserved_spans message)) (field_spans message))

-- each field with a number that is left to extensions, with the first range that has it
abbrev pub fields_in_extension_ranges : DescriptorProto → List Clash
fields_in_extension_ranges message = with_first (map (first_met_in (extension_spans message)) (field_spans message))

-- each reserved range that overlaps an earlier one, with the first that it overlaps
abbrev pub overlapping_reserved_ranges : DescriptorProto → List Clash
overlapping_reserved_ranges message = with_earlier (map (first_met_in (reserved_spans message)) (reserved_spans message))

-- each extension range that overlaps an earlier one, with the first that it overlaps
abbrev pub overlapping_extension_ranges : DescriptorProto → List Clash
overlapping_extension_ranges message = with_earlier (map (first_met_in (extension_spans message)) (extension_spans message))

-- each extension range that overlaps a reserved range, with the first that it overlaps
abbrev pub extension_ranges_in_reserved : DescriptorProto → List Clash
extension_ranges_in_reserved message = with_first (map (first_met_in (reserved_spans message)) (extension_spans message))
