-- Fields and values that can't be told apart by their names.
use Rattle.std.specs.Prelude.{ℕ, ◌&&◌, not, Bool, false, List, [], map, filter, Option, bytes_eq, position, slice_get}
use Rattle.std.specs.Option.{option_map_or, unwrap_or}
use Rattle.std.specs.Ordering.{int_eq}
use Rattle.protox_descriptor.specs.declared.descriptor.DescriptorProto.{DescriptorProto, out-DescriptorProto}
use Rattle.protox_descriptor.specs.declared.descriptor.EnumDescriptorProto.{EnumDescriptorProto}
use Rattle.protox_descriptor.specs.declared.descriptor.EnumValueDescriptorProto.{EnumValueDescriptorProto}
use Rattle.protox_alike.specs.Keys.{key_of_field, key_of_value}
use Rattle.protox_numbers.specs.Clashes.{with_earlier}
use Rattle.protox_numbers.specs.Parts.{or_zero}
use Rattle.protox_numbers.specs.declared.clash.Clash.{Clash}

-- the first of these names that is the name, counted from 0
abbrev pub first_same : List (List ℕ) → List ℕ → Option ℕ
first_same names name = position (bytes_eq name) names

-- each of these names that is one before it, with the first that it is
abbrev pub same_names : List (List ℕ) → List Clash
same_names names = with_earlier (map (first_same names) names)

abbrev pub fields_alike : DescriptorProto → List Clash
fields_alike message = same_names (map key_of_field (out-DescriptorProto message).field)

-- The two values have not the same name, and not the same number.
abbrev pub are_two : EnumValueDescriptorProto → EnumValueDescriptorProto → Bool
are_two value earlier =
    not (bytes_eq (unwrap_or value.name []) (unwrap_or earlier.name []))
    && not (int_eq (or_zero value.number) (or_zero earlier.number))

abbrev pub is_of_two : List EnumValueDescriptorProto → Clash → Bool
is_of_two values clash =
    option_map_or (λ value. option_map_or (are_two value) (slice_get values clash.«with») false)
    (slice_get values clash.part) false

abbrev pub values_alike : EnumDescriptorProto → List Clash
values_alike enum = filter (is_of_two enum.value) (same_names (map (key_of_value enum) enum.value))
