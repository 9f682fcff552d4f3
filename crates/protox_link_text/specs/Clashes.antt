-- What is told of numbers and ranges that clash.
use Rattle.std.specs.Prelude.{ℕ, ℤ, pos, ◌-ℤ◌, List, [], ◌∷◌, Option, slice_get}
use Rattle.std.specs.Option.{option_and_then, unwrap_or}
use Rattle.protox_descriptor.specs.FieldDescriptorProto.{FieldDescriptorProto}
use Rattle.protox_descriptor.specs.declared.descriptor.DescriptorProto.{DescriptorProto, out-DescriptorProto}
use Rattle.protox_descriptor.specs.declared.descriptor.EnumDescriptorProto.{EnumDescriptorProto}
use Rattle.protox_descriptor.specs.declared.descriptor.EnumValueDescriptorProto.{EnumValueDescriptorProto}
use Rattle.protox_descriptor.specs.declared.descriptor.descriptor_proto.ExtensionRange.{ExtensionRange}
use Rattle.protox_descriptor.specs.declared.descriptor.descriptor_proto.ReservedRange.{ReservedRange}
use Rattle.protox_descriptor.specs.declared.descriptor.enum_descriptor_proto.EnumReservedRange.{EnumReservedRange}
use Rattle.protox_link_fault.specs.declared.NumberFault.{NumberFault}
use Rattle.protox_link_fault.specs.declared.NumberFault.TheVariants as how
use Rattle.protox_link_text.specs.Places.{Holder, OfEnum, OfMessage, at_index, text_of}
use Rattle.protox_link_text.specs.declared.clash.Stretch.{Stretch}
use Rattle.protox_link_text.specs.declared.error.LinkError.{LinkError}
use Rattle.protox_link_text.specs.declared.error.LinkError.TheVariants.{ExtensionsReserved, ExtensionsTwice, FieldReserved, ForExtensions, NumberReused, ReservedTwice, ValueReserved}

-- ---- fields, values and ranges; one that isn't there has no name, and the number 0

abbrev pub field_name : Option FieldDescriptorProto → List ℕ
field_name field = text_of (option_and_then (λ f. f.name) field)

-- An unset number counts as 0.
abbrev pub or_zero : Option ℤ → ℤ
or_zero number = unwrap_or number (pos 0)

abbrev pub field_number : Option FieldDescriptorProto → ℤ
field_number field = or_zero (option_and_then (λ f. f.number) field)

abbrev pub value_name : Option EnumValueDescriptorProto → List ℕ
value_name value = text_of (option_and_then (λ v. v.name) value)

abbrev pub value_number : Option EnumValueDescriptorProto → ℤ
value_number value = or_zero (option_and_then (λ v. v.number) value)

-- In a message the end isn't in the range.
abbrev pub half_open : Option ℤ → Option ℤ → Stretch
half_open start end = record { first = or_zero start; last = or_zero end -ℤ pos 1 }

abbrev pub reserved : Option ReservedRange → Stretch
reserved range = half_open (option_and_then (λ r. r.start) range) (option_and_then (λ r. r.end) range)

abbrev pub extensions : Option ExtensionRange → Stretch
extensions range = half_open (option_and_then (λ r. r.start) range) (option_and_then (λ r. r.end) range)

-- In an enum it is.
abbrev pub values : Option EnumReservedRange → Stretch
values range = record { first = or_zero (option_and_then (λ r. r.start) range); last = or_zero (option_and_then (λ r. r.end) range) }

-- ---- what is told of two of them

-- Fields are told by their numbers, and the message by its full name.
abbrev pub reused : List ℕ → Option FieldDescriptorProto → Option FieldDescriptorProto → LinkError
reused message field earlier = NumberReused (field_number field) message (field_name earlier)

abbrev pub in_reserved : Option FieldDescriptorProto → LinkError
in_reserved field = FieldReserved (field_name field) (field_number field)

abbrev pub in_extensions : Stretch → Option FieldDescriptorProto → LinkError
in_extensions range field = ForExtensions range.first range.last (field_name field) (field_number field)

abbrev pub reserved_twice : Stretch → Stretch → LinkError
reserved_twice range earlier = ReservedTwice range.first range.last earlier.first earlier.last

abbrev pub extensions_twice : Stretch → Stretch → LinkError
extensions_twice range earlier = ExtensionsTwice range.first range.last earlier.first earlier.last

abbrev pub extensions_reserved : Stretch → Stretch → LinkError
extensions_reserved range other = ExtensionsReserved range.first range.last other.first other.last

abbrev pub value_reserved : Option EnumValueDescriptorProto → LinkError
value_reserved value = ValueReserved (value_name value) (value_number value)

-- ---- clashes

-- The part with index n of a message clashes with the one with index m.
abbrev pub clash_in_message : List ℕ → DescriptorProto → ℤ → ℕ → NumberFault → List LinkError
clash_in_message scope message n m how.Reused = reused scope (at_index (out-DescriptorProto message).field n) (slice_get (out-DescriptorProto message).field m) ∷ []
clash_in_message scope message n m how.Reserved = in_reserved (at_index (out-DescriptorProto message).field n) ∷ []
clash_in_message scope message n m how.ForExtensions = in_extensions (extensions (slice_get (out-DescriptorProto message).extension_range m)) (at_index (out-DescriptorProto message).field n) ∷ []
clash_in_message scope message n m how.ReservedTwice = reserved_twice (reserved (at_index (out-DescriptorProto message).reserved_range n)) (reserved (slice_get (out-DescriptorProto message).reserved_range m)) ∷ []
clash_in_message scope message n m how.ExtensionsTwice = extensions_twice (extensions (at_index (out-DescriptorProto message).extension_range n)) (extensions (slice_get (out-DescriptorProto message).extension_range m)) ∷ []
clash_in_message scope message n m how.ExtensionsReserved = extensions_reserved (extensions (at_index (out-DescriptorProto message).extension_range n)) (reserved (slice_get (out-DescriptorProto message).reserved_range m)) ∷ []
clash_in_message scope message n m how.ValueReserved = []
clash_in_message scope message n m how.ValuesReservedTwice = []

abbrev pub clash_in_enum : EnumDescriptorProto → ℤ → ℕ → NumberFault → List LinkError
clash_in_enum enum n m how.ValueReserved = value_reserved (at_index enum.value n) ∷ []
clash_in_enum enum n m how.ValuesReservedTwice = reserved_twice (values (at_index enum.reserved_range n)) (values (slice_get enum.reserved_range m)) ∷ []
clash_in_enum enum n m how.Reused = []
clash_in_enum enum n m how.Reserved = []
clash_in_enum enum n m how.ForExtensions = []
clash_in_enum enum n m how.ReservedTwice = []
clash_in_enum enum n m how.ExtensionsTwice = []
clash_in_enum enum n m how.ExtensionsReserved = []

-- What is left of the path tells which part it is.
abbrev pub clash_in : List ℕ → Holder → List ℤ → ℕ → NumberFault → List LinkError
clash_in scope (OfMessage message) (tag ∷ n ∷ rest) m how = clash_in_message scope message n m how
clash_in scope (OfEnum enum) (tag ∷ n ∷ rest) m how = clash_in_enum enum n m how
clash_in scope _ _ m how = []
