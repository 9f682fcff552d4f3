-- What a value in text format says to a field whose type is an enum.
use Rattle.std.specs.Prelude.{ℕ, ◌^◌, ℤ, Bool, ◌||◌, List, [], ◌∷◌, find, Option, Some, None, Result, Ok, Err, option_map, ok_or, if◌then◌else◌}
use Rattle.std.specs.List.{list_any}
use Rattle.std.specs.Ordering.{int_eq}
use Rattle.protox_descriptor.specs.declared.descriptor.EnumValueDescriptorProto.{EnumValueDescriptorProto}
use Rattle.protox_lexeme.specs.Shapes.{Shape, Ident}
use Rattle.protox_text_values.specs.Scalars.{integer_in}
use Rattle.protox_text_values.specs.declared.fault.TextEnumFault.{TextEnumFault}
use Rattle.protox_text_values.specs.declared.fault.TextEnumFault.TheVariants.{NotValue, OutOfRange, NoSuchValue}
use Rattle.protox_values.specs.Enums.{is_named, number_of}
use Rattle.protox_values.specs.Values.{fits_signed}

-- the number of the first value with a name
abbrev pub number_named : List EnumValueDescriptorProto → List ℕ → Result ℤ TextEnumFault
number_named values word = ok_or (option_map number_of (find (is_named word) values)) NoSuchValue

-- A number of one of the values. An open enum takes all numbers.
abbrev pub number_if_any : Bool → List EnumValueDescriptorProto → ℤ → Result ℤ TextEnumFault
number_if_any is_open values n = if is_open || list_any (λ value. int_eq (number_of value) n) values then Ok n else Err NoSuchValue

abbrev pub enum_number : Bool → List EnumValueDescriptorProto → Option ℤ → Result ℤ TextEnumFault
enum_number is_open values None = Err NotValue
enum_number is_open values (Some n) = if fits_signed (2 ^ 31) n then number_if_any is_open values n else Err OutOfRange

-- What a value says: a name, or a number.
abbrev pub enum_says_in_text : Bool → List EnumValueDescriptorProto → List Shape → Result ℤ TextEnumFault
enum_says_in_text is_open values (Ident word ∷ []) = number_named values word
enum_says_in_text is_open values v = enum_number is_open values (integer_in v)
