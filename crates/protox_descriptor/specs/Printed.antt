-- Options as they are written in a source.
use Rattle.std.specs.Prelude.{ℕ, ℤ, pos, if◌then◌else◌, List, [], ◌∷◌, ◌++◌, Option, Some, None, flat_map, codes}
use Rattle.std.specs.Option.{option_map}
use Rattle.std.specs.Fmt.{decimal, signed_decimal}
use Rattle.std.specs.Ordering.{int_eq}
use Rattle.protox_descriptor.specs.Literal.{printed_byte}
use Rattle.protox_descriptor.specs.declared.descriptor.uninterpreted_option.NamePart.{NamePart}
use Rattle.protox_descriptor.specs.declared.descriptor.options.UninterpretedOption.{UninterpretedOption}
use Rattle.protox_descriptor.specs.declared.printed.Value.{Value}
use Rattle.protox_descriptor.specs.declared.printed.Value.TheVariants as value

-- The value of an option, by its kind.
pub data Written : Type 0 where
  Identifier : List ℕ → Written
  PositiveInt : ℕ → Written
  NegativeInt : ℤ → Written
  Double : List ℕ → Written
  String : List ℕ → Written
  Aggregate : List ℕ → Written

-- The value that a `Value` of the code stands for.
abbrev pub written : Value → Written
written (value.Identifier text) = Identifier text.now
written (value.PositiveInt number) = PositiveInt number
written (value.NegativeInt number) = NegativeInt number
written (value.Double text) = Double text.now
written (value.String bytes) = String bytes.now
written (value.Aggregate text) = Aggregate text.now

-- The first value if there is one, else the other.
abbrev pub or_else : Option Written → Option Written → Option Written
or_else (Some v) other = Some v
or_else None other = other

-- The value of an option. A parser sets only one of the six parts. If more are set, the first in
-- this order counts.
abbrev pub value_of : UninterpretedOption → Option Written
value_of option =
    or_else (option_map Identifier option.identifier_value)
    (or_else (option_map PositiveInt option.positive_int_value)
    (or_else (option_map NegativeInt option.negative_int_value)
    (or_else (option_map Double option.double_value)
    (or_else (option_map String option.string_value)
    (option_map Aggregate option.aggregate_value)))))

-- A part of an option's name. The name of an extension stands in parentheses.
abbrev pub part_text : NamePart → List ℕ
part_text part = if part.is_extension then codes "(" ++ part.name_part ++ codes ")" else part.name_part

-- A dot, and a later part of the name.
abbrev pub later_part_text : NamePart → List ℕ
later_part_text part = codes "." ++ part_text part

-- All parts of a name, with dots between them.
abbrev pub name_text : List NamePart → List ℕ
name_text [] = []
name_text (part ∷ parts) = part_text part ++ flat_map later_part_text parts

-- A negative integer with its sign. 0 is written `-0`.
abbrev pub negative_text : ℤ → List ℕ
negative_text number = if int_eq number (pos 0) then codes "-0" else signed_decimal number

-- The text of a value. Strings stand in quotes, aggregates in braces.
abbrev pub value_text : Written → List ℕ
value_text (Identifier text) = text
value_text (PositiveInt number) = decimal number
value_text (NegativeInt number) = negative_text number
value_text (Double text) = text
value_text (String bytes) = codes "\"" ++ flat_map printed_byte bytes ++ codes "\""
value_text (Aggregate text) = codes "{ " ++ text ++ codes " }"

-- ` = ` and the value. Without a value nothing.
abbrev pub assigned_text : Option Written → List ℕ
assigned_text None = []
assigned_text (Some v) = codes " = " ++ value_text v

-- The text of an option: its name, ` = ` and its value.
abbrev pub option_text : UninterpretedOption → List ℕ
option_text option = name_text option.name ++ assigned_text (value_of option)
