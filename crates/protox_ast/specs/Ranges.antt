-- The numbers and names that a message or an enum reserves. A range may end before it starts; that
-- is no fault here.
use Rattle.std.specs.Prelude.{ℕ, Bool, false, if◌then◌else◌, List, [], map, Option, Some, None, option_map, ℤ, pos, ◌+ℤ◌, codes, find}
use Rattle.std.specs.List.{flat_map}
use Rattle.protox_ast.specs.declared.ast.Ident.{Ident}
use Rattle.protox_ast.specs.declared.ast.Int.{Int}
use Rattle.protox_ast.specs.declared.ast.Extensions.{Extensions}
use Rattle.protox_ast.specs.declared.ast.Reserved.{Reserved}
use Rattle.protox_ast.specs.declared.ast.ReservedKind.{ReservedKind}
use Rattle.protox_ast.specs.declared.ast.ReservedKind.TheVariants as reserved
use Rattle.protox_ast.specs.declared.ast.ReservedRange.{ReservedRange}
use Rattle.protox_ast.specs.declared.ast.ReservedRangeEnd.{ReservedRangeEnd}
use Rattle.protox_ast.specs.declared.ast.ReservedRangeEnd.TheVariants as range_end
use Rattle.protox_descriptor.specs.declared.descriptor.descriptor_proto.ExtensionRange.{ExtensionRange}
use Rattle.protox_descriptor.specs.declared.descriptor.descriptor_proto.ReservedRange as message_range
use Rattle.protox_descriptor.specs.declared.descriptor.enum_descriptor_proto.EnumReservedRange.{EnumReservedRange}
use Rattle.protox_ast.specs.FieldNumbers.{number_of}
use Rattle.protox_ast.specs.Options.{OptionStatement, has_name, listed, options_message}
use Rattle.protox_ast.specs.Values.{as_bool, number_in, signed_32}

-- ---- what the statements reserve, in order

-- The ranges of a reserved statement.
abbrev pub kind_ranges : ReservedKind → List ReservedRange
kind_ranges (reserved.Ranges ranges) = ranges
kind_ranges (reserved.Names names) = []

-- The names of a reserved statement.
abbrev pub kind_names : ReservedKind → List Ident
kind_names (reserved.Ranges ranges) = []
kind_names (reserved.Names names) = names

-- The ranges of all reserved statements.
abbrev pub reserved_ranges : List Reserved → List ReservedRange
reserved_ranges statements = flat_map (λ statement. kind_ranges statement.kind) statements

-- The names of all reserved statements.
abbrev pub reserved_names : List Reserved → List Ident
reserved_names statements = flat_map (λ statement. kind_names statement.kind) statements

-- The texts of these names.
abbrev pub reserved_texts : List Reserved → List (List ℕ)
reserved_texts statements = map (λ name. name.value) (reserved_names statements)

-- The ranges of all extensions statements.
abbrev pub extension_ranges : List Extensions → List ReservedRange
extension_ranges statements = flat_map (λ statement. statement.ranges) statements

-- ---- the last number of a range

-- The last number of a range. Without an end it is the first number. `max` is the greatest number.
abbrev pub last_number : (Int → Option ℤ) → ℤ → Int → ReservedRangeEnd → Option ℤ
last_number number greatest start range_end.None = number start
last_number number greatest start (range_end.Int int) = number int
last_number number greatest start (range_end.Max span) = Some greatest

-- Whether the option statement says `true`. A message is a message set if its first option
-- `message_set_wire_format` does so.
abbrev pub says_true : Option OptionStatement → Bool
says_true None = false
says_true (Some statement) = elim (as_bool statement.body.value) as (λ _. Bool) [ None ↦ false | Some truth ↦ truth ]

-- Whether the message is a message set.
abbrev pub is_message_set : List OptionStatement → Bool
is_message_set statements = says_true (find (λ statement. has_name (codes "message_set_wire_format") statement.body) statements)

-- The greatest number of a message. A message set has more numbers.
abbrev pub greatest_number : List OptionStatement → ℤ
greatest_number statements = if is_message_set statements then pos 2147483646 else pos 536870911

-- ---- in messages a range ends before its end number

-- The number after the last one of a range.
abbrev pub end_number : ℤ → ReservedRange → Option ℤ
end_number greatest range = option_map (λ number. number +ℤ pos 1) (last_number number_of greatest range.start range.end)

-- A reserved range of a message, as descriptor.proto has it.
abbrev pub reserved_range : ℤ → ReservedRange → message_range.ReservedRange
reserved_range greatest range = record { start = number_of range.start; end = end_number greatest range }

-- A range of an extensions statement, with the options of the statement.
abbrev pub extension_range : ℤ → Extensions → ReservedRange → ExtensionRange
extension_range greatest statement range = record {
  start = number_of range.start;
  end = end_number greatest range;
  options = options_message (λ options. record { uninterpreted_option = options }) (listed statement.options);
}

-- The ranges of all extensions statements, with their options.
abbrev pub extension_protos : ℤ → List Extensions → List ExtensionRange
extension_protos greatest statements = flat_map (λ statement. map (extension_range greatest statement) statement.ranges) statements

-- ---- in enums a range ends with its end number

-- The number of an enum value, if it has 32 bits with a sign.
abbrev pub enum_number : Int → Option ℤ
enum_number int = number_in signed_32 int

-- A reserved range of an enum, as descriptor.proto has it.
abbrev pub enum_reserved_range : ReservedRange → EnumReservedRange
enum_reserved_range range = record { start = enum_number range.start; end = last_number enum_number (pos 2147483647) range.start range.end }
