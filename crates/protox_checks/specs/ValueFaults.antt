-- What may be wrong with a value: of an option that isn't interpreted, of a `default`, or of a
-- `json_name`.
use Rattle.std.specs.Prelude.{◌≡◌, ℕ, true, false, List, None, codes}
use Rattle.std.specs.Fmt.{signed_decimal}
use Rattle.protox_fault.specs.declared.error.ParseErrorKind.{ParseErrorKind}
use Rattle.protox_fault.specs.declared.error.ParseErrorKind.TheVariants as fault
use Rattle.protox_ast.specs.Checks.{is_text}
use Rattle.protox_ast.specs.Printed.{int_text, value_text}
use Rattle.protox_ast.specs.declared.ast.Int.{Int}
use Rattle.protox_ast.specs.declared.ast.OptionValue.{OptionValue}
use Rattle.protox_ast.specs.declared.ast.OptionValue.TheVariants as value
use Rattle.protox_ast.specs.Spans.{value_span}
use Rattle.protox_ast.specs.Values.{Interval, is_in, any_64, Wanted, a_float, an_integer, a_bool, a_text, some_bytes, anything, as_bool, as_float_text}

-- the faults of a value; the span is the value
abbrev pub invalid_type : List ℕ → OptionValue → ParseErrorKind
invalid_type expected v = fault.ValueInvalidType (value_span v) expected (value_text v)

-- the fault of an integer outside an interval; the span is the integer
abbrev pub out_of_range : Interval → Int → ParseErrorKind
out_of_range interval int = fault.IntegerValueOutOfRange int.span interval.name (int_text int) (signed_decimal interval.low) (signed_decimal interval.high)

-- The integer lies outside the interval.
abbrev pub WrongInteger : Interval → Int → ParseErrorKind → Type 0
WrongInteger interval int wrong = (is_in interval int ≡ false) × (wrong ≡ out_of_range interval int)

-- The value isn't of the wanted kind.
abbrev pub WrongValue : Wanted → OptionValue → ParseErrorKind → Type 0
WrongValue a_float v wrong = (as_float_text v ≡ None) × (wrong ≡ invalid_type (codes "a floating-point number") v)
WrongValue (an_integer interval) (value.Int int) wrong = WrongInteger interval int wrong
WrongValue (an_integer interval) v wrong = wrong ≡ invalid_type (codes "an integer") v
WrongValue a_bool v wrong = (as_bool v ≡ None) × (wrong ≡ invalid_type (codes "either 'true' or 'false'") v)
WrongValue a_text (value.String string) wrong = (is_text string.value ≡ false) × (wrong ≡ fault.InvalidUtf8String string.span)
WrongValue a_text v wrong = wrong ≡ invalid_type (codes "a string") v
WrongValue some_bytes (value.String string) wrong = ⊥
WrongValue some_bytes v wrong = wrong ≡ invalid_type (codes "a string") v
WrongValue anything v wrong = ⊥

-- An option that isn't interpreted has a negated identifier as its value, or an integer that
-- doesn't fit 64 bits.
abbrev pub WrongUninterpreted : OptionValue → ParseErrorKind → Type 0
WrongUninterpreted (value.Ident negative ident span) wrong = (negative ≡ true) × (wrong ≡ fault.NegativeIdentOutsideDefault span)
WrongUninterpreted (value.Int int) wrong = WrongInteger any_64 int wrong
WrongUninterpreted v wrong = ⊥
