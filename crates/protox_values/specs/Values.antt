-- What a statement says, by the type of the option's field.
use Rattle.std.specs.Prelude.{ℕ, ◌^◌, nat_lt, ℤ, pos, negsuc, Bool, true, false, List, Option, Some, None, Result, Ok, Err, option_map, ok_or, codes, bytes_eq, to_bits, if◌then◌else◌}
use Rattle.std.specs.Float.{Float, Format, binary32, binary64, round_to_format}
use Rattle.std.specs.Float.Ieee.{of_int}
use Rattle.std.specs.Option.{option_or}
use Rattle.fast_float.specs.Parse.{parse_float}
use Rattle.protox_descriptor.specs.declared.descriptor.options.UninterpretedOption.{UninterpretedOption}
use Rattle.protox_values.specs.Types.{held_by}
use Rattle.protox_values.specs.declared.fault.ValueFailure.{ValueFailure}
use Rattle.protox_values.specs.declared.fault.ValueFailure.TheVariants.{Fault, OutOfMemory}
use Rattle.protox_values.specs.declared.fault.ValueFault.{ValueFault}
use Rattle.protox_values.specs.declared.fault.ValueFault.TheVariants.{OutOfRange, NotInteger, NotNonNegative, NotNumber, NotIdentifier, NotTruth, NotString}
use Rattle.protox_values.specs.declared.types.Held.{Held}
use Rattle.protox_values.specs.declared.types.Held.TheVariants as held
use Rattle.protox_values.specs.declared.types.ScalarType.{ScalarType}

-- What a field holds: an integer, a truth value, the bits of a float of 32 or of 64 bits, or the
-- bytes of a string.
pub data Value : Type 0 where
  Integer : ℤ → Value
  Truth : Bool → Value
  FloatBits : ℕ → Value
  DoubleBits : ℕ → Value
  Bytes : List ℕ → Value

-- ---- integers

-- Whether an integer is at least `-limit`, and less than `limit`.
abbrev pub fits_signed : ℕ → ℤ → Bool
fits_signed limit (pos n) = nat_lt n limit
fits_signed limit (negsuc n) = nat_lt n limit

-- The integer of a statement, without a sign or with a minus sign.
abbrev pub integer_of : UninterpretedOption → Option ℤ
integer_of o = option_or (option_map pos o.positive_int_value) o.negative_int_value

-- A number that is there and fits, or the fault.
abbrev pub limited : {N : Type 0} → (N → Bool) → ValueFault → Option N → Result N ValueFault
limited fits missing None = Err missing
limited fits missing (Some n) = if fits n then Ok n else Err OutOfRange

-- ---- floats

-- The float of 64 bits of a text, or else the one nearest to an integer.
abbrev pub double_in : Option (List ℕ) → Option ℤ → Option Float
double_in (Some text) integer = parse_float binary64 text
double_in None integer = option_map (of_int binary64) integer

-- The float of 32 bits of a text or of an integer. A text is read with 64 bits first, and then
-- narrowed. What lies beyond the limits is infinite.
abbrev pub float_in : Option (List ℕ) → Option ℤ → Option Float
float_in (Some text) integer = option_map (round_to_format binary32) (parse_float binary64 text)
float_in None integer = option_map (of_int binary32) integer

-- The bits of a float that is there. Every NaN has the bits of the quiet one without a sign.
abbrev pub bits_of : Format → Option Float → Result ℕ ValueFault
bits_of format x = ok_or (option_map (to_bits format) x) NotNumber

-- ---- truth values and bytes

abbrev pub truth_of : List ℕ → Result Bool ValueFault
truth_of word =
    if bytes_eq word (codes "true") then Ok true
    else if bytes_eq word (codes "false") then Ok false
    else Err NotTruth

abbrev pub truth_in : Option (List ℕ) → Result Bool ValueFault
truth_in None = Err NotIdentifier
truth_in (Some word) = truth_of word

abbrev pub bytes_in : Option (List ℕ) → Result Value ValueFault
bytes_in bytes = ok_or (option_map Bytes bytes) NotString

-- ---- what a statement says

-- The answer with its value turned into another one.
abbrev pub mapped : {T U E : Type 0} → (T → U) → Result T E → Result U E
mapped f (Ok x) = Ok (f x)
mapped f (Err fault) = Err fault

-- What a statement says to a field that holds this, or why it says nothing.
abbrev pub says_of : Held → UninterpretedOption → Result Value ValueFault
says_of held.Int32 o = mapped Integer (limited (fits_signed (2 ^ 31)) NotInteger (integer_of o))
says_of held.Int64 o = mapped Integer (limited (fits_signed (2 ^ 63)) NotInteger (integer_of o))
says_of held.Uint32 o = mapped (λ n. Integer (pos n)) (limited (λ n. nat_lt n (2 ^ 32)) NotNonNegative o.positive_int_value)
says_of held.Uint64 o = mapped (λ n. Integer (pos n)) (limited (λ n. nat_lt n (2 ^ 64)) NotNonNegative o.positive_int_value)
says_of held.Float o = mapped FloatBits (bits_of binary32 (float_in o.double_value (integer_of o)))
says_of held.Double o = mapped DoubleBits (bits_of binary64 (double_in o.double_value (integer_of o)))
says_of held.Bool o = mapped Truth (truth_in o.identifier_value)
says_of held.String o = bytes_in o.string_value

-- What a statement says to a field of this type, or why it says nothing.
abbrev pub says : ScalarType → UninterpretedOption → Result Value ValueFault
says scalar o = says_of (held_by scalar) o

-- P of the fault, unless memory ran out.
abbrev pub IfFault : ValueFailure → (ValueFault → Type 0) → Type 0
IfFault OutOfMemory P = Unit {0}
IfFault (Fault fault) P = P fault
