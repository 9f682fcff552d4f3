-- What a value in text format says, by the type of its field.
use Rattle.std.specs.Prelude.{ℕ, ◌^◌, ◌==◌, nat_lt, ℤ, pos, neg_ℤ, Bool, true, false, ◌||◌, List, [], ◌∷◌, ◌++◌, Option, Some, None, Result, Ok, Err, bytes_eq, codes, option_map, map, if◌then◌else◌}
use Rattle.std.specs.Float.{binary32, binary64}
use Rattle.std.specs.Fmt.{decimal}
use Rattle.protox_lexeme.specs.Shapes.{Shape, Ident, Int, Float, Str, Mark}
use Rattle.protox_lexeme.specs.Tokens.{shape_of}
use Rattle.protox_text_format.specs.declared.item.Piece.{Piece}
use Rattle.protox_values.specs.Types.{held_by}
use Rattle.protox_values.specs.Values.{Value, Integer, Truth, FloatBits, DoubleBits, bits_of, bytes_in, double_in, fits_signed, float_in, limited, mapped}
use Rattle.protox_values.specs.declared.fault.ValueFault.{ValueFault}
use Rattle.protox_values.specs.declared.fault.ValueFault.TheVariants.{OutOfRange, NotInteger, NotNonNegative, NotIdentifier, NotTruth}
use Rattle.protox_values.specs.declared.types.Held.{Held}
use Rattle.protox_values.specs.declared.types.Held.TheVariants as held
use Rattle.protox_values.specs.declared.types.ScalarType.{ScalarType}

abbrev pub shapes_of : List Piece → List Shape
shapes_of pieces = map (λ piece. shape_of piece.token) pieces

-- ---- integers

abbrev pub is_minus : Shape → Bool
is_minus (Mark mark) = mark == 45
is_minus _ = false

-- an integer, also behind `-`
abbrev pub integer_in : List Shape → Option ℤ
integer_in (Int n ∷ []) = Some (pos n)
integer_in (sign ∷ Int n ∷ []) = if is_minus sign then Some (neg_ℤ (pos n)) else None
integer_in _ = None

-- an integer without a sign
abbrev pub natural_in : List Shape → Option ℕ
natural_in (Int n ∷ []) = Some n
natural_in _ = None

-- ---- floats

abbrev pub number_text : Shape → Option (List ℕ)
number_text (Int n) = Some (decimal n)
number_text (Float text) = Some text
number_text (Ident word) = Some word
number_text _ = None

-- the text of a number, or of a word such as `inf` or `nan`, also behind `-`
abbrev pub float_text : List Shape → Option (List ℕ)
float_text (shape ∷ []) = number_text shape
float_text (sign ∷ shape ∷ []) = if is_minus sign then option_map (λ text. codes "-" ++ text) (number_text shape) else None
float_text _ = None

-- ---- truth values and bytes

abbrev pub is_true : List ℕ → Bool
is_true word = bytes_eq word (codes "true") || bytes_eq word (codes "True") || bytes_eq word (codes "t")

abbrev pub is_false : List ℕ → Bool
is_false word = bytes_eq word (codes "false") || bytes_eq word (codes "False") || bytes_eq word (codes "f")

abbrev pub truth_of_word : List ℕ → Result Bool ValueFault
truth_of_word word = if is_true word then Ok true else if is_false word then Ok false else Err NotTruth

-- 1 is true, and 0 is false
abbrev pub truth_of_number : ℕ → Result Bool ValueFault
truth_of_number n = if n == 1 then Ok true else if n == 0 then Ok false else Err OutOfRange

abbrev pub truth_in_text : List Shape → Result Bool ValueFault
truth_in_text (Ident word ∷ []) = truth_of_word word
truth_in_text (Int n ∷ []) = truth_of_number n
truth_in_text _ = Err NotIdentifier

-- strings, joined
abbrev pub joined : List Shape → Option (List ℕ)
joined [] = Some []
joined (Str bytes ∷ more) = option_map (λ rest. bytes ++ rest) (joined more)
joined (_ ∷ more) = None

-- ---- values

-- What a value says to a field that holds this, or why it says nothing.
abbrev pub says_in_text_of : Held → List Shape → Result Value ValueFault
says_in_text_of held.Int32 v = mapped Integer (limited (fits_signed (2 ^ 31)) NotInteger (integer_in v))
says_in_text_of held.Int64 v = mapped Integer (limited (fits_signed (2 ^ 63)) NotInteger (integer_in v))
says_in_text_of held.Uint32 v = mapped (λ n. Integer (pos n)) (limited (λ n. nat_lt n (2 ^ 32)) NotNonNegative (natural_in v))
says_in_text_of held.Uint64 v = mapped (λ n. Integer (pos n)) (limited (λ n. nat_lt n (2 ^ 64)) NotNonNegative (natural_in v))
says_in_text_of held.Float v = mapped FloatBits (bits_of binary32 (float_in (float_text v) None))
says_in_text_of held.Double v = mapped DoubleBits (bits_of binary64 (double_in (float_text v) None))
says_in_text_of held.Bool v = mapped Truth (truth_in_text v)
says_in_text_of held.String v = bytes_in (joined v)

-- What a value says to a field of this type, or why it says nothing.
abbrev pub says_in_text : ScalarType → List Shape → Result Value ValueFault
says_in_text scalar v = says_in_text_of (held_by scalar) v
