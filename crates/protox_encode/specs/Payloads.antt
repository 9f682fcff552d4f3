-- What each kind of field holds on the wire.
use Rattle.std.specs.Prelude.{ℕ, ℤ, ◌∷◌, List, [], Option, Some, None, Bool, if◌then◌else◌, map}
use Rattle.std.specs.Int.{w64, cast_unsigned}
use Rattle.std.specs.List.{flat_map}
use Rattle.std.specs.Float.Ieee.{Float, is_nan, to_bits}
use Rattle.std.specs.Float.{binary64}
use Rattle.fast_float.specs.Parse.{parse_float}
use Rattle.protox_encode.specs.Wire.{Payload, Number, Eight, Bytes, Parts, message, varint}

-- A text, or nothing.
abbrev pub text : Option (List ℕ) → List Payload
text None = []
text (Some bytes) = Bytes bytes ∷ []

-- Several texts, one field each.
abbrev pub texts : List (List ℕ) → List Payload
texts bytes = map Bytes bytes

-- A number with a sign, or nothing. A negative number is written as the unsigned number with the
-- same 64 bits.
abbrev pub signed : Option ℤ → List Payload
signed None = []
signed (Some n) = Number (cast_unsigned w64 n) ∷ []

-- Several numbers with signs, one field each.
abbrev pub signeds : List ℤ → List Payload
signeds ns = map (λ n. Number (cast_unsigned w64 n)) ns

-- A number without a sign, or nothing.
abbrev pub unsigned : Option ℕ → List Payload
unsigned None = []
unsigned (Some n) = Number n ∷ []

-- The 64 bits of a float. Every NaN is written as the quiet NaN without a sign, 7ff8000000000000 in
-- hexadecimal digits.
abbrev pub float_bits : Float → ℕ
float_bits x = if is_nan x then 9221120237041090560 else to_bits binary64 x

-- A float as eight bytes, or nothing.
abbrev pub nearest : Option Float → List Payload
nearest None = []
nearest (Some x) = Eight (float_bits x) ∷ []

-- The text of a float, written as the nearest float. A text that is no float is not written.
abbrev pub double : Option (List ℕ) → List Payload
double None = []
double (Some text) = nearest (parse_float binary64 text)

-- A flag as 0 or 1, or nothing.
abbrev pub flag : Option Bool → List Payload
flag None = []
flag (Some on) = Number (if on then 1 else 0) ∷ []

-- Several numbers packed into one field. Without a number there is no field.
abbrev pub packed : List ℤ → List Payload
packed [] = []
packed (n ∷ ns) = Bytes (flat_map (λ n. varint (cast_unsigned w64 n)) (n ∷ ns)) ∷ []

-- A message within the message, or nothing.
abbrev pub nested : {M : Type 0} → (M → Parts) → Option M → List Payload
nested parts None = []
nested parts (Some m) = Bytes (message (parts m)) ∷ []

-- Several messages within the message, one field each.
abbrev pub each : {M : Type 0} → (M → Parts) → List M → List Payload
each parts ms = map (λ m. Bytes (message (parts m))) ms
