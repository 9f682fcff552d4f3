-- The texts of floats, as C's `%g` and protobuf's C++ print them.
use Rattle.std.specs.Prelude.{ℕ, suc, ◌+◌, ◌*◌, ◌-◌, ◌==◌, ℤ, pos, negsuc, Bool, not, ◌&&◌, List, [], ◌∷◌, ◌++◌, length, take, drop, replicate, codes, Some, nat_lt, if◌then◌else◌}
use Rattle.std.specs.Float.{Float, Format, nan, inf, fin, binary32, binary64, is_subnormal}
use Rattle.std.specs.Float.Ieee.{up, down, eq}
use Rattle.std.specs.Fmt.{decimal, sign_text}
use Rattle.std.specs.List.{suffix_len}
use Rattle.std.specs.Option.{option_eq}
use Rattle.fast_float.specs.Parse.{parse_float}
use Rattle.protox_decimal.specs.Rounded.{Rounded, rounded}

-- ---- digits

-- The digits without the zeros at their end.
abbrev pub stripped : List ℕ → List ℕ
stripped ds = take (length ds - suffix_len (λ c. c == 48) ds) ds

-- A point and the digits behind it, or nothing where no digit is left.
abbrev pub point_and : List ℕ → List ℕ
point_and [] = []
point_and (d ∷ ds) = codes "." ++ (d ∷ ds)

-- The first digits, and the others as a fraction.
abbrev pub pointed : ℕ → List ℕ → List ℕ
pointed whole ds = take whole ds ++ point_and (stripped (drop whole ds))

-- An exponent has two digits at least.
abbrev pub padded : ℕ → List ℕ
padded n = if nat_lt n 10 then codes "0" ++ decimal n else decimal n

abbrev pub scientific : List ℕ → List ℕ → ℕ → List ℕ
scientific ds sign n = pointed 1 ds ++ (codes "e" ++ (sign ++ padded n))

-- Digits, the first of which has a decimal exponent, laid out. The exponent is written where it is
-- less than -4, or not less than the precision.
abbrev pub laid_out : ℕ → List ℕ → ℤ → List ℕ
laid_out precision ds (pos x) =
    if nat_lt x precision then pointed (x + 1) ds else scientific ds (codes "+") x
laid_out precision ds (negsuc x) =
    if nat_lt x 4 then codes "0." ++ (replicate x 48 ++ stripped ds) else scientific ds (codes "-") (suc x)

-- ---- C's `%g`

abbrev pub rounded_text : ℕ → Rounded → List ℕ
rounded_text precision r = laid_out precision (decimal r.digits) r.exponent

-- n / d, which is not negative.
abbrev pub size_text : ℕ → ℕ → ℕ → List ℕ
size_text precision n d = if n == 0 then codes "0" else rounded_text precision (rounded precision n d)

-- A float in C's format `%.Pg`. A finite one is m * 2 ^ e, which is the fraction m * up e / down e.
abbrev pub general_text : ℕ → Float → List ℕ
general_text precision nan = codes "nan"
general_text precision (inf negative) = sign_text negative ++ codes "inf"
general_text precision (fin negative m e) = sign_text negative ++ size_text precision (m * up e) (down e)

-- ---- protobuf's SimpleDtoa and SimpleFtoa

-- Whether a reader takes the text for the same number.
abbrev pub reads_back : Format → List ℕ → Float → Bool
reads_back format text x = option_eq eq (parse_float format text) (Some x)

-- A float of 64 bits with 15 digits if they read back, and else with 17. Nothing needs to read back
-- of what is not finite, since its text is the same.
abbrev pub double_text : Float → List ℕ
double_text x = if reads_back binary64 (general_text 15 x) x then general_text 15 x else general_text 17 x

-- A float of 32 bits with 6 digits if they read back, and else with 9. Its text is read by one
-- rounding: protobuf reads it by C's `strtof`. Six digits are never exactly a subnormal float, so
-- for these glibc's `strtof` reports an underflow, and protobuf takes that for a failure to read.
abbrev pub float_text : Float → List ℕ
float_text x =
    if not (is_subnormal binary32 x) && reads_back binary32 (general_text 6 x) x then general_text 6 x
    else general_text 9 x
