-- The value of an option as a number, a truth value or a text, and which default values a field's
-- type takes.
use Rattle.std.specs.Prelude.{ℕ, Bool, true, false, not, ◌&&◌, ◌||◌, int_le, if◌then◌else◌, List, [], ◌∷◌, ◌++◌, Option, Some, None, ℤ, pos, negsuc, codes, bytes_eq}
use Rattle.std.specs.Fmt.{signed_decimal}
use Rattle.protox_ast.specs.Checks.{is_text}
use Rattle.protox_ast.specs.Numbers.{signed_value}
use Rattle.protox_ast.specs.Printed.{int_text, value_text}
use Rattle.protox_ast.specs.declared.ast.Int.{Int}
use Rattle.protox_ast.specs.declared.ast.Ty.{Ty}
use Rattle.protox_ast.specs.declared.ast.Ty.TheVariants as ty
use Rattle.protox_ast.specs.declared.ast.OptionValue.{OptionValue}
use Rattle.protox_ast.specs.declared.ast.OptionValue.TheVariants as value

-- ---- truth values, floats and texts

-- `true` or `false` as a truth value; None for another word.
abbrev pub truth_of : List ℕ → Option Bool
truth_of word = if bytes_eq word (codes "true") then Some true else if bytes_eq word (codes "false") then Some false else None

-- The truth value of an option: `true` or `false` without a sign.
abbrev pub as_bool : OptionValue → Option Bool
as_bool (value.Ident negative ident span) = if negative then None else truth_of ident.value
as_bool _ = None

-- `inf` or `nan` as the text of a float. `nan` loses its sign.
abbrev pub float_word : Bool → List ℕ → Option (List ℕ)
float_word negative word =
    if bytes_eq word (codes "inf") then Some (if negative then codes "-inf" else codes "inf")
    else if bytes_eq word (codes "nan") then Some (codes "nan")
    else None

-- The text of a float: a float literal with its sign, an integer as it prints, `inf` or `nan`.
abbrev pub as_float_text : OptionValue → Option (List ℕ)
as_float_text (value.Ident negative ident span) = float_word negative ident.value
as_float_text (value.Int int) = Some (int_text int)
as_float_text (value.Float float) = Some float.value
as_float_text _ = None

-- The value as it prints. A string stands in double quotes.
abbrev pub token_string : OptionValue → List ℕ
token_string (value.String string) = 34 ∷ (value_text (value.String string) ++ 34 ∷ [])
token_string v = value_text v

-- ---- ranges of integers

-- The integers from `low` to `high`. Unless `signed`, no minus sign may stand there, not even in
-- `-0`.
pub record Interval : Type 0 where
  pub name : List ℕ
  pub signed : Bool
  pub low : ℤ
  pub high : ℤ

-- From -2147483648 to 2147483647.
abbrev pub signed_32 : Interval
signed_32 = record { name = codes "a signed 32-bit integer"; signed = true; low = negsuc 2147483647; high = pos 2147483647 }

-- From -9223372036854775808 to 9223372036854775807.
abbrev pub signed_64 : Interval
signed_64 = record { name = codes "a signed 64-bit integer"; signed = true; low = negsuc 9223372036854775807; high = pos 9223372036854775807 }

-- From 0 to 4294967295.
abbrev pub unsigned_32 : Interval
unsigned_32 = record { name = codes "an unsigned 32-bit integer"; signed = false; low = pos 0; high = pos 4294967295 }

-- From 0 to 18446744073709551615.
abbrev pub unsigned_64 : Interval
unsigned_64 = record { name = codes "an unsigned 64-bit integer"; signed = false; low = pos 0; high = pos 18446744073709551615 }

-- The integers of an uninterpreted option: signed ones if negative, else unsigned ones.
abbrev pub any_64 : Interval
any_64 = record { name = codes "a 64-bit integer"; signed = true; low = negsuc 9223372036854775807; high = pos 18446744073709551615 }

-- Whether the integer lies in the interval.
abbrev pub is_in : Interval → Int → Bool
is_in interval int = (interval.signed || not int.negative) && (int_le interval.low (signed_value int) && int_le (signed_value int) interval.high)

-- The number, if it lies in the interval.
abbrev pub number_in : Interval → Int → Option ℤ
number_in interval int = if is_in interval int then Some (signed_value int) else None

-- ---- default values

-- The kind of default value that a type takes.
pub data Wanted : Type 0 where
  a_float : Wanted
  an_integer : Interval → Wanted
  a_bool : Wanted
  a_text : Wanted
  some_bytes : Wanted
  anything : Wanted

-- The kind of default value of each type. A named type takes any value, since it may be a message
-- or an enum.
abbrev pub wanted : Ty → Wanted
wanted ty.Double = a_float
wanted ty.Float = a_float
wanted ty.Int32 = an_integer signed_32
wanted ty.Int64 = an_integer signed_64
wanted ty.Uint32 = an_integer unsigned_32
wanted ty.Uint64 = an_integer unsigned_64
wanted ty.Sint32 = an_integer signed_32
wanted ty.Sint64 = an_integer signed_64
wanted ty.Fixed32 = an_integer unsigned_32
wanted ty.Fixed64 = an_integer unsigned_64
wanted ty.Sfixed32 = an_integer signed_32
wanted ty.Sfixed64 = an_integer signed_64
wanted ty.Bool = a_bool
wanted ty.String = a_text
wanted ty.Bytes = some_bytes
wanted (ty.Named name) = anything

-- A number in decimal digits.
abbrev pub number_text : Option ℤ → Option (List ℕ)
number_text None = None
number_text (Some number) = Some (signed_decimal number)

-- `true` or `false`.
abbrev pub truth_text : Option Bool → Option (List ℕ)
truth_text None = None
truth_text (Some true) = Some (codes "true")
truth_text (Some false) = Some (codes "false")

-- The text of a default value, or None if the type doesn't take it. For integers `-0` is 0, where a
-- sign is allowed.
abbrev pub default_text : Wanted → OptionValue → Option (List ℕ)
default_text a_float v = as_float_text v
default_text (an_integer interval) (value.Int int) = number_text (number_in interval int)
default_text (an_integer interval) v = None
default_text a_bool v = truth_text (as_bool v)
default_text a_text (value.String string) = if is_text string.value then Some string.value else None
default_text a_text v = None
default_text some_bytes (value.String string) = Some (value_text (value.String string))
default_text some_bytes v = None
default_text anything v = Some (token_string v)
