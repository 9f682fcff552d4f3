-- Integers within limits, and what holds them.
use Rattle.std.specs.Prelude.{◌^◌, ℤ, Bool, true, false, Option, Some, None, Result, Ok, Err, if◌then◌else◌}
use Rattle.protox_text_values.specs.declared.fault.TextEnumFault.{TextEnumFault}
use Rattle.protox_text_values.specs.declared.fault.TextEnumFault.TheVariants.{NotValue, OutOfRange}
use Rattle.protox_values.specs.Values.{fits_signed}
use Rattle.protox_values.specs.declared.types.Held.{Held}
use Rattle.protox_values.specs.declared.types.Held.TheVariants as held

-- an integer that 64 bits with a sign hold
abbrev pub in_64_bits : ℤ → Option ℤ
in_64_bits n = if fits_signed (2 ^ 63) n then Some n else None

-- an integer that 32 bits with a sign hold, or why there is none
abbrev pub in_32_bits : Option ℤ → Result ℤ TextEnumFault
in_32_bits None = Err NotValue
in_32_bits (Some n) = if fits_signed (2 ^ 31) n then Ok n else Err OutOfRange

-- Whether integers with a sign are held.
abbrev pub holds_signed : Held → Bool
holds_signed held.Int32 = true
holds_signed held.Int64 = true
holds_signed _ = false

-- Whether integers without a sign are held.
abbrev pub holds_unsigned : Held → Bool
holds_unsigned held.Uint32 = true
holds_unsigned held.Uint64 = true
holds_unsigned _ = false

-- Whether floats are held.
abbrev pub holds_float : Held → Bool
holds_float held.Float = true
holds_float held.Double = true
holds_float _ = false
