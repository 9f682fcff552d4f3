-- How a value lies on the wire, by the type of its field, and how a reader takes what lies there.
use Rattle.std.specs.Prelude.{◌≡◌, ℕ, ◌+◌, ◌*◌, ◌/◌, ◌%◌, ◌^◌, ◌==◌, nat_lt, ℤ, pos, negsuc, Bool, true, false, not, Option, Some, None, if◌then◌else◌}
use Rattle.std.specs.Int.{w32, w64, cast_signed, cast_unsigned}
use Rattle.protox_values.specs.Types.{held_by}
use Rattle.protox_values.specs.Values.{Value, Integer, Truth, FloatBits, DoubleBits, Bytes, fits_signed}
use Rattle.protox_values.specs.declared.setting.SettingValue.{SettingValue}
use Rattle.protox_values.specs.declared.setting.SettingValue.TheVariants as on_wire
use Rattle.protox_values.specs.declared.types.Held.{Held}
use Rattle.protox_values.specs.declared.types.Held.TheVariants as held
use Rattle.protox_values.specs.declared.types.ScalarType.{ScalarType}
use Rattle.protox_values.specs.declared.types.ScalarType.TheVariants as kind

-- ---- what is written

-- The numbers 0, -1, 1, -2, 2 and so on as 0, 1, 2, 3, 4 and so on.
abbrev pub zigzag : ℤ → ℕ
zigzag (pos n) = 2 * n
zigzag (negsuc n) = 2 * n + 1

-- An integer on the wire. A negative one is written by its 64 bits, or by the lowest 32 of them.
abbrev pub integer_wire : ScalarType → ℤ → SettingValue
integer_wire kind.Sint32 n = on_wire.Varint (zigzag n)
integer_wire kind.Sint64 n = on_wire.Varint (zigzag n)
integer_wire kind.Fixed32 n = on_wire.Four (cast_unsigned w64 n % 2 ^ 32)
integer_wire kind.Sfixed32 n = on_wire.Four (cast_unsigned w64 n % 2 ^ 32)
integer_wire kind.Fixed64 n = on_wire.Eight (cast_unsigned w64 n)
integer_wire kind.Sfixed64 n = on_wire.Eight (cast_unsigned w64 n)
integer_wire _ n = on_wire.Varint (cast_unsigned w64 n)

-- A value on the wire.
abbrev pub wire : ScalarType → Value → SettingValue
wire scalar (Integer n) = integer_wire scalar n
wire scalar (Truth truth) = on_wire.Varint (if truth then 1 else 0)
wire scalar (FloatBits bits) = on_wire.Four bits
wire scalar (DoubleBits bits) = on_wire.Eight bits
wire scalar (Bytes bytes) = on_wire.Bytes bytes

-- ---- what is read

-- An even number counts up from 0, and an odd one down from -1.
abbrev pub unzigzag : ℕ → ℤ
unzigzag n = if n % 2 == 0 then pos (n / 2) else negsuc (n / 2)

-- What a reader of protobuf takes for the value of a field: of a number the lowest 32 bits or all
-- 64, with the sign by the highest of them or without a sign. A number other than 0 is true.
abbrev pub reading : ScalarType → SettingValue → Option Value
reading kind.Int32 (on_wire.Varint n) = Some (Integer (cast_signed w32 (n % 2 ^ 32)))
reading kind.Int64 (on_wire.Varint n) = Some (Integer (cast_signed w64 n))
reading kind.Uint32 (on_wire.Varint n) = Some (Integer (pos (n % 2 ^ 32)))
reading kind.Uint64 (on_wire.Varint n) = Some (Integer (pos n))
reading kind.Sint32 (on_wire.Varint n) = Some (Integer (unzigzag (n % 2 ^ 32)))
reading kind.Sint64 (on_wire.Varint n) = Some (Integer (unzigzag n))
reading kind.Bool (on_wire.Varint n) = Some (Truth (not (n == 0)))
reading kind.Fixed32 (on_wire.Four n) = Some (Integer (pos n))
reading kind.Sfixed32 (on_wire.Four n) = Some (Integer (cast_signed w32 n))
reading kind.Float (on_wire.Four n) = Some (FloatBits n)
reading kind.Fixed64 (on_wire.Eight n) = Some (Integer (pos n))
reading kind.Sfixed64 (on_wire.Eight n) = Some (Integer (cast_signed w64 n))
reading kind.Double (on_wire.Eight n) = Some (DoubleBits n)
reading kind.String (on_wire.Bytes bytes) = Some (Bytes bytes)
reading kind.Bytes (on_wire.Bytes bytes) = Some (Bytes bytes)
reading _ _ = None

-- ---- the law

abbrev pub fits_unsigned : ℕ → ℤ → Bool
fits_unsigned limit (pos n) = nat_lt n limit
fits_unsigned limit (negsuc n) = false

-- Whether a field that holds this can hold the value.
abbrev pub can_hold : Held → Value → Bool
can_hold held.Int32 (Integer n) = fits_signed (2 ^ 31) n
can_hold held.Int64 (Integer n) = fits_signed (2 ^ 63) n
can_hold held.Uint32 (Integer n) = fits_unsigned (2 ^ 32) n
can_hold held.Uint64 (Integer n) = fits_unsigned (2 ^ 64) n
can_hold held.Float (FloatBits bits) = nat_lt bits (2 ^ 32)
can_hold held.Double (DoubleBits bits) = nat_lt bits (2 ^ 64)
can_hold held.Bool (Truth truth) = true
can_hold held.String (Bytes bytes) = true
can_hold _ _ = false

-- Each value of a type is read back.
abbrev pub ScalarsReadBack : Type 0
ScalarsReadBack = (scalar : ScalarType) (value : Value) → can_hold (held_by scalar) value ≡ true → reading scalar (wire scalar value) ≡ Some value
