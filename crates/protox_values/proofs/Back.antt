-- Values are read back.
use Rattle.std.proofs.Common.{◌≡◌, ℕ, ◌^◌, ℤ, pos, nat_lt, Bool, true, false, cond, List, Option, Some, None, Result, Ok, Err, IfOk, refl, sym, ap, ◌∙◌}
use Rattle.std.specs.Float.{binary32, binary64}
use Rattle.std.specs.Result.{result_ok}
use Rattle.std.proofs.lemmas.Bool.{false≢true}
use Rattle.protox_descriptor.specs.declared.descriptor.options.UninterpretedOption.{UninterpretedOption}
use Rattle.protox_values.proofs.Signs.{natural, signed_32, signed_64, unsigned_32, zigzag_32, zigzag_64}
use Rattle.protox_values.specs.Enums.{EnumsReadBack}
use Rattle.protox_values.specs.Values.{Value, Integer, Truth, FloatBits, DoubleBits, Bytes, bits_of, bytes_in, double_in, fits_signed, float_in, integer_of, limited, mapped, says, truth_in}
use Rattle.protox_values.specs.Wire.{ScalarsReadBack, reading, wire}
use Rattle.protox_values.specs.declared.fault.ValueFailure.{ValueFailure}
use Rattle.protox_values.specs.declared.fault.ValueFault.{ValueFault}
use Rattle.protox_values.specs.declared.fault.ValueFault.TheVariants.{OutOfRange, NotInteger, NotNonNegative}
use Rattle.protox_values.specs.declared.setting.SettingValue.{SettingValue}
use Rattle.protox_values.specs.declared.types.ScalarType.{ScalarType}
use Rattle.protox_values.specs.declared.types.ScalarType.TheVariants as kind

-- ---- the laws

pub enums : EnumsReadBack
enums n h = ap Some (signed_32 n h)

truth_back : (truth : Bool) → reading kind.Bool (wire kind.Bool (Truth truth)) ≡ Some (Truth truth)
truth_back true = refl
truth_back false = refl

integer : {m n : ℤ} → m ≡ n → Some (Integer m) ≡ Some (Integer n)
integer e = ap (λ (k : ℤ). Some (Integer k)) e

pub scalars : ScalarsReadBack
scalars kind.Int32 (Integer n) h = integer (signed_32 n h)
scalars kind.Sint32 (Integer n) h = integer (zigzag_32 n h)
scalars kind.Sfixed32 (Integer n) h = integer (signed_32 n h)
scalars kind.Int64 (Integer n) h = integer (signed_64 n h)
scalars kind.Sint64 (Integer n) h = integer (zigzag_64 n)
scalars kind.Sfixed64 (Integer n) h = integer (signed_64 n h)
scalars kind.Uint32 (Integer n) h =
    natural (2 ^ 32) (λ k. reading kind.Uint32 (wire kind.Uint32 (Integer k)) ≡ Some (Integer k)) n h
    (λ m low. integer (ap pos (unsigned_32 m low)))
scalars kind.Fixed32 (Integer n) h =
    natural (2 ^ 32) (λ k. reading kind.Fixed32 (wire kind.Fixed32 (Integer k)) ≡ Some (Integer k)) n h
    (λ m low. integer (ap pos (unsigned_32 m low)))
scalars kind.Uint64 (Integer n) h =
    natural (2 ^ 64) (λ k. reading kind.Uint64 (wire kind.Uint64 (Integer k)) ≡ Some (Integer k)) n h (λ m low. refl)
scalars kind.Fixed64 (Integer n) h =
    natural (2 ^ 64) (λ k. reading kind.Fixed64 (wire kind.Fixed64 (Integer k)) ≡ Some (Integer k)) n h (λ m low. refl)
scalars kind.Float (FloatBits bits) h = refl
scalars kind.Double (DoubleBits bits) h = refl
scalars kind.Bool (Truth truth) h = truth_back truth
scalars kind.String (Bytes bytes) h = refl
scalars kind.Bytes (Bytes bytes) h = refl
scalars scalar value h = absurd (false≢true h)

-- ---- what is said is read back

-- A number that is limited fits.
limited_fits : {N : Type 0} (fits : N → Bool) (missing : ValueFault) (there : Option N) (n : N) → limited fits missing there ≡ Ok n → fits n ≡ true
limited_fits fits missing None n e = absurd cc
limited_fits fits missing (Some m) n e = at (fits m) refl e
  where
    at : (b : Bool) → fits m ≡ b → cond b (Ok m) (Err OutOfRange) ≡ Ok n → fits n ≡ true
    at true is ok = let same : m ≡ n = cc in ap fits (sym same) ∙ is
    at false is ok = absurd cc

-- Where something is said, it is read back.
module _ (scalar : ScalarType) (payload : SettingValue) where
  abbrev Back : Result Value ValueFault → Type 0
  Back said = mapped (wire scalar) said ≡ Ok payload → reading scalar payload ≡ result_ok said

  back : {T : Type 0} (f : T → Value) (said : Result T ValueFault) → ((x : T) → said ≡ Ok x → reading scalar (wire scalar (f x)) ≡ Some (f x)) → Back (mapped f said)
  back f (Ok x) each e = let same : wire scalar (f x) ≡ payload = cc in ap (reading scalar) (sym same) ∙ each x refl
  back f (Err fault) each e = absurd cc

  back_signed : (limit : ℕ) (missing : ValueFault) (there : Option ℤ) → ((n : ℤ) → fits_signed limit n ≡ true → reading scalar (wire scalar (Integer n)) ≡ Some (Integer n)) → Back (mapped Integer (limited (fits_signed limit) missing there))
  back_signed limit missing there each = back Integer (limited (fits_signed limit) missing there) (λ n e. each n (limited_fits (fits_signed limit) missing there n e))

  back_unsigned : (limit : ℕ) (missing : ValueFault) (there : Option ℕ) → ((n : ℕ) → nat_lt n limit ≡ true → reading scalar (wire scalar (Integer (pos n))) ≡ Some (Integer (pos n))) → Back (mapped (λ n. Integer (pos n)) (limited (λ n. nat_lt n limit) missing there))
  back_unsigned limit missing there each = back (λ n. Integer (pos n)) (limited (λ n. nat_lt n limit) missing there) (λ n e. each n (limited_fits (λ n. nat_lt n limit) missing there n e))

bytes_back : (scalar : ScalarType) (payload : SettingValue) (there : Option (List ℕ)) → ((bytes : List ℕ) → reading scalar (wire scalar (Bytes bytes)) ≡ Some (Bytes bytes)) → Back scalar payload (bytes_in there)
bytes_back scalar payload (Some bytes) each e = let same : wire scalar (Bytes bytes) ≡ payload = cc in ap (reading scalar) (sym same) ∙ each bytes
bytes_back scalar payload None each e = absurd cc

pub said_back : (scalar : ScalarType) (payload : SettingValue) (o : UninterpretedOption) → Back scalar payload (says scalar o)
said_back kind.Int32 p o = back_signed kind.Int32 p (2 ^ 31) NotInteger (integer_of o) (λ n h. scalars kind.Int32 (Integer n) h)
said_back kind.Sint32 p o = back_signed kind.Sint32 p (2 ^ 31) NotInteger (integer_of o) (λ n h. scalars kind.Sint32 (Integer n) h)
said_back kind.Sfixed32 p o = back_signed kind.Sfixed32 p (2 ^ 31) NotInteger (integer_of o) (λ n h. scalars kind.Sfixed32 (Integer n) h)
said_back kind.Int64 p o = back_signed kind.Int64 p (2 ^ 63) NotInteger (integer_of o) (λ n h. scalars kind.Int64 (Integer n) h)
said_back kind.Sint64 p o = back_signed kind.Sint64 p (2 ^ 63) NotInteger (integer_of o) (λ n h. scalars kind.Sint64 (Integer n) h)
said_back kind.Sfixed64 p o = back_signed kind.Sfixed64 p (2 ^ 63) NotInteger (integer_of o) (λ n h. scalars kind.Sfixed64 (Integer n) h)
said_back kind.Uint32 p o = back_unsigned kind.Uint32 p (2 ^ 32) NotNonNegative o.positive_int_value (λ n h. scalars kind.Uint32 (Integer (pos n)) h)
said_back kind.Fixed32 p o = back_unsigned kind.Fixed32 p (2 ^ 32) NotNonNegative o.positive_int_value (λ n h. scalars kind.Fixed32 (Integer (pos n)) h)
said_back kind.Uint64 p o = back_unsigned kind.Uint64 p (2 ^ 64) NotNonNegative o.positive_int_value (λ n h. scalars kind.Uint64 (Integer (pos n)) h)
said_back kind.Fixed64 p o = back_unsigned kind.Fixed64 p (2 ^ 64) NotNonNegative o.positive_int_value (λ n h. scalars kind.Fixed64 (Integer (pos n)) h)
said_back kind.Float p o = back kind.Float p FloatBits (bits_of binary32 (float_in o.double_value (integer_of o))) (λ bits e. refl)
said_back kind.Double p o = back kind.Double p DoubleBits (bits_of binary64 (double_in o.double_value (integer_of o))) (λ bits e. refl)
said_back kind.Bool p o = back kind.Bool p Truth (truth_in o.identifier_value) (λ truth e. truth_back truth)
said_back kind.String p o = bytes_back kind.String p o.string_value (λ bytes. refl)
said_back kind.Bytes p o = bytes_back kind.Bytes p o.string_value (λ bytes. refl)

-- An answer reads back as what the statement says.
pub answer_back : (scalar : ScalarType) (o : UninterpretedOption) (answer : Result SettingValue ValueFailure)
    → IfOk answer (λ payload. mapped (wire scalar) (says scalar o) ≡ Ok payload) → IfOk answer (λ payload. reading scalar payload ≡ result_ok (says scalar o))
answer_back scalar o (Ok payload) e = said_back scalar payload o e
answer_back scalar o (Err failure) e = e
