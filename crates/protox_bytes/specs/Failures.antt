-- When a source has no bytes.
use Rattle.std.specs.Prelude.{◌≡◌, ◌≤◌, ◌^◌, false, length, Result, Err}
use Rattle.protox_descriptor.specs.declared.descriptor.FileDescriptorProto.{FileDescriptorProto}
use Rattle.protox_encode.specs.Floats.{has_floats}
use Rattle.protox_encode.specs.Messages.{file_descriptor}
use Rattle.protox_encode.specs.Wire.{message}
use Rattle.protox_encode.specs.declared.fault.EncodeError.TheVariants.{TooLarge, NotAFloat, OutOfMemory}
use Rattle.protox_parse.specs.declared.failure.ParseFailure.{ParseFailure}
use Rattle.protox_parse.specs.Failures as parsed
use Rattle.protox_bytes.specs.declared.BytesFailure.{BytesFailure}
use Rattle.protox_bytes.specs.declared.BytesFailure.TheVariants.{NotParsed, NotEncoded}

-- If the source was not parsed, P holds of the reason.
abbrev pub IfNotParsed : {T : Type 0} → Result T BytesFailure → (ParseFailure → Type 0) → Type 0
IfNotParsed (Err (NotParsed failure)) P = P failure
IfNotParsed _ P = Unit {0}

-- If there are no bytes, the source was parsed.
abbrev pub IsParsed : {T : Type 0} → Result T BytesFailure → Type 0
IsParsed (Err (NotParsed failure)) = ⊥
IsParsed _ = Unit {0}

-- The descriptor has no bytes: memory ran out, or they would be 2 GiB or more, or a double in it is
-- the text of no float.
abbrev pub IsWithout : FileDescriptorProto → BytesFailure → Type 0
IsWithout descriptor (NotParsed failure) = parsed.IsOutOfMemory failure
IsWithout descriptor (NotEncoded OutOfMemory) = Unit {0}
IsWithout descriptor (NotEncoded TooLarge) = 2 ^ 31 ≤ length (message (file_descriptor descriptor))
IsWithout descriptor (NotEncoded NotAFloat) = has_floats descriptor ≡ false
