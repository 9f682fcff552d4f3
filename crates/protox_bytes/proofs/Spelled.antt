-- What is said of a descriptor's bytes is said of the source that it is the translation of.
use Rattle.std.proofs.Common.{◌≡◌, ◌≤◌, ◌^◌, ℕ, false, List, Result, Ok, Err, IfOk, MatchResult, refl, subst}
use Rattle.std.specs.Prelude.{length, IsErrOf}
use Rattle.protox_bytes.specs.Failures.{IfNotParsed, IsParsed, IsWithout}
use Rattle.protox_bytes.specs.declared.BytesFailure.{BytesFailure}
use Rattle.protox_bytes.specs.declared.BytesFailure.TheVariants.{NotParsed, NotEncoded}
use Rattle.protox_descriptor.specs.declared.descriptor.FileDescriptorProto.{FileDescriptorProto}
use Rattle.protox_encode.specs.Floats.{has_floats}
use Rattle.protox_encode.specs.Messages as words
use Rattle.protox_encode.specs.Wire.{message}
use Rattle.protox_encode.specs.declared.fault.EncodeError.{EncodeError}
use Rattle.protox_encode.specs.declared.fault.EncodeError.TheVariants.{TooLarge, NotAFloat, OutOfMemory}
use Rattle.protox_parse.specs.Files.{IsTranslation}
use Rattle.protox_parse.specs.declared.failure.ParseFailure.{ParseFailure}

abbrev Spelled : List ℕ → List ℕ → List ℕ → Type 0
Spelled name source bytes = (d : FileDescriptorProto) × IsTranslation name source d × (bytes ≡ message (words.file_descriptor d))

pub found : {V : Type 0} (name source : List ℕ) (d : FileDescriptorProto) (r : Result V BytesFailure) (items : V → List ℕ) → IsTranslation name source d
    → IfOk r (λ v. items v ≡ message (words.file_descriptor d)) → IfOk r (λ v. Spelled name source (items v))
found {V} name source d (Err e) items is h = tt
found {V} name source d (Ok v) items is h = (d, is, h)

pub only : {V : Type 0} (d e : FileDescriptorProto) (r : Result V BytesFailure) (items : V → List ℕ) → d ≡ e
    → MatchResult r (λ v. items v ≡ message (words.file_descriptor d)) (IsWithout d)
    → MatchResult r (λ v. items v ≡ message (words.file_descriptor e)) (IsWithout e)
only {V} d e r items is h = subst (λ (x : FileDescriptorProto). MatchResult r (λ v. items v ≡ message (words.file_descriptor x)) (IsWithout x)) is h

pub none : {V : Type 0} (r : Result V BytesFailure) (P : ParseFailure → Type 0) → IsParsed r → IfNotParsed r P
none {V} (Ok v) P h = tt
none {V} (Err (NotParsed failure)) P h = absurd h
none {V} (Err (NotEncoded error)) P h = tt

pub without : {V : Type 0} (d : FileDescriptorProto) (e : EncodeError) → (IsErrOf {T = V} (Err e) TooLarge → 2 ^ 31 ≤ length (message (words.file_descriptor d)))
    → (IsErrOf {T = V} (Err e) NotAFloat → has_floats d ≡ false) → IsWithout d (NotEncoded e)
without {V} d TooLarge large floats = large refl
without {V} d NotAFloat large floats = floats refl
without {V} d OutOfMemory large floats = tt
