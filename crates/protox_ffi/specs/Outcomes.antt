-- What is found for a name and a source, and why there is nothing.
use Rattle.std.specs.Prelude.{ℕ, ◌≡◌, ◌≤◌, ◌^◌, false, List, length}
use Rattle.std.specs.Str.{IsUtf8}
use Rattle.protox_ast.specs.Accepted.{IsAccepted}
use Rattle.protox_ast.specs.Ast as ast_of
use Rattle.protox_ast.specs.Places.{Place}
use Rattle.protox_ast.specs.Tree as tree
use Rattle.protox_bytes.specs.declared.BytesFailure.{BytesFailure}
use Rattle.protox_bytes.specs.declared.BytesFailure.TheVariants.{NotParsed, NotEncoded}
use Rattle.protox_descriptor.specs.declared.descriptor.FileDescriptorProto.{FileDescriptorProto}
use Rattle.protox_encode.specs.Floats.{has_floats}
use Rattle.protox_encode.specs.Messages as encoded
use Rattle.protox_encode.specs.Wire.{message}
use Rattle.protox_encode.specs.declared.fault.EncodeError.TheVariants as error
use Rattle.protox_parse.specs.Failures.{IsRefusalOf}
use Rattle.protox_parse.specs.FaultLists.{AreAllFound, AreLexicalAlone, AreListedOf, AreStanding, ExpectsTruly, NoCheckIsLost}
use Rattle.protox_parse.specs.Files.{IsFile, IsTranslation}
use Rattle.protox_parse.specs.FirstFault.{BeginsWithFirst}
use Rattle.protox_parse.specs.Refusal.{Refusal}
use Rattle.protox_parse.specs.declared.failure.ParseFailure.TheVariants as failed
use Rattle.protox_records.specs.Records.{records}
use Rattle.protox_ffi.specs.declared.outcome.Reason.{Reason}
use Rattle.protox_ffi.specs.declared.outcome.Reason.TheVariants.{Accepted, Refused, OutOfMemory, NotUtf8, TooLarge, NotAFloat}

-- The bytes spell the translation of the source.
abbrev pub IsDescriptor : List ℕ → List ℕ → List ℕ → Type 0
IsDescriptor name source bytes = (d : FileDescriptorProto) × IsTranslation name source d × (bytes ≡ message (encoded.file_descriptor d))

-- One of the two is not UTF-8.
abbrev pub AreNotTexts : List ℕ → List ℕ → Type 0
AreNotTexts name source = IsUtf8 name × IsUtf8 source → ⊥

-- The reason that a failure of `parse_to_bytes` is.
abbrev pub reason : BytesFailure → Reason
reason (NotParsed (failed.Refused e)) = Refused
reason (NotParsed failed.OutOfMemory) = OutOfMemory
reason (NotEncoded error.TooLarge) = TooLarge
reason (NotEncoded error.NotAFloat) = NotAFloat
reason (NotEncoded error.OutOfMemory) = OutOfMemory

-- Why there are no bytes of a descriptor. Memory may run out at any source.
abbrev pub HasNoDescriptor : List ℕ → List ℕ → Reason → Type 0
HasNoDescriptor name source Accepted = ⊥
HasNoDescriptor name source Refused = IsFile source → ⊥
HasNoDescriptor name source OutOfMemory = Unit {0}
HasNoDescriptor name source NotUtf8 = AreNotTexts name source
HasNoDescriptor name source TooLarge = (d : FileDescriptorProto) → IsTranslation name source d → 2 ^ 31 ≤ length (message (encoded.file_descriptor d))
HasNoDescriptor name source NotAFloat = (d : FileDescriptorProto) → IsTranslation name source d → has_floats d ≡ false

-- The bytes are the records of a refusal's faults, and of the refusal holds what `parse` promises.
pub record IsReport (name source bytes : List ℕ) : Type 0 where
  pub refusal : Refusal
  pub spelled : bytes ≡ records refusal.source refusal.errors
  pub wrong : IsFile source → ⊥
  pub of_source : IsRefusalOf name source (failed.Refused refusal)
  pub first : BeginsWithFirst source (failed.Refused refusal)
  pub checked : (f : tree.File Place) → IsAccepted source f → AreListedOf (ast_of.file (length source) f) (failed.Refused refusal)
  pub stands : AreStanding source (failed.Refused refusal)
  pub lexical : AreLexicalAlone source (failed.Refused refusal)
  pub all_found : AreAllFound source (failed.Refused refusal)
  pub no_check_lost : NoCheckIsLost source (failed.Refused refusal)
  pub words : ExpectsTruly source (failed.Refused refusal)

-- The records would take 2 GiB or more.
pub record IsTooLarge (name source : List ℕ) : Type 0 where
  pub bytes : List ℕ
  pub report : IsReport name source bytes
  pub large : 2 ^ 31 ≤ length bytes

-- Why there are no records.
abbrev pub HasNoReport : List ℕ → List ℕ → Reason → Type 0
HasNoReport name source Accepted = IsFile source
HasNoReport name source Refused = ⊥
HasNoReport name source OutOfMemory = Unit {0}
HasNoReport name source NotUtf8 = AreNotTexts name source
HasNoReport name source TooLarge = IsTooLarge name source
HasNoReport name source NotAFloat = ⊥
