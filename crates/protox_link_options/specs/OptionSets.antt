-- What linking with options makes of the names and sources of files: the bytes of a set, or the records of what is wrong.
use Rattle.std.specs.Prelude.{◌≡◌, ◌⊎◌, ⊤, ℕ, List}
use Rattle.protox_file_options.specs.declared.answer.InterpretedFile.{InterpretedFile}
use Rattle.protox_link.specs.declared.set.LinkedSet.{LinkedSet}
use Rattle.protox_link_bytes.specs.Given.{GivenFile, texts}
use Rattle.protox_link_bytes.specs.Outcomes.{AreLinkable, AreRefused, IsLinking}
use Rattle.protox_link_bytes.specs.declared.failure.LinkBytesFailure.{LinkBytesFailure}
use Rattle.protox_link_bytes.specs.declared.failure.LinkBytesFailure.TheVariants.{Refused, TooLarge, NotAFloat, OutOfMemory}
use Rattle.protox_link_options.specs.Options.{AreRight, AreWrongOptions}
use Rattle.protox_link_options.specs.SpelledOptions.{IsTooLarge, set_bytes}

-- Linking makes the set of the translations of the sources, and these are what its options set.
pub record IsLinkingWithOptions (sources : List GivenFile) (set : LinkedSet) (answers : List InterpretedFile) : Type 0 where
  pub linking : IsLinking sources set
  pub right : AreRight set.files.items answers

-- The bytes spell such a set, file by file in its order.
pub record IsOptionSet (sources : List GivenFile) (bytes : List ℕ) : Type 0 where
  pub set : LinkedSet
  pub answers : List InterpretedFile
  pub linking : IsLinkingWithOptions sources set answers
  pub spelled : bytes ≡ set_bytes set answers

-- The sources are linked, and something is wrong with options. The bytes are its records.
pub record HaveOptionFaults (sources : List GivenFile) (bytes : List ℕ) : Type 0 where
  pub set : LinkedSet
  pub linking : IsLinking sources set
  pub told : AreWrongOptions (texts sources) set.files.items bytes

-- Something is wrong with the files or with their options, and the bytes are its records.
abbrev pub AreRefusedWithOptions : List GivenFile → List ℕ → Type 0
AreRefusedWithOptions sources bytes = AreRefused sources bytes ⊎ HaveOptionFaults sources bytes

-- The bytes would be 2 GiB or more.
pub record IsLargeOptionSet (sources : List GivenFile) : Type 0 where
  pub set : LinkedSet
  pub answers : List InterpretedFile
  pub linking : IsLinkingWithOptions sources set answers
  pub large : IsTooLarge set answers

-- Why there are no bytes of a set. Memory may run out at any sources.
abbrev pub HasNoOptionSet : List GivenFile → LinkBytesFailure → Type 0
HasNoOptionSet sources (Refused bytes) = AreRefusedWithOptions sources bytes.items
HasNoOptionSet sources TooLarge = IsLargeOptionSet sources
HasNoOptionSet sources NotAFloat = ⊥
HasNoOptionSet sources OutOfMemory = ⊤

-- The sources can be linked, and of the set that linking makes of them the options are right.
pub record AreLinkableWithOptions (sources : List GivenFile) : Type 0 where
  pub linkable : AreLinkable sources
  pub right : (set : LinkedSet) → IsLinking sources set → (answers : List InterpretedFile) × AreRight set.files.items answers
