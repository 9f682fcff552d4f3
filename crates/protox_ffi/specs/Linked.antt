-- What linking finds for the names and sources of files, and why there is nothing.
use Rattle.std.specs.Prelude.{◌≤◌, ◌^◌, ⊤, ℕ, List, All, length, map}
use Rattle.std.specs.Str.{IsUtf8}
use Rattle.protox_ffi.specs.declared.linked.Found.{Found}
use Rattle.protox_ffi.specs.declared.linked.Found.TheVariants.{Set, Records}
use Rattle.protox_ffi.specs.declared.linked.Input.{Input}
use Rattle.protox_ffi.specs.declared.outcome.Reason.{Reason}
use Rattle.protox_ffi.specs.declared.outcome.Reason.TheVariants.{Accepted, Refused, OutOfMemory, NotUtf8, TooLarge, NotAFloat}
use Rattle.protox_link_bytes.specs.Given.{GivenFile}
use Rattle.protox_link_bytes.specs.Outcomes.{AreRefused, IsLargeSet, IsLinkedSet, LacksFloats}

-- the files that the caller has
abbrev pub given_input : Input → GivenFile
given_input file = record { name = file.name.now; source = file.source.now }

abbrev pub given : List Input → List GivenFile
given files = map given_input files

-- With the status 0 the bytes are those of a linked set; with the status 1, the records of what is wrong.
pub data IsAnswer (files : List GivenFile) : ℕ → List ℕ → Type 0 where
  IsSet : (bytes : List ℕ) → IsLinkedSet files bytes → IsAnswer files 0 bytes
  AreRecords : (bytes : List ℕ) → AreRefused files bytes → IsAnswer files 1 bytes

-- What the code has found is such a set, or such records.
abbrev pub IsFound : List GivenFile → Found → Type 0
IsFound files (Set bytes) = IsLinkedSet files bytes.items
IsFound files (Records bytes) = AreRefused files bytes.items

-- It is a set, and no records of what is wrong.
abbrev pub IsSetFound : Found → Type 0
IsSetFound (Set bytes) = ⊤
IsSetFound (Records bytes) = ⊥

-- The name or the source is not UTF-8.
abbrev pub IsNoText : GivenFile → Type 0
IsNoText file = IsUtf8 file.name × IsUtf8 file.source → ⊥

-- Some name or source is not UTF-8.
abbrev pub AreNotAllTexts : List GivenFile → Type 0
AreNotAllTexts files = All (λ file. IsUtf8 file.name × IsUtf8 file.source) files → ⊥

-- Why the files aren't taken. Memory may run out at any files.
abbrev pub HasNoTexts : List GivenFile → Reason → Type 0
HasNoTexts files Accepted = ⊥
HasNoTexts files Refused = ⊥
HasNoTexts files OutOfMemory = ⊤
HasNoTexts files NotUtf8 = AreNotAllTexts files
HasNoTexts files TooLarge = ⊥
HasNoTexts files NotAFloat = ⊥

-- The bytes of the set would be 2 GiB or more, or those of the records.
pub data AreTooLarge (files : List GivenFile) : Type 0 where
  SetIs : IsLargeSet files → AreTooLarge files
  RecordsAre : (bytes : List ℕ) → AreRefused files bytes → 2 ^ 31 ≤ length bytes → AreTooLarge files

-- Why there is no answer. Memory may run out at any files.
abbrev pub HasNoAnswer : List GivenFile → Reason → Type 0
HasNoAnswer files Accepted = ⊥
HasNoAnswer files Refused = ⊥
HasNoAnswer files OutOfMemory = ⊤
HasNoAnswer files NotUtf8 = AreNotAllTexts files
HasNoAnswer files TooLarge = AreTooLarge files
HasNoAnswer files NotAFloat = LacksFloats files
