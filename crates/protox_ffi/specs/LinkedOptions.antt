-- What linking with options finds for the names and sources of files, and why there is nothing.
use Rattle.std.specs.Prelude.{◌≤◌, ◌^◌, ⊤, ℕ, List, length}
use Rattle.protox_ffi.specs.Linked.{AreNotAllTexts}
use Rattle.protox_ffi.specs.declared.linked.Found.{Found}
use Rattle.protox_ffi.specs.declared.linked.Found.TheVariants.{Set, Records}
use Rattle.protox_ffi.specs.declared.outcome.Reason.{Reason}
use Rattle.protox_ffi.specs.declared.outcome.Reason.TheVariants.{Accepted, Refused, OutOfMemory, NotUtf8, TooLarge, NotAFloat}
use Rattle.protox_link_bytes.specs.Given.{GivenFile}
use Rattle.protox_link_options.specs.OptionSets.{AreRefusedWithOptions, IsLargeOptionSet, IsOptionSet}

-- With the status 0 the bytes are those of a linked set with what options set; with the status 1, the records of what is wrong.
pub data IsOptionAnswer (files : List GivenFile) : ℕ → List ℕ → Type 0 where
  IsSet : (bytes : List ℕ) → IsOptionSet files bytes → IsOptionAnswer files 0 bytes
  AreRecords : (bytes : List ℕ) → AreRefusedWithOptions files bytes → IsOptionAnswer files 1 bytes

-- What the code has found is such a set, or such records.
abbrev pub IsOptionFound : List GivenFile → Found → Type 0
IsOptionFound files (Set bytes) = IsOptionSet files bytes.items
IsOptionFound files (Records bytes) = AreRefusedWithOptions files bytes.items

-- The bytes of the set or of one of its files would be 2 GiB or more, or those of the records.
pub data AreTooLargeWithOptions (files : List GivenFile) : Type 0 where
  SetIs : IsLargeOptionSet files → AreTooLargeWithOptions files
  RecordsAre : (bytes : List ℕ) → AreRefusedWithOptions files bytes → 2 ^ 31 ≤ length bytes → AreTooLargeWithOptions files

-- Why there is no answer. Memory may run out at any files.
abbrev pub HasNoOptionAnswer : List GivenFile → Reason → Type 0
HasNoOptionAnswer files Accepted = ⊥
HasNoOptionAnswer files Refused = ⊥
HasNoOptionAnswer files OutOfMemory = ⊤
HasNoOptionAnswer files NotUtf8 = AreNotAllTexts files
HasNoOptionAnswer files TooLarge = AreTooLargeWithOptions files
HasNoOptionAnswer files NotAFloat = ⊥
