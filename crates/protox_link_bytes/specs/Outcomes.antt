-- What linking makes of the names and sources of files: the bytes of a set, or the records of what is wrong.
use Rattle.std.specs.Prelude.{◌≡◌, ◌≢◌, ◌≤◌, ◌^◌, ◌⊎◌, ⊤, ℕ, false, List, [], length}
use Rattle.std.specs.List.{list_all}
use Rattle.protox_descriptor.specs.declared.descriptor.FileDescriptorProto.{FileDescriptorProto}
use Rattle.protox_encode.specs.Floats.{has_floats}
use Rattle.protox_imports.specs.Imports.{Imports}
use Rattle.protox_imports.specs.Order.{IsInOrder}
use Rattle.protox_link.specs.Files.{AreFaults}
use Rattle.protox_link.specs.Link.{AreOfFiles, IsSetOf}
use Rattle.protox_link.specs.declared.set.LinkedSet.{LinkedSet}
use Rattle.protox_link_bytes.specs.Given.{GivenFile, texts}
use Rattle.protox_link_bytes.specs.Parsed.{AreTranslations, HaveSyntaxFaults}
use Rattle.protox_link_bytes.specs.Spelled.{bytes_of, files_of}
use Rattle.protox_link_bytes.specs.declared.failure.LinkBytesFailure.{LinkBytesFailure}
use Rattle.protox_link_bytes.specs.declared.failure.LinkBytesFailure.TheVariants.{Refused, TooLarge, NotAFloat, OutOfMemory}
use Rattle.protox_link_bytes.specs.declared.failure.LinkSourcesFailure.{LinkSourcesFailure}
use Rattle.protox_link_bytes.specs.declared.failure.LinkSourcesFailure.TheVariants as set
use Rattle.protox_link_fault.specs.declared.LinkFault.{LinkFault}
use Rattle.protox_link_records.specs.LinkRecords.{AreTold}

-- Linking makes the set of the translations of the sources.
pub record IsLinking (sources : List GivenFile) (set : LinkedSet) : Type 0 where
  pub files : List FileDescriptorProto
  pub translated : AreTranslations sources files
  pub linked : IsSetOf files set

-- The bytes spell such a set, file by file in its order.
pub record IsLinkedSet (sources : List GivenFile) (bytes : List ℕ) : Type 0 where
  pub set : LinkedSet
  pub linking : IsLinking sources set
  pub spelled : bytes ≡ bytes_of (files_of set)

-- The sources are files, and these are the faults of linking; the bytes are the records of what is told of them. There is one at least.
pub record HaveLinkFaults (sources : List GivenFile) (bytes : List ℕ) : Type 0 where
  pub files : List FileDescriptorProto
  pub translated : AreTranslations sources files
  pub faults : List LinkFault
  pub wrong : AreOfFiles files faults
  pub told : AreTold (texts sources) files faults bytes
  pub some : bytes ≢ []

-- Something is wrong with the files, and the bytes are its records.
abbrev pub AreRefused : List GivenFile → List ℕ → Type 0
AreRefused sources bytes = HaveSyntaxFaults sources bytes ⊎ HaveLinkFaults sources bytes

-- Why there is no linked set. Memory may run out at any sources.
abbrev pub HasNoLinking : List GivenFile → LinkSourcesFailure → Type 0
HasNoLinking sources (set.Refused bytes) = AreRefused sources bytes.items
HasNoLinking sources set.OutOfMemory = ⊤

-- Memory ran out.
abbrev pub IsWant : LinkSourcesFailure → Type 0
IsWant (set.Refused bytes) = ⊥
IsWant set.OutOfMemory = ⊤

-- The bytes of the set would be 2 GiB or more.
pub record IsLargeSet (sources : List GivenFile) : Type 0 where
  pub set : LinkedSet
  pub linking : IsLinking sources set
  pub large : 2 ^ 31 ≤ length (bytes_of (files_of set))

-- Some file of the set has an option whose value is no float, though it should be.
pub record LacksFloats (sources : List GivenFile) : Type 0 where
  pub set : LinkedSet
  pub linking : IsLinking sources set
  pub lacks : list_all has_floats (files_of set) ≡ false

-- Why there are no bytes of a set. Memory may run out at any sources.
abbrev pub HasNoSet : List GivenFile → LinkBytesFailure → Type 0
HasNoSet sources (Refused bytes) = AreRefused sources bytes.items
HasNoSet sources TooLarge = IsLargeSet sources
HasNoSet sources NotAFloat = LacksFloats sources
HasNoSet sources OutOfMemory = ⊤

abbrev pub IsNoRefusal : LinkBytesFailure → Type 0
IsNoRefusal (Refused bytes) = ⊥
IsNoRefusal _ = ⊤

-- The sources are files with which nothing is wrong, and they have an order in which imports come first.
pub record AreLinkable (sources : List GivenFile) : Type 0 where
  pub files : List FileDescriptorProto
  pub translated : AreTranslations sources files
  pub right : AreFaults files 0 files []
  pub order : List ℕ
  pub ordered : IsInOrder (Imports files) (length files) order
