-- Linked sets of files, and why there is none.
use Rattle.std.specs.Prelude.{◌≡◌, ◌≢◌, ◌-◌, ◌⊎◌, ⊤, ℕ, List, [], ◌∷◌, Some, length, map, slice_get}
use Rattle.protox_descriptor.specs.declared.descriptor.FileDescriptorProto.{FileDescriptorProto}
use Rattle.protox_descriptor.specs.declared.tag.file.TheConstants.{DEPENDENCY}
use Rattle.protox_imports.specs.Imports.{Imports}
use Rattle.protox_imports.specs.Order.{IsCycle, IsInOrder}
use Rattle.protox_link.specs.Files.{AreFaults, AreLinked}
use Rattle.protox_link.specs.declared.set.LinkedSet.{LinkedSet}
use Rattle.protox_link_fault.specs.declared.LinkFailure.{LinkFailure}
use Rattle.protox_link_fault.specs.declared.LinkFailure.TheVariants.{OutOfMemory, Refused}
use Rattle.protox_link_fault.specs.declared.LinkFault.{LinkFault}
use Rattle.protox_link_fault.specs.declared.LinkFaultKind.{LinkFaultKind}
use Rattle.protox_link_fault.specs.declared.LinkFaultKind.TheVariants.{ImportCycle}
use Rattle.protox_linked.specs.Kept.{file_kept}

-- The files of the set are the given ones, linked. Nothing is wrong with them, and the order is one
-- in which each file stands behind what it imports.
pub record IsSetOf (files : List FileDescriptorProto) (set : LinkedSet) : Type 0 where
  pub right : AreFaults files 0 files []
  pub linked : AreLinked files 0 files set.files.items
  pub ordered : IsInOrder (Imports files) (length files) set.order.items

-- Of the given files, the linked ones keep all but the names that they use, and what these tell: types
-- of fields, and names in JSON. Numbers, names, labels, options, defaults and comments are the same,
-- and the order of all parts.
abbrev pub AreKept : List FileDescriptorProto → List FileDescriptorProto → Type 0
AreKept files made = map file_kept made ≡ map file_kept files

-- The kind is that of a circle of imports, and names these files, in this order.
abbrev pub NamesCircle : List ℕ → LinkFaultKind → Type 0
NamesCircle circle (ImportCycle files) = files.items ≡ circle
NamesCircle circle _ = ⊥

-- The fault is that of files that import one another in a circle. It is told at the last of them, and
-- names them all.
pub record IsOfCircle (files : List FileDescriptorProto) (fault : LinkFault) : Type 0 where
  pub circle : List ℕ
  pub last : slice_get circle (length circle - 1) ≡ Some fault.file
  pub at_imports : fault.path ≡ DEPENDENCY ∷ []
  pub named : NamesCircle circle fault.kind
  pub is : IsCycle (Imports files) circle

-- Nothing is wrong with the files, and they have an order in which imports come first. So they don't
-- import one another in a circle.
pub record NothingIsWrong (files : List FileDescriptorProto) : Type 0 where
  pub none : AreFaults files 0 files []
  pub order : List ℕ
  pub ordered : IsInOrder (Imports files) (length files) order

-- The one fault is that of a circle.
abbrev pub IsCircleAlone : List FileDescriptorProto → List LinkFault → Type 0
IsCircleAlone files faults = (fault : LinkFault) × (faults ≡ fault ∷ []) × IsOfCircle files fault

-- The files have an order in which imports come first. So they don't import one another in a circle.
abbrev pub HaveOrder : List FileDescriptorProto → Type 0
HaveOrder files = (order : List ℕ) × IsInOrder (Imports files) (length files) order

-- A circle is told, and alone: the one fault is that of a circle, or there is none.
abbrev pub TellsCircles : List FileDescriptorProto → List LinkFault → Type 0
TellsCircles files faults = IsCircleAlone files faults ⊎ HaveOrder files

-- There is a circle, or these are all faults.
abbrev pub AreWrong : List FileDescriptorProto → List LinkFault → Type 0
AreWrong files faults = IsCircleAlone files faults ⊎ AreFaults files 0 files faults

-- There is a circle, or these are all faults, and there is one.
abbrev pub AreOfFiles : List FileDescriptorProto → List LinkFault → Type 0
AreOfFiles files faults = IsCircleAlone files faults ⊎ ((faults ≢ []) × AreFaults files 0 files faults)

abbrev pub IsFailureOf : List FileDescriptorProto → LinkFailure → Type 0
IsFailureOf files (Refused faults) = AreOfFiles files faults.items
IsFailureOf files OutOfMemory = ⊤

abbrev pub FailureTellsCircles : List FileDescriptorProto → LinkFailure → Type 0
FailureTellsCircles files (Refused faults) = TellsCircles files faults.items
FailureTellsCircles files OutOfMemory = ⊤
