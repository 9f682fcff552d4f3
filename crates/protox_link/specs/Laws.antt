-- What holds of linking, whatever the files are.
use Rattle.std.specs.Prelude.{◌≡◌, ◌↔◌, ◌++◌, ℕ, Contains, List, [], Some, length, slice_get, take}
use Rattle.protox_descriptor.specs.declared.descriptor.FileDescriptorProto.{FileDescriptorProto}
use Rattle.protox_imports.specs.Imports.{Imports}
use Rattle.protox_imports.specs.Order.{IsInOrder}
use Rattle.protox_link.specs.Closed.{AreClosed}
use Rattle.protox_link.specs.Files.{AreFaults, AreLinked}
use Rattle.protox_link.specs.Known.{IsKnownOf}
use Rattle.protox_link.specs.Link.{IsFailureOf}
use Rattle.protox_link.specs.Wrong.{WrongLink}
use Rattle.protox_link.specs.declared.known.Known.{Known}
use Rattle.protox_link_fault.specs.declared.LinkFailure.{LinkFailure}
use Rattle.protox_link_fault.specs.declared.LinkFailure.TheVariants.{OutOfMemory}
use Rattle.protox_link_fault.specs.declared.LinkFault.{LinkFault}
use Rattle.protox_walk.specs.Declarations.{file_declarations}
use Rattle.protox_walk.specs.Parts.{Declared}

-- Files have one list of faults.
abbrev pub OneListOfFaults : Type 0
OneListOfFaults = (files : List FileDescriptorProto) (faults other : List LinkFault) → AreFaults files 0 files faults → AreFaults files 0 files other → faults ≡ other

-- The faults of files are what is wrong with them, each told of by itself.
abbrev pub WrongAgrees : Type 0
WrongAgrees = (files : List FileDescriptorProto) (faults : List LinkFault) → AreFaults files 0 files faults → (fault : LinkFault) → Contains faults fault ↔ WrongLink files fault

-- Linking makes one list of files of them.
abbrev pub OneLinking : Type 0
OneLinking = (files made other : List FileDescriptorProto) → AreLinked files 0 files made → AreLinked files 0 files other → made ≡ other

-- Files of which nothing is wrong, and which have an order, are refused only where memory runs out.
abbrev pub OnlyWhereWrong : Type 0
OnlyWhereWrong = (files : List FileDescriptorProto) (order : List ℕ) (failure : LinkFailure) → IsInOrder (Imports files) (length files) order → AreFaults files 0 files [] → IsFailureOf files failure → failure ≡ OutOfMemory

-- In linked files each full name is declared once.
abbrev pub DeclaredOnce : Type 0
DeclaredOnce = (files made : List FileDescriptorProto) → AreClosed files made
    → (n m : ℕ) (file other : FileDescriptorProto) → slice_get made n ≡ Some file → slice_get made m ≡ Some other
    → (d e : Declared) → Contains (file_declarations file) d → Contains (file_declarations other) e
    → d.full_name ≡ e.full_name → (n ≡ m) × (d.path ≡ e.path)

-- Linking linked files changes nothing.
abbrev pub LinkedAgain : Type 0
LinkedAgain = (files made again : List FileDescriptorProto) → AreLinked files 0 files made → AreLinked made 0 made again → again ≡ made

-- What is known of linked files is what is known of the given ones. So names mean the same in both.
abbrev pub KnownAgain : Type 0
KnownAgain = (files made : List FileDescriptorProto) (known : Known) → AreLinked files 0 files made → IsKnownOf made known → IsKnownOf files known

-- Files with which nothing is wrong are linked the same whatever files stand behind them.
abbrev pub Local : Type 0
Local = (files more made all_made : List FileDescriptorProto) → AreFaults files 0 files [] → AreLinked files 0 files made → AreLinked (files ++ more) 0 (files ++ more) all_made → take (length files) all_made ≡ made
