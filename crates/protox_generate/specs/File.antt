-- The descriptor of a file, with its locations.
use Rattle.std.specs.Prelude.{ℕ, List, Some, None}
use Rattle.protox_ast.specs.declared.ast.File.{File}
use Rattle.protox_descriptor.specs.declared.descriptor.FileDescriptorProto.{FileDescriptorProto}
use Rattle.protox_describe.specs.File.{file_proto}
use Rattle.protox_fault.specs.declared.error.SyntaxFailure.{SyntaxFailure}
use Rattle.protox_fault.specs.declared.error.SyntaxFailure.TheVariants.{Faults, OutOfMemory}
use Rattle.protox_checks.specs.Checks.{AreListed}
use Rattle.protox_places.specs.Lines.{span_numbers}
use Rattle.protox_locate.specs.Locations.{file_locations}
use Rattle.protox_places.specs.Order.{AreByPath, StartsBefore, InOrder}

-- the descriptor of a file of this name, source and syntax tree, with its locations
unfoldable pub file_descriptor : List ℕ → List ℕ → File → FileDescriptorProto
file_descriptor name source file = record (file_proto name file) { source_code_info = Some (record { location = file_locations (span_numbers source) file }) }

-- There are locations. They are sorted by path, and those of one path by where they start.
abbrev pub AreLocated : FileDescriptorProto → Type 0
AreLocated file = elim file.source_code_info as (λ _. Type 0) [ None ↦ ⊥ | Some info ↦ InOrder StartsBefore info.location ]

-- There are locations, and they are sorted by path. `locate` needs this.
abbrev pub AreSorted : FileDescriptorProto → Type 0
AreSorted file = elim file.source_code_info as (λ _. Type 0) [ None ↦ ⊥ | Some info ↦ AreByPath info.location ]

-- The faults are listed in the order in which they are found; or memory ran out.
abbrev pub AreListedAll : File → SyntaxFailure → Type 0
AreListedAll file (Faults found) = AreListed file found.items
AreListedAll file OutOfMemory = Unit {0}
