-- What holds of every set of files.
use Rattle.std.specs.Prelude.{◌≡◌, [], ℕ, Bool, IsTrue, List, length}
use Rattle.protox_descriptor.specs.declared.descriptor.FileDescriptorProto.{FileDescriptorProto}
use Rattle.protox_imports.specs.Imports.{Imports, ImportsPublicly}
use Rattle.protox_imports.specs.Sees.{Sees, IsClosed}
use Rattle.protox_imports.specs.DepthFirst.{Visits, all_files}
use Rattle.protox_imports.specs.declared.row.FileImports.{FileImports}
use Rattle.protox_imports.specs.Order.{IsInOrder, IsCycle}

-- Where there is an order in which imports come first, there is no cycle of imports.
abbrev pub OrderedHasNoCycle : List FileDescriptorProto → Type 0
OrderedHasNoCycle set = (order files : List ℕ) → IsInOrder (Imports set) (length set) order
    → IsCycle (Imports set) files → ⊥

-- What a file sees is the least that holds the file and what it imports, and with each file what
-- that one imports publicly: it holds these, and all that do so hold it.
pub record SeesTheLeast (set : List FileDescriptorProto) : Type 0 where
  pub itself : (f : ℕ) → Sees (Imports set) (ImportsPublicly set) f f
  pub imported : (f g : ℕ) → Imports set f g → Sees (Imports set) (ImportsPublicly set) f g
  pub passed_on : (f g h : ℕ) → Sees (Imports set) (ImportsPublicly set) f g
      → ImportsPublicly set g h → Sees (Imports set) (ImportsPublicly set) f h
  pub least : (f h : ℕ) (holds : ℕ → Bool) → IsClosed (Imports set) (ImportsPublicly set) f holds
      → Sees (Imports set) (ImportsPublicly set) f h → IsTrue (holds h)

-- There is at most one order of a depth-first walk.
abbrev pub OneDepthFirst : List FileImports → Type 0
OneDepthFirst rows = (order other : List ℕ) → Visits rows [] (all_files (length rows)) order
    → Visits rows [] (all_files (length rows)) other → order ≡ other
