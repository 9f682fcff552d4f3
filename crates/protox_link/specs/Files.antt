-- The files of a list, one by one: what is wrong with each, and what linking makes of each.
use Rattle.std.specs.Prelude.{◌≡◌, ◌+◌, ◌⊎◌, ℕ, Bool, true, List, [], ◌∷◌, ◌++◌, Option}
use Rattle.protox_descriptor.specs.declared.descriptor.FileDescriptorProto.{FileDescriptorProto}
use Rattle.protox_imports.specs.Rows.{named_of, rows_of}
use Rattle.protox_link.specs.Seen.{IsSeenBy}
use Rattle.protox_link_checks.specs.Extensions.{extended_faults}
use Rattle.protox_link_checks.specs.File.{file_faults}
use Rattle.protox_link_fault.specs.declared.LinkFault.{LinkFault}
use Rattle.protox_linked.specs.Linked.{file_stands, linked_file}
use Rattle.protox_symbols.specs.Symbols.{Table}
use Rattle.protox_symbols.specs.Things.{table_of}
use Rattle.protox_views.specs.Views.{meaning, stands}
use Rattle.protox_walk.specs.Declarations.{text_of}

-- what is wrong with the file of a list that has a number, where it sees this
abbrev pub faults_in : List FileDescriptorProto → ℕ → List Bool → List Bool → FileDescriptorProto → List LinkFault
faults_in all number sees packages file =
    file_faults (table_of all) sees packages number (named_of (rows_of all) number) file
    ++ extended_faults all (table_of all) number sees packages file

-- what linking makes of a file of a list, where it sees this
abbrev pub linked_in : List FileDescriptorProto → List Bool → List Bool → FileDescriptorProto → FileDescriptorProto
linked_in all sees packages file = linked_file (meaning (table_of all) sees packages) file

module _ (all : List FileDescriptorProto) where
  -- This is wrong with these files, of which the first has the number n.
  pub data AreFaults : ℕ → List FileDescriptorProto → List LinkFault → Type 0 where
    NoMore : (n : ℕ) → AreFaults n [] []
    OneMore : (n : ℕ) (file : FileDescriptorProto) (more : List FileDescriptorProto) (sees packages : List Bool) (faults : List LinkFault) → IsSeenBy all n sees packages → AreFaults (n + 1) more faults → AreFaults n (file ∷ more) (faults_in all n sees packages file ++ faults)

  -- Linking makes the second list of the first one, of which the first file has the number n.
  pub data AreLinked : ℕ → List FileDescriptorProto → List FileDescriptorProto → Type 0 where
    NoFile : (n : ℕ) → AreLinked n [] []
    OneFile : (n : ℕ) (file : FileDescriptorProto) (more : List FileDescriptorProto) (sees packages : List Bool) (linked : List FileDescriptorProto) → IsSeenBy all n sees packages → AreLinked (n + 1) more linked → AreLinked n (file ∷ more) (linked_in all sees packages file ∷ linked)

-- ---- one file

-- A file was checked, where it sees this of a table, and it is linked if no fault is known.
pub record IsChecked (all : List FileDescriptorProto) (table : Table) (sees packages : List Bool) (number : ℕ) (imports : List (Option ℕ)) (file made : FileDescriptorProto) (before after : List LinkFault) : Type 0 where
  pub faults : after ≡ before ++ (file_faults table sees packages number imports file ++ extended_faults all table number sees packages file)
  pub linked : after ≡ [] → made ≡ linked_file (meaning table sees packages) file

-- The file of a list that has the number n was checked, and it is linked if no fault is known.
pub record IsDone (all : List FileDescriptorProto) (n : ℕ) (file made : FileDescriptorProto) (before after : List LinkFault) : Type 0 where
  pub sees : List Bool
  pub packages : List Bool
  pub seen : IsSeenBy all n sees packages
  pub faults : after ≡ before ++ faults_in all n sees packages file
  pub linked : after ≡ [] → made ≡ linked_in all sees packages file

-- The file of a list that has the number n was checked, and not linked.
pub record IsToldOf (all : List FileDescriptorProto) (n : ℕ) (file : FileDescriptorProto) (before after : List LinkFault) : Type 0 where
  pub sees : List Bool
  pub packages : List Bool
  pub seen : IsSeenBy all n sees packages
  pub faults : after ≡ before ++ faults_in all n sees packages file

-- The file of a list that has the number n was linked.
pub record IsLinkedAt (all : List FileDescriptorProto) (n : ℕ) (file made : FileDescriptorProto) : Type 0 where
  pub sees : List Bool
  pub packages : List Bool
  pub seen : IsSeenBy all n sees packages
  pub linked : made ≡ linked_in all sees packages file

-- The table has what linking a file looks up: the package of the file, and all scopes in it.
pub record IsInTable (table : Table) (file : FileDescriptorProto) : Type 0 where
  pub of_package : (text_of file.«package» ≡ []) ⊎ (stands table (text_of file.«package») ≡ true)
  pub scopes : file_stands (stands table) file ≡ true

-- ---- all files

-- These are all faults of the files of a list, and if there are none, the files are linked.
pub record AreDone (all made : List FileDescriptorProto) (faults : List LinkFault) : Type 0 where
  pub told : AreFaults all 0 all faults
  pub linked : faults ≡ [] → AreLinked all 0 all made
