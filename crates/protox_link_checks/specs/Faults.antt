-- What is wrong with what a file declares.
use Rattle.std.specs.Prelude.{ℕ, ◌==◌, Bool, false, ◌&&◌, List, [], ◌∷◌, ◌++◌, length, Option, Some, None, slice_get, if◌then◌else◌}
use Rattle.std.specs.Cmp.Lexicographic.{pointwise}
use Rattle.std.specs.List.{flat_map}
use Rattle.std.specs.Option.{option_map_or}
use Rattle.std.specs.Ordering.{int_eq}
use Rattle.protox_descriptor.specs.declared.descriptor.FileDescriptorProto.{FileDescriptorProto}
use Rattle.protox_descriptor.specs.declared.tag.message.TheConstants.{NAME}
use Rattle.protox_link_fault.specs.declared.LinkFault.{LinkFault}
use Rattle.protox_link_fault.specs.declared.LinkFaultKind.{LinkFaultKind}
use Rattle.protox_link_fault.specs.declared.LinkFaultKind.TheVariants.{AlreadyDefined, BadName, MissingName, NotInTable}
use Rattle.protox_link_checks.specs.Uses.{fault_at, uses_of}
use Rattle.protox_name_tree.specs.Tree.{has_innermost, number_of}
use Rattle.protox_names.specs.Names.{is_identifier, scopes}
use Rattle.protox_symbols.specs.Symbols.{Table}
use Rattle.protox_walk.specs.Declarations.{Path, file_declarations, text_of}
use Rattle.protox_walk.specs.Parts.{Declared}
use Rattle.protox_walk.specs.Words.{name_of}

-- what is wrong with a name that is no identifier
abbrev pub bad_name : List ℕ → LinkFaultKind
bad_name name = if length name == 0 then MissingName else BadName

module _ (table : Table) (sees packages : List Bool) (file : ℕ) where
  -- The number is that of the declaration with this path.
  abbrev pub is_declared_at : Path → ℕ → Bool
  is_declared_at path n = option_map_or (λ thing. thing.file == file && pointwise int_eq thing.path path) (slice_get table.things n) false

  -- The table has the full name of each declaration. Of two with one full name, the later one is at
  -- fault.
  abbrev pub clash_faults : Path → Option ℕ → List LinkFault
  clash_faults path None = fault_at file path NAME NotInTable ∷ []
  clash_faults path (Some n) = if is_declared_at path n then [] else fault_at file path NAME (AlreadyDefined n) ∷ []

  -- The faults of what has a name: of the name itself, or else of its full name, and of the names
  -- that it uses. In something that isn't in the table, names alone are looked at.
  abbrev pub faults_named : Path → List ℕ → List ℕ → List LinkFault → List LinkFault
  faults_named path full_name own uses =
      if is_identifier own then
      (if has_innermost table.names (scopes full_name) then clash_faults path (number_of table.names full_name) ++ uses else [])
      else fault_at file path NAME (bad_name own) ∷ []

  abbrev pub declared_faults : Declared → List LinkFault
  declared_faults d = faults_named d.path d.full_name (text_of (name_of d.part)) (uses_of table sees packages file d.path d.full_name d.part)

  -- all that a file declares, in the order of paths
  abbrev pub all_declared_faults : FileDescriptorProto → List LinkFault
  all_declared_faults file = flat_map declared_faults (file_declarations file)
