-- What is wrong with the imports of a file, and with its package.
use Rattle.std.specs.Prelude.{ℕ, ◌+◌, ◌==◌, nat_lt, pos, Bool, true, false, count_by, length, List, [], ◌∷◌, ◌++◌, map, option_to_list, Option, Some, None, if◌then◌else◌}
use Rattle.std.specs.List.{list_any}
use Rattle.protox_descriptor.specs.declared.tag.file.TheConstants.{DEPENDENCY, PACKAGE}
use Rattle.protox_link_checks.specs.Uses.{faults_at}
use Rattle.protox_link_fault.specs.declared.LinkFault.{LinkFault}
use Rattle.protox_link_fault.specs.declared.LinkFaultKind.{LinkFaultKind}
use Rattle.protox_link_fault.specs.declared.LinkFaultKind.TheVariants.{BadName, DeepPackage, LongPackage, MissingImport, NotAPackage, RepeatedImport}
use Rattle.protox_name_tree.specs.Tree.{Names, kind_at, name_at, number_of}
use Rattle.protox_names.specs.Names.{scopes}
use Rattle.protox_scopes.specs.declared.kind.Kind.{Kind}
use Rattle.protox_scopes.specs.declared.kind.Kind.TheVariants as kind
use Rattle.protox_symbols.specs.Symbols.{Table}

-- ---- imports

-- Each import names a file, and no other one than the imports before, whose files are `earlier`.
abbrev pub wrong_import : List ℕ → Option ℕ → List LinkFaultKind
wrong_import earlier None = MissingImport ∷ []
wrong_import earlier (Some named) = if list_any (λ file. file == named) earlier then RepeatedImport ∷ [] else []

-- the faults of imports, the first of which has the index i
abbrev pub import_faults_from : ℕ → ℕ → List ℕ → List (Option ℕ) → List LinkFault
import_faults_from file i earlier [] = []
import_faults_from file i earlier (named ∷ more) =
    faults_at file (DEPENDENCY ∷ []) (pos i) (wrong_import earlier named)
    ++ import_faults_from file (i + 1) (option_to_list named ++ earlier) more

-- the faults of all imports of a file; each is told by the first file that has its name
abbrev pub import_faults : ℕ → List (Option ℕ) → List LinkFault
import_faults file imports = import_faults_from file 0 [] imports

-- ---- the package

-- Its name has at most 511 bytes, and at most 100 dots.
abbrev pub wrong_length : List ℕ → List LinkFaultKind
wrong_length name =
    if nat_lt 511 (length name) then LongPackage ∷ []
    else if nat_lt 100 (count_by (λ byte. byte == 46) name) then DeepPackage ∷ []
    else []

abbrev pub is_package : Kind → Bool
is_package kind.Package = true
is_package kind.Message = false
is_package kind.Enum = false
is_package kind.Service = false
is_package kind.Member = false

abbrev pub if_no_package : Kind → ℕ → List ℕ
if_no_package kind n = if is_package kind then [] else n ∷ []

-- the full name with a number, and the scopes around it, from the inside out
abbrev pub outwards : Names → Option ℕ → List (List ℕ)
outwards names None = []
outwards names (Some n) = name_at names n ∷ scopes (name_at names n)

module _ (table : Table) where
  abbrev pub if_found : Option ℕ → List ℕ
  if_found None = []
  if_found (Some n) = if_no_package (kind_at table.names n) n

  -- those of these full names that the table has, but not as packages, by their numbers
  abbrev pub no_packages : List (List ℕ) → List ℕ
  no_packages [] = []
  no_packages (name ∷ more) = if_found (number_of table.names name) ++ no_packages more

  abbrev pub wrong_package_found : List ℕ → Option ℕ → List LinkFaultKind
  wrong_package_found name None = BadName ∷ []
  wrong_package_found name (Some n) = map NotAPackage (no_packages (name ∷ scopes name))

  -- The package and those around it are in the table, as packages, and the name is not too long.
  abbrev pub wrong_package : List ℕ → List LinkFaultKind
  wrong_package [] = []
  wrong_package (byte ∷ rest) =
      wrong_length (byte ∷ rest) ++ wrong_package_found (byte ∷ rest) (number_of table.names (byte ∷ rest))

  abbrev pub package_faults : ℕ → List ℕ → List LinkFault
  package_faults file name = faults_at file [] PACKAGE (wrong_package name)
