-- Which file imports which, by rows of numbers: a row for each file.
use Rattle.std.specs.Prelude.{◌<◌, ◌↔◌, ℕ, ℤ, pos, negsuc, List, [], Option, Some, None, slice_get, map, length, Contains}
use Rattle.std.specs.List.{filter_map}
use Rattle.std.specs.Option.{option_and_then, option_map_or}
use Rattle.protox_descriptor.specs.declared.descriptor.FileDescriptorProto.{FileDescriptorProto}
use Rattle.protox_imports.specs.Names.{number_of}
use Rattle.protox_imports.specs.Imports.{Imports, ImportsPublicly}
use Rattle.protox_imports.specs.declared.row.FileImports.{FileImports}

-- the file that the import with this index names, if the set has it
abbrev pub named_at : List (Option ℕ) → ℤ → Option ℕ
named_at named (pos i) = option_and_then (λ file. file) (slice_get named i)
named_at named (negsuc i) = None

-- what one file imports, where `find` gives the number of the file with a name
abbrev pub row_by : (List ℕ → Option ℕ) → FileDescriptorProto → FileImports
row_by find file =
    let named = map find file.dependency in
    record { named = named; «public» = filter_map (named_at named) file.public_dependency }

-- the row of each file of a set
abbrev pub rows_of : List FileDescriptorProto → List FileImports
rows_of set = map (row_by (number_of set)) set

-- the files that a file's imports name, and those that its public imports name
abbrev pub named_of : List FileImports → ℕ → List (Option ℕ)
named_of rows f = option_map_or (λ row. row.named) (slice_get rows f) []

abbrev pub public_of : List FileImports → ℕ → List ℕ
public_of rows f = option_map_or (λ row. row.«public») (slice_get rows f) []

-- By the rows, file f imports file g.
abbrev pub ImportsIn : List FileImports → ℕ → ℕ → Type 0
ImportsIn rows f g = Contains (named_of rows f) (Some g)

-- By the rows, file f imports file g publicly.
abbrev pub PassesOnIn : List FileImports → ℕ → ℕ → Type 0
PassesOnIn rows f g = Contains (public_of rows f) g

-- Each number in a row is that of a row.
abbrev pub AreWithin : List FileImports → Type 0
AreWithin rows = (f g : ℕ) → ImportsIn rows f g → g < length rows

-- What a file imports publicly is among its imports.
abbrev pub AreAmongImports : List FileImports → Type 0
AreAmongImports rows = (f g : ℕ) → PassesOnIn rows f g → ImportsIn rows f g

-- The rows say of each two files what their names say.
pub record SayAsNames (set : List FileDescriptorProto) (rows : List FileImports) : Type 0 where
  pub imports : (f g : ℕ) → ImportsIn rows f g ↔ Imports set f g
  pub passes : (f g : ℕ) → PassesOnIn rows f g ↔ ImportsPublicly set f g
