-- Where the parts of a file stand in its source.
use Rattle.std.specs.Prelude.{ℕ, zero, suc, ℤ, pos, ◌+◌, ◌-◌, ◌==◌, if◌then◌else◌, min, List, [], ◌∷◌, Option, Some, None, length, slice_get, slice_index_or, take, ⊤, MatchOption, unsigned_abs}
use Rattle.std.specs.List.{position}
use Rattle.std.specs.Option.{option_and_then, unwrap_or}
use Rattle.std.specs.Str.{bytes_eq}
use Rattle.protox_descriptor.specs.Spans.{start_of, end_of}
use Rattle.protox_descriptor.specs.declared.descriptor.FileDescriptorProto.{FileDescriptorProto}
use Rattle.protox_descriptor.specs.declared.descriptor.source_code_info.Location.{Location}
use Rattle.protox_descriptor.specs.declared.tag.file.TheConstants.{DEPENDENCY}
use Rattle.protox_link_fault.specs.declared.LinkFault.{LinkFault}
use Rattle.protox_link_fault.specs.declared.LinkFaultKind.{LinkFaultKind}
use Rattle.protox_link_fault.specs.declared.LinkFaultKind.TheVariants.{ImportCycle}
use Rattle.protox_link_records.specs.declared.places.Place.{Place}
use Rattle.protox_places.specs.First.{first_at}
use Rattle.protox_places.specs.Lines.{starts}
use Rattle.protox_places.specs.Order.{AreByPath}

-- ---- lines and columns

-- The offset of the first byte of a line; that of the end if the source has no such line.
abbrev pub line_start : List ℕ → ℕ → ℕ
line_start source line = if line == 0 then 0 else slice_index_or (starts 0 source) (line - 1) (length source)

-- The offset of a line and a column, both from 0; that of the end if they lie behind it.
abbrev pub offset_of : List ℕ → ℤ → ℤ → ℕ
offset_of source line column = min (line_start source (unsigned_abs line) + unsigned_abs column) (length source)

-- The place of what the source doesn't write, or of the file as a whole.
abbrev pub no_place : Place
no_place = record { start = 0; end = 0; line = 0; column = 0 }

-- The place from one line and column up to another.
abbrev pub place_between : List ℕ → ℤ × ℤ → ℤ × ℤ → Place
place_between source start end =
    record { start = offset_of source start.0 start.1; end = offset_of source end.0 end.1; line = unsigned_abs start.0; column = unsigned_abs start.1 }

abbrev pub place_if : List ℕ → Option (ℤ × ℤ) → Option (ℤ × ℤ) → Place
place_if source (Some start) (Some end) = place_between source start end
place_if source _ _ = no_place

-- The place of a location.
abbrev pub place_of : List ℕ → Option Location → Place
place_of source None = no_place
place_of source (Some location) = place_if source (start_of location.span) (end_of location.span)

-- ---- parts of a file

-- The locations of a file, if it has any, are sorted by path.
abbrev pub IsSorted : FileDescriptorProto → Type 0
IsSorted file = MatchOption file.source_code_info ⊤ (λ info. AreByPath info.location)

-- The first of the locations with the first n numbers of the path; if there is none, with one number less, and so on.
abbrev pub nearest : List ℤ → ℕ → List Location → Option Location
nearest path zero locations = None
nearest path (suc n) locations = elim (first_at (take (suc n) path) locations) [ None ↦ nearest path n locations | Some location ↦ Some location ]

-- The location of the part that a path leads to, or of the innermost part around it that the source writes.
abbrev pub location_of : FileDescriptorProto → List ℤ → Option Location
location_of file path = option_and_then (λ info. nearest path (length path) info.location) file.source_code_info

abbrev pub place_in : List ℕ → FileDescriptorProto → List ℤ → Place
place_in source file path = place_of source (location_of file path)

-- ---- circles: the first file of a circle imports the next one

-- the second file of a circle; the first if there is no other
abbrev pub next_of : List ℕ → Option ℕ
next_of [] = None
next_of (file ∷ []) = Some file
next_of (file ∷ next ∷ more) = Some next

-- the index of the import of this name
abbrev pub index_of : FileDescriptorProto → List ℕ → Option ℕ
index_of file name = position (λ import. bytes_eq import name) file.dependency

-- the name of the next file of a circle
abbrev pub next_name : List FileDescriptorProto → List ℕ → Option (List ℕ)
next_name files circle = option_and_then (λ file. file.name) (option_and_then (slice_get files) (next_of circle))

-- the index of the import by which the file imports it
abbrev pub import_index : List FileDescriptorProto → FileDescriptorProto → List ℕ → Option ℕ
import_index files file circle = option_and_then (index_of file) (next_name files circle)

-- the place of an import
abbrev pub import_place : List ℕ → FileDescriptorProto → Option ℕ → Place
import_place source file None = no_place
import_place source file (Some index) = place_in source file (DEPENDENCY ∷ pos index ∷ [])

-- ---- faults

-- The number of the file at which a fault is told: its own; for a circle, the first of its files.
abbrev pub file_told : ℕ → LinkFaultKind → ℕ
file_told file (ImportCycle circle) = unwrap_or (slice_get circle.items 0) file
file_told file _ = file

-- The place in that file.
abbrev pub place_told : List FileDescriptorProto → List ℕ → FileDescriptorProto → List ℤ → LinkFaultKind → Place
place_told files source file path (ImportCycle circle) = import_place source file (import_index files file circle.items)
place_told files source file path _ = place_in source file path

abbrev pub place_if_there : List FileDescriptorProto → LinkFault → Option (List ℕ) → Option FileDescriptorProto → Place
place_if_there files fault (Some source) (Some file) = place_told files source file fault.path fault.kind
place_if_there files fault _ _ = no_place

-- The place at which a fault of these files, which have these sources, is told.
abbrev pub fault_place : List (List ℕ) → List FileDescriptorProto → LinkFault → Place
fault_place sources files fault =
    place_if_there files fault (slice_get sources (file_told fault.file fault.kind)) (slice_get files (file_told fault.file fault.kind))
