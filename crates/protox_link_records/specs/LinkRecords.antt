-- How what is wrong with the files of a list stands as bytes: a record for each fault of syntax, or for each error of linking.
use Rattle.std.specs.Prelude.{ℕ, Bool, List, [], ◌∷◌, ◌++◌, map}
use Rattle.std.specs.List.{flat_map}
use Rattle.protox_descriptor.specs.declared.descriptor.FileDescriptorProto.{FileDescriptorProto}
use Rattle.protox_fault.specs.declared.error.ParseErrorKind.{ParseErrorKind}
use Rattle.protox_link.specs.Seen.{IsSeenBy}
use Rattle.protox_link_fault.specs.declared.LinkFault.{LinkFault}
use Rattle.protox_link_records.specs.Kinds.{kind_of}
use Rattle.protox_link_records.specs.LinkPlaces.{fault_place, file_told}
use Rattle.protox_link_records.specs.declared.places.Place.{Place}
use Rattle.protox_link_records.specs.declared.source.SourceFile.{SourceFile}
use Rattle.protox_link_text.specs.Errors.{text_of}
use Rattle.protox_link_text.specs.Told.{errors_of}
use Rattle.protox_link_text.specs.declared.error.LinkError.{LinkError}
use Rattle.protox_records.specs.Records.{counted, number, record_of}
use Rattle.protox_symbols.specs.Things.{table_of}

-- the texts of the files
abbrev pub texts : List SourceFile → List (List ℕ)
texts files = map (λ file. file.source.now) files

-- ---- syntax

-- The record of a fault of the file with this number.
abbrev pub syntax_record : ℕ → List ℕ → ParseErrorKind → List ℕ
syntax_record file source fault = number file ++ record_of source fault

abbrev pub syntax_records : ℕ → List ℕ → List ParseErrorKind → List ℕ
syntax_records file source faults = flat_map (syntax_record file source) faults

-- ---- linking

-- a place: the offsets in bytes of its start and of its end, then line and column of its start
abbrev pub place_bytes : Place → List ℕ
place_bytes place = (number place.start ++ number place.end) ++ (number place.line ++ number place.column)

-- A record: the number of the file, that of the kind, the place, and a text that says what is wrong. There is no label, no help and no second place.
abbrev pub record_with : ℕ → ℕ → Place → List ℕ → List ℕ
record_with file kind place text = number file ++ (number kind ++ (place_bytes place ++ (counted text ++ (counted [] ++ (counted [] ++ number 0)))))

-- The record of an error.
abbrev pub error_record : ℕ → Place → LinkError → List ℕ
error_record file place error = record_with file (kind_of error) place (text_of error)

-- The records of what is told of a fault of these files, which have these sources. Its file sees this of them.
abbrev pub fault_records : List (List ℕ) → List FileDescriptorProto → List Bool → List Bool → LinkFault → List ℕ
fault_records sources files sees packages fault =
    flat_map (error_record (file_told fault.file fault.kind) (fault_place sources files fault)) (errors_of files (table_of files) sees packages fault)

-- The bytes are the records of these faults, in order.
pub data AreTold (sources : List (List ℕ)) (files : List FileDescriptorProto) : List LinkFault → List ℕ → Type 0 where
  NoFault : AreTold sources files [] []
  OneMore : (faults : List LinkFault) (bytes : List ℕ) (fault : LinkFault) (sees packages : List Bool) → AreTold sources files faults bytes
      → IsSeenBy files fault.file sees packages
      → AreTold sources files (faults ++ fault ∷ []) (bytes ++ fault_records sources files sees packages fault)
