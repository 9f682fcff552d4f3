-- The records of what options ask of what has them.
use Rattle.std.specs.Prelude.{ℕ, List, Option, Some, slice_get}
use Rattle.std.specs.List.{flat_map}
use Rattle.protox_descriptor.specs.declared.descriptor.FileDescriptorProto.{FileDescriptorProto}
use Rattle.protox_link_records.specs.LinkPlaces.{no_place, place_in}
use Rattle.protox_link_records.specs.LinkRecords.{record_with}
use Rattle.protox_link_records.specs.declared.places.Place.{Place}
use Rattle.protox_option_checks.specs.Texts.{check_text}
use Rattle.protox_option_checks.specs.declared.fault.CheckFault.{CheckFault}
use Rattle.protox_option_records.specs.OptionKinds.{check_kind}
use Rattle.protox_symbols.specs.Symbols.{Table}

abbrev pub place_if_there : CheckFault → Option (List ℕ) → Option FileDescriptorProto → Place
place_if_there fault (Some source) (Some file) = place_in source file fault.path
place_if_there fault _ _ = no_place

-- the place at which a fault of these files, which have these sources, is told
abbrev pub check_place : List (List ℕ) → List FileDescriptorProto → CheckFault → Place
check_place sources files fault = place_if_there fault (slice_get sources fault.file) (slice_get files fault.file)

abbrev pub check_record : List (List ℕ) → List FileDescriptorProto → Table → CheckFault → List ℕ
check_record sources files table fault =
    record_with fault.file (check_kind fault.kind) (check_place sources files fault) (check_text table files fault.kind)

abbrev pub check_records : List (List ℕ) → List FileDescriptorProto → Table → List CheckFault → List ℕ
check_records sources files table faults = flat_map (check_record sources files table) faults
