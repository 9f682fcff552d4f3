-- Files whose locations are in a pool.
use Rattle.std.specs.Prelude.{◌≡◌, List, Option, Some}
use Rattle.protox_descriptor.specs.Location.{Location}
use Rattle.protox_descriptor.specs.declared.descriptor.FileDescriptorProto.{FileDescriptorProto}
use Rattle.protox_descriptor.specs.declared.descriptor.SourceCodeInfo.{SourceCodeInfo}
use Rattle.protox_encode.specs.Messages.{source_code_info}
use Rattle.protox_encode.specs.Payloads.{nested}
use Rattle.protox_encode.specs.Wire.{Parts}

-- the descriptor with these locations
abbrev pub with_pool : FileDescriptorProto → List Location → FileDescriptorProto
with_pool file locations = record file { source_code_info = Some (record { location = locations }) }

-- What holds the locations of a file is written as these are.
abbrev pub IsSpelledAs : {L : Type 0} → (L → Parts) → Option L → Option SourceCodeInfo → Type 0
IsSpelledAs parts locations info = nested parts locations ≡ nested source_code_info info
