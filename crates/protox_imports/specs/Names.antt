-- Files by their names.
use Rattle.std.specs.Prelude.{ℕ, List, Option, Bool, false, position}
use Rattle.std.specs.Option.{option_map_or}
use Rattle.std.specs.Str.{bytes_eq}
use Rattle.protox_descriptor.specs.declared.descriptor.FileDescriptorProto.{FileDescriptorProto}

-- The file has this name.
abbrev pub is_named : List ℕ → FileDescriptorProto → Bool
is_named name file = option_map_or (λ own. bytes_eq own name) file.name false

-- the number of the first file of the set with this name, from 0
abbrev pub number_of : List FileDescriptorProto → List ℕ → Option ℕ
number_of set name = position (is_named name) set
