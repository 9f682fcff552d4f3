-- The bytes of a linked set.
use Rattle.std.specs.Prelude.{ℕ, List, [], ◌∷◌, Some, None, slice_get}
use Rattle.std.specs.List.{flat_map}
use Rattle.protox_descriptor.specs.declared.descriptor.FileDescriptorProto.{FileDescriptorProto}
use Rattle.protox_encode.specs.Messages.{file_set}
use Rattle.protox_encode.specs.Wire.{message}
use Rattle.protox_link.specs.declared.set.LinkedSet.{LinkedSet}

-- the file with a number, if there is one
abbrev pub file_at : List FileDescriptorProto → ℕ → List FileDescriptorProto
file_at files number = elim (slice_get files number) as (λ _. List FileDescriptorProto) [ None ↦ [] | Some file ↦ file ∷ [] ]

-- the files with these numbers, in this order
abbrev pub in_order : List FileDescriptorProto → List ℕ → List FileDescriptorProto
in_order files order = flat_map (file_at files) order

-- the bytes of a `FileDescriptorSet` of these files, in order
abbrev pub bytes_of : List FileDescriptorProto → List ℕ
bytes_of files = message (file_set files)

-- the files of a linked set, in its order
abbrev pub files_of : LinkedSet → List FileDescriptorProto
files_of set = in_order set.files.items set.order.items
