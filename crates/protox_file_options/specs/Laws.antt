-- What holds of the places of a file, whatever it declares.
use Rattle.std.specs.Prelude.{◌≢◌}
use Rattle.std.specs.List.{AllPairs}
use Rattle.protox_descriptor.specs.declared.descriptor.FileDescriptorProto.{FileDescriptorProto}
use Rattle.protox_file_options.specs.Places.{key_of, places_of}

-- No two places of a file have the same path.
abbrev pub PathsDiffer : Type 0
PathsDiffer = (file : FileDescriptorProto) → AllPairs (λ p q. key_of p ≢ key_of q) (places_of file)
