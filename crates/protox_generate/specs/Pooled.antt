-- A file whose locations are in a pool.
use Rattle.std.specs.Prelude.{Some}
use Rattle.protox_descriptor.specs.declared.descriptor.FileDescriptorProto.{FileDescriptorProto}
use Rattle.protox_generate.specs.declared.draft.PooledFile.{PooledFile}

-- the descriptor with the locations of the pool
abbrev pub with_locations : PooledFile → FileDescriptorProto
with_locations pooled = record pooled.file { source_code_info = Some (record { location = pooled.locations }) }
