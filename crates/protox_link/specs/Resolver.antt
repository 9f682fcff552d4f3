-- What the names in one file stand for.
use Rattle.std.specs.Prelude.{◌≡◌, ℕ, List, length}
use Rattle.protox_descriptor.specs.declared.descriptor.FileDescriptorProto.{FileDescriptorProto}
use Rattle.protox_link.specs.Seen.{IsSeenBy}
use Rattle.protox_link.specs.declared.resolver.FileNames.{FileNames}
use Rattle.protox_symbols.specs.Things.{table_of}
use Rattle.protox_views.specs.FilesOf.{seen_packages}

-- These are the table of the files, and the marks of what the file with this number sees of it: one for
-- each file, and one for each number of the table.
pub record IsOfFile (files : List FileDescriptorProto) (number : ℕ) (names : FileNames) : Type 0 where
  pub table : names.symbols.now ≡ table_of files
  pub seen : IsSeenBy files number names.sees (seen_packages names.sees names.packages.now)
  pub as_many : length (seen_packages names.sees names.packages.now) ≡ length (table_of files).names.full_names
