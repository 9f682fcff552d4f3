-- What is known of a list of files before they are linked.
use Rattle.std.specs.Prelude.{◌≡◌, ⊤, List, MatchOption}
use Rattle.protox_descriptor.specs.declared.descriptor.FileDescriptorProto.{FileDescriptorProto}
use Rattle.protox_imports.specs.Passing.{AreRows}
use Rattle.protox_imports.specs.Rows.{rows_of}
use Rattle.protox_link.specs.Seen.{packages_of}
use Rattle.protox_link.specs.declared.known.Known.{Known}
use Rattle.protox_symbols.specs.Things.{table_of}
use Rattle.protox_views.specs.FilesOf.{AreFilesOf}

-- what each file passes on is known, unless files import one another in a circle
abbrev pub HasRows : Known → Type 0
HasRows known = MatchOption known.passes ⊤ (AreRows known.imports.files)

pub record IsKnownOf (files : List FileDescriptorProto) (known : Known) : Type 0 where
  pub rows : known.imports.files ≡ rows_of files
  pub table : known.symbols ≡ table_of files
  pub passes : HasRows known
  pub packages : AreFilesOf (table_of files).names (packages_of (table_of files) files) known.packages
