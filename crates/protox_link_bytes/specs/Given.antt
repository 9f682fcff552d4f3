-- The files that a caller gives.
use Rattle.std.specs.Prelude.{ℕ, List, map}
use Rattle.protox_link_records.specs.declared.source.SourceFile.{SourceFile}

-- A file by its name and its source, both texts as bytes.
pub record GivenFile : Type 0 where
  pub name : List ℕ
  pub source : List ℕ

-- the files that the code has
abbrev pub given_file : SourceFile → GivenFile
given_file file = record { name = file.name.now; source = file.source.now }

abbrev pub given : List SourceFile → List GivenFile
given files = map given_file files

-- the texts of the files
abbrev pub texts : List GivenFile → List (List ℕ)
texts files = map (λ file. file.source) files
