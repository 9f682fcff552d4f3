-- What the words name.
use Rattle.std.specs.Prelude.{ℕ, ◌≡◌, List, [], map}
use Rattle.protoparse_words.specs.declared.listed.File.{File}
use Rattle.protoparse_words.specs.declared.listed.Said.{Said}
use Rattle.protoparse_words.specs.declared.listed.Said.TheVariants.{Help, Version, Files, NoFolder, Unknown}

abbrev pub file_path : File → List ℕ
file_path file = file.path.now

-- The files with these paths are named, and no folder.
abbrev pub IsListOf : List (List ℕ) → Said → Type 0
IsListOf paths (Files listed) = (map file_path listed.files.items ≡ paths) × (listed.folders.items ≡ [])
IsListOf paths Help = ⊥
IsListOf paths Version = ⊥
IsListOf paths (NoFolder word) = ⊥
IsListOf paths (Unknown word) = ⊥

-- No file is named.
abbrev pub IsEmptyList : Said → Type 0
IsEmptyList (Files listed) = listed.files.items ≡ []
IsEmptyList Help = ⊥
IsEmptyList Version = ⊥
IsEmptyList (NoFolder word) = ⊥
IsEmptyList (Unknown word) = ⊥
