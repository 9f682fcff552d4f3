-- Files that get their names.
use Rattle.std.specs.Prelude.{ℕ, ◌≡◌, ◌<◌, List, All, length, map}
use Rattle.protoparse_words.specs.Asking.{IsNamedTask, path_of}
use Rattle.protoparse_words.specs.Listing.{file_path}
use Rattle.protoparse_words.specs.declared.Named.{Named}
use Rattle.protoparse_words.specs.declared.Named.TheVariants.{Tasks, Outside}
use Rattle.protoparse_words.specs.declared.listed.File.{File}

-- There is a task for each of the files, with its name; or a file lies outside the folders, of which there are some.
abbrev pub IsNaming : List (List ℕ) → List File → Named → Type 0
IsNaming folders files (Tasks tasks) = (map path_of tasks.items ≡ map file_path files) × All (IsNamedTask folders) tasks.items
IsNaming folders files (Outside path) = 0 < length folders
