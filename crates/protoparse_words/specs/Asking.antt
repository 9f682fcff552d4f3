-- What the words ask for: work on which files, and what these are called.
use Rattle.std.specs.Prelude.{ℕ, ◌≡◌, ◌≢◌, ◌<◌, List, [], All, length, map, slice_index, codes, string_bytes}
use Rattle.std.specs.declared.alloc.Global.{Global}
use Rattle.std.specs.declared.string.String.{String}
use Rattle.protoparse_words.specs.Names.{IsNameIn, texts}
use Rattle.protoparse_words.specs.declared.Asked.{Asked}
use Rattle.protoparse_words.specs.declared.Asked.TheVariants.{Help, Version, Work, Nothing, NoFolder, Outside, Unknown}
use Rattle.protoparse_words.specs.declared.Task.{Task}

-- A word is a file's name, and no option: it doesn't begin with a hyphen.
abbrev pub IsName : String Global → Type 0
IsName word = slice_index (string_bytes word) 0 ≢ 45

-- The name of a file in its descriptor: `<stdin>` for `-`. Of each other it is the path where there are no folders, and else the name in the first folder that holds the path.
pub record IsNamed (folders : List (List ℕ)) (path name : List ℕ) : Type 0 where
  pub standard_input : path ≡ codes "-" → name ≡ codes "<stdin>"
  pub alone : path ≢ codes "-" → length folders ≡ 0 → name ≡ path
  pub in_folder : path ≢ codes "-" → 0 < length folders → IsNameIn path folders name

abbrev pub IsNamedTask : List (List ℕ) → Task → Type 0
IsNamedTask folders task = IsNamed folders task.path.now (string_bytes task.name)

-- Each file of the work is named so.
abbrev pub AreNamed : Asked → Type 0
AreNamed (Work work) = All (IsNamedTask (texts work.folders.items)) work.tasks.items
AreNamed Help = Unit {0}
AreNamed Version = Unit {0}
AreNamed Nothing = Unit {0}
AreNamed (NoFolder word) = Unit {0}
AreNamed (Outside path) = Unit {0}
AreNamed (Unknown word) = Unit {0}

abbrev pub path_of : Task → List ℕ
path_of task = task.path.now

-- Nothing is asked for but work on the files with these paths, in their order, and no folder is
-- named. Where there is no file, nothing is asked for.
abbrev pub IsWorkOn : List (List ℕ) → Asked → Type 0
IsWorkOn paths (Work work) = (map path_of work.tasks.items ≡ paths) × (work.folders.items ≡ [])
IsWorkOn paths Nothing = paths ≡ []
IsWorkOn paths Help = ⊥
IsWorkOn paths Version = ⊥
IsWorkOn paths (NoFolder word) = ⊥
IsWorkOn paths (Outside path) = ⊥
IsWorkOn paths (Unknown word) = ⊥
