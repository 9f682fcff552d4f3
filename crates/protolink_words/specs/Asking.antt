-- What words without options ask for.
use Rattle.std.specs.Prelude.{ℕ, ◌≡◌, ◌≢◌, ◌<◌, ⊤, List, [], None, length, map, slice_index, string_bytes}
use Rattle.std.specs.declared.alloc.Global.{Global}
use Rattle.std.specs.declared.string.String.{String}
use Rattle.protolink_words.specs.declared.Asked.{Asked}
use Rattle.protolink_words.specs.declared.Asked.TheVariants.{Help, Version, Work, Wrong}
use Rattle.protolink_words.specs.declared.Work.{Work as WorkOn}

-- The text is a file's name, and no option: it isn't empty, and doesn't begin with a hyphen.
pub record IsName (text : List ℕ) : Type 0 where
  pub some : text ≢ []
  pub no_option : slice_index text 0 ≢ 45

abbrev pub IsNameWord : String Global → Type 0
IsNameWord word = IsName (string_bytes word)

abbrev pub names_of : WorkOn → List (List ℕ)
names_of work = map (λ name. name.now) work.files.items

-- Only that these files are linked: no folder is named, and nothing is to be written.
pub record IsPlain (names : List (List ℕ)) (work : WorkOn) : Type 0 where
  pub files : names_of work ≡ names
  pub folders : work.folders.items ≡ []
  pub set : work.set ≡ None
  pub dependencies : work.dependencies ≡ None

-- Work on no file is never asked for.
abbrev pub HasFiles : Asked → Type 0
HasFiles (Work work) = 0 < length work.files.items
HasFiles (Wrong wrong) = ⊤
HasFiles Help = ⊤
HasFiles Version = ⊤

abbrev pub IsPlainWork : List (List ℕ) → Asked → Type 0
IsPlainWork names (Work work) = IsPlain names work
IsPlainWork names (Wrong wrong) = names ≡ []
IsPlainWork names Help = ⊥
IsPlainWork names Version = ⊥
