-- Which paths lie in a folder, and what they are called there.
use Rattle.std.specs.Prelude.{ℕ, ◌≡◌, ◌<◌, ◌==◌, Bool, true, not, ◌&&◌, List, [], ◌++◌, All, filter, length, map, take, slice_index, slice_index_or, codes}
use Rattle.std.specs.Borrow.{Bor}
use Rattle.std.specs.List.{slice_split, join_with_byte, list_all}
use Rattle.std.specs.Str.{bytes_eq}

-- what each of the references lends
abbrev pub texts : List (Bor (List ℕ)) → List (List ℕ)
texts lent = map (λ (text : Bor (List ℕ)). text.now) lent

-- it is neither empty nor `.`
abbrev pub is_part : List ℕ → Bool
is_part piece = not (length piece == 0) && not (bytes_eq piece (codes "."))

-- The parts of a path: what stands between its slashes, but for what is empty, and `.`.
abbrev pub parts_of : List ℕ → List (List ℕ)
parts_of path = filter is_part (slice_split (λ byte. byte == 47) path)

-- it begins with a slash
abbrev pub is_absolute : List ℕ → Bool
is_absolute path = slice_index path 0 == 47

-- there are parts, and none of them is `..`
abbrev pub is_name : List (List ℕ) → Bool
is_name parts = not (length parts == 0) && list_all (λ part. not (bytes_eq part (codes ".."))) parts

-- The parts are those of a folder, and then others that are a name; it is spelled with a slash between each two.
pub record IsNameBehind (parts above : List (List ℕ)) (name : List ℕ) : Type 0 where
  pub rest : List (List ℕ)
  pub follows : parts ≡ above ++ rest
  pub names : is_name rest ≡ true
  pub spelled : name ≡ join_with_byte 47 rest

-- In the folder the path has this name: both begin with a slash or neither does, and so do their parts.
pub record IsNameUnder (path folder name : List ℕ) : Type 0 where
  pub same_start : is_absolute path ≡ is_absolute folder
  pub behind : IsNameBehind (parts_of path) (parts_of folder) name

-- It has no name there.
abbrev pub IsOutside : List ℕ → List ℕ → Type 0
IsOutside path folder = (name : List ℕ) → IsNameUnder path folder name → ⊥

-- It has this name in one of the folders, and none in those before it.
pub record IsNameIn (path : List ℕ) (folders : List (List ℕ)) (name : List ℕ) : Type 0 where
  pub index : ℕ
  pub within : index < length folders
  pub named : IsNameUnder path (slice_index_or folders index []) name
  pub first : All (IsOutside path) (take index folders)
