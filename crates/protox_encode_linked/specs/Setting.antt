-- What the statements of options set in a file.
use Rattle.std.specs.Prelude.{ℕ, Bool, List, [], nat_eq}
use Rattle.std.specs.Cmp.Lexicographic.{pointwise}
use Rattle.std.specs.Map.{lookup}
use Rattle.std.specs.Option.{unwrap_or}

-- The place of a part of a file: numbers of fields, and indices in lists.
abbrev pub Path : Type 0
Path = List ℕ

-- Paths of options messages, each with the bytes that its statements set.
abbrev pub OptionsSet : Type 0
OptionsSet = List (Path × List ℕ)

-- Whether two paths are the same.
abbrev pub same_path : Path → Path → Bool
same_path path other = pointwise nat_eq path other

-- The bytes that are set at a path. Without any, there are none. If there are several, the first
-- ones count.
abbrev pub set_at : OptionsSet → Path → List ℕ
set_at set path = unwrap_or (lookup (same_path path) set) []
