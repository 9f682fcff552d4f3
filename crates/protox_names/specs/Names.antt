-- What a name is made of: parts, with a dot between each two.
use Rattle.std.specs.Prelude.{ℕ, ◌==◌, Bool, not, ◌&&◌, ◌||◌, List, [], ◌∷◌, ◌++◌, length, map, slice_index, if◌then◌else◌}
use Rattle.std.specs.Char.{is_ascii_alphanumeric}
use Rattle.std.specs.List.{before_first, join_with_byte, list_all, list_any, slice_split}

abbrev pub is_dot : ℕ → Bool
is_dot byte = byte == 46

-- a letter, a digit or `_`
abbrev pub is_identifier_byte : ℕ → Bool
is_identifier_byte byte = is_ascii_alphanumeric byte || byte == 95

-- At least one character, each of them a letter, a digit or `_`. It may begin with a digit: so
-- does protoc test the name of what is declared.
abbrev pub is_identifier : List ℕ → Bool
is_identifier name = not (length name == 0) && list_all is_identifier_byte name

-- ---- parts

-- what stands between the dots of a name
abbrev pub parts : List ℕ → List (List ℕ)
parts name = slice_split is_dot name

-- the name that has these parts: a dot stands between each two
abbrev pub joined : List (List ℕ) → List ℕ
joined pieces = join_with_byte 46 pieces

-- the first part: what stands before the first dot, or all of a name that has no dot
abbrev pub front : List ℕ → List ℕ
front name = before_first is_dot name

-- it has no dot
abbrev pub is_one_part : List ℕ → Bool
is_one_part name = not (list_any is_dot name)

-- it begins with a dot
abbrev pub is_absolute : List ℕ → Bool
is_absolute name = slice_index name 0 == 46

-- ---- scopes

-- The full name of what has this name in a scope: a dot stands between the two. In the nameless
-- scope it is the name alone.
abbrev pub within : List ℕ → List ℕ → List ℕ
within [] name = name
within (byte ∷ scope) name = (byte ∷ scope) ++ 46 ∷ name

-- The scopes around what has this full name, from the inside out, without the nameless one: what
-- stands before each of its dots. Of `a.b.c` these are `a.b` and `a`.
abbrev pub scopes : List ℕ → List (List ℕ)
scopes [] = []
scopes (byte ∷ rest) =
    map (λ scope. byte ∷ scope) (scopes rest) ++ (if is_dot byte then [] ∷ [] else [])
