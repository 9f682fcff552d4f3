-- Names that are spelled in another way.
use Rattle.std.specs.Prelude.{ℕ, ◌==◌, Bool, not, List, [], ◌∷◌, ◌++◌, filter, map}
use Rattle.std.specs.Char.{to_ascii_lowercase, to_ascii_uppercase}
use Rattle.std.specs.List.{flat_map, slice_split}

abbrev pub is_underscore : ℕ → Bool
is_underscore byte = byte == 95

-- with a capital in front, if it begins with a small letter of ASCII
abbrev pub capitalized : List ℕ → List ℕ
capitalized [] = []
capitalized (byte ∷ rest) = to_ascii_uppercase byte ∷ rest

-- the first piece as it is, and the others with a capital in front, all in a row
abbrev pub in_camel_case : List (List ℕ) → List ℕ
in_camel_case [] = []
in_camel_case (first ∷ others) = first ++ flat_map capitalized others

-- What a field is called in JSON, if its options don't say: each `_` is dropped, and what stands
-- behind it begins with a capital.
abbrev pub json_name : List ℕ → List ℕ
json_name name = in_camel_case (slice_split is_underscore name)

-- in small letters, and without its `_`
abbrev pub without_case : List ℕ → List ℕ
without_case name = map to_ascii_lowercase (filter (λ byte. not (is_underscore byte)) name)
