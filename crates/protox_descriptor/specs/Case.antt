-- Identifiers, and names in capitals. A text is the list of its bytes.
use Rattle.std.specs.Prelude.{ℕ, ◌==◌, ◌&&◌, ◌||◌, List, [], ◌∷◌, Bool, true, false, if◌then◌else◌}
use Rattle.std.specs.Char.{is_ascii_alphabetic, is_ascii_uppercase, is_ascii_alphanumeric, to_ascii_uppercase}
use Rattle.std.specs.List.{list_all}

-- Whether a byte is an ASCII letter, a digit or `_`.
abbrev pub is_ident_byte : ℕ → Bool
is_ident_byte byte = is_ascii_alphanumeric byte || byte == 95

-- Whether a text is an identifier: an ASCII letter or `_`, then letters, digits and `_`.
abbrev pub is_ident : List ℕ → Bool
is_ident [] = false
is_ident (first ∷ rest) = (is_ascii_alphabetic first || first == 95) && list_all is_ident_byte rest

-- Whether a text may name a group: an ASCII capital, then letters, digits and `_`.
abbrev pub is_group_name : List ℕ → Bool
is_group_name [] = false
is_group_name (first ∷ rest) = is_ascii_uppercase first && list_all is_ident_byte rest

-- The text without its `_`, with a capital for each byte right after a `_`. Where `raised` is true,
-- the first byte becomes a capital too.
abbrev pub pascal_case_from : Bool → List ℕ → List ℕ
pascal_case_from raised [] = []
pascal_case_from raised (byte ∷ rest) =
    if byte == 95
    then pascal_case_from true rest
    else (if raised then to_ascii_uppercase byte else byte) ∷ pascal_case_from false rest

-- `foo_bar` as `FooBar`: drops each `_`, and makes the first byte and each byte after a `_` a
-- capital.
abbrev pub pascal_case : List ℕ → List ℕ
pascal_case name = pascal_case_from true name
