-- How a text is shown: on one line, without characters that a terminal obeys.
use Rattle.std.specs.Prelude.{ℕ, ◌==◌, List, ◌++◌, codes, replicate, length, chars, Option, Some, None, if◌then◌else◌}
use Rattle.std.specs.Char.{encode_utf8}
use Rattle.std.specs.Fmt.{digits}
use Rattle.std.specs.List.{flat_map}
use Rattle.std.specs.Prelude.{false}
use Rattle.unicode_width.specs.Width.{char_width}

-- The columns of a character in a terminal. None for a character that takes no column: a control
-- character, one that turns the direction of the text, or one that joins the character before it.
abbrev pub own_columns : ℕ → Option ℕ
own_columns c = elim (char_width false c) [ None ↦ None | Some n ↦ if n == 0 then None else Some n ]

-- What stands for a character that takes no column: four blanks for a tab, and for any other its
-- number, as in `\u{1b}`.
abbrev pub in_place : ℕ → List ℕ
in_place c = if c == 9 then codes "    " else codes "\\u{" ++ (digits 16 false c ++ codes "}")

-- a character as it is shown
abbrev pub shown_character : ℕ → List ℕ
shown_character c = elim (own_columns c) [ None ↦ in_place c | Some n ↦ encode_utf8 c ]

-- a text as it is shown
abbrev pub shown : List ℕ → List ℕ
shown text = flat_map shown_character (chars text)

-- the columns that a character takes as it is shown
abbrev pub columns : ℕ → ℕ
columns c = elim (own_columns c) [ None ↦ length (in_place c) | Some n ↦ n ]

-- `mark`, once for each column that the text takes as it is shown
abbrev pub under : ℕ → List ℕ → List ℕ
under mark text = flat_map (λ c. replicate (columns c) mark) (chars text)
