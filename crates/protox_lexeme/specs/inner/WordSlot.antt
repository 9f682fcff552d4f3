-- Where a keyword is looked up.
use Rattle.std.specs.Prelude.{ℕ, List, ◌+◌, ◌*◌, ◌-◌, ◌/◌, ◌%◌, length, slice_index, slice_index_or}
use Rattle.protox_lexeme.specs.declared.class.TheConstants.{KEYWORD_AT}

-- The slot of a word in the table of keywords.
abbrev pub word_slot : List ℕ → ℕ
word_slot w = (slice_index w 0 + slice_index w (length w / 2) * 2 + slice_index w (length w - 1) * 5 + length w % 128) % 128

-- The entry of the table in the slot of the word.
abbrev pub candidate : List ℕ → ℕ
candidate w = slice_index_or KEYWORD_AT (word_slot w) 0
