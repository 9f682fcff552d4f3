-- The text of a block comment, written character by character.
use Rattle.std.specs.Prelude.{ℕ, Bool, true, false, List, ◌∷◌, ◌++◌, encode_utf8_all}
use Rattle.std.specs.String.{string_bytes}
use Rattle.protox_lexeme.specs.declared.comment_text.Kept.{Kept}
use Rattle.protox_lexeme.specs.BlockComments.{without_margins, without_returns}

-- The characters, with the carriage return that is held back in front of them.
abbrev pub behind_held : Bool → List ℕ → List ℕ
behind_held true cs = 13 ∷ cs
behind_held false cs = cs

-- The text so far, and then these characters.
abbrev pub after : List ℕ → Bool → List ℕ → List ℕ
after text held cs = text ++ encode_utf8_all (without_returns (behind_held held cs))

-- The whole text, if these characters are still to come.
abbrev pub finished : Kept → List ℕ → List ℕ
finished k cs = after (string_bytes k.text) k.held (without_margins k.fresh cs)
