-- What contracts see of a lexeme that the code has read.
use Rattle.std.specs.Prelude.{ℕ}
use Rattle.protox_lexeme.specs.declared.found.Found.{Found}
use Rattle.protox_lexeme.specs.Lexemes.{Lexeme}
use Rattle.protox_lexeme.specs.Tokens.{shape_of_result, borrowed_of_result}

-- The lexeme, which begins at `start`.
abbrev pub lexeme_of : ℕ → Found → Lexeme
lexeme_of start f = record {
  start = start;
  stop = f.stop;
  shape = shape_of_result f.token;
  borrowed = borrowed_of_result f.token;
  faults = f.faults.items;
}
