-- What contracts see of a lexer.
use Rattle.std.specs.Prelude.{drop}
use Rattle.protox_lexeme.specs.declared.lexer.Lexer.TheInside.{Inside}
use Rattle.protox_lexeme.specs.Lexemes.{cut}
use Rattle.protox_lexeme.specs.State.{State}

-- The state of a lexer that has read everything before `at`.
abbrev pub state_of : Inside → State
state_of a = record {
  source = a.source.now;
  left = cut a.at (drop a.at a.source.now);
  start = a.start;
  stop = a.stop;
  errors = a.errors.items;
  text_format = a.text_format;
  failed = a.failed;
}
