use Rattle.std.proofs.Common.{◌≡◌, ◌+◌, ◌-◌, ◌≤◌, length, drop, get_or}
use Rattle.protox_lexeme.specs.Pieces.{reading_of, finished}
use Rattle.protox_lexeme.specs.Lexemes as lexemes
use Rattle.protox_lexeme.specs.Strings as spec
use Rattle.protox_lexeme.proofs.string.read_literal.Given as goal

abbrev pub invariant-pieces : goal.invariant-pieces
invariant-pieces l = record {
  low : 1 ≤ l.at;
  high : l.at ≤ length l.bytes;
  whole : finished l.start (reading_of l.reader) (l.start + l.at) (spec.pieces (get_or l.bytes 0 0) (drop l.at l.bytes)) ≡ lexemes.string l.start l.bytes;
}

abbrev pub decreases-pieces : goal.decreases-pieces
decreases-pieces l = length l.bytes - l.at
