use Rattle.std.proofs.Common.{◌≡◌, ◌<◌, length}
use Rattle.protox_grammar.specs.Reader.{star, gathered}
use Rattle.protox_grammar.specs.Class.{only, in_set}
use Rattle.protox_grammar.specs.Token as token
use Rattle.protox_rows.specs.inner.Names.{more_part, fullident}
use Rattle.protox_rows.specs.inner.Reads.{push}
use Rattle.protox_rows.specs.inner.Words as words
use Rattle.protox_rows.proofs.names.fullident.Given as goal

abbrev pub invariant-more : goal.invariant-more
invariant-more l = record {
  read : gathered push l.parts (star (in_set (only token.dot)) (more_part).code l.rows) ≡ (fullident).code l.fn.rows;
  some : 0 < length l.parts;
  words : words.times (in_set (only token.dot)) (more_part).code words.more_part l.rows ≡ words.fullident l.fn.expected l.fn.rows;
}

abbrev pub decreases-more : goal.decreases-more
decreases-more l = length l.rows
