use Rattle.std.proofs.Common.{◌≡◌, length}
use Rattle.protox_grammar.specs.Class.{only, in_set}
use Rattle.protox_grammar.specs.Reader.{star, gathered}
use Rattle.protox_grammar.specs.Token as token
use Rattle.protox_rows.specs.inner.Reads.{push}
use Rattle.protox_declarations.specs.inner.Ranges as rule
use Rattle.protox_declarations.proofs.ranges.ranges.Given as goal
use Rattle.protox_rows.specs.inner.Words as said
use Rattle.protox_declarations.specs.inner.BlockWords as words

abbrev pub invariant-more : goal.invariant-more
invariant-more l = record {
  read : gathered push l.ranges (star (in_set (only token.comma)) (rule.more_range).code l.rows) ≡ (rule.ranges).code l.fn.rows;
  words : said.times (in_set (only token.comma)) (rule.more_range).code words.more_range l.rows ≡ words.ranges l.fn.rows;
}

abbrev pub decreases-more : goal.decreases-more
decreases-more l = length l.rows
