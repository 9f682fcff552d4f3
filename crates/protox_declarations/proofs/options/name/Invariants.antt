use Rattle.std.proofs.Common.{◌≡◌, length}
use Rattle.protox_grammar.specs.Class.{only, in_set}
use Rattle.protox_grammar.specs.Reader.{star, gathered}
use Rattle.protox_grammar.specs.Token as token
use Rattle.protox_rows.specs.inner.Reads.{push}
use Rattle.protox_declarations.specs.inner.Options.{more_part, name}
use Rattle.protox_declarations.proofs.options.name.Given as goal
use Rattle.protox_rows.specs.inner.Words as said
use Rattle.protox_declarations.specs.inner.OptionWords as words

abbrev pub invariant-more : goal.invariant-more
invariant-more l = record {
  read : gathered push l.parts (star (in_set (only token.dot)) (more_part).code l.rows) ≡ (name).code l.fn.rows;
  words : said.times (in_set (only token.dot)) (more_part).code words.more_part l.rows ≡ words.name l.fn.rows;
}

abbrev pub decreases-more : goal.decreases-more
decreases-more l = length l.rows
