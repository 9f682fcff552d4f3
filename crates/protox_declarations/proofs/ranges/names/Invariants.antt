use Rattle.std.proofs.Common.{◌≡◌, ◌++◌, length}
use Rattle.protox_grammar.specs.Class.{only, in_set}
use Rattle.protox_grammar.specs.Reader.{star, gathered}
use Rattle.protox_grammar.specs.Token as token
use Rattle.protox_grammar.proofs.Lemmas.{star_notes}
use Rattle.protox_rows.specs.inner.Reads.{push}
use Rattle.protox_declarations.specs.inner.Ranges as rule
use Rattle.protox_declarations.proofs.ranges.names.Given as goal
use Rattle.protox_rows.specs.inner.Words as said
use Rattle.protox_declarations.specs.inner.BlockWords as words

abbrev pub invariant-more : goal.invariant-more
invariant-more l = record {
  read : gathered push l.names (star (in_set (only token.comma)) (rule.more_name).code l.rows) ≡ (rule.names).code l.fn.rows;
  notes : l.notes.items ++ star_notes (in_set (only token.comma)) (rule.more_name).code (rule.more_name).notes l.rows ≡ l.fn.notes.items ++ (rule.names).notes l.fn.rows;
  words : said.times (in_set (only token.comma)) (rule.more_name).code words.more_name l.rows ≡ words.names_of l.fn.rows;
}

abbrev pub decreases-more : goal.decreases-more
decreases-more l = length l.rows
