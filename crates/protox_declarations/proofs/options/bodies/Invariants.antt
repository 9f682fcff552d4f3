use Rattle.std.proofs.Common.{◌≡◌, ◌++◌, length}
use Rattle.protox_grammar.specs.Class.{only, in_set}
use Rattle.protox_grammar.specs.Reader.{star, gathered}
use Rattle.protox_grammar.specs.Token as token
use Rattle.protox_grammar.proofs.Lemmas.{star_notes}
use Rattle.protox_rows.specs.inner.Reads.{push}
use Rattle.protox_declarations.specs.inner.Options.{more_body, bodies}
use Rattle.protox_declarations.proofs.options.bodies.Given as goal
use Rattle.protox_rows.specs.inner.Words as said
use Rattle.protox_declarations.specs.inner.OptionWords as words

abbrev pub invariant-more : goal.invariant-more
invariant-more l = record {
  read : gathered push l.bodies (star (in_set (only token.comma)) (more_body).code l.rows) ≡ (bodies).code l.fn.rows;
  notes : l.notes.items ++ star_notes (in_set (only token.comma)) (more_body).code (more_body).notes l.rows ≡ l.fn.notes.items ++ (bodies).notes l.fn.rows;
  words : said.times (in_set (only token.comma)) (more_body).code words.more_body l.rows ≡ words.bodies l.fn.rows;
}

abbrev pub decreases-more : goal.decreases-more
decreases-more l = length l.rows
