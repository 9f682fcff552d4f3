use Rattle.std.proofs.Common.{◌≡◌, length}
use Rattle.protox_grammar.specs.Class.{only, in_set}
use Rattle.protox_grammar.specs.Reader.{star, gathered}
use Rattle.protox_grammar.specs.Token as token
use Rattle.protox_rows.specs.inner.Strings.{more_string, string, strings}
use Rattle.protox_rows.specs.inner.Words as words
use Rattle.protox_rows.specs.declared.expected.Expected.TheVariants as expected
use Rattle.protox_rows.proofs.strings.strings.Given as goal

abbrev pub invariant-more : goal.invariant-more
invariant-more l = record {
  read : gathered more_string (l.value.items, l.span) (star (in_set (only token.a_string)) (string).code l.rows) ≡ (strings).code l.fn.rows;
  words : words.times (in_set (only token.a_string)) (string).code (words.always expected.StringLiteral) l.rows ≡ words.strings l.fn.expected l.fn.rows;
}

abbrev pub decreases-more : goal.decreases-more
decreases-more l = length l.rows
