use Rattle.std.proofs.Common.{◌≡◌, ◌++◌, length}
use Rattle.protox_grammar.specs.Class.{but, in_set}
use Rattle.protox_grammar.specs.Reader.{star, gathered}
use Rattle.protox_grammar.proofs.Lemmas.{star_notes}
use Rattle.protox_declarations.specs.inner.Enums as rule
use Rattle.protox_declarations.proofs.enums.enum_elements.Given as goal
use Rattle.protox_rows.specs.inner.Words as said
use Rattle.protox_declarations.specs.inner.BlockWords as words

abbrev pub invariant-more : goal.invariant-more
invariant-more l = record {
  read : gathered rule.add l.parts (star (in_set (but 48)) (rule.enum_element).code l.rows) ≡ (rule.enum_elements).code l.fn.rows;
  notes : l.notes.items ++ star_notes (in_set (but 48)) (rule.enum_element).code (rule.enum_element).notes l.rows ≡ l.fn.notes.items ++ (rule.enum_elements).notes l.fn.rows;
  words : said.times (in_set (but 48)) (rule.enum_element).code words.enum_element l.rows ≡ words.enum_elements l.fn.rows;
}

abbrev pub decreases-more : goal.decreases-more
decreases-more l = length l.rows
