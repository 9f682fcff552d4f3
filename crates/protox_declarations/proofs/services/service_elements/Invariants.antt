use Rattle.std.proofs.Common.{◌≡◌, ◌++◌, length}
use Rattle.protox_grammar.specs.Class.{but, in_set}
use Rattle.protox_grammar.specs.Reader.{star, gathered}
use Rattle.protox_grammar.proofs.Lemmas.{star_notes}
use Rattle.protox_declarations.specs.inner.Services as rule
use Rattle.protox_declarations.proofs.services.service_elements.Given as goal
use Rattle.protox_rows.specs.inner.Words as said
use Rattle.protox_declarations.specs.inner.BlockWords as words

abbrev pub invariant-more : goal.invariant-more
invariant-more l = record {
  read : gathered rule.add l.parts (star (in_set (but 48)) (rule.service_element).code l.rows) ≡ (rule.service_elements).code l.fn.rows;
  notes : l.notes.items ++ star_notes (in_set (but 48)) (rule.service_element).code (rule.service_element).notes l.rows ≡ l.fn.notes.items ++ (rule.service_elements).notes l.fn.rows;
  words : said.times (in_set (but 48)) (rule.service_element).code words.service_element l.rows ≡ words.service_elements l.fn.rows;
}

abbrev pub decreases-more : goal.decreases-more
decreases-more l = length l.rows
