use Rattle.std.proofs.Common.{◌≡◌, ◌++◌, length}
use Rattle.protox_grammar.specs.Class.{but, in_set}
use Rattle.protox_grammar.specs.Reader.{star, gathered}
use Rattle.protox_grammar.proofs.Lemmas.{star_notes}
use Rattle.protox_declarations.specs.inner.Services as rule
use Rattle.protox_declarations.proofs.services.rpc_elements.Given as goal
use Rattle.protox_rows.specs.inner.Words as said
use Rattle.protox_declarations.specs.inner.BlockWords as words

abbrev pub invariant-more : goal.invariant-more
invariant-more l = record {
  read : gathered rule.add_option l.options (star (in_set (but 48)) (rule.rpc_element).code l.rows) ≡ (rule.rpc_elements).code l.fn.rows;
  notes : l.notes.items ++ star_notes (in_set (but 48)) (rule.rpc_element).code (rule.rpc_element).notes l.rows ≡ l.fn.notes.items ++ (rule.rpc_elements).notes l.fn.rows;
  words : said.times (in_set (but 48)) (rule.rpc_element).code words.rpc_element l.rows ≡ words.rpc_elements l.fn.rows;
}

abbrev pub decreases-more : goal.decreases-more
decreases-more l = length l.rows
