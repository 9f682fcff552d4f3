use Rattle.std.proofs.Common.{◌≡◌, ◌+◌, ◌*◌, ◌++◌, length}
use Rattle.protox_grammar.specs.Class.{but, in_set}
use Rattle.protox_grammar.specs.Reader.{star, gathered}
use Rattle.protox_grammar.proofs.Lemmas.{star_notes}
use Rattle.protox_rows.specs.inner.Words.{times}
use Rattle.protox_declarations.specs.inner.Bodies as rule
use Rattle.protox_declarations.specs.inner.BodyWords as said
use Rattle.protox_declarations.proofs.bodies.+bodies.Given as goal

abbrev pub decreases-mbody : goal.decreases-mbody
decreases-mbody l = l.level * 15

abbrev pub decreases-group : goal.decreases-group
decreases-group l = l.level * 15 + 2

abbrev pub decreases-number_and_body : goal.decreases-number_and_body
decreases-number_and_body l = l.level * 15 + 1

abbrev pub decreases-message : goal.decreases-message
decreases-message l = l.level * 15 + 2

abbrev pub decreases-map_or_group : goal.decreases-map_or_group
decreases-map_or_group l = l.level * 15 + 3

abbrev pub decreases-map_or_group_field : goal.decreases-map_or_group_field
decreases-map_or_group_field l = l.level * 15 + 4

abbrev pub decreases-field_behind : goal.decreases-field_behind
decreases-field_behind l = l.level * 15 + 5

abbrev pub decreases-field : goal.decreases-field
decreases-field l = l.level * 15 + 6

abbrev pub decreases-oneof_element : goal.decreases-oneof_element
decreases-oneof_element l = l.level * 15 + 7

abbrev pub decreases-oneof_elements : goal.decreases-oneof_elements
decreases-oneof_elements l = l.level * 15 + 8

abbrev pub decreases-oneof : goal.decreases-oneof
decreases-oneof l = l.level * 15 + 9

abbrev pub decreases-extend_element : goal.decreases-extend_element
decreases-extend_element l = l.level * 15 + 7

abbrev pub decreases-extend_elements : goal.decreases-extend_elements
decreases-extend_elements l = l.level * 15 + 8

abbrev pub decreases-extend : goal.decreases-extend
decreases-extend l = l.level * 15 + 9

abbrev pub decreases-keyword_element : goal.decreases-keyword_element
decreases-keyword_element l = l.level * 15 + 10

abbrev pub decreases-add_keyword_element : goal.decreases-add_keyword_element
decreases-add_keyword_element l = l.level * 15 + 11

abbrev pub decreases-element : goal.decreases-element
decreases-element l = l.level * 15 + 12

abbrev pub decreases-elements : goal.decreases-elements
decreases-elements l = l.level * 15 + 13

abbrev pub decreases-braces : goal.decreases-braces
decreases-braces l = l.level * 15 + 14

abbrev pub invariant-elements-more : goal.invariant-elements-more
invariant-elements-more l = record {
  read : gathered rule.add_element l.inside (star (in_set (but 48)) (rule.element_at l.level) l.rows) ≡ rule.elements_at l.level l.fn.rows;
  notes : l.notes.items ++ star_notes (in_set (but 48)) (rule.element_at l.level) (rule.element_notes l.level) l.rows ≡ l.fn.notes.items ++ rule.elements_notes l.level l.fn.rows;
  words : times (in_set (but 48)) (rule.element_at l.level) (said.element_at l.level) l.rows ≡ said.elements_at l.level l.fn.rows;
}

abbrev pub decreases-elements-more : goal.decreases-elements-more
decreases-elements-more l = length l.rows

abbrev pub invariant-oneof_elements-oneof : goal.invariant-oneof_elements-oneof
invariant-oneof_elements-oneof l = record {
  read : gathered rule.add_oneof_element l.inside (star (in_set (but 48)) (rule.oneof_element_at l.level) l.rows) ≡ rule.oneof_elements_at l.level l.fn.rows;
  notes : l.notes.items ++ star_notes (in_set (but 48)) (rule.oneof_element_at l.level) (rule.oneof_element_notes l.level) l.rows ≡ l.fn.notes.items ++ rule.oneof_elements_notes l.level l.fn.rows;
  words : times (in_set (but 48)) (rule.oneof_element_at l.level) (said.oneof_element_at l.level) l.rows ≡ said.oneof_elements_at l.level l.fn.rows;
}

abbrev pub decreases-oneof_elements-oneof : goal.decreases-oneof_elements-oneof
decreases-oneof_elements-oneof l = length l.rows

abbrev pub invariant-extend_elements-extend : goal.invariant-extend_elements-extend
invariant-extend_elements-extend l = record {
  read : gathered rule.add_extend_element l.fields (star (in_set (but 48)) (rule.extend_element_at l.level) l.rows) ≡ rule.extend_elements_at l.level l.fn.rows;
  notes : l.notes.items ++ star_notes (in_set (but 48)) (rule.extend_element_at l.level) (rule.extend_element_notes l.level) l.rows ≡ l.fn.notes.items ++ rule.extend_elements_notes l.level l.fn.rows;
  words : times (in_set (but 48)) (rule.extend_element_at l.level) (said.extend_element_at l.level) l.rows ≡ said.extend_elements_at l.level l.fn.rows;
}

abbrev pub decreases-extend_elements-extend : goal.decreases-extend_elements-extend
decreases-extend_elements-extend l = length l.rows
