use Rattle.protox_lexeme.proofs.Boundaries.{char_boundary}
use Rattle.protox_lexeme.proofs.found.first_char_len.Goals as goal

pub returns-in-Some-clause-boundary : goal.returns-in-Some-clause-boundary
returns-in-Some-clause-boundary c =
    char_boundary c.args.text.now c.chars.result.rest.now c.next.new.self.rest.now c.in-Some.c c.len_utf8.result c.utf8.text c.chars.ensures.rest c.in-Some.ensures.steps.0 c.len_utf8.ensures.value
