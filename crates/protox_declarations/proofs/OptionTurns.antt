-- The parts of names and lists of options take a row each.
use Rattle.std.proofs.Common.{refl}
use Rattle.protox_ast.specs.Spelling as s
use Rattle.protox_grammar.specs.Reader.{Consumes}
use Rattle.protox_grammar.specs.Rules as r
use Rattle.protox_grammar.proofs.Lemmas.{mark-laws, seq-laws, shows-eats}
use Rattle.protox_grammar.proofs.Lemmas as options
use Rattle.protox_declarations.specs.inner.Options.{here, more_part, more_body}

pub more_part-eats : Consumes (more_part).code
more_part-eats = shows-eats (seq-laws (mark-laws here s.dot) (options.part-laws here) refl) (more_part).shows

pub more_body-eats : Consumes (more_body).code
unfolding r.body
more_body-eats = shows-eats (seq-laws (mark-laws here s.comma) (options.option_body-laws here) refl) (more_body).shows
