use Rattle.std.proofs.Common.{rules}
use Rattle.protox_grammar.specs.Reader.{fixed}
use Rattle.protox_declarations.specs.inner.BlockWords as said
use Rattle.protox_declarations.proofs.ranges.extensions.Goals as goal

pub returns-in_err-ranges-clause-words : goal.returns-in_err-ranges-clause-words
unfolding said.extensions fixed
returns-in_err-ranges-clause-words c = search rules

pub returns-in_err-options-clause-words : goal.returns-in_err-options-clause-words
unfolding said.extensions fixed
returns-in_err-options-clause-words c = search rules

pub returns-in_err-end-clause-words : goal.returns-in_err-end-clause-words
unfolding said.extensions fixed
returns-in_err-end-clause-words c = search rules
