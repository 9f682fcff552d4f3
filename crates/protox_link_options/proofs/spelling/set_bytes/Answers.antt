use Rattle.std.proofs.Common.{rules}
use Rattle.protox_link_options.specs.SpelledOptions.{TheSet}
use Rattle.protox_link_options.proofs.spelling.set_bytes.Goals as goal

pub returns-then-len-ge2147483648-clause-too_large : goal.returns-then-len-ge2147483648-clause-too_large
returns-then-len-ge2147483648-clause-too_large c is = TheSet (search rules)
