use Rattle.protox_parse.proofs.Translating.{none-wrong}
use Rattle.protox_parse.proofs.failure.refused.Goals as goal

pub returns-in-Ok-clause-none : goal.returns-in-Ok-clause-none
returns-in-Ok-clause-none c file wrong none = none-wrong file c.args.faults.items wrong.0 wrong.1 none
