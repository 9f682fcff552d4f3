use Rattle.protox_interpret.proofs.OneAnswer.{never_both}
use Rattle.protox_interpret.proofs.options.interpret.Goals as goal

pub returns-in-Ok-finish-clause-one : goal.returns-in-Ok-finish-clause-one
returns-in-Ok-finish-clause-one c = never_both c.args.here c.args.statements.now

pub returns-in-Err-finish-clause-one : goal.returns-in-Err-finish-clause-one
returns-in-Err-finish-clause-one c = never_both c.args.here c.args.statements.now

pub returns-in-Err-clause-one : goal.returns-in-Err-clause-one
returns-in-Err-clause-one c = never_both c.args.here c.args.statements.now
