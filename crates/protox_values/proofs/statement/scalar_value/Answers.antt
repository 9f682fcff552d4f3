use Rattle.protox_values.proofs.Back.{answer_back}
use Rattle.protox_values.proofs.statement.scalar_value.Goals as goal

pub returns-clause-reads_back : goal.returns-clause-reads_back
returns-clause-reads_back c = answer_back c.args.scalar c.args.option.now c.said.result c.said.ensures.says
