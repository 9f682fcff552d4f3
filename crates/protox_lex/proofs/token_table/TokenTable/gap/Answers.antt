use Rattle.protox_lex.proofs.Tables.{lent_gap}
use Rattle.protox_lex.proofs.token_table.TokenTable.gap.Goals as goal

pub returns-clause-gap : goal.returns-clause-gap
returns-clause-gap c = lent_gap c.self.inside.gaps.ended c.args.k c.get.result c.self.invariant c.get.ensures
