use Rattle.std.proofs.Common.{rules}
use Rattle.protox_link_bytes.proofs.linking.spelled.Goals as goal

pub returns-in-Ok-clause-set : goal.returns-in-Ok-clause-set
returns-in-Ok-clause-set c = λ sources linking. record { set = c.args.set.now; linking = linking; spelled = search rules }

pub returns-in-Err-TooLarge-clause-without : goal.returns-in-Err-TooLarge-clause-without
returns-in-Err-TooLarge-clause-without c = λ sources linking. record { set = c.args.set.now; linking = linking; large = search rules }

pub returns-in-Err-NotAFloat-clause-without : goal.returns-in-Err-NotAFloat-clause-without
returns-in-Err-NotAFloat-clause-without c = λ sources linking. record { set = c.args.set.now; linking = linking; lacks = search rules }
