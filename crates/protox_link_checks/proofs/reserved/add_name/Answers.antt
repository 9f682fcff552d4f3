use Rattle.protox_link_checks.proofs.Reserving.{name_added}
use Rattle.protox_link_checks.proofs.reserved.add_name.Goals as goal

pub returns-clause-names : goal.returns-clause-names
returns-clause-names c q = name_added q c.args.name c.args.names.now.keys c.insert.new.self.keys c.in_ok-new.ensures.keys
