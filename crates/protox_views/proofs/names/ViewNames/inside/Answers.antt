use Rattle.protox_name_tree.specs.Tree.{name_in}
use Rattle.protox_views.proofs.Found.{stands-found}
use Rattle.protox_views.proofs.names.ViewNames.inside.Goals as goal

pub returns : goal.returns
returns c = stands-found c.args.self.now.symbols.now (name_in c.args.self.now.symbols.now.names c.args.scope c.args.name.now) c.find.result c.find.ensures
