use Rattle.std.proofs.Common.{◌≡◌, subst}
use Rattle.protox_scopes.specs.declared.kind.Kind.TheVariants.{Member}
use Rattle.protox_name_tree.specs.Tree.{kind_at}
use Rattle.protox_name_tree.proofs.Outwards.{no_kind}
use Rattle.protox_name_tree.proofs.tree.NameTree.kind.Goals as goal

pub returns-in-None : goal.returns-in-None
returns-in-None c =
    subst (λ tree. Member ≡ kind_at tree c.args.number) c.self.view_is (no_kind c.self.inside.nodes c.args.number c.get.result c.get.ensures c.in-None.is)
