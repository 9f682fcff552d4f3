use Rattle.std.proofs.Common.{sym, subst, ◌∙◌}
use Rattle.protox_name_tree.specs.Tree.{IsPart}
use Rattle.protox_name_tree.proofs.Parts.{has_text, part_of_node}
use Rattle.protox_name_tree.proofs.tree.NameTree.part.Goals as goal

pub returns-in_err-own-clause-none : goal.returns-in_err-own-clause-none
returns-in_err-own-clause-none c =
    has_text c.self.inside.texts c.self.inside.nodes c.self.invariant c.args.number c.in_ok-node.node c.get-2.result
    (sym c.get.ensures ∙ c.in_ok-node.was) c.get-2.ensures c.in_err-own.was

pub returns-clause-some : goal.returns-clause-some
returns-clause-some c =
    subst (λ tree. IsPart tree c.args.number c.in_ok-node.node.place c.in_ok-own.own.now) c.self.view_is
    (part_of_node c.self.inside.texts c.self.inside.nodes c.self.invariant c.args.number c.in_ok-node.node c.get-2.result c.in_ok-own.own
    (sym c.get.ensures ∙ c.in_ok-node.was) c.get-2.ensures c.in_ok-own.was)
