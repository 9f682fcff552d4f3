use Rattle.std.proofs.Common.{sym, ap, subst, ◌∙◌}
use Rattle.protox_names.specs.Names.{within}
use Rattle.protox_name_tree.specs.Tree.{AreTreeNames, number_of}
use Rattle.protox_name_tree.proofs.Outwards.{empty_scope, name_of_found, none_within, some_scope}
use Rattle.protox_name_tree.proofs.tree.NameTree.find_within.Goals as goal

pub returns-then-is_empty : goal.returns-then-is_empty
returns-then-is_empty c =
    c.find.ensures
    ∙ ap (λ scope. number_of c.args.self.now (within scope c.args.name.now)) (sym (empty_scope c.args.scope.now (sym c.is_empty.ensures ∙ c.if-is_empty.true)))

pub returns-in_err-place : goal.returns-in_err-place
returns-in_err-place c =
    c.from_residual.ensures
    ∙ none_within c.args.self.now.full_names c.args.scope.now c.args.name.now (subst (λ tree. AreTreeNames tree.full_names) c.self.view_is c.self.invariant.tree)
    (some_scope c.args.scope.now (sym c.is_empty.ensures ∙ c.if-is_empty.false)) (sym c.find-2.ensures ∙ c.in_err-place.was)

pub returns : goal.returns
returns c =
    c.find-3.ensures
    ∙ ap (λ scope. number_of c.args.self.now (within scope c.args.name.now))
    (name_of_found c.args.self.now.full_names c.args.scope.now c.in_ok-place.place (subst (λ tree. AreTreeNames tree.full_names) c.self.view_is c.self.invariant.tree) (sym c.find-2.ensures ∙ c.in_ok-place.was))
