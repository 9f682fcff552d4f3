use Rattle.std.proofs.Common.{◌≡◌, [], map, sym, subst, ◌∙◌}
use Rattle.protox_names.specs.Names.{scopes}
use Rattle.protox_scopes.specs.Scopes.{IsOuter}
use Rattle.protox_name_tree.specs.Keys.{key_of, names_of}
use Rattle.protox_name_tree.specs.Tree.{name_at}
use Rattle.protox_name_tree.proofs.Outwards.{no_outer, outer_of}
use Rattle.protox_name_tree.proofs.tree.NameTree.outer.Goals as goal

pub returns-in-Some : goal.returns-in-Some
returns-in-Some c =
    let nodes = c.self.inside.nodes in
    subst (λ tree. IsOuter (name_at tree) c.args.number c.in-Some.node.place) c.self.view_is
    (outer_of c.self.inside.texts nodes (names_of c.self.inside.texts (map key_of nodes)) c.self.invariant c.args.number c.in-Some.node (sym c.get.ensures ∙ c.in-Some.is))

pub returns-in-None : goal.returns-in-None
returns-in-None c =
    let nodes = c.self.inside.nodes in
    subst (λ tree. scopes (name_at tree c.args.number) ≡ []) c.self.view_is
    (no_outer c.self.inside.texts nodes (names_of c.self.inside.texts (map key_of nodes)) c.self.invariant c.args.number (sym c.get.ensures ∙ c.in-None.is))
