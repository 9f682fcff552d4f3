use Rattle.std.proofs.Common.{◌≡◌, map, sym, subst, ◌∙◌}
use Rattle.std.proofs.lemmas.Option.{none-some, same_Some}
use Rattle.protox_name_tree.specs.Keys.{key_of, names_of}
use Rattle.protox_name_tree.specs.Tree.{IsKnown, name_in, number_of}
use Rattle.protox_name_tree.proofs.Children.{child_none, child_some}
use Rattle.protox_name_tree.proofs.tree.NameTree.child.Goals as goal

pub returns-in_err-name : goal.returns-in_err-name
returns-in_err-name c =
    let keys = map key_of c.self.inside.nodes in
    let known = subst (λ tree. IsKnown tree.full_names c.args.place) (sym c.self.view_is) c.requires.known in
    subst (λ tree. c.from_residual.result ≡ number_of tree (name_in tree c.args.place c.args.name.now)) c.self.view_is
    (c.from_residual.ensures ∙ child_none c.self.inside.texts keys (names_of c.self.inside.texts keys) c.self.invariant c.args.place known c.args.name.now c.requires.one_part
    (λ text is. none-some text (sym c.in_err-name.was ∙ (c.number.ensures text).1 is)))

pub returns : goal.returns
returns c =
    let keys = map key_of c.self.inside.nodes in
    let known = subst (λ tree. IsKnown tree.full_names c.args.place) (sym c.self.view_is) c.requires.known in
    let text = c.in_ok-name.name in
    subst (λ tree. c.number-2.result ≡ number_of tree (name_in tree c.args.place c.args.name.now)) c.self.view_is
    (child_some c.self.inside.texts keys (names_of c.self.inside.texts keys) c.self.invariant c.args.place known c.args.name.now c.requires.one_part
    text ((c.number.ensures text).0 c.in_ok-name.was)
    (λ other is. same_Some other text (sym ((c.number.ensures other).1 is) ∙ c.in_ok-name.was))
    c.number-2.result c.number-2.ensures)
