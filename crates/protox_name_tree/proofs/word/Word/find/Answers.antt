use Rattle.std.proofs.Common.{◌≡◌, length, map, sym, ap, subst, ◌∙◌}
use Rattle.std.proofs.lemmas.List.{length-map}
use Rattle.std.proofs.lemmas.Option.{none-some, same_Some}
use Rattle.protox_names.specs.Names.{within}
use Rattle.protox_name_tree.specs.Keys.{key_of, names_of}
use Rattle.protox_name_tree.specs.Tree.{name_in, number_of, place_of_name}
use Rattle.protox_name_tree.specs.Word.{Sought}
use Rattle.protox_name_tree.proofs.Children.{child_none, child_some}
use Rattle.protox_name_tree.proofs.word.Word.find.Goals as goal

pub returns-in_err-text : goal.returns-in_err-text
returns-in_err-text c =
    let keys = map key_of c.self.inside.nodes.now in
    let texts = c.self.inside.texts.now in
    let names = names_of texts keys in
    let sound = c.self.invariant.0 in
    let as_many : length names ≡ length c.self.inside.nodes.now = sym sound.as_many ∙ length-map c.self.inside.nodes.now key_of in
    subst (λ (w : Sought). c.from_residual.result ≡ number_of w.tree (name_in w.tree c.args.place w.name)) c.self.view_is
    (c.from_residual.ensures
    ∙ child_none texts keys names sound c.known-place.result (c.known-place.ensures.known names as_many) c.self.inside.name.now c.self.invariant.1
    (λ text is. none-some text (sym c.in_err-text.was ∙ (c.self.invariant.2 text).1 is))
    ∙ ap (λ scope. place_of_name names (within scope c.self.inside.name.now)) (c.known-place.ensures.name names as_many))

pub returns : goal.returns
returns c =
    let keys = map key_of c.self.inside.nodes.now in
    let texts = c.self.inside.texts.now in
    let names = names_of texts keys in
    let sound = c.self.invariant.0 in
    let text = c.in_ok-text.text in
    let as_many : length names ≡ length c.self.inside.nodes.now = sym sound.as_many ∙ length-map c.self.inside.nodes.now key_of in
    subst (λ (w : Sought). c.number.result ≡ number_of w.tree (name_in w.tree c.args.place w.name)) c.self.view_is
    (child_some texts keys names sound c.known-place.result (c.known-place.ensures.known names as_many) c.self.inside.name.now c.self.invariant.1
    text ((c.self.invariant.2 text).0 c.in_ok-text.was)
    (λ other is. same_Some other text (sym ((c.self.invariant.2 other).1 is) ∙ c.in_ok-text.was))
    c.number.result c.number.ensures
    ∙ ap (λ scope. place_of_name names (within scope c.self.inside.name.now)) (c.known-place.ensures.name names as_many))
