use Rattle.std.proofs.Common.{◌≡◌, Some, sym, ap, subst, ◌∙◌}
use Rattle.protox_names.specs.Names.{within}
use Rattle.protox_name_tree.specs.Tree.{name_in, number_of, with_name}
use Rattle.protox_name_tree.proofs.Added.{AreSound, child_found, no_such_node, number_of_node, on_err, same_seen, seen, seen_with_node, seen_with_old, sound_with_node, sound_with_texts}
use Rattle.protox_name_tree.proofs.tree.NameTree.add.Goals as goal

pub invariant_of-self : goal.invariant_of-self
invariant_of-self c =
    let grown = c.add.ensures.grown in
    sound_with_texts c.self.inside.texts c.add.new.self grown.0 c.self.inside.nodes c.self.invariant grown.1

pub returns-in_err-name-clause-err : goal.returns-in_err-name-clause-err
returns-in_err-name-clause-err c =
    let grown = c.add.ensures.grown in
    on_err c.from_residual.result (same_seen c.self.inside.texts c.add.new.self grown.0 c.self.inside.nodes c.self.invariant grown.1 ∙ c.self.view_is)

pub invariant_of-self-in-Some : goal.invariant_of-self-in-Some
invariant_of-self-in-Some c =
    let grown = c.add.ensures.grown in
    sound_with_texts c.self.inside.texts c.add.new.self grown.0 c.self.inside.nodes c.self.invariant grown.1

pub returns-in-Some-clause-number : goal.returns-in-Some-clause-number
returns-in-Some-clause-number c =
    let grown = c.add.ensures.grown in
    let found =
    child_found c.self.inside.texts c.add.new.self grown.0 c.self.inside.nodes c.self.invariant grown.1
    c.args.self.now c.self.view_is c.known-place.result c.known-place.ensures.known c.args.name.now c.requires c.in_ok-name.name c.in_ok-name.ensures.ok c.in_ok-name.ensures.single
    c.number.result c.number.ensures
    in
    subst (λ tree. number_of tree (name_in c.args.self.now c.args.place c.args.name.now) ≡ Some c.in-Some.number)
    (sym (same_seen c.self.inside.texts c.add.new.self grown.0 c.self.inside.nodes c.self.invariant grown.1 ∙ c.self.view_is))
    (subst (λ scope. number_of c.args.self.now (within scope c.args.name.now) ≡ Some c.in-Some.number) c.known-place.ensures.name (sym found ∙ c.in-Some.is))

pub returns-in-Some-clause-added : goal.returns-in-Some-clause-added
returns-in-Some-clause-added c =
    let grown = c.add.ensures.grown in
    let found =
    child_found c.self.inside.texts c.add.new.self grown.0 c.self.inside.nodes c.self.invariant grown.1
    c.args.self.now c.self.view_is c.known-place.result c.known-place.ensures.known c.args.name.now c.requires c.in_ok-name.name c.in_ok-name.ensures.ok c.in_ok-name.ensures.single
    c.number.result c.number.ensures
    in
    seen_with_old c.self.inside.texts c.add.new.self grown.0 c.self.inside.nodes c.self.invariant grown.1 c.args.self.now c.self.view_is _ c.args.kind c.in-Some.number
    (subst (λ scope. number_of c.args.self.now (within scope c.args.name.now) ≡ Some c.in-Some.number) c.known-place.ensures.name (sym found ∙ c.in-Some.is))

pub push-requires : goal.push-requires
push-requires c =
    let grown = c.add.ensures.grown in
    let found =
    child_found c.self.inside.texts c.add.new.self grown.0 c.self.inside.nodes c.self.invariant grown.1
    c.args.self.now c.self.view_is c.known-place.result c.known-place.ensures.known c.args.name.now c.requires c.in_ok-name.name c.in_ok-name.ensures.ok c.in_ok-name.ensures.single
    c.number.result c.number.ensures
    in
    no_such_node c.self.inside.texts c.add.new.self grown.0 c.self.inside.nodes c.self.invariant grown.1
    c.args.self.now c.self.view_is c.known-place.result c.known-place.ensures.known c.args.name.now c.requires (sym found ∙ c.in_default.is) c.in_ok-name.name c.in_ok-name.ensures.ok

pub invariant_of-self-in_err-number : goal.invariant_of-self-in_err-number
invariant_of-self-in_err-number c =
    let grown = c.add.ensures.grown in
    subst (AreSound c.add.new.self) (sym c.in_err-number.ensures.err)
    (sound_with_texts c.self.inside.texts c.add.new.self grown.0 c.self.inside.nodes c.self.invariant grown.1)

pub returns-in_err-number-clause-err : goal.returns-in_err-number-clause-err
returns-in_err-number-clause-err c =
    let grown = c.add.ensures.grown in
    on_err c.from_residual-in_err-number.result (ap (seen c.add.new.self) c.in_err-number.ensures.err
    ∙ same_seen c.self.inside.texts c.add.new.self grown.0 c.self.inside.nodes c.self.invariant grown.1 ∙ c.self.view_is)

pub invariant_of-self-2 : goal.invariant_of-self-2
invariant_of-self-2 c =
    let grown = c.add.ensures.grown in
    let found =
    child_found c.self.inside.texts c.add.new.self grown.0 c.self.inside.nodes c.self.invariant grown.1
    c.args.self.now c.self.view_is c.known-place.result c.known-place.ensures.known c.args.name.now c.requires c.in_ok-name.name c.in_ok-name.ensures.ok c.in_ok-name.ensures.single
    c.number.result c.number.ensures
    in
    sound_with_node c.self.inside.texts c.add.new.self grown.0 c.self.inside.nodes c.self.invariant grown.1
    c.args.self.now c.self.view_is c.known-place.result c.known-place.ensures.known c.args.name.now c.requires (sym found ∙ c.in_default.is) c.in_ok-name.name c.in_ok-name.ensures.ok
    c.args.kind c.push.new.self c.in_ok-number.ensures.ok.1

pub returns-clause-number : goal.returns-clause-number
returns-clause-number c =
    let grown = c.add.ensures.grown in
    let found =
    child_found c.self.inside.texts c.add.new.self grown.0 c.self.inside.nodes c.self.invariant grown.1
    c.args.self.now c.self.view_is c.known-place.result c.known-place.ensures.known c.args.name.now c.requires c.in_ok-name.name c.in_ok-name.ensures.ok c.in_ok-name.ensures.single
    c.number.result c.number.ensures
    in
    subst (λ scope. number_of (seen c.add.new.self c.push.new.self) (within scope c.args.name.now) ≡ Some c.in_ok-number.number) c.known-place.ensures.name
    (number_of_node c.self.inside.texts c.add.new.self grown.0 c.self.inside.nodes c.self.invariant grown.1
    c.args.self.now c.self.view_is c.known-place.result c.known-place.ensures.known c.args.name.now c.requires (sym found ∙ c.in_default.is) c.in_ok-name.name c.in_ok-name.ensures.ok
    c.args.kind c.push.new.self c.in_ok-number.ensures.ok.1 c.in_ok-number.number c.in_ok-number.ensures.ok.0)

pub returns-clause-added : goal.returns-clause-added
returns-clause-added c =
    let grown = c.add.ensures.grown in
    let found =
    child_found c.self.inside.texts c.add.new.self grown.0 c.self.inside.nodes c.self.invariant grown.1
    c.args.self.now c.self.view_is c.known-place.result c.known-place.ensures.known c.args.name.now c.requires c.in_ok-name.name c.in_ok-name.ensures.ok c.in_ok-name.ensures.single
    c.number.result c.number.ensures
    in
    subst (λ scope. seen c.add.new.self c.push.new.self ≡ with_name c.args.self.now (within scope c.args.name.now) c.args.kind) c.known-place.ensures.name
    (seen_with_node c.self.inside.texts c.add.new.self grown.0 c.self.inside.nodes c.self.invariant grown.1
    c.args.self.now c.self.view_is c.known-place.result c.known-place.ensures.known c.args.name.now c.requires (sym found ∙ c.in_default.is) c.in_ok-name.name c.in_ok-name.ensures.ok
    c.args.kind c.push.new.self c.in_ok-number.ensures.ok.1)
