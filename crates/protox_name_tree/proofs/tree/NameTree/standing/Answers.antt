use Rattle.std.proofs.Common.{◌≡◌, true, false, None, Some, sym, ap, subst, ◌∙◌}
use Rattle.protox_names.specs.Names.{within}
use Rattle.protox_names.specs.Tree.{name_of_place}
use Rattle.protox_names.proofs.Lemmas.{identifiers_are_one_part}
use Rattle.protox_name_tree.specs.Tree.{can_stand, name_at, number_of}
use Rattle.protox_name_tree.proofs.Standing.{cut_last, cut_within, in_scope, no_scope, none_in_place, none_in_scope, none_with_end, stands_in_place, uncut, whole_name}
use Rattle.protox_name_tree.proofs.tree.NameTree.standing.Goals as goal

pub returns-then-is_identifier-clause-some : goal.returns-then-is_identifier-clause-some
returns-then-is_identifier-clause-some c =
    let tree = c.args.self.now in
    let name = c.args.name.now in
    let is = sym c.is_identifier.ensures ∙ c.if-is_identifier.true in
    subst (λ s. can_stand tree (within s name) ≡ true) c.known-place.ensures.name
    (stands_in_place tree c.known-place.result name c.known-place.ensures.tree.names c.known-place.ensures.known (identifiers_are_one_part name is) ∙ is)

pub returns-in_err-scope-clause-none : goal.returns-in_err-scope-clause-none
returns-in_err-scope-clause-none c =
    let tree = c.args.self.now in
    let name = c.args.name.now in
    rw c.from_residual.ensures (subst (λ s. can_stand tree (within s name) ≡ false) c.known-place.ensures.name
    (stands_in_place tree c.known-place.result name c.known-place.ensures.tree.names c.known-place.ensures.known (uncut name c.in_err-scope.ensures.cases)
    ∙ sym c.is_identifier.ensures ∙ c.if-is_identifier.false))

pub returns-in_err-scope-clause-unknown : goal.returns-in_err-scope-clause-unknown
returns-in_err-scope-clause-unknown c =
    let tree = c.args.self.now in
    let name = c.args.name.now in
    rw c.from_residual.ensures (subst (λ s. number_of tree (within s name) ≡ None) c.known-place.ensures.name
    (none_in_place tree c.known-place.result name c.known-place.ensures.tree.names c.known-place.ensures.known (uncut name c.in_err-scope.ensures.cases)
    (sym c.is_identifier.ensures ∙ c.if-is_identifier.false)))

pub returns-in_err-place-clause-none : goal.returns-in_err-place-clause-none
returns-in_err-place-clause-none c =
    let around = name_of_place (name_at c.args.self.now) c.known-place.result in
    let at = cut_within around c.args.name.now c.in_ok-scope.scope.now c.in_ok-scope.own.now (cut_last c.args.name.now (Some (c.in_ok-scope.scope, c.in_ok-scope.own)) c.in_ok-scope.ensures.cases) in
    let tree = c.args.self.now in
    rw c.from_residual-in_err-place.ensures (subst (λ s. can_stand tree (within s c.args.name.now) ≡ false) c.known-place.ensures.name
    (no_scope tree _ _ c.in_ok-scope.own.now at (sym c.find.ensures ∙ c.in_err-place.was)))

pub returns-in_err-place-clause-unknown : goal.returns-in_err-place-clause-unknown
returns-in_err-place-clause-unknown c =
    let around = name_of_place (name_at c.args.self.now) c.known-place.result in
    let at = cut_within around c.args.name.now c.in_ok-scope.scope.now c.in_ok-scope.own.now (cut_last c.args.name.now (Some (c.in_ok-scope.scope, c.in_ok-scope.own)) c.in_ok-scope.ensures.cases) in
    let tree = c.args.self.now in
    rw c.from_residual-in_err-place.ensures (subst (λ s. number_of tree (within s c.args.name.now) ≡ None) c.known-place.ensures.name
    (none_in_scope tree _ _ c.in_ok-scope.own.now c.known-place.ensures.tree.names at (sym c.find.ensures ∙ c.in_err-place.was)))

pub returns-then-is_identifier-2-clause-some : goal.returns-then-is_identifier-2-clause-some
returns-then-is_identifier-2-clause-some c =
    let around = name_of_place (name_at c.args.self.now) c.known-place.result in
    let at = cut_within around c.args.name.now c.in_ok-scope.scope.now c.in_ok-scope.own.now (cut_last c.args.name.now (Some (c.in_ok-scope.scope, c.in_ok-scope.own)) c.in_ok-scope.ensures.cases) in
    let tree = c.args.self.now in
    subst (λ s. can_stand tree (within s c.args.name.now) ≡ true) c.known-place.ensures.name
    (in_scope tree _ _ c.in_ok-scope.own.now c.in_ok-place.place _ at (sym c.find.ensures ∙ c.in_ok-place.was) (sym c.is_identifier-2.ensures ∙ c.if-is_identifier-2.true))

pub returns-then-is_identifier-2-clause-name : goal.returns-then-is_identifier-2-clause-name
returns-then-is_identifier-2-clause-name c =
    let around = name_of_place (name_at c.args.self.now) c.known-place.result in
    let at = cut_within around c.args.name.now c.in_ok-scope.scope.now c.in_ok-scope.own.now (cut_last c.args.name.now (Some (c.in_ok-scope.scope, c.in_ok-scope.own)) c.in_ok-scope.ensures.cases) in
    whole_name c.args.self.now _ _ c.in_ok-scope.own.now c.in_ok-place.place
    c.known-place.ensures.tree.names at (sym c.find.ensures ∙ c.in_ok-place.was)
    ∙ ap (λ s. within s c.args.name.now) c.known-place.ensures.name

pub returns-else-is_identifier-2-clause-none : goal.returns-else-is_identifier-2-clause-none
returns-else-is_identifier-2-clause-none c =
    let around = name_of_place (name_at c.args.self.now) c.known-place.result in
    let at = cut_within around c.args.name.now c.in_ok-scope.scope.now c.in_ok-scope.own.now (cut_last c.args.name.now (Some (c.in_ok-scope.scope, c.in_ok-scope.own)) c.in_ok-scope.ensures.cases) in
    let tree = c.args.self.now in
    subst (λ s. can_stand tree (within s c.args.name.now) ≡ false) c.known-place.ensures.name
    (in_scope tree _ _ c.in_ok-scope.own.now c.in_ok-place.place _ at (sym c.find.ensures ∙ c.in_ok-place.was) (sym c.is_identifier-2.ensures ∙ c.if-is_identifier-2.false))

pub returns-else-is_identifier-2-clause-unknown : goal.returns-else-is_identifier-2-clause-unknown
returns-else-is_identifier-2-clause-unknown c =
    let around = name_of_place (name_at c.args.self.now) c.known-place.result in
    let at = cut_within around c.args.name.now c.in_ok-scope.scope.now c.in_ok-scope.own.now (cut_last c.args.name.now (Some (c.in_ok-scope.scope, c.in_ok-scope.own)) c.in_ok-scope.ensures.cases) in
    let tree = c.args.self.now in
    subst (λ s. number_of tree (within s c.args.name.now) ≡ None) c.known-place.ensures.name
    (none_with_end tree _ _ c.in_ok-scope.own.now c.known-place.ensures.tree.names at (sym c.is_identifier-2.ensures ∙ c.if-is_identifier-2.false))
