use Rattle.std.proofs.Common.{◌≡◌, Some, sym, ap, ◌∙◌}
use Rattle.protox_name_tree.specs.Tree.{kind_at, name_at, number_of}
use Rattle.protox_names.specs.Names.{front, within}
use Rattle.protox_scopes.specs.Scopes.{holds_names}
use Rattle.protox_views.specs.Views.{is_seen, seen}
use Rattle.protox_views.proofs.Resolved.{ends_inside, first_found, more_parts, rest_within, seen_is_found}
use Rattle.protox_views.proofs.view.View.step.Goals as goal

pub returns-in-Some-rest : goal.returns-in-Some-rest
returns-in-Some-rest c name relative first behind =
    let table = c.args.self.now.symbols.now in
    let names = table.names in
    let sees = c.args.self.now.sees.now in
    let packages = c.args.self.now.packages in
    let scope = name_at names c.args.scope in
    let thing = c.in-Some.thing in
    let rest = c.in-Some-rest.rest.now in
    let cut = rw c.in-Some-rest.is at behind in
    let found : c.find.result ≡ number_of names (within scope (front name)) = first_found c.args.first.now names c.args.scope name c.find.result c.requires.tree first c.find.ensures in
    let number : c.find.result ≡ Some thing = seen_is_found (is_seen table sees packages) c.find.result thing (sym c.if_seen.ensures ∙ c.in-Some.is) in
    ends_inside (kind_at names) (seen table sees packages) c.args.wanted name scope thing c.find-in-Some-rest.result
    (rw found at (sym c.if_seen.ensures ∙ c.in-Some.is))
    (more_parts name (front name) rest cut)
    (ap holds_names (sym c.kind-kind.ensures) ∙ sym c.holds_names.ensures ∙ c.if-holds_names.true)
    (c.find-in-Some-rest.ensures ∙ ap (seen table sees packages) (rest_within names scope name rest thing relative cut (sym found ∙ number)))
