use Rattle.std.proofs.Common.{None, lit<, sym, ◌∙◌}
use Rattle.std.proofs.lemmas.Str.Pattern.{strip_prefix_char}
use Rattle.protox_scopes.proofs.Lemmas as outwards
use Rattle.protox_link_text.proofs.Searching.{at_top, relative, stopped}
use Rattle.protox_link_text.proofs.search.search.Goals as goal

pub returns-then-ends : goal.returns-then-ends
returns-then-ends c =
    let view = c.args.view.now in
    let name = c.args.name.now in
    relative view.symbols.now view.sees.now view.packages c.args.wanted name c.args.scope.now c.innermost-place.result _
    (outwards.relative name (strip_prefix_char 46 name None c.in_default.ensures.cases (lit< tt))) c.innermost-place.ensures
    (stopped view.symbols.now view.sees.now view.packages c.args.wanted name c.loop-place.found c.search_scope-unseen.result.0 c.later-found.result c.loop-place.place c.in-Some-place.here c.in-Some-place.is
    c.search_scope-unseen.ensures.unseen (sym c.search_scope-unseen.ensures.ends ∙ c.if-ends.true) c.later-found.ensures
    ∙ c.loop-place.invariant)

pub returns : goal.returns
returns c =
    let view = c.args.view.now in
    let name = c.args.name.now in
    relative view.symbols.now view.sees.now view.packages c.args.wanted name c.args.scope.now c.innermost-place.result _
    (outwards.relative name (strip_prefix_char 46 name None c.in_default.ensures.cases (lit< tt))) c.innermost-place.ensures
    (at_top view.symbols.now view.sees.now view.packages c.args.wanted name c.loop-place.found c.unseen-2.result c.later.result c.loop-place.place c.in_default-place.is c.unseen-2.ensures c.later.ensures
    ∙ c.loop-place.invariant)
