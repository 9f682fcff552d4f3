use Rattle.std.proofs.Common.{None, lit<}
use Rattle.std.proofs.lemmas.Str.Pattern.{strip_prefix_char}
use Rattle.protox_scopes.proofs.TreeSearch.{at_top, by_user, nearer_from, stopped}
use Rattle.protox_scopes.proofs.Outwards.{relative}
use Rattle.protox_scopes.proofs.tree_search.resolve_in.Goals as goal

pub returns-in-Ends : goal.returns-in-Ends
returns-in-Ends g c =
    let kind = g.T.ScopeTree.kind_of c.args.tree.now in
    let seen = g.T.ScopeTree.seen c.args.tree.now in
    let name_of = g.T.ScopeTree.name_of c.args.tree.now in
    let name = c.args.name.now in
    by_user kind seen c.args.wanted name name_of c.args.scope c.in-Ends.found
    (relative name (strip_prefix_char 46 name None c.in_default.ensures.cases (lit< tt)))
    (stopped kind seen c.args.wanted name name_of c.args.scope c.loop-place.place c.in-Some-place.here c.in-Ends.found c.in-Some-place.is c.in-Ends.ensures c.loop-place.invariant)

pub loop-place-smaller : goal.loop-place-smaller
loop-place-smaller g c =
    nearer_from (g.T.ScopeTree.name_of c.args.tree.now) c.loop-place.place c.in-Some-place.here c.outer-place.result c.in-Some-place.is c.outer-place.ensures

pub returns : goal.returns
returns g c =
    let kind = g.T.ScopeTree.kind_of c.args.tree.now in
    let seen = g.T.ScopeTree.seen c.args.tree.now in
    let name_of = g.T.ScopeTree.name_of c.args.tree.now in
    let name = c.args.name.now in
    by_user kind seen c.args.wanted name name_of c.args.scope c.find-2.result
    (relative name (strip_prefix_char 46 name None c.in_default.ensures.cases (lit< tt)))
    (at_top kind seen c.args.wanted name name_of c.args.scope c.loop-place.place c.find-2.result c.in_default-place.is c.find-2.ensures c.loop-place.invariant)
