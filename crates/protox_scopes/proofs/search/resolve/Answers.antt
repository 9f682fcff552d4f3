use Rattle.std.proofs.Common.{None, lit<}
use Rattle.std.proofs.lemmas.Str.Pattern.{strip_prefix_char}
use Rattle.protox_scopes.proofs.Outwards.{at_top, ended, relative}
use Rattle.protox_scopes.proofs.search.resolve.Goals as goal

pub returns-in-Ends : goal.returns-in-Ends
returns-in-Ends g c =
    let name = c.args.name.now in
    let no_dot = relative name (strip_prefix_char 46 name None c.in_default.ensures.cases (lit< tt)) in
    ended (g.T.Table.kind_of c.args.table.now) (g.T.Table.seen c.args.table.now) c.args.wanted name c.args.user.now c.loop-outer.scope.now c.in-Some-enclosing.outer.now c.in-Ends.found no_dot c.in-Some-enclosing.ensures.scopes c.in-Ends.ensures c.loop-outer.invariant.passed

pub returns : goal.returns
returns g c =
    let name = c.args.name.now in
    let no_dot = relative name (strip_prefix_char 46 name None c.in_default.ensures.cases (lit< tt)) in
    at_top (g.T.Table.kind_of c.args.table.now) (g.T.Table.seen c.args.table.now) c.args.wanted name c.args.user.now c.loop-outer.scope.now c.find-2.result no_dot c.in_default-enclosing.ensures.scopes c.find-2.ensures c.loop-outer.invariant.passed
