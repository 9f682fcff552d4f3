use Rattle.std.proofs.Common.{None, lit<, ◌∙◌, arith}
use Rattle.std.proofs.lemmas.Str.Pattern.{strip_prefix_char}
use Rattle.std.proofs.lemmas.Grind.{common_steps}
use Rattle.protox_name_tree.specs.Tree.{kind_at, name_at}
use Rattle.protox_scopes.proofs.Lemmas.{at_top, by_user, nearer_from, relative, stopped}
use Rattle.protox_views.specs.Views.{seen}
use Rattle.protox_views.proofs.view.View.resolve.Goals as goal

pub returns-in-Ends : goal.returns-in-Ends
returns-in-Ends c =
    let table = c.args.self.now.symbols.now in
    let kind = kind_at table.names in
    let sees = seen table c.args.self.now.sees.now c.args.self.now.packages in
    let name = c.args.name.now in
    let by_scopes = relative name (strip_prefix_char 46 name None c.in_default.ensures.cases (lit< tt)) in
    by_user kind sees c.args.wanted name (name_at table.names) c.args.scope c.in-Ends.found by_scopes
    (stopped kind sees c.args.wanted name (name_at table.names) c.args.scope c.loop-place.place c.in-Some-place.here c.in-Ends.found c.in-Some-place.is
    (c.in-Ends.ensures name by_scopes (c.word-first.ensures.name ∙ c.cut.ensures.front) c.cut.ensures.rest) c.loop-place.invariant)

pub loop-place-preserved : goal.loop-place-preserved
loop-place-preserved c =
    let name = c.args.name.now in
    let by_scopes = relative name (strip_prefix_char 46 name None c.in_default.ensures.cases (lit< tt)) in
    let passed = c.in_default-step.ensures name by_scopes (c.word-first.ensures.name ∙ c.cut.ensures.front) c.cut.ensures.rest in
    grind (arith, common_steps, passed)

pub loop-place-smaller : goal.loop-place-smaller
loop-place-smaller c =
    nearer_from (name_at c.args.self.now.symbols.now.names) c.loop-place.place c.in-Some-place.here c.outer-place.result c.in-Some-place.is c.outer-place.ensures

pub returns : goal.returns
returns c =
    let table = c.args.self.now.symbols.now in
    let kind = kind_at table.names in
    let sees = seen table c.args.self.now.sees.now c.args.self.now.packages in
    let name = c.args.name.now in
    let by_scopes = relative name (strip_prefix_char 46 name None c.in_default.ensures.cases (lit< tt)) in
    by_user kind sees c.args.wanted name (name_at table.names) c.args.scope c.at_top.result by_scopes
    (at_top kind sees c.args.wanted name (name_at table.names) c.args.scope c.loop-place.place c.at_top.result c.in_default-place.is
    (c.at_top.ensures name by_scopes (c.word-first.ensures.name ∙ c.cut.ensures.front) c.cut.ensures.rest) c.loop-place.invariant)
