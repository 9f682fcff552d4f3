use Rattle.std.proofs.Common.{◌≡◌, [], Some, cond, None, sym, ap, ◌∙◌}
use Rattle.std.specs.Option.{option_and_then}
use Rattle.protox_name_tree.specs.Tree.{number_of}
use Rattle.protox_names.proofs.Lemmas.{front_of_one_part}
use Rattle.protox_views.specs.Views.{is_seen, seen}
use Rattle.protox_views.proofs.Resolved.{found_at_top, none_at_top, rest_within}
use Rattle.protox_views.proofs.view.View.at_top.Goals as goal

pub returns-in_default : goal.returns-in_default
returns-in_default c name relative first behind =
    let view = c.args.self.now in
    let names = view.symbols.now.names in
    let one = rw c.in_default.is at behind in
    let found : c.find.result ≡ number_of names name =
    found_at_top c.args.first.now names name c.find.result c.requires.tree first c.find.ensures ∙ ap (number_of names) (front_of_one_part name one) in
    c.if_seen.ensures
    ∙ ap (option_and_then (λ n. cond (is_seen view.symbols.now view.sees.now view.packages n) (Some n) None)) found

pub returns-in_err-outer : goal.returns-in_err-outer
returns-in_err-outer c name relative first behind =
    let view = c.args.self.now in
    let names = view.symbols.now.names in
    let cut = rw c.in-Some.is at behind in
    let found = found_at_top c.args.first.now names name c.find-2.result c.requires.tree first c.find-2.ensures in
    c.from_residual.ensures
    ∙ ap (option_and_then (λ n. cond (is_seen view.symbols.now view.sees.now view.packages n) (Some n) None))
    (none_at_top names name c.in-Some.rest.now c.len-count.ensures.tree.names relative cut (sym found ∙ c.in_err-outer.was))

pub returns : goal.returns
returns c name relative first behind =
    let view = c.args.self.now in
    let names = view.symbols.now.names in
    let cut = rw c.in-Some.is at behind in
    let found = found_at_top c.args.first.now names name c.find-2.result c.requires.tree first c.find-2.ensures in
    c.find-3.ensures
    ∙ ap (seen view.symbols.now view.sees.now view.packages) (rest_within names [] name c.in-Some.rest.now c.in_ok-outer.outer relative cut (sym found ∙ c.in_ok-outer.was))
