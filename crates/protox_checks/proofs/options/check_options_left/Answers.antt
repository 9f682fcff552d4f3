use Rattle.std.proofs.Common.{ap, sym, ◌∙◌}
use Rattle.protox_ast.specs.Options.{listed}
use Rattle.protox_checks.specs.Nodes.{option_nodes}
use Rattle.protox_checks.specs.inner.Walk.{others}
use Rattle.protox_checks.proofs.Adding.{on-ok, same}
use Rattle.protox_checks.proofs.options.check_options_left.Goals as goal

pub returns-in-Some : goal.returns-in-Some
returns-in-Some c = on-ok c.check_others.result (same _ _ _ _ (ap (λ l. option_nodes (others l)) (c.as_slice.ensures ∙ ap (λ list. list.options) c.get.ensures ∙ sym (ap listed c.in-Some.is)))) c.check_others.ensures
