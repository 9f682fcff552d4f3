use Rattle.std.proofs.Common.{ap, sym, ◌∙◌}
use Rattle.protox_ast.specs.Options.{listed}
use Rattle.protox_checks.specs.Nodes.{option_nodes}
use Rattle.protox_checks.proofs.Adding.{on-ok, same}
use Rattle.protox_checks.proofs.options.check_listed.Goals as goal

pub returns-in-Some : goal.returns-in-Some
returns-in-Some c = on-ok c.check_bodies.result (same _ _ _ _ (ap option_nodes (c.as_slice.ensures ∙ ap (λ list. list.options) c.get.ensures ∙ sym (ap listed c.in-Some.is)))) c.check_bodies.ensures
