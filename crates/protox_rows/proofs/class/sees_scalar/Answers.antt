use Rattle.std.proofs.Common.{ap, ◌∙◌}
use Rattle.protox_grammar.specs.Rules.{scalar_set}
use Rattle.protox_rows.proofs.PlacedRows.{first-in}
use Rattle.protox_rows.proofs.class.sees_scalar.Goals as goal

pub returns-in-Some : goal.returns-in-Some
returns-in-Some c = c.is_scalar.ensures ∙ ap scalar_set c.class.ensures ∙ first-in scalar_set c.args.rows.now c.in-Some.first c.in-Some.ensures
