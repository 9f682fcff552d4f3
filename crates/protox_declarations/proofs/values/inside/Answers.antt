use Rattle.std.proofs.Common.{rules, sym, ap, ◌∙◌, length, arith}
use Rattle.protox_declarations.proofs.Aggregates as aggregates
use Rattle.protox_declarations.proofs.values.inside.Goals as goal

pub open_behind-requires : goal.open_behind-requires
open_behind-requires c = omega (arith, c.tokens.invariant.fits, ap length c.in-Some.ensures)

pub returns-in-None-clause-read : goal.returns-in-None-clause-read
returns-in-None-clause-read c = sym c.tokens.invariant.read ∙ aggregates.closes c.tokens.text c.tokens.first c.tokens.unclosed c.in-Some.row c.in-Some.rest c.tokens.rows (search rules) (search rules)
