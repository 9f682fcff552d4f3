use Rattle.std.proofs.Common.{Less, Equal, Greater, sym, ◌∙◌, arith}
use Rattle.std.specs.Cmp.{ranked}
use Rattle.protox_decimal.proofs.Nearest.{nearest_down, nearest_tie, nearest_up}
use Rattle.protox_decimal.proofs.digits.nearest.Goals as goal

pub returns-in-Less-clause-value : goal.returns-in-Less-clause-value
returns-in-Less-clause-value c =
    let order = ranked c.multiply.new.self c.args.under.now Less (sym c.in-Less.is ∙ c.compare.ensures) in
    nearest_down _ _ _ c.requires.rest (omega (arith, order))

pub returns-in-Equal-clause-value : goal.returns-in-Equal-clause-value
returns-in-Equal-clause-value c =
    let order = ranked c.multiply.new.self c.args.under.now Equal (sym c.in-Equal.is ∙ c.compare.ensures) in
    nearest_tie _ _ _ c.requires.rest (omega (arith, order))

pub returns-in-Greater-clause-value : goal.returns-in-Greater-clause-value
returns-in-Greater-clause-value c =
    let order = ranked c.multiply.new.self c.args.under.now Greater (sym c.in-Greater.is ∙ c.compare.ensures) in
    nearest_up _ _ _ c.requires.rest (omega (arith, order))
