use Rattle.std.proofs.lemmas.Grind.{common_steps}
use Rattle.std.proofs.Common.{arith}
use Rattle.protox_checks.specs.Checks.{AreListed}
use Rattle.protox_checks.proofs.ListedFaults.{found-all, found-wrong}
use Rattle.protox_checks.proofs.checks.check_file.Goals as goal

pub returns-clause-wrong : goal.returns-clause-wrong
returns-clause-wrong c =
    let listed : AreListed c.args.ast.now c.into_items.result = grind (arith, common_steps) in
    found-wrong c.args.ast.now c.into_items.result listed

pub returns-clause-all : goal.returns-clause-all
returns-clause-all c =
    let listed : AreListed c.args.ast.now c.into_items.result = grind (arith, common_steps) in
    found-all c.args.ast.now c.into_items.result listed
