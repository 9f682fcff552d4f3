use Rattle.std.proofs.Common.{arith}
use Rattle.protox_option_checks.proofs.Rising.{all_rising, none_rising, one_rising}
use Rattle.protox_option_checks.proofs.enums.are_rising.Goals as goal

pub loop-span-init : goal.loop-span-init
loop-span-init c = none_rising c.args.spans.now 0

pub loop-span-preserved : goal.loop-span-preserved
loop-span-preserved c =
    one_rising c.args.spans.now c.loop-span.span-index c.loop-span.least _ (omega arith) (omega arith) (omega arith) c.loop-span.invariant

pub returns : goal.returns
returns c is = all_rising c.args.spans.now c.loop-span.span-index c.loop-span.least (omega arith) c.loop-span.invariant
