use Rattle.std.proofs.Common.{arith}
use Rattle.protox_file_options.proofs.Taking.{no_range_taken, range_taken}
use Rattle.protox_file_options.proofs.walking.Walker.take_ranges.Goals as goal

pub loop-index-preserved : goal.loop-index-preserved
loop-index-preserved g c end rest =
    c.loop-index.invariant end
    (range_taken g.P.TakePlaces.takes c.args.path.now c.args.scope.now c.args.ranges.now c.loop-index.index c.index-ranges-index.result c.loop-index.self.to c.take_range.new.self.to end
    c.loop-index-test.true c.index-ranges-index.is c.in_ok-take_range.ensures rest)

pub returns : goal.returns
returns g c =
    c.loop-index.invariant c.loop-index.self.to
    (no_range_taken g.P.TakePlaces.takes c.args.path.now c.args.scope.now c.args.ranges.now c.loop-index.index c.loop-index.self.to (omega arith))
