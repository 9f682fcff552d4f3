use Rattle.protox_walk.proofs.Folds.{folds-sibling}
use Rattle.std.proofs.Common.{refl}
use Rattle.protox_walk.proofs.each.walk_each.Goals as goal

pub loop-index-preserved : goal.loop-index-preserved
loop-index-preserved g c end rest =
    c.loop-index.invariant end
    (folds-sibling g.V.Visit.visits g.D.Declares.declares c.args.scope.now c.args.scope.now c.args.path.now c.as_slice.result.now _ c.as_slice-elements.result.now c.loop-index.index
    c.index-elements-index.result c.loop-index.visitor c.walk.new.visitor end
    c.loop-index-test.true c.index-elements-index.is refl (rw c.as_slice.ensures c.in_ok-place.ensures) c.in_ok-walk.ensures rest)
