use Rattle.std.proofs.Common.{arith}
use Rattle.protox_alike.specs.inner.Firsts.{first_in}
use Rattle.protox_alike.proofs.Firsts.{noted}
use Rattle.protox_alike.proofs.same.firsts.Goals as goal

pub loop-index-preserved : goal.loop-index-preserved
loop-index-preserved c =
    noted (first_in c.loop-index.firsts) (first_in c.note.new.firsts) (λ name. name.items) c.args.names.now
    c.loop-index.index c.index-names-index.result c.as_slice.result.now (omega arith) c.index-names-index.is
    c.as_slice.ensures.value c.loop-index.invariant c.in_ok-note.ensures
