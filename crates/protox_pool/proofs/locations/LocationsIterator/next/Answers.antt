use Rattle.std.proofs.Common.{arith}
use Rattle.protox_pool.proofs.Steps.{next_is}
use Rattle.protox_pool.proofs.locations.LocationsIterator.next.Goals as goal

pub returns-clause-steps : goal.returns-clause-steps
returns-clause-steps c =
    next_is c.args.self.now.pool.now c.args.self.now.next c.get-found.result
    (omega (arith, c.if-self-len.false, c.len.ensures)) c.get-found.ensures
