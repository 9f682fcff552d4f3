use Rattle.std.proofs.Common.{arith}
use Rattle.protox_decimal.proofs.Limbs.{shifted, places_room, only_zero}
use Rattle.protox_decimal.proofs.big.Big.shift.Goals as goal

pub move_up-requires-clause-room : goal.move_up-requires-clause-room
move_up-requires-clause-room c = places_room c.args.self.now c.args.count c.requires

pub multiply-requires : goal.multiply-requires
multiply-requires c = rw (c.move_up.ensures, shifted c.args.self.now c.args.count) c.requires

pub returns-then-places-lt-LIMBS : goal.returns-then-places-lt-LIMBS
returns-then-places-lt-LIMBS c = rw (c.multiply.ensures, c.move_up.ensures) (shifted c.args.self.now c.args.count)

pub returns-else-places-lt-LIMBS : goal.returns-else-places-lt-LIMBS
returns-else-places-lt-LIMBS c =
    let zero = only_zero c.args.self.now c.args.count (omega arith) c.requires in
    rw zero (omega arith)
