use Rattle.protox_decimal.proofs.Room.{size_room}
use Rattle.protox_decimal.proofs.general.units.Goals as goal

pub shift-requires : goal.shift-requires
shift-requires c = rw c.new-big.ensures (size_room c.args.mantissa c.args.exponent c.requires.mantissa c.requires.exponent)
