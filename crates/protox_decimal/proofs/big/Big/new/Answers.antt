use Rattle.protox_decimal.proofs.Limbs.{value-two}
use Rattle.protox_decimal.proofs.big.Big.new.Goals as goal

pub returns : goal.returns
returns c = value-two c.args.n
