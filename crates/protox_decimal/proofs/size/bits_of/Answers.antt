use Rattle.std.specs.Bool.{passes}
use Rattle.std.specs.Float.Ieee.{binary64}
use Rattle.std.specs.Float.Ieee.Bits.{of_bits-to_bits}
use Rattle.protox_decimal.proofs.size.bits_of.Goals as goal

pub returns : goal.returns
returns c = of_bits-to_bits binary64 c.args.x (passes _ c.well_formed.0.1)
