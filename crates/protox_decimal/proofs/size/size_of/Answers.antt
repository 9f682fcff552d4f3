use Rattle.std.proofs.Common.{◌≢◌, ◌-◌, ◌%◌, ◌/◌, ◌^◌, arith}
use Rattle.protox_decimal.proofs.Sizes.{finite_number, size_at_zero, size_above_zero, field_small}
use Rattle.protox_decimal.proofs.size.size_of.Goals as goal

pub bits_of-bits-requires : goal.bits_of-bits-requires
bits_of-bits-requires c = finite_number c.args.number c.requires

pub returns-then-field-eq0-clause-same : goal.returns-then-field-eq0-clause-same
returns-then-field-eq0-clause-same c = size_at_zero c.args.number c.bits_of-bits.result c.bits_of-bits.ensures c.requires c.if-field-eq0.true

pub returns-clause-same : goal.returns-clause-same
returns-clause-same c =
    let bits = c.bits_of-bits.result in
    size_above_zero c.args.number bits c.bits_of-bits.ensures c.requires (bits % 2 ^ 63 / 2 ^ 52 - 1) (omega (arith, c.if-field-eq0.false))

pub returns-clause-exponent : goal.returns-clause-exponent
returns-clause-exponent c =
    let bits = c.bits_of-bits.result in
    let no : bits % 2 ^ 63 / 2 ^ 52 ≢ 2047 = field_small c.args.number bits c.bits_of-bits.ensures c.requires in
    omega arith
