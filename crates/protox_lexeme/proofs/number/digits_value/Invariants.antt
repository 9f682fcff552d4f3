use Rattle.std.proofs.Common.{◌≡◌, ◌^◌, ◌<◌, drop}
use Rattle.std.specs.Str.Parse.{digits_value, digits_value_after}
use Rattle.protox_lexeme.proofs.number.digits_value.Given as goal

abbrev pub invariant-digits : goal.invariant-digits
invariant-digits l = (l.value < 2 ^ 64) × (digits_value_after l.radix l.value (drop l.byte-index l.digits) ≡ digits_value l.radix l.digits)
