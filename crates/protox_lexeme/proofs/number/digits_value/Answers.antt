use Rattle.std.proofs.Common.{◌≡◌, ◌+◌, ◌*◌, ◌^◌, ◌≤◌, get_or, arith, ltb, false}
use Rattle.std.proofs.lemmas.Bool.{le-ltb}
use Rattle.std.specs.Char.{digit_value}
use Rattle.std.specs.Str.Parse.{digits_value}
use Rattle.protox_lexeme.proofs.Digits.{too_large}
use Rattle.protox_lexeme.proofs.number.digits_value.Goals as goal

pub returns-in_default : goal.returns-in_default
returns-in_default c =
    let l = c.digits in
    let big : 2 ^ 64 ≤ l.value * c.args.radix + digit_value (get_or c.args.digits.now l.byte-index 0) = omega (arith, c.in_default.ensures {u = tt}) in
    let e : ltb (digits_value c.args.radix c.args.digits.now) (2 ^ 64) ≡ false = le-ltb _ _ (too_large c.args.radix l.value c.args.digits.now l.byte-index (2 ^ 64) _ c.requires c.digits-test.true big l.invariant.1) in
    rw e

pub returns-in_default-checked_add : goal.returns-in_default-checked_add
returns-in_default-checked_add c =
    let l = c.digits in
    let big : 2 ^ 64 ≤ l.value * c.args.radix + digit_value (get_or c.args.digits.now l.byte-index 0) = omega (arith, c.in_default-checked_add.ensures {u = tt}, c.in-Some.ensures, c.digit_value.ensures.value) in
    let e : ltb (digits_value c.args.radix c.args.digits.now) (2 ^ 64) ≡ false = le-ltb _ _ (too_large c.args.radix l.value c.args.digits.now l.byte-index (2 ^ 64) _ c.requires c.digits-test.true big l.invariant.1) in
    rw e
