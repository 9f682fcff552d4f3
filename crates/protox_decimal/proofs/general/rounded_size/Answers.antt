use Rattle.std.proofs.Common.{◌≡◌, ◌*◌, ◌^◌, ◌<◌, ℕ, ℤ, pos, ◌+ℤ◌, ◌≤ℤ◌, negsuc, sym, ap, ap₂, ◌∙◌, to_z, of_z, w32, arith, pow_pos}
use Rattle.std.proofs.lemmas.Int.{ints}
use Rattle.protox_decimal.specs.Rounded.{rounded}
use Rattle.protox_decimal.proofs.Room.{size_small, scale_room}
use Rattle.protox_decimal.proofs.Rounding.{rounded_up, rounded_plain}
use Rattle.protox_decimal.proofs.general.rounded_size.Goals as goal

pub scale-first-requires-clause-small : goal.scale-first-requires-clause-small
scale-first-requires-clause-small c =
    rw (c.units-over.ensures, c.units-under.ensures) (size_small c.args.mantissa c.args.exponent c.requires.mantissa.1 c.requires.exponent)

pub scale-first-requires-clause-room : goal.scale-first-requires-clause-room
scale-first-requires-clause-room c = rw c.units-under.ensures scale_room

value_is : (x : ℤ) → negsuc 400 ≤ℤ x → x ≤ℤ pos 400 → to_z w32 (of_z w32 x) ≡ x
value_is x l h = omega (arith, ints)

next_is : (x : ℤ) → negsuc 400 ≤ℤ x → x ≤ℤ pos 400 → to_z w32 (of_z w32 (to_z w32 (of_z w32 x) +ℤ pos 1)) ≡ x +ℤ pos 1
next_is x l h = omega (arith, ints)

-- The unit of sizes.
unit_pos : (under : ℕ) → under ≡ 1 * 2 ^ 1074 → 0 < under
unit_pos under e = rw e (pow_pos 1074)

unit_is : (under : ℕ) → under ≡ 1 * 2 ^ 1074 → under ≡ 2 ^ 1074
unit_is under e = e

pub returns-then-digits-pow-clause-digits : goal.returns-then-digits-pow-clause-digits
returns-then-digits-pow-clause-digits c =
    let s = c.scale-first in
    let over = c.units-over in
    let under = c.units-under in
    let q = c.rounded_digits-digits in
    let up = rounded_up c.args.precision over.result under.result s.result s.new.over s.new.under q.result s.ensures.same (unit_pos under.result under.ensures) s.ensures.positive s.ensures.exponent q.ensures.value (c.if-digits-pow.true ∙ c.pow.ensures) in
    c.pow-then-digits-pow.ensures ∙ ap (λ r. r.digits) (up ∙ ap₂ (λ n d. rounded c.args.precision n d) over.ensures (unit_is under.result under.ensures))

pub returns-then-digits-pow-clause-place : goal.returns-then-digits-pow-clause-place
returns-then-digits-pow-clause-place c =
    let s = c.scale-first in
    let over = c.units-over in
    let under = c.units-under in
    let q = c.rounded_digits-digits in
    let up = rounded_up c.args.precision over.result under.result s.result s.new.over s.new.under q.result s.ensures.same (unit_pos under.result under.ensures) s.ensures.positive s.ensures.exponent q.ensures.value (c.if-digits-pow.true ∙ c.pow.ensures) in
    next_is s.result s.ensures.bounds.0 s.ensures.bounds.1 ∙ ap (λ r. r.exponent) (up ∙ ap₂ (λ n d. rounded c.args.precision n d) over.ensures (unit_is under.result under.ensures))

pub returns-clause-digits : goal.returns-clause-digits
returns-clause-digits c =
    let s = c.scale-first in
    let over = c.units-over in
    let under = c.units-under in
    let q = c.rounded_digits-digits in
    let plain = rounded_plain c.args.precision over.result under.result s.result s.new.over s.new.under q.result s.ensures.same (unit_pos under.result under.ensures) s.ensures.positive s.ensures.exponent q.ensures.value (λ e. c.if-digits-pow.false (e ∙ sym c.pow.ensures)) in
    ap (λ r. r.digits) (plain ∙ ap₂ (λ n d. rounded c.args.precision n d) over.ensures (unit_is under.result under.ensures))

pub returns-clause-place : goal.returns-clause-place
returns-clause-place c =
    let s = c.scale-first in
    let over = c.units-over in
    let under = c.units-under in
    let q = c.rounded_digits-digits in
    let plain = rounded_plain c.args.precision over.result under.result s.result s.new.over s.new.under q.result s.ensures.same (unit_pos under.result under.ensures) s.ensures.positive s.ensures.exponent q.ensures.value (λ e. c.if-digits-pow.false (e ∙ sym c.pow.ensures)) in
    value_is s.result s.ensures.bounds.0 s.ensures.bounds.1 ∙ ap (λ r. r.exponent) (plain ∙ ap₂ (λ n d. rounded c.args.precision n d) over.ensures (unit_is under.result under.ensures))
