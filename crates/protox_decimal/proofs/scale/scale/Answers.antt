use Rattle.std.proofs.Common.{◌≡◌, ◌*◌, ◌^◌, ◌<◌, ◌≤◌, ℕ, pos, ◌-ℤ◌, ◌∙◌, to_z, of_z, w32, arith}
use Rattle.std.proofs.lemmas.Int.{ints}
use Rattle.protox_decimal.specs.inner.Limbs.{room}
use Rattle.protox_decimal.proofs.Scaled.{raised_room, scaled_exponent, scaled_found, scaled_same}
use Rattle.protox_decimal.proofs.scale.scale.Goals as goal

pub lower-down-requires-clause-room : goal.lower-down-requires-clause-room
lower-down-requires-clause-room c =
    let e = c.raise-up.ensures in
    rw e.power (raised_room c.args.under.now c.raise-up.result (room) e.bound c.requires.room)

pub returns-clause-room : goal.returns-clause-room
returns-clause-room c =
    let e = c.raise-up.ensures in
    rw e.power (raised_room c.args.under.now c.raise-up.result (room) e.bound c.requires.room)

value_is : (up down : ℕ) → up ≤ 350 → down ≤ 350 → to_z w32 (of_z w32 (to_z w32 up -ℤ to_z w32 down)) ≡ pos up -ℤ pos down
value_is up down u d = omega (arith, ints)

pub returns-clause-exponent : goal.returns-clause-exponent
returns-clause-exponent c =
    let n = c.args.over.now in
    let d = c.args.under.now in
    let u = c.raise-up in
    let l = c.lower-down in
    let from : d * 10 ^ u.result ≤ n * 10 ^ l.result = omega (arith, u.ensures.power, l.ensures.power, l.ensures.from) in
    let below : n * 10 ^ l.result < 10 * (d * 10 ^ u.result) = omega (arith, u.ensures.power, l.ensures.power, l.ensures.below) in
    value_is u.result l.result u.ensures.bound l.ensures.bound
    ∙ scaled_exponent n d u.result l.result c.requires.positive.0 c.requires.positive.1 u.ensures.bound l.ensures.bound from below

pub returns-clause-found : goal.returns-clause-found
returns-clause-found c =
    let n = c.args.over.now in
    let d = c.args.under.now in
    let u = c.raise-up in
    let l = c.lower-down in
    let from : d * 10 ^ u.result ≤ n * 10 ^ l.result = omega (arith, u.ensures.power, l.ensures.power, l.ensures.from) in
    let below : n * 10 ^ l.result < 10 * (d * 10 ^ u.result) = omega (arith, u.ensures.power, l.ensures.power, l.ensures.below) in
    rw (value_is u.result l.result u.ensures.bound l.ensures.bound) (scaled_found n d u.result l.result c.requires.positive.0 c.requires.positive.1 from below)

pub returns-clause-same : goal.returns-clause-same
returns-clause-same c =
    let n = c.args.over.now in
    let d = c.args.under.now in
    let u = c.raise-up in
    let l = c.lower-down in
    rw (value_is u.result l.result u.ensures.bound l.ensures.bound, u.ensures.power, l.ensures.power) (scaled_same n d u.result l.result c.requires.positive.0 c.requires.positive.1)
