-- The numbers that come up have room.
use Rattle.std.proofs.Common.{ℕ, ◌*◌, ◌^◌, ◌<◌, ◌≤◌, le_of_lt, lt_of_le_of_lt, mul-le-mul, pow_mono, lit<}
use Rattle.protox_decimal.specs.inner.Limbs.{room}

greatest : 2 ^ 53 * 2 ^ 2045 < room
unfolding room
greatest = lit< tt

size_most : (m e : ℕ) → m < 2 ^ 53 → e ≤ 2045 → m * 2 ^ e ≤ 2 ^ 53 * 2 ^ 2045
size_most m e M E = mul-le-mul (le_of_lt M) (pow_mono E)

pub size_room : (m e : ℕ) → m < 2 ^ 53 → e ≤ 2045 → m * 2 ^ e < room
size_room m e M E = lt_of_le_of_lt (size_most m e M E) greatest

pub size_small : (m e : ℕ) → m < 2 ^ 53 → e ≤ 2045 → m * 2 ^ e < 1 * 2 ^ 1074 * 10 ^ 350
size_small m e M E = lt_of_le_of_lt (size_most m e M E) (lit< tt)

pub scale_room : 1 * 2 ^ 1074 * 10 ^ 350 * 10 < room
unfolding room
scale_room = lit< tt
