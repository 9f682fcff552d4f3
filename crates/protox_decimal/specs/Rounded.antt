-- A positive number n / d, rounded to some decimal digits.
use Rattle.std.specs.Prelude.{ℕ, suc, ◌*◌, ◌-◌, ◌^◌, ◌==◌, ℤ, pos, negsuc, ◌+ℤ◌, ◌-ℤ◌, Bool, ◌&&◌, List, map, find, unwrap_or, nat_le, nat_lt, if◌then◌else◌}
use Rattle.std.specs.List.{range_with_len}
use Rattle.std.specs.Float.Ieee.Nearest.{closest}

-- 10 ^ x is the fraction tens x / tenths x.
abbrev pub tens : ℤ → ℕ
tens (pos k) = 10 ^ k
tens (negsuc k) = 1

abbrev pub tenths : ℤ → ℕ
tenths (pos k) = 1
tenths (negsuc k) = 10 ^ suc k

-- Whether 10 ^ x <= n / d < 10 ^ (x + 1).
abbrev pub is_exponent : ℕ → ℕ → ℤ → Bool
is_exponent n d x = nat_le (d * tens x) (n * tenths x) && nat_lt (n * tenths x) (10 * (d * tens x))

-- The integers from -400 to 399. The exponent of each float above 0 lies among them.
unfoldable pub exponents : List ℤ
exponents = map (λ k. pos k -ℤ pos 400) (range_with_len 0 800)

-- The decimal exponent of n / d: the one among these that passes. (`scale` ensures that there is one
-- for each float above 0. Elsewhere it is 0.)
unfoldable pub exponent_of : ℕ → ℕ → ℤ
exponent_of n d = unwrap_or (find (is_exponent n d) exponents) (pos 0)

-- A number as a whole number of digits, and the decimal exponent of the first of them.
pub record Rounded : Type 0 where
  pub digits : ℕ
  pub exponent : ℤ

-- The number may be rounded up to 10 ^ precision, which has a digit too many.
abbrev pub carried : ℕ → ℕ → ℤ → Rounded
carried precision q x =
    if q == 10 ^ precision then record { digits = 10 ^ (precision - 1); exponent = x +ℤ pos 1 }
    else record { digits = q; exponent = x }

-- n / d with a first digit at the exponent x, rounded to the nearest. A tie goes to the even digit.
abbrev pub rounded_at : ℕ → ℤ → ℕ → ℕ → Rounded
rounded_at precision x n d = carried precision (closest (n * tenths x * 10 ^ (precision - 1)) (d * tens x)) x

abbrev pub rounded : ℕ → ℕ → ℕ → Rounded
rounded precision n d = rounded_at precision (exponent_of n d) n d
