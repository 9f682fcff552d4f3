-- What an array of limbs of 32 bits says.
use Rattle.std.specs.Prelude.{ℕ, ◌+◌, ◌*◌, ◌^◌, List, [], ◌∷◌}

-- The number that limbs stand for, the lowest of them first.
unfoldable pub value : List ℕ → ℕ
value [] = 0
value (limb ∷ more) = limb + 2 ^ 32 * value more

-- The numbers below this one fit 72 limbs.
unfoldable pub room : ℕ
room = 2 ^ 2304
