-- The number that an integer literal with its sign stands for.
use Rattle.std.specs.Prelude.{ℤ, pos, neg_ℤ, ◌≤ℤ◌, if◌then◌else◌}
use Rattle.protox_ast.specs.declared.ast.Int.{Int}

-- The number, with its sign.
abbrev pub signed_value : Int → ℤ
signed_value int = if int.negative then neg_ℤ (pos int.value) else pos int.value

-- The number is at least `low` and at most `high`.
abbrev pub IsBetween : ℤ → ℤ → ℤ → Type 0
IsBetween low high number = (low ≤ℤ number) × (number ≤ℤ high)
