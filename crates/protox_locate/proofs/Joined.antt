-- A short path, number by number.
use Rattle.std.proofs.Common.{◌≡◌, ◌<◌, ◌≤◌, ◌∙◌, List, [], ◌∷◌, ◌++◌, length, get_or, pos, arith}
use Rattle.std.specs.Prelude.{ℤ}

-- four numbers and a tag behind them
pub tag_behind_four : (path made : List ℤ) (tag p q r s t : ℤ) → 4 ≤ length path → length path < 5
    → p ≡ get_or path 0 (pos 0) → q ≡ get_or path 1 (pos 0) → r ≡ get_or path 2 (pos 0) → s ≡ get_or path 3 (pos 0) → t ≡ tag
    → made ≡ p ∷ q ∷ r ∷ s ∷ t ∷ [] → made ≡ path ++ tag ∷ []
tag_behind_four (a ∷ b ∷ c ∷ d ∷ []) made tag p q r s t least most first second third fourth last is = is ∙ (λ i. first i ∷ second i ∷ third i ∷ fourth i ∷ last i ∷ [])
tag_behind_four [] made tag p q r s t least most first second third fourth last is = absurd (omega (arith, least))
tag_behind_four (a ∷ []) made tag p q r s t least most first second third fourth last is = absurd (omega (arith, least))
tag_behind_four (a ∷ b ∷ []) made tag p q r s t least most first second third fourth last is = absurd (omega (arith, least))
tag_behind_four (a ∷ b ∷ c ∷ []) made tag p q r s t least most first second third fourth last is = absurd (omega (arith, least))
tag_behind_four (a ∷ b ∷ c ∷ d ∷ e ∷ path) made tag p q r s t least most first second third fourth last is = absurd (omega (arith, most))
