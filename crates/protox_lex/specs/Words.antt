-- Patterns, read as sets of words.
use Rattle.std.specs.Prelude.{◌≡◌, ℕ, true, List, [], ◌∷◌, ◌++◌, ◌⊎◌}
use Rattle.std.specs.List.{list_all}
use Rattle.protox_lexeme.specs.Pattern.{Pattern, one, many, ◌⋅◌, ◌∣◌, maybe}

-- The word belongs to the pattern.
abbrev pub IsWordOf : Pattern → List ℕ → Type 0
IsWordOf (one p) word = (b : ℕ) × (p b ≡ true) × (word ≡ b ∷ [])
IsWordOf (many p) word = list_all p word ≡ true
IsWordOf (a ⋅ b) word = (x : List ℕ) × (y : List ℕ) × (word ≡ x ++ y) × IsWordOf a x × IsWordOf b y
IsWordOf (a ∣ b) word = IsWordOf a word ⊎ IsWordOf b word
IsWordOf (maybe a) word = (word ≡ []) ⊎ IsWordOf a word
