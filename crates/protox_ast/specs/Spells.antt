-- When tokens are a file, or the beginning of one, by the rules of the grammar.
use Rattle.std.specs.Prelude.{◌≡◌, ◌<◌, ◌≤◌, ℕ, suc, Bool, true, false, List, [], ◌∷◌, ◌++◌, map, length, take}
use Rattle.std.specs.List.{slice_index_or}
use Rattle.protox_lexeme.specs.Shapes.{Shape, Str, Invalid, Row, Rows}
use Rattle.protox_ast.specs.Tree.{File}
use Rattle.protox_ast.specs.Spelling.{spell}
use Rattle.protox_ast.specs.Keywords.{KeepsKeywords}

-- The rows are the tokens of the tree, and the tree keeps the keyword rules.
abbrev pub Spells : {M : Type 0} → Rows M → File M → Type 0
Spells rows f = (rows ≡ spell f) × KeepsKeywords f

-- ---- tokens and their numbers

-- Whether the token is a string.
abbrev pub is_string : Shape → Bool
is_string (Str value) = true
is_string _ = false

-- The tokens without their tags.
abbrev pub shapes : {M : Type 0} → Rows M → List Shape
shapes rows = map (λ row. row.shape) rows

-- The tokens, each tagged with its number, counted from n.
abbrev pub numbered : ℕ → List Shape → Rows ℕ
numbered n [] = []
numbered n (s ∷ ss) = record { shape = s; at = n } ∷ numbered (suc n) ss

-- Row n. If there is none, an invalid token with the given tag.
abbrev pub row_at : {M : Type 0} → M → Rows M → ℕ → Row M
row_at none rows n = slice_index_or rows n (record { shape = Invalid; at = none })

-- ---- files that go on

-- The file begins with the first n of the tokens, and may go on with any others. Each token is
-- tagged with its number.
pub record GoesOn (tokens : List Shape) (n : ℕ) (f : File ℕ) : Type 0 where
  pub more : List Shape
  pub there : n ≤ length tokens
  pub spells : Spells (numbered 0 (take n tokens ++ more)) f

-- Some file begins with the first n tokens.
abbrev pub BeginsFile : List Shape → ℕ → Type 0
BeginsFile tokens n = (f : File ℕ) × GoesOn tokens n f

-- Token n is unexpected: some file begins with the tokens before it, but none with these and token
-- n.
abbrev pub IsUnexpected : List Shape → ℕ → Type 0
IsUnexpected tokens n = (n < length tokens) × BeginsFile tokens n × (BeginsFile tokens (suc n) → ⊥)

-- The tokens end too soon: some file begins with them, but they are not yet a file.
abbrev pub IsEnded : List Shape → Type 0
IsEnded tokens = BeginsFile tokens (length tokens) × ((f : File ℕ) → Spells (numbered 0 tokens) f → ⊥)
