-- A number for each key, so that most keys that differ are told apart without making them.
use Rattle.std.specs.Prelude.{◌≡◌, ◌<◌, ◌+◌, ◌*◌, ◌%◌, ℕ, List, [], ◌∷◌, length, get_or}

abbrev pub mix : ℕ → ℕ → ℕ
mix print byte = (print * 31 + byte) % 4294967296

abbrev pub print_from : ℕ → List ℕ → ℕ
print_from print [] = print
print_from print (byte ∷ rest) = print_from (mix print byte) rest

abbrev pub print_of : List ℕ → ℕ
print_of key = print_from 0 key

-- No two of these are equal.
abbrev pub Differ : List ℕ → Type 0
Differ prints = (i j : ℕ) → i < j → j < length prints → get_or prints i 0 ≡ get_or prints j 0 → ⊥
