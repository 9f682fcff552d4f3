-- Shapes that come back when their printed text is lexed.
use Rattle.std.specs.Prelude.{◌≡◌, ℕ, ◌^◌, ◌<◌, true, false, nat_lt, List, [], ◌∷◌, ◌++◌}
use Rattle.std.specs.List.{list_all}
use Rattle.protox_lexeme.specs.declared.scan.Kind.TheVariants as kind
use Rattle.protox_lexeme.specs.Lexemes.{has_suffix, is_whole}
use Rattle.protox_lexeme.specs.Lexicon.{pattern, is_mark}
use Rattle.protox_lexeme.specs.Printed.{printed}
use Rattle.protox_lexeme.specs.Shapes.{Shape, Ident, Int, Float, Str, Mark}
use Rattle.protox_lex.specs.Words.{IsWordOf}

-- Every number of the list is a byte.
abbrev pub AreBytes : List ℕ → Type 0
AreBytes s = list_all (λ b. nat_lt b 256) s ≡ true

-- An identifier fits the pattern of identifiers, and an integer has 64 bits. A float fits the
-- pattern of floats, has a point or an exponent, and has no suffix. A string has bytes, and a mark
-- is one of the marks. Comments, newlines and invalid characters are left out.
abbrev pub IsPrintable : Shape → Type 0
IsPrintable (Ident s) = IsWordOf (pattern kind.Identifier) s
IsPrintable (Int n) = n < 2 ^ 64
IsPrintable (Float s) = IsWordOf (pattern kind.Float) s × (has_suffix s ≡ false) × (is_whole s ≡ false)
IsPrintable (Str s) = AreBytes s
IsPrintable (Mark b) = is_mark b ≡ true
IsPrintable other = ⊥

-- Every shape of the list is printable.
abbrev pub ArePrintable : List Shape → Type 0
ArePrintable [] = Unit {0}
ArePrintable (x ∷ xs) = IsPrintable x × ArePrintable xs

-- The shapes as they print, with one space between them.
abbrev pub spaced : List Shape → List ℕ
spaced [] = []
spaced (x ∷ []) = printed x
spaced (x ∷ xs) = printed x ++ 32 ∷ spaced xs
