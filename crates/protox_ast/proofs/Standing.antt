-- Rows with places that stand between two offsets of a source, one after another.
use Rattle.std.proofs.Common.{◌≡◌, ℕ, suc, ◌≤◌, ◌+◌, Bool, true, false, List, [], ◌∷◌, ◌++◌, length, refl, sym, ap, subst, arith}
use Rattle.std.specs.Str.{IsUtf8}
use Rattle.protox_fault.specs.Faults.{Span}
use Rattle.protox_lexeme.specs.Lexemes.{cut}
use Rattle.protox_lexeme.specs.Shapes.{Shape, Rows}
use Rattle.protox_lexeme.specs.Table.{StandBetween, table_of, rows_of, gaps_of}
use Rattle.protox_lexeme.proofs.Lemmas.{stand}
use Rattle.protox_ast.specs.Places.{Place, later_gaps, placed_from, placed}

-- rows without the comments around them
abbrev pub bare : Rows Place → Rows Span
bare [] = []
bare (r ∷ rs) = record { shape = r.shape; at = r.at.span } ∷ bare rs

pub bare-placed : (first : Bool) (rows : Rows Span) (gaps : List (List Shape)) → bare (placed_from first rows gaps) ≡ rows
bare-placed first [] gaps = refl
bare-placed first (r ∷ rs) gaps = ap (λ xs. r ∷ xs) (bare-placed false rs (later_gaps gaps))

pub as-many : (first : Bool) (rows : Rows Span) (gaps : List (List Shape)) → length (placed_from first rows gaps) ≡ length rows
as-many first [] gaps = refl
as-many first (r ∷ rs) gaps = ap suc (as-many false rs (later_gaps gaps))

abbrev pub Stand : ℕ → ℕ → Rows Place → Type 0
Stand low high xs = StandBetween low high (bare xs)

-- The tokens of a source stand in it.
pub tokens-stand : (source : List ℕ) → IsUtf8 source → Stand 0 (length source) (placed (table_of (cut 0 source)))
tokens-stand source u = subst (StandBetween 0 (length source)) (sym (bare-placed true (rows_of (cut 0 source)) (gaps_of (cut 0 source)))) (stand source u)

pub in-order : (low high : ℕ) (a : Rows Place) → Stand low high a → low ≤ high
in-order low high [] h = h
in-order low high (x ∷ a) h = omega (arith, h.0, h.1, in-order x.at.span.end high a h.2)

-- The second rows stand after the first.
pub stand-after : (low high : ℕ) (a b : Rows Place) → Stand low high (a ++ b) → (m : ℕ) × (low ≤ m) × Stand m high b
stand-after low high [] b h = (low, omega arith, h)
stand-after low high (x ∷ a) b h =
    let p = stand-after x.at.span.end high a b h.2 in
    (p.0, omega (arith, h.0, h.1, p.1), p.2)

-- The first rows stand there too.
pub stand-front : (low high : ℕ) (a b : Rows Place) → Stand low high (a ++ b) → Stand low high a
stand-front low high [] b h = in-order low high b h
stand-front low high (x ∷ a) b h = (h.0, h.1, stand-front x.at.span.end high a b h.2)

-- Each row has at least one byte.
pub count-fits : (low high : ℕ) (rows : Rows Place) → Stand low high rows → low + length rows ≤ high
count-fits low high [] h = omega arith
count-fits low high (x ∷ a) h = omega (arith, h.0, h.1, count-fits x.at.span.end high a h.2)
