-- The span of all rows of a table.
use Rattle.std.proofs.Common.{◌≡◌, ℕ, suc, ◌-◌, ◌≤◌, true, false, nat_eq, List, [], ◌∷◌, length, slice_index_or, refl, ap, sym, ◌∙◌, arith}
use Rattle.std.proofs.lemmas.Bool.{eqb-true, eqb-false}
use Rattle.protox_fault.specs.Faults.{Span}
use Rattle.protox_lexeme.specs.Shapes.{Shape, Row, Rows}
use Rattle.protox_ast.specs.AstParts.{join, last_place, rows_span}
use Rattle.protox_ast.specs.Places.{Place, later_gaps, placed_from}
use Rattle.protox_syntax.specs.inner.ParsedTable.{bare_span}

last-at : (r : Row Span) (rs : Rows Span) (d : Row Span) → last_place (λ (x : Row Span). x.at) r.at rs ≡ (slice_index_or (r ∷ rs) (length rs) d).at
last-at r [] d = refl
last-at r (s ∷ rs) d = last-at s rs d

-- from the first row to the last
pub rows-span : (size : ℕ) (rows : Rows Span) (d : Row Span) → 1 ≤ length rows → join (slice_index_or rows 0 d).at (slice_index_or rows (length rows - 1) d).at ≡ bare_span size rows
rows-span size [] d h = absurd (omega (arith, h))
rows-span size (r ∷ rs) d h =
    let before : suc (length rs) - 1 ≡ length rs = omega arith in
    ap (λ k. join r.at (slice_index_or (r ∷ rs) k d).at) before ∙ ap (join r.at) (sym (last-at r rs d))

last-placed : (span : Span) (rows : Rows Span) (gaps : List (List Shape)) → last_place (λ (x : Row Place). x.at.span) span (placed_from false rows gaps) ≡ last_place (λ (x : Row Span). x.at) span rows
last-placed span [] gaps = refl
last-placed span (r ∷ rs) gaps = last-placed r.at rs (later_gaps gaps)

-- the comments around rows don't matter
pub placed-span : (size : ℕ) (rows : Rows Span) (gaps : List (List Shape)) → rows_span size (placed_from true rows gaps) ≡ bare_span size rows
placed-span size [] gaps = refl
placed-span size (r ∷ rs) gaps = ap (join r.at) (last-placed r.at rs (later_gaps gaps))

pub none-if-empty : {A : Type 0} (xs : List A) (n : ℕ) → n ≡ length xs → true ≡ nat_eq n 0 → xs ≡ []
none-if-empty [] n is h = refl
none-if-empty (x ∷ xs) n is h = let z = eqb-true n 0 (sym h) in absurd (omega (arith, z, is))

pub some-if-not-empty : {A : Type 0} (xs : List A) (n : ℕ) → n ≡ length xs → false ≡ nat_eq n 0 → xs ≡ [] → ⊥
some-if-not-empty xs n is h e = eqb-false n 0 (sym h) (is ∙ ap length e)
