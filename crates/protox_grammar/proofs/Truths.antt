-- If the reader of the grammar stops, the fault there is true. No such fault is true of tokens that
-- spell a file.
use Rattle.std.proofs.Common.{◌≡◌, inl, inr, suc, true, [], ◌∷◌, ◌++◌, length, refl, sym, ap, subst, ◌∙◌, arith, true≢false}
use Rattle.std.proofs.lemmas.List.{length-append}
use Rattle.protox_fault.specs.Faults.{Span, span_from}
use Rattle.protox_lexeme.specs.Shapes.{Row, Rows}
use Rattle.protox_lexeme.specs.Printed.{printed}
use Rattle.protox_lexeme.specs.Table.{rows_of}
use Rattle.protox_ast.specs.Keywords.{is_significant}
use Rattle.protox_ast.specs.Spells.{shapes}
use Rattle.protox_ast.specs.Truth.{source_row}
use Rattle.protox_grammar.specs.TruthLaws.{StopIsTrue, EndIsTrue, NoneIsUnexpected, NoneIsEnded}
use Rattle.protox_grammar.proofs.Fronts as fronts

-- The row after the first rows.
row-behind : (front : Rows Span) (here : Row Span) (rest : Rows Span) → source_row (front ++ (here ∷ rest)) (length front) ≡ here
row-behind [] here rest = refl
row-behind (x ∷ front) here rest = row-behind front here rest

pub stop-is-true : StopIsTrue
stop-is-true lexemes n front rest here expected parts stops token =
    let u = fronts.unexpected here.at n (length rest) (rows_of lexemes) stops in
    let place : u.0 ≡ length front = omega (arith, u.1, ap length parts, length-append front (here ∷ rest)) in
    let row : here ≡ source_row (rows_of lexemes) u.0 = sym (row-behind front here rest) ∙ ap (λ rows. source_row rows (length front)) (sym parts) ∙ ap (source_row (rows_of lexemes)) (sym place) in
    (u.0, u.2, ap (λ r. r.at) row, ap (λ r. printed r.shape) row, subst (λ r. is_significant r.shape ≡ true) row token)

pub end-is-true : EndIsTrue
end-is-true lexemes n expected stops other = inr (other, fronts.ended (span_from 0 0) n (rows_of lexemes) stops)

pub none-is-unexpected : NoneIsUnexpected
none-is-unexpected lexemes f span expected found spells h =
    let tokens = shapes (rows_of lexemes) in
    h.1.2 (fronts.begins-before tokens (suc h.0) (length tokens) h.1.0 (fronts.spelling-begins span (rows_of lexemes) f spells))

pub none-is-ended : NoneIsEnded
none-is-ended lexemes f expected spells other (inl a) = true≢false (sym a.0 ∙ other)
none-is-ended lexemes f expected spells other (inr b) = let g = fronts.spelling-numbered (span_from 0 0) (rows_of lexemes) f spells in b.1.1 g.0 g.1
