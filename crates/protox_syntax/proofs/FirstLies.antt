-- The first package statement of a file lies in the source.
use Rattle.std.proofs.Common.{◌≡◌, List, [], ◌∷◌, ◌++◌, Option, Some, None, refl, sym, ap, subst, ◌∙◌, append_assoc}
use Rattle.protox_fault.specs.Faults.{Span}
use Rattle.protox_lexeme.specs.Shapes.{Rows}
use Rattle.protox_lexeme.specs.Table.{Table}
use Rattle.protox_ast.specs.Keywords.{Each}
use Rattle.protox_ast.specs.Places.{Place, placed}
use Rattle.protox_ast.specs.Spelling as s
use Rattle.protox_ast.specs.Tree as tree
use Rattle.protox_ast.specs.declared.ast.Package as package_type
use Rattle.protox_syntax.proofs.Growing.{place_behind}
use Rattle.protox_syntax.proofs.Prefix.{Fits, code-reads}
use Rattle.protox_syntax.proofs.Recovering.{IsLastOf, further-lies}
use Rattle.protox_syntax.proofs.Turns.{first-added}
use Rattle.protox_syntax.specs.inner.Recovery.{FirstLies}
use Rattle.protox_syntax.specs.inner.SoFar.{IsRightSoFar}
use Rattle.protox_syntax.specs.inner.Statements.{Statements, add_statement, added, first_place, next_first, no_statements, or_later, statement_seen, statements_seen, then_statements}

later-none : (q : Option package_type.Package) → or_later q [] ≡ q
later-none None = refl
later-none (Some x) = refl

place-then : (st : Statements) (xs : List (tree.Statement Place)) → first_place (then_statements st xs) ≡ place_behind (first_place st) xs
place-then st [] = ap (λ q. first_place (record st { first = q })) (later-none st.first)
place-then st (x ∷ xs) = ap first_place (sym (added st x xs)) ∙ place-then (add_statement st (statement_seen x)) xs ∙ ap (λ q. place_behind q xs) (first-added st (statement_seen x))

behind-more : (all front xs rest : Rows Place) → IsLastOf all (front ++ (xs ++ rest)) → IsLastOf all (xs ++ rest)
behind-more all front xs rest h = (h.0 ++ front, h.1 ∙ sym (append_assoc h.0 front (xs ++ rest)))

lies-all : (all rest : Rows Place) (q : Option Span) (xs : List (tree.Statement Place)) → Each Fits xs → IsLastOf all (s.many s.statement xs ++ rest) → FirstLies all q → FirstLies all (place_behind q xs)
lies-all all rest q [] fits last lies = lies
lies-all all rest q (x ∷ xs) fits last lies =
    let more = s.many s.statement xs in
    let here : IsLastOf all (s.statement x ++ (more ++ rest)) = subst (IsLastOf all) (append_assoc (s.statement x) more rest) last in
    lies-all all rest (next_first q (statement_seen x)) xs fits.1 (behind-more all (s.statement x) more rest here) (further-lies all (s.statement x ++ (more ++ rest)) (more ++ rest) q (statement_seen x) here lies (code-reads x (more ++ rest) fits.0))

pub lies-behind : (t : Table) (f : tree.File Place) (first : Option Span) (rest : Rows Place) → IsRightSoFar first f → placed t ≡ s.spell f ++ rest → FirstLies (placed t) (first_place (statements_seen f.statements))
lies-behind t f first rest so_far is =
    subst (FirstLies (placed t)) (sym (place-then no_statements f.statements))
    (lies-all (placed t) rest None f.statements so_far.fits (s.maybe s.syntax f.syntax, is ∙ append_assoc (s.maybe s.syntax f.syntax) (s.many s.statement f.statements) rest) (λ low size st. tt))
