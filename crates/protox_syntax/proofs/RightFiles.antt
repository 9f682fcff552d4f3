-- A file that is read statement by statement: once all rows are read, the source is accepted.
use Rattle.std.proofs.Common.{◌≡◌, List, [], ◌∷◌, ◌++◌, Option, None, sym, ap, subst, ◌∙◌, append-nil, append_assoc}
use Rattle.protox_fault.specs.Faults.{Span}
use Rattle.protox_lexeme.specs.Shapes.{Rows}
use Rattle.protox_ast.proofs.Lemmas.{each-append}
use Rattle.protox_ast.specs.inner.Fine.{IsFine}
use Rattle.protox_ast.specs.KeywordWalk as k
use Rattle.protox_ast.specs.Keywords.{Each}
use Rattle.protox_ast.specs.Places.{Place}
use Rattle.protox_ast.specs.Tree as tree
use Rattle.protox_grammar.specs.Bodies as bodies
use Rattle.protox_grammar.specs.Noted.{noted_nodes, steps}
use Rattle.protox_grammar.specs.Steps.{Steps, steps_of_many}
use Rattle.protox_grammar.specs.Told.{first_behind, keyword_behind, place_of}
use Rattle.protox_grammar.proofs.Lemmas.{first-append, noted-append}
use Rattle.protox_declarations.specs.inner.Options.{here}
use Rattle.protox_syntax.specs.NextStatement.{IsNextSyntax, IsRight, syntax_steps}
use Rattle.protox_syntax.specs.inner.SoFar.{IsRightSoFar, begun}
use Rattle.protox_syntax.specs.inner.Statements.{levels, next_first, statement_rule, statement_seen}

-- The file with one more statement.
abbrev pub and_statement : tree.File Place → tree.Statement Place → tree.File Place
and_statement f x = record { syntax = f.syntax; statements = f.statements ++ x ∷ [] }

pub steps-begun : (x : Option (tree.Syntax Place)) → steps levels (begun x) ≡ syntax_steps x
unfolding bodies.file
steps-begun x = append-nil (syntax_steps x)

pub right-begun : (old new : Rows Place) (found : _) (n : IsNextSyntax old new found) → IsRightSoFar None (begun n.it)
right-begun old new found n = record {
  fits = tt;
  fine = subst (λ l. Each IsFine (noted_nodes None here l)) (sym (steps-begun n.it)) (n.fine here);
  place = ap (λ l. place_of (first_behind None l)) (steps-begun n.it) ∙ ap place_of n.no_package;
}

many-more : {A : Type 0} (f : A → Steps Place) (xs : List A) (x : A) → steps_of_many f (xs ++ x ∷ []) ≡ steps_of_many f xs ++ f x
many-more f [] x = append-nil (f x)
many-more f (y ∷ ys) x = ap (λ l. f y ++ l) (many-more f ys x) ∙ sym (append_assoc (f y) (steps_of_many f ys) (f x))

pub steps-more : (f : tree.File Place) (x : tree.Statement Place) → steps levels (and_statement f x) ≡ steps levels f ++ statement_rule.steps x
unfolding bodies.file
steps-more f x = ap (λ l. syntax_steps f.syntax ++ l) (many-more statement_rule.steps f.statements x) ∙ sym (append_assoc (syntax_steps f.syntax) (steps_of_many statement_rule.steps f.statements) (statement_rule.steps x))

each-more : {A : Type 0} (P : A → Type 0) (xs : List A) (x : A) → k.Each P xs → P x → k.Each P (xs ++ x ∷ [])
each-more P [] x h p = (p, tt)
each-more P (y ∷ ys) x h p = (h.0, each-more P ys x h.1 p)

pub right-more : (first : Option Span) (f : tree.File Place) (x : tree.Statement Place) → IsRightSoFar first f → IsRight first x → IsRightSoFar (next_first first (statement_seen x)) (and_statement f x)
right-more first f x so_far right =
    let before = first_behind None (steps levels f) in
    let keyword = keyword_behind here (steps levels f) in
    record {
      fits = each-more (bodies.StatementHas (bodies.FitsMbody levels)) f.statements x so_far.fits right.fits;
      fine = subst (Each IsFine) (sym (ap (noted_nodes None here) (steps-more f x) ∙ noted-append None here (steps levels f) (statement_rule.steps x)))
          (each-append IsFine (noted_nodes None here (steps levels f)) (noted_nodes before keyword (statement_rule.steps x)) so_far.fine (right.fine before keyword so_far.place));
      place = ap (λ l. place_of (first_behind None l)) (steps-more f x) ∙ ap place_of (first-append None (steps levels f) (statement_rule.steps x)) ∙ right.next before so_far.place;
    }
