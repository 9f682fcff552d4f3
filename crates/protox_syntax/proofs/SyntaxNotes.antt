-- All notes of the syntax statement are faults.
use Rattle.std.proofs.Common.{codes, ℕ, List, [], Result, Ok, Err}
use Rattle.protox_fault.specs.Faults.{Span}
use Rattle.protox_lexeme.specs.Shapes.{Ident, Mark, Rows}
use Rattle.protox_ast.specs.Spelling as s
use Rattle.protox_ast.specs.Places.{Place}
use Rattle.protox_grammar.specs.Class.{only, in_set}
use Rattle.protox_grammar.specs.Reader.{Refusal, fixed, head_in}
use Rattle.protox_grammar.specs.Told.{Notes, checked, syntax_faults, syntax_notes, then_notes}
use Rattle.protox_grammar.specs.Token as token
use Rattle.protox_rows.specs.inner.Strings.{strings}
use Rattle.protox_syntax.specs.inner.Statements.{syntax, syntax_if_any, syntax_value}
use Rattle.protox_syntax.proofs.Modes.{AreFaults, cond-faults, noted-faults}

checked-faults : (r : Result ((List ℕ × Span) × Rows Place) Refusal) → AreFaults (checked syntax_notes r)
checked-faults (Ok x) = noted-faults (syntax_faults x.0.0 x.0.1) x.1
checked-faults (Err e) = tt

then-faults : {A : Type 0} (g : Rows Place → Notes) → ((xs : Rows Place) → AreFaults (g xs)) → (r : Result (A × Rows Place) Refusal) → AreFaults (then_notes g r)
then-faults g h (Ok x) = h x.1
then-faults g h (Err e) = tt

value-faults : (xs : Rows Place) → AreFaults (syntax_value.notes xs)
unfolding syntax_value
value-faults xs = checked-faults (strings.code xs)

statement-faults : (xs : Rows Place) → AreFaults (syntax.notes xs)
unfolding syntax
statement-faults xs =
    then-faults (λ ys. then_notes syntax_value.notes (fixed (Mark s.equals) ys)) (λ ys. then-faults syntax_value.notes value-faults (fixed (Mark s.equals) ys)) (fixed (Ident (codes "syntax")) xs)

pub syntax-faults : (xs : Rows Place) → AreFaults (syntax_if_any.notes xs)
unfolding syntax_if_any
syntax-faults xs = cond-faults (head_in (in_set (only token.syntax)) xs) (syntax.notes xs) [] (statement-faults xs) tt
