use Rattle.std.proofs.Common.{◌≡◌, ◌≤◌, ℕ, [], ◌∷◌, Some, refl, sym, ap, ◌∙◌, arith, false}
use Rattle.std.proofs.lemmas.Bool.{le-ltb}
use Rattle.std.specs.Prelude.{nat_lt}
use Rattle.protox_ast.specs.Places.{Place}
use Rattle.protox_grammar.specs.Class.{among, class, in_set, union, words}
use Rattle.protox_grammar.specs.Reader.{head_in}
use Rattle.protox_grammar.specs.Token as token
use Rattle.protox_lexeme.specs.Shapes.{Row, Rows}
use Rattle.protox_rows.specs.Rows.{IsFirst}
use Rattle.protox_declarations.proofs.values.sees_constant.Goals as goal

-- what comes next is no word
no-word : (rows : Rows Place) (first : Row Place) (k : ℕ) → IsFirst rows (Some first) → k ≡ class first.shape → 39 ≤ k
    → among (token.an_integer ∷ token.a_float ∷ token.minus ∷ []) k ≡ head_in (in_set (union words (among (token.an_integer ∷ token.a_float ∷ token.minus ∷ [])))) rows
no-word [] first k i e l = absurd i
no-word (x ∷ xs) first k i e l =
    let at : class x.shape ≡ k = ap (λ (r : Row Place). class r.shape) i ∙ sym e in
    let past : nat_lt k 39 ≡ false = le-ltb k 39 l in
    rw (at, past) refl

pub returns-else-class-lt-INTEGER : goal.returns-else-class-lt-INTEGER
returns-else-class-lt-INTEGER c = c.is_among.ensures ∙ no-word c.args.rows.now c.in-Some.first c.class-class.result c.in-Some.ensures c.class-class.ensures (omega (arith, c.if-class-lt-INTEGER.false))
