-- The text of an aggregate, token by token.
use Rattle.std.proofs.Common.{◌≡◌, ◌++◌, ℕ, suc, ◌-◌, Bool, true, false, cond, eqb, List, [], ◌∷◌, length, Option, Some, None, Result, Ok, Err, refl, sym, ap, subst, append-nil, append_assoc}
use Rattle.protox_lexeme.specs.Shapes.{Shape, Row, Rows, Ident, Int, Float, Str, Mark, LineComment, BlockComment, Newline, Invalid}
use Rattle.protox_ast.specs.Ast as ast
use Rattle.protox_ast.specs.KeywordWalk as k
use Rattle.protox_ast.specs.Places.{Place}
use Rattle.protox_grammar.specs.Reader.{Reader, Refusal, Unexpected, mapped, ◌>>=◌}
use Rattle.protox_grammar.specs.Rules as r
use Rattle.protox_declarations.specs.inner.Options as options

abbrev pub printed_from : Bool → Rows Place → List ℕ
printed_from true xs = ast.aggregate_text xs
printed_from false xs = ast.spaced xs

abbrev pub left_inside : List ℕ → Bool → ℕ → Reader Place (List ℕ)
left_inside text first unclosed = mapped (λ xs. text ++ printed_from first xs) (r.balanced_at unclosed)

abbrev pub Turned : List ℕ → Bool → ℕ → Row Place → Rows Place → Option ℕ → Type 0
Turned text first unclosed x xs (Some n) = left_inside text first unclosed (x ∷ xs) ≡ left_inside (text ++ options.print_on first x.shape) false n xs
Turned text first unclosed x xs None = left_inside text first unclosed (x ∷ xs) ≡ Ok (text, x ∷ xs)

front : (text : List ℕ) (first : Bool) (x : Row Place) (xs : Rows Place) → text ++ printed_from first (x ∷ xs) ≡ (text ++ options.print_on first x.shape) ++ printed_from false xs
front text true x xs = sym (append_assoc text (options.print_on true x.shape) (ast.spaced xs))
front text false x xs = sym (append_assoc text (options.print_on false x.shape) (ast.spaced xs))

abbrev printing : List ℕ → Bool → Rows Place → List ℕ
printing text first xs = text ++ printed_from first xs

abbrev put : Row Place → Rows Place × Rows Place → Result (Rows Place × Rows Place) Refusal
put x y = Ok (x ∷ y.0, y.1)

abbrev seen_as : List ℕ → Bool → Rows Place × Rows Place → Result (List ℕ × Rows Place) Refusal
seen_as text first y = Ok (printing text first y.0, y.1)

after-token : (text : List ℕ) (first : Bool) (x : Row Place) (read : Result (Rows Place × Rows Place) Refusal) → ((read >>= put x) >>= seen_as text first) ≡ (read >>= seen_as (text ++ options.print_on first x.shape) false)
after-token text first x (Ok y) = ap (λ v. Ok (v, y.1)) (front text first x y.0)
after-token text first x (Err e) = refl

nothing-more : (text : List ℕ) (first : Bool) → text ++ printed_from first [] ≡ text
nothing-more text true = append-nil text
nothing-more text false = append-nil text

turn : (text : List ℕ) (first : Bool) (unclosed : ℕ) (x : Row Place) (xs : Rows Place) (o s z g : Bool) → k.is_open_brace x.shape ≡ o → k.is_close_brace x.shape ≡ s → eqb unclosed 0 ≡ z → k.is_significant x.shape ≡ true
    → Turned text first unclosed x xs (cond o (Some (suc unclosed)) (cond s (cond z None (Some (unclosed - 1))) (Some unclosed)))
unfolding r.balanced_at
turn text first unclosed x xs true s z g p q h k = rw p (after-token text first x (r.balanced_at (suc unclosed) xs))
turn text first unclosed x xs false true true g p q h k = rw (p, q, h) (ap (λ v. Ok (v, x ∷ xs)) (nothing-more text first))
turn text first unclosed x xs false true false g p q h k = rw (p, q, h) (after-token text first x (r.balanced_at (unclosed - 1) xs))
turn text first unclosed x xs false false z g p q h k = rw (p, q, k) (after-token text first x (r.balanced_at unclosed xs))

pub turned : (text : List ℕ) (first : Bool) (unclosed : ℕ) (x : Row Place) (xs : Rows Place) (o : Option ℕ) → options.open_behind unclosed x.shape ≡ o → k.is_significant x.shape ≡ true → Turned text first unclosed x xs o
turned text first unclosed x xs o e h = subst (Turned text first unclosed x xs) e (turn text first unclosed x xs _ _ _ true refl refl refl h)

pub barred : (text : List ℕ) (first : Bool) (unclosed : ℕ) (x : Row Place) (xs : Rows Place) (shape : Shape) → x.shape ≡ shape → k.is_significant shape ≡ false → left_inside text first unclosed (x ∷ xs) ≡ Err (Unexpected (length (x ∷ xs)))
unfolding r.balanced_at
barred text first unclosed x xs (LineComment t) e g = rw e refl
barred text first unclosed x xs (BlockComment t) e g = rw e refl
barred text first unclosed x xs Newline e g = rw e refl
barred text first unclosed x xs Invalid e g = rw e refl
barred text first unclosed x xs (Ident t) e g = absurd cc
barred text first unclosed x xs (Int t) e g = absurd cc
barred text first unclosed x xs (Float t) e g = absurd cc
barred text first unclosed x xs (Str t) e g = absurd cc
barred text first unclosed x xs (Mark t) e g = absurd cc

pub goes : (text : List ℕ) (first : Bool) (unclosed n : ℕ) (x : Row Place) (xs ys : Rows Place) → ys ≡ x ∷ xs → options.open_behind unclosed x.shape ≡ Some n → k.is_significant x.shape ≡ true
    → left_inside text first unclosed ys ≡ left_inside (text ++ options.print_on first x.shape) false n xs
goes text first unclosed n x xs ys p e h = rw p (turned text first unclosed x xs (Some n) e h)

closes_at : (unclosed : ℕ) (shape : Shape) → options.open_behind unclosed shape ≡ None → k.is_significant shape ≡ true
closes_at unclosed (Mark b) e = refl
closes_at unclosed (Ident t) e = refl
closes_at unclosed (Int t) e = refl
closes_at unclosed (Float t) e = refl
closes_at unclosed (Str t) e = refl
closes_at unclosed (LineComment t) e = absurd cc
closes_at unclosed (BlockComment t) e = absurd cc
closes_at unclosed Newline e = absurd cc
closes_at unclosed Invalid e = absurd cc

pub closes : (text : List ℕ) (first : Bool) (unclosed : ℕ) (x : Row Place) (xs ys : Rows Place) → ys ≡ x ∷ xs → options.open_behind unclosed x.shape ≡ None → left_inside text first unclosed ys ≡ Ok (text, ys)
closes text first unclosed x xs ys p e = rw p (turned text first unclosed x xs None e (closes_at unclosed x.shape e))

-- nothing stands there
pub ended : (text : List ℕ) (first : Bool) (unclosed : ℕ) → left_inside text first unclosed [] ≡ Err (Unexpected 0)
unfolding r.balanced_at
ended text first unclosed = refl
