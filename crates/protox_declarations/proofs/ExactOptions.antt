-- Options, lists of them and their values are read exactly.
use Rattle.std.proofs.Common.{◌≡◌, append-nil, append_assoc, ℕ, Bool, true, false, ◌||◌, List, [], ◌∷◌, ◌++◌, Option, Some, None, Result, Ok, Err, refl, sym, ap, subst, ◌∙◌, arith, inl, inr, ◌⊎◌}
use Rattle.std.specs.Prelude.{codes}
use Rattle.protox_fault.specs.Faults.{Span}
use Rattle.protox_ast.specs.Ast as ast
use Rattle.protox_ast.specs.Ast.{span_if_any}
use Rattle.protox_ast.specs.Places.{Place}
use Rattle.protox_ast.specs.Spelling as s
use Rattle.protox_ast.specs.declared.ast.OptionBody.{OptionBody}
use Rattle.protox_ast.specs.declared.ast.OptionValue as value_type
use Rattle.protox_ast.specs.declared.ast.OptionValue.TheVariants as option_value
use Rattle.protox_lexeme.specs.Shapes.{Mark, Rows}
use Rattle.protox_grammar.specs.Class.{Set, among, in_set, none, only, union, within, words}
use Rattle.protox_grammar.specs.Reader as reader
use Rattle.protox_grammar.specs.Reader.{Refusal, ◌>>=◌, folded, fixed, mapped, seq}
use Rattle.protox_grammar.specs.Rules as r
use Rattle.protox_grammar.specs.Token as token
use Rattle.protox_grammar.proofs.Lemmas.{push}
use Rattle.protox_rows.specs.Expected.{named, allowed}
use Rattle.protox_rows.specs.declared.expected.Expected.{Expected}
use Rattle.protox_rows.specs.declared.expected.Expected.TheVariants as expected
use Rattle.protox_rows.specs.inner.Words.{always, and_then}
use Rattle.protox_rows.proofs.Lemmas.{Exact, begun_with, choice-exact, dot-exact, float-exact}
use Rattle.protox_rows.proofs.Lemmas.{ident-exact, integer-exact, last_more, list-exact, list-more}
use Rattle.protox_rows.proofs.Lemmas.{list_more, mapped-exact, mark-exact, minus-exact}
use Rattle.protox_rows.proofs.Lemmas.{option-exact, renamed-words, reread, reworded, seq-exact}
use Rattle.protox_rows.proofs.Lemmas.{strings-exact, typename-exact, under, word-exact}
use Rattle.protox_declarations.specs.inner.Options as rule
use Rattle.protox_declarations.specs.inner.OptionWords as said
use Rattle.protox_declarations.specs.declared.values.Unsigned as unsigned_type
use Rattle.protox_declarations.specs.declared.values.Unsigned.TheVariants as unsigned
use Rattle.protox_declarations.proofs.ExactAggregates.{closed_at-exact, tokens}

-- ---- names

pub part-exact : Exact (rule.part).code said.part expected.OptionName (union words (only token.open_paren)) (λ x. none)
unfolding rule.part said.part
part-exact = choice-exact (mapped-exact (λ x. none) _ (λ x. refl) (ident-exact expected.OptionName))
    (mapped-exact (λ x. none) _ (λ x. refl) (seq-exact (mark-exact s.open_paren token.open_paren refl (omega arith) expected.OptionName)
    (λ m. seq-exact (typename-exact expected.TypeName) (λ x. mark-exact s.close_paren token.close_paren refl (omega arith) expected.DotOrRightParen) (λ x. refl) (λ x. refl)) (λ m. refl) (λ m. refl)))
    (λ x. refl)

pub more_part-exact : Exact (rule.more_part).code said.more_part expected.EqualsOrDot (only token.dot) (λ x. none)
unfolding rule.more_part said.more_part
more_part-exact = mapped-exact (λ x. none) _ (λ x. refl) (seq-exact (dot-exact expected.EqualsOrDot) (λ m. part-exact) (λ m. refl) (λ m. refl))

pub name-exact : Exact (rule.name).code said.name expected.OptionName (union words (only token.open_paren)) (λ x. only token.dot)
unfolding rule.name said.name
name-exact = mapped-exact (λ x. only token.dot) _ (list-more (only token.dot)) (list-exact part-exact more_part-exact)

-- ---- values

pub constant-exact : (e : Expected) → Exact (rule.constant).code (said.constant e) e (union words (union (only token.an_integer) (only token.a_float))) (λ x. none)
unfolding rule.constant said.constant
constant-exact e = choice-exact (mapped-exact (λ x. none) _ (λ x. refl) (ident-exact e))
    (choice-exact (mapped-exact (λ x. none) _ (λ x. refl) (integer-exact expected.Int)) (mapped-exact (λ x. none) _ (λ x. refl) (float-exact e)) (λ x. refl)) (λ x. refl)

-- The tokens with which a value would go on: a further string of a run.
abbrev pub value_more : value_type.OptionValue → Set
value_more (option_value.String x) = only token.a_string
value_more _ = none

signed-more : (m : Option Span) (c : unsigned_type.Unsigned) → none ≡ value_more (rule.signed_with m c)
signed-more None (unsigned.Ident x) = refl
signed-more None (unsigned.Int n span) = refl
signed-more None (unsigned.Float text span) = refl
signed-more (Some m) (unsigned.Ident x) = refl
signed-more (Some m) (unsigned.Int n span) = refl
signed-more (Some m) (unsigned.Float text span) = refl

-- What a signed constant begins with.
abbrev constants : Set
constants = union words (among (token.an_integer ∷ token.a_float ∷ token.minus ∷ []))

shuffled : (m w i f : Bool) → m || (w || (i || f)) ≡ w || (i || (f || (m || false)))
shuffled true true i f = refl
shuffled true false true f = refl
shuffled true false false true = refl
shuffled true false false false = refl
shuffled false true i f = refl
shuffled false false true f = refl
shuffled false false false true = refl
shuffled false false false false = refl

signed-exact : Exact (seq (reader.optional (in_set (only token.minus)) (fixed (Mark s.minus))) (rule.constant).code)
    (and_then (mapped span_if_any (reader.optional (in_set (only token.minus)) (fixed (Mark s.minus)))) (always expected.Minus) (λ minus. said.constant (said.after_sign minus))) expected.Constant constants (λ x. none)
signed-exact = begun_with constants (λ k. shuffled (only token.minus k) (words k) (only token.an_integer k) (only token.a_float k))
    (reworded _ (λ xs. renamed-words span_if_any (reader.optional (in_set (only token.minus)) (fixed (Mark s.minus))) (always expected.Minus) (λ minus. said.constant (said.after_sign minus)) xs)
    (option-exact (minus-exact expected.Minus) (λ o. constant-exact (said.after_sign (span_if_any o))) (λ x. refl) (λ x. refl)))

-- The text of an aggregate, with its `}`.
abbrev texts : Rows Place × Place → List ℕ × Place
texts x = (ast.aggregate_text x.0, x.1)

abbrev with_brace : {A : Type 0} → A → Place × Rows Place → Result ((A × Place) × Rows Place) Refusal
with_brace x y = Ok ((x, y.0), y.1)

abbrev with_text : Rows Place × Rows Place → Result (List ℕ × Rows Place) Refusal
with_text x = Ok (ast.aggregate_text x.0, x.1)

texts-inner : (x : Rows Place) (v : Result (Place × Rows Place) Refusal) → ((v >>= with_brace x) >>= under texts) ≡ (v >>= with_brace (ast.aggregate_text x))
texts-inner x (Ok y) = refl
texts-inner x (Err e) = refl

texts-same : (v : Result (Rows Place × Rows Place) Refusal) → ((v >>= λ x. fixed (Mark s.close_brace) x.1 >>= with_brace x.0) >>= under texts) ≡ ((v >>= with_text) >>= λ x. fixed (Mark s.close_brace) x.1 >>= with_brace x.0)
texts-same (Ok x) = texts-inner x.0 (fixed (Mark s.close_brace) x.1)
texts-same (Err e) = refl

closed-exact : Exact (seq rule.inside (fixed (Mark s.close_brace))) (always expected.RightBrace) expected.RightBrace tokens (λ x. none)
unfolding rule.inside
closed-exact = reread (seq rule.inside (fixed (Mark s.close_brace))) (λ xs. texts-same (r.balanced_at 0 xs)) (mapped-exact (λ x. none) texts (λ x. refl) (closed_at-exact 0))

pub aggregate-exact : Exact (rule.aggregate).code said.aggregate expected.Constant (only token.open_brace) (λ x. none)
unfolding rule.aggregate rule.opened rule.noted_closed rule.closed said.aggregate
aggregate-exact = mapped-exact (λ x. none) _ (λ x. refl) (seq-exact (mark-exact s.open_brace token.open_brace refl (omega arith) expected.Constant) (λ m. closed-exact) (λ m. refl) (λ m. refl))

pub value-exact : Exact (rule.value).code said.value expected.Constant (union constants (union (only token.a_string) (only token.open_brace))) value_more
unfolding rule.value said.value
value-exact = choice-exact (mapped-exact value_more _ (λ x. signed-more (span_if_any x.0) x.1) signed-exact)
    (choice-exact (mapped-exact value_more _ (λ x. refl) (strings-exact expected.Constant)) (mapped-exact value_more _ (λ x. refl) aggregate-exact) (λ x. refl)) (λ x. refl)

-- ---- bodies and lists

abbrev pub body_more : OptionBody → Set
body_more x = value_more x.value

-- A value goes on with nothing, or with a string.
value-cases : (x : value_type.OptionValue) → (value_more x ≡ none) ⊎ (value_more x ≡ only token.a_string)
value-cases (option_value.String x) = inr refl
value-cases (option_value.Ident negative x span) = inl refl
value-cases (option_value.Int x) = inl refl
value-cases (option_value.Float x) = inl refl
value-cases (option_value.Aggregate x span) = inl refl

-- So a test that holds of both holds of each value.
by-value : (T : Set → Type 0) → T none → T (only token.a_string) → (x : value_type.OptionValue) → T (value_more x)
by-value T a b x = elim (value-cases x) [
  | inl e ↦ subst T (sym e) a
  | inr e ↦ subst T (sym e) b
]

by-last : (T : Set → Type 0) → T none → T (only token.a_string) → (l : List OptionBody) → T (last_more body_more l)
by-last T a b [] = a
by-last T a b (x ∷ []) = by-value T a b x.value
by-last T a b (x ∷ y ∷ ys) = by-last T a b (y ∷ ys)

pub body-exact : Exact (rule.body).code said.body expected.OptionName (union words (only token.open_paren)) body_more
unfolding rule.body said.body rule.name
body-exact = mapped-exact body_more _ (λ x. refl)
    (seq-exact name-exact (λ x. seq-exact (mark-exact s.equals token.equals refl (omega arith) expected.EqualsOrDot) (λ m. value-exact) (λ m. refl) (λ m. refl)) (λ x. refl) (λ x. refl))

pub more_body-exact : Exact (rule.more_body).code said.more_body expected.CommaOrRightBracket (only token.comma) body_more
unfolding rule.more_body said.more_body
more_body-exact = mapped-exact body_more _ (λ x. refl) (seq-exact (mark-exact s.comma token.comma refl (omega arith) expected.CommaOrRightBracket) (λ m. body-exact) (λ m. refl) (λ m. refl))

-- The tokens with which a list of bodies would go on.
abbrev pub bodies_more : List OptionBody → Set
bodies_more l = union (last_more body_more l) (only token.comma)

bodies-more : (x : OptionBody × List OptionBody) → list_more body_more body_more (only token.comma) x ≡ bodies_more (folded push (x.0 ∷ []) x.1)
bodies-more (x, l) = listed x l ∙ ap bodies_more (sym (pushed-all (x ∷ []) l))
  where
    listed : (x : OptionBody) (l : List OptionBody) → list_more body_more body_more (only token.comma) (x, l) ≡ bodies_more (x ∷ l)
    listed x [] = refl
    listed x (y ∷ ys) = refl

    pushed-all : (bs xs : List OptionBody) → folded push bs xs ≡ bs ++ xs
    pushed-all bs [] = sym (append-nil bs)
    pushed-all bs (x ∷ xs) = pushed-all (bs ++ x ∷ []) xs ∙ append_assoc bs (x ∷ []) xs

pub bodies-exact : Exact (rule.bodies).code said.bodies expected.OptionName (union words (only token.open_paren)) bodies_more
unfolding rule.bodies said.bodies
bodies-exact = mapped-exact bodies_more _ bodies-more (list-exact body-exact more_body-exact)

pub list-exact-of : Exact (rule.list).code said.list expected.LeftBracket (only token.open_bracket) (λ x. none)
unfolding rule.list rule.bodies said.list
list-exact-of = mapped-exact (λ x. none) _ (λ x. refl)
    (seq-exact (mark-exact s.open_bracket token.open_bracket refl (omega arith) expected.LeftBracket)
    (λ m. seq-exact bodies-exact (λ l. mark-exact s.close_bracket token.close_bracket refl (omega arith) expected.CommaOrRightBracket)
    (λ l. by-last (λ S. within (named expected.CommaOrRightBracket) (union (union S (only token.comma)) (only token.close_bracket)) ≡ true) refl refl l)
    (λ l. by-last (λ S. within (union (union S (only token.comma)) (only token.close_bracket)) (allowed expected.CommaOrRightBracket) ≡ true) refl refl l)) (λ m. refl) (λ m. refl))

pub option-exact-of : (e : Expected) → Exact (rule.option).code (said.option e) e (only token.option) (λ x. none)
unfolding rule.option said.option
option-exact-of e = mapped-exact (λ x. none) _ (λ x. refl)
    (seq-exact (word-exact (codes "option") token.option refl (omega arith) e)
    (λ m. seq-exact body-exact (λ x. mark-exact s.semicolon token.semicolon refl (omega arith) expected.Semicolon)
    (λ x. by-value (λ S. within (named expected.Semicolon) (union S (only token.semicolon)) ≡ true) refl refl x.value)
    (λ x. by-value (λ S. within (union S (only token.semicolon)) (allowed expected.Semicolon) ≡ true) refl refl x.value)) (λ m. refl) (λ m. refl))
