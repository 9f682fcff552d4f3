-- Single rows, names, numbers, types and runs of strings are exact.
use Rattle.std.proofs.Common.{◌≡◌, eqb, ◌+◌, ◌<◌, ℕ, Bool, true, false, cond, ◌||◌, List, [], ◌∷◌, Option, Some, None, is_some, Result, Ok, Err, refl, sym, ap, ◌∙◌, arith}
use Rattle.std.proofs.lemmas.Bool.{ne_eqb, lt-ltb, le-ltb}
use Rattle.std.specs.Prelude.{codes}
use Rattle.protox_fault.specs.Faults.{Span}
use Rattle.protox_ast.specs.Ast as ast
use Rattle.protox_ast.specs.Ast.{span_if_any}
use Rattle.protox_ast.specs.Tree as t
use Rattle.protox_ast.specs.Places.{Place}
use Rattle.protox_ast.specs.Spelling as s
use Rattle.protox_ast.specs.declared.ast.Ty as type_of
use Rattle.protox_ast.specs.declared.ast.Ty.TheVariants as ty
use Rattle.protox_lexeme.specs.Shapes.{Shape, Ident, Mark, Rows}
use Rattle.protox_grammar.specs.Class.{Set, among, byte_place, class, in_set, keywords, marks, none, only, place, union, words}
use Rattle.protox_grammar.specs.Reader as reader
use Rattle.protox_grammar.specs.Reader.{Reader, Refusal, ◌>>=◌, fixed, is_token, leaf, seen, see_word, see_integer, see_float, see_text}
use Rattle.protox_grammar.specs.Rules as r
use Rattle.protox_grammar.specs.Token as token
use Rattle.protox_grammar.proofs.Lemmas.{mark-class, place-le, scalar-class, word-class}
use Rattle.protox_rows.specs.declared.expected.Expected.{Expected}
use Rattle.protox_rows.specs.declared.expected.Expected.TheVariants as expected
use Rattle.protox_rows.specs.inner.Names as names
use Rattle.protox_rows.specs.inner.Strings as runs
use Rattle.protox_rows.specs.inner.Words as said
use Rattle.protox_rows.specs.inner.Words.{Words, always, and_then}
use Rattle.protox_rows.proofs.Exact.{Exact, mapped-exact, row-exact, seq-exact}
use Rattle.protox_rows.proofs.ExactForms.{choice-exact}
use Rattle.protox_rows.proofs.ExactLists.{last_more}
use Rattle.protox_rows.proofs.ExactSequences.{begun_with, list-exact, list_more, option-exact, reworded}

-- ---- single rows

module _ (w : Shape) (first : Set) (test : (s : Shape) → is_token w s ≡ first (class s)) (e : Expected) where
  -- One given token is read exactly.
  pub fixed-exact : Exact (fixed w) (always e) e first (λ (x : Place). none)
  unfolding fixed
  fixed-exact = row-exact (fixed w) e first refl
      (λ r zs k. (r.at, λ us. ap (λ b. cond b (Ok (r.at, us)) (reader.refuse (r ∷ us))) (test r.shape ∙ k)))
      (λ r zs k. ap (λ b. cond b (Ok (r.at, zs)) (reader.refuse (r ∷ zs))) (test r.shape ∙ k))

-- One given mark is read exactly.
pub mark-exact : (b i : ℕ) → 42 + byte_place marks b ≡ i → i < 58 → (e : Expected) → Exact (fixed (Mark b)) (always e) e (only i) (λ (x : Place). none)
mark-exact b i h l e = fixed-exact (Mark b) (only i) (mark-class b i h l) e

-- One given word is read exactly.
pub word-exact : (w : List ℕ) (i : ℕ) → place keywords w ≡ i → i < 38 → (e : Expected) → Exact (fixed (Ident w)) (always e) e (only i) (λ (x : Place). none)
word-exact w i h l e = fixed-exact (Ident w) (only i) (word-class w i h l) e

module _ {X : Type 0} (see : Shape → Option X) (first : Set) (test : (s : Shape) → is_some (see s) ≡ first (class s)) (e : Expected) where
  value-by : (s : Shape) (o : Option X) → see s ≡ o → first (class s) ≡ true → (x : X) × (see s ≡ Some x)
  value-by s (Some x) q k = (x, q)
  value-by s None q k = let no : false ≡ true = ap is_some (sym q) ∙ test s ∙ k in absurd cc

  none-by : (s : Shape) (o : Option X) → see s ≡ o → first (class s) ≡ false → see s ≡ None
  none-by s (Some x) q k = let no : true ≡ false = ap is_some (sym q) ∙ test s ∙ k in absurd cc
  none-by s None q k = q

  -- One token with a value is read exactly.
  pub leaf-exact : Exact (leaf see) (always e) e first (λ (x : X × Place). none)
  unfolding leaf
  leaf-exact = row-exact (leaf see) e first refl
      (λ r zs k. let v = value-by r.shape (see r.shape) refl k in ((v.0, r.at), λ us. ap (seen r us) v.1))
      (λ r zs k. ap (seen r zs) (none-by r.shape (see r.shape) refl k))

word-test : (s : Shape) → is_some (see_word s) ≡ words (class s)
word-test (Ident t) = sym (lt-ltb (place keywords t) 39 (omega (arith, place-le keywords t)))
word-test (Mark b) = sym (le-ltb (42 + byte_place marks b) 39 (omega arith))
word-test _ = refl

integer-test : (s : Shape) → is_some (see_integer s) ≡ only token.an_integer (class s)
integer-test (Ident t) = sym (ne_eqb (place keywords t) 39 (λ h. omega (arith, h, place-le keywords t)))
integer-test (Mark b) = sym (ne_eqb (42 + byte_place marks b) 39 (λ h. omega (arith, h)))
integer-test _ = refl

float-test : (s : Shape) → is_some (see_float s) ≡ only token.a_float (class s)
float-test (Ident t) = sym (ne_eqb (place keywords t) 40 (λ h. omega (arith, h, place-le keywords t)))
float-test (Mark b) = sym (ne_eqb (42 + byte_place marks b) 40 (λ h. omega (arith, h)))
float-test _ = refl

text-test : (s : Shape) → is_some (see_text s) ≡ only token.a_string (class s)
text-test (Ident t) = sym (ne_eqb (place keywords t) 41 (λ h. omega (arith, h, place-le keywords t)))
text-test (Mark b) = sym (ne_eqb (42 + byte_place marks b) 41 (λ h. omega (arith, h)))
text-test _ = refl

pub dot-exact : (e : Expected) → Exact (fixed (Mark s.dot)) (always e) e (only token.dot) (λ (x : Place). none)
dot-exact e = mark-exact s.dot token.dot refl (omega arith) e

pub minus-exact : (e : Expected) → Exact (fixed (Mark s.minus)) (always e) e (only token.minus) (λ (x : Place). none)
minus-exact e = mark-exact s.minus token.minus refl (omega arith) e

pub ident-exact : (e : Expected) → Exact (names.ident).code (always e) e words (λ x. none)
unfolding names.ident
ident-exact e = mapped-exact (λ x. none) _ (λ x. refl) (leaf-exact see_word words word-test e)

pub integer-exact : (e : Expected) → Exact (names.integer).code (always e) e (only token.an_integer) (λ x. none)
unfolding names.integer
integer-exact e = mapped-exact (λ x. none) _ (λ x. refl) (leaf-exact see_integer (only token.an_integer) integer-test e)

pub float-exact : (e : Expected) → Exact (names.float).code (always e) e (only token.a_float) (λ x. none)
unfolding names.float
float-exact e = mapped-exact (λ x. none) _ (λ x. refl) (leaf-exact see_float (only token.a_float) float-test e)

pub string-exact : (e : Expected) → Exact (runs.string).code (always e) e (only token.a_string) (λ x. none)
unfolding runs.string
string-exact e = mapped-exact (λ x. none) _ (λ x. refl) (leaf-exact see_text (only token.a_string) text-test e)

-- ---- lists of parts without more of their own

pub list-more : {A B : Type 0} (P : Set) (x : A × List B) → list_more (λ (a : A). none) (λ (b : B). none) P x ≡ P
list-more {A} {B} P (x, []) = refl
list-more {A} {B} P (x, y ∷ ys) = λ i k. (none-of (y ∷ ys) k i) || P k
  where
    none-of : (l : List B) (k : ℕ) → last_more (λ (b : B). none) l k ≡ false
    none-of [] k = refl
    none-of (y ∷ []) k = refl
    none-of (y ∷ z ∷ zs) k = none-of (z ∷ zs) k

-- ---- names

pub more_part-exact : Exact (names.more_part).code said.more_part expected.Dot (only token.dot) (λ x. none)
unfolding names.more_part said.more_part
more_part-exact = mapped-exact (λ x. none) _ (λ x. refl) (seq-exact (dot-exact expected.Dot) (λ x. ident-exact expected.Ident) (λ x. refl) (λ x. refl))

pub fullident-exact : (e : Expected) → Exact (names.fullident).code (said.fullident e) e words (λ x. only token.dot)
unfolding names.fullident said.fullident
fullident-exact e = mapped-exact (λ x. only token.dot) _ (list-more (only token.dot)) (list-exact (ident-exact e) more_part-exact)

-- The words of a part under another name.
pub renamed-words : {A B : Type 0} (f : A → B) (a : Reader Place A) (w : Words) (k : B → Words) (xs : Rows Place) → and_then a w (λ x. k (f x)) xs ≡ and_then (reader.mapped f a) w k xs
renamed-words {A} {B} f a w k xs = by (a xs)
  where
    by : (r : Result (A × Rows Place) Refusal) → said.behind (w xs) (λ x. k (f x)) r ≡ said.behind (w xs) k (r >>= λ x. Ok (f x.0, x.1))
    by (Ok x) = refl
    by (Err d) = refl

pub typename-exact : (e : Expected) → Exact (names.typename).code (said.typename e) e (union (only token.dot) words) (λ x. only token.dot)
unfolding names.typename said.typename
typename-exact e = mapped-exact (λ x. only token.dot) _ (λ x. refl)
    (reworded _ (λ xs. renamed-words span_if_any (reader.optional (in_set (only token.dot)) (fixed (Mark s.dot))) (always expected.Dot) (λ dot. said.fullident (said.first_part dot e)) xs)
    (option-exact (dot-exact expected.Dot) (λ o. fullident-exact (said.first_part (span_if_any o) e)) (λ x. refl) (λ x. refl)))

pub int-exact : Exact (names.int).code said.int expected.Int (union (only token.minus) (only token.an_integer)) (λ x. none)
unfolding names.int said.int
int-exact = mapped-exact (λ x. none) _ (λ x. refl)
    (reworded _ (λ xs. renamed-words span_if_any (reader.optional (in_set (only token.minus)) (fixed (Mark s.minus))) (always expected.Minus) (λ minus. always expected.Int) xs)
    (option-exact (minus-exact expected.Minus) (λ o. integer-exact expected.Int) (λ x. refl) (λ x. refl)))

-- The tokens with which a type would go on: a dot behind a name.
abbrev pub type_more : type_of.Ty × Span → Set
type_more (ty.Named name, span) = only token.dot
type_more (_, span) = none

scalar-more : (x : t.Scalar) (p : Span) → none ≡ type_more (ast.scalar x, p)
scalar-more t.double p = refl
scalar-more t.float_type p = refl
scalar-more t.int32 p = refl
scalar-more t.int64 p = refl
scalar-more t.uint32 p = refl
scalar-more t.uint64 p = refl
scalar-more t.sint32 p = refl
scalar-more t.sint64 p = refl
scalar-more t.fixed32 p = refl
scalar-more t.fixed64 p = refl
scalar-more t.sfixed32 p = refl
scalar-more t.sfixed64 p = refl
scalar-more t.bool p = refl
scalar-more t.string p = refl
scalar-more t.bytes p = refl

pub field_type-exact : (e : Expected) → Exact (names.field_type).code (said.field_type e) e (union r.scalar_set (union (only token.dot) words)) type_more
unfolding names.field_type names.scalar said.field_type
field_type-exact e = choice-exact
    (mapped-exact type_more names.scalar_and_span (λ x. scalar-more x.0 x.1.span) (leaf-exact r.see_scalar r.scalar_set scalar-class expected.Type))
    (mapped-exact type_more _ (λ x. refl) (typename-exact e)) (λ x. refl)

pub strings-exact : (e : Expected) → Exact (runs.strings).code (said.strings e) e (only token.a_string) (λ x. only token.a_string)
unfolding runs.strings said.strings
strings-exact e = mapped-exact (λ x. only token.a_string) _ (list-more (only token.a_string)) (list-exact (string-exact e) (string-exact expected.StringLiteral))

-- ---- labels

always-chosen : (P : Set) (e : Expected) (xs : Rows Place) → said.choose P (always e) (always e) xs ≡ e
always-chosen P e xs = by (reader.head_in (in_set P) xs)
  where
    by : (b : Bool) → cond b e e ≡ e
    by true = refl
    by false = refl

pub or-none : (a : Bool) → a ≡ a || false
or-none true = refl
or-none false = refl

pub label-exact : Exact (names.label).code (always expected.MessageBody) expected.MessageBody (among (token.optional ∷ token.required ∷ token.repeated ∷ [])) (λ x. none)
unfolding names.label
label-exact = begun_with (among (token.optional ∷ token.required ∷ token.repeated ∷ [])) (λ k. ap (λ v. eqb k token.optional || (eqb k token.required || v)) (or-none (eqb k token.repeated)))
    (reworded (always expected.MessageBody) (λ xs. always-chosen (only token.optional) expected.MessageBody xs)
    (choice-exact (mapped-exact (λ x. none) _ (λ x. refl) (word-exact (codes "optional") token.optional refl (omega arith) expected.MessageBody))
    (reworded (always expected.MessageBody) (λ xs. always-chosen (only token.required) expected.MessageBody xs)
    (choice-exact (mapped-exact (λ x. none) _ (λ x. refl) (word-exact (codes "required") token.required refl (omega arith) expected.MessageBody))
    (mapped-exact (λ x. none) _ (λ x. refl) (word-exact (codes "repeated") token.repeated refl (omega arith) expected.MessageBody)) (λ x. refl))) (λ x. refl)))
