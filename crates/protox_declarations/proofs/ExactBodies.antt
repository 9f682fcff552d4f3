-- Bodies of messages and groups are read exactly, level by level.
use Rattle.std.proofs.Common.{◌≡◌, ◌≤◌, ℕ, zero, suc, Bool, true, false, cond, ◌||◌, [], ◌∷◌, ◌++◌, length, Result, Ok, Err, refl, sym, ap, subst, ◌∙◌, arith}
use Rattle.std.proofs.lemmas.List.{length-append}
use Rattle.std.specs.Prelude.{codes}
use Rattle.protox_ast.specs.Places.{Place}
use Rattle.protox_ast.specs.Spelling as s
use Rattle.protox_lexeme.specs.Shapes.{Shape, Mark, Row, Rows}
use Rattle.protox_grammar.specs.Bodies.{deep_read}
use Rattle.protox_grammar.specs.Class.{Set, among, class, none, only, union}
use Rattle.protox_grammar.specs.Reader as reader
use Rattle.protox_grammar.specs.Reader.{Reader, Refusal, Unexpected, Deep, is_token, too_deep}
use Rattle.protox_grammar.specs.Token as token
use Rattle.protox_grammar.proofs.Lemmas.{err-ok, mark-class}
use Rattle.protox_rows.specs.declared.expected.Expected.{Expected}
use Rattle.protox_rows.specs.declared.expected.Expected.TheVariants as expected
use Rattle.protox_rows.specs.inner.Words.{always}
use Rattle.protox_rows.proofs.Lemmas.{Exact, Took, begun_with, choice-exact, from-exact}
use Rattle.protox_rows.proofs.Lemmas.{ident-exact, int-exact, label-exact, mapped-exact, mark-exact}
use Rattle.protox_rows.proofs.Lemmas.{option-exact, or-none, seq-exact, typename-exact, word-exact}
use Rattle.protox_declarations.specs.inner.Options as options_rule
use Rattle.protox_declarations.proofs.ExactEnums.{elements-exact, enum-exact, open_brace-exact, semicolon-exact}
use Rattle.protox_declarations.proofs.ExactOptions.{list-exact-of, option-exact-of}
use Rattle.protox_declarations.specs.inner.Bodies as rule
use Rattle.protox_declarations.specs.inner.Fields.{field_of}
use Rattle.protox_declarations.specs.inner.BodyWords as said
use Rattle.protox_declarations.proofs.ExactFields.{bodiless_element-exact, group_name-exact, map_field-exact, normal-exact, types}

-- ---- what fields and elements begin with

abbrev pub kinds : Set
kinds = union (among (token.map ∷ token.group ∷ [])) types

abbrev pub labels : Set
labels = among (token.optional ∷ token.required ∷ token.repeated ∷ [])

abbrev pub fields : Set
fields = union labels kinds

abbrev pub keywords : Set
keywords = among (token.oneof ∷ token.enum ∷ token.message ∷ token.extend ∷ token.option ∷ token.reserved ∷ token.extensions ∷ [])

-- ---- with bodies of at most n levels

module _ (n : ℕ) (body : (e : Expected) → Exact (rule.mbody_at n).code (said.mbody_at n e) e (only token.open_brace) (λ x. none)) where
  number_and_body-exact : Exact (rule.number_and_body n (rule.mbody_at n)).code (said.number_and_body_at n) expected.Equals (only token.equals) (λ x. none)
  unfolding rule.number_and_body said.number_and_body options_rule.list_if_any
  number_and_body-exact = mapped-exact (λ x. none) _ (λ x. refl)
      (seq-exact (mark-exact s.equals token.equals refl (omega arith) expected.Equals)
      (λ m. seq-exact int-exact (λ number. option-exact list-exact-of (λ o. body (said.before_body o)) (λ o. refl) (λ o. refl)) (λ x. refl) (λ x. refl)) (λ m. refl) (λ m. refl))

  group-exact : Exact (rule.group_at n) (said.group_at n) expected.Type (only token.group) (λ x. none)
  unfolding rule.group said.group
  group-exact = mapped-exact (λ x. none) _ (λ x. refl)
      (seq-exact (word-exact (codes "group") token.group refl (omega arith) expected.Type) (λ m. seq-exact group_name-exact (λ name. number_and_body-exact) (λ x. refl) (λ x. refl)) (λ m. refl) (λ m. refl))

  field_kind-exact : (e : Expected) → Exact (rule.field_kind_at n) (said.field_kind_at n e) e kinds (λ x. none)
  unfolding rule.field_kind said.field_kind
  field_kind-exact e = choice-exact (begun_with (among (token.map ∷ token.group ∷ [])) (λ k. ap (λ v. only token.map k || v) (or-none (only token.group k))) (choice-exact map_field-exact group-exact (λ x. refl))) (normal-exact e) (λ x. refl)

  labelled_kind-exact : (e : Expected) → Exact (rule.labelled_kind_at n) (said.labelled_kind_at n e) e fields (λ x. none)
  unfolding rule.labelled_kind said.labelled_kind
  labelled_kind-exact e = choice-exact (mapped-exact (λ x. none) _ (λ x. refl) (seq-exact label-exact (λ l. field_kind-exact expected.Type) (λ l. refl) (λ l. refl))) (mapped-exact (λ x. none) _ (λ x. refl) (field_kind-exact e)) (λ x. refl)

  field-exact : (e : Expected) → Exact (rule.field_at n) (said.labelled_kind_at n e) e fields (λ x. none)
  unfolding rule.field
  field-exact e = from-exact (λ x. none) field_of (λ y ys zs x. refl) (λ xs x. refl) (labelled_kind-exact e)

  extend_element-exact : Exact (rule.extend_element_at n) (said.extend_element_at n) expected.ExtendBody (union (only token.semicolon) fields) (λ x. none)
  unfolding rule.extend_element said.extend_element
  extend_element-exact = choice-exact (mapped-exact (λ x. none) _ (λ x. refl) (semicolon-exact expected.Semicolon)) (mapped-exact (λ x. none) _ (λ x. refl) (field-exact expected.ExtendBody)) (λ x. refl)

  pub extend-exact : Exact (rule.extend_at n) (said.extend_at n) expected.Statement (only token.extend) (λ x. none)
  unfolding rule.extend rule.extend_elements said.extend said.extend_elements
  extend-exact = mapped-exact (λ x. none) _ (λ x. refl)
      (seq-exact (word-exact (codes "extend") token.extend refl (omega arith) expected.Statement)
      (λ m. seq-exact (typename-exact expected.TypeName)
      (λ name. seq-exact (open_brace-exact expected.DotOrLeftBrace) (λ m. elements-exact rule.add_extend_element [] extend_element-exact refl refl refl) (λ m. refl) (λ m. refl)) (λ x. refl) (λ x. refl)) (λ m. refl) (λ m. refl))

  oneof_element-exact : Exact (rule.oneof_element_at n) (said.oneof_element_at n) expected.OneofBody (union (only token.semicolon) (union (among (token.option ∷ [])) fields)) (λ x. none)
  unfolding rule.oneof_element said.oneof_element
  oneof_element-exact = choice-exact (mapped-exact (λ x. none) _ (λ x. refl) (semicolon-exact expected.Semicolon))
      (choice-exact (begun_with (among (token.option ∷ [])) (λ k. or-none (only token.option k)) (mapped-exact (λ x. none) _ (λ x. refl) (option-exact-of expected.OneofBody))) (mapped-exact (λ x. none) _ (λ x. refl) (field-exact expected.OneofBody)) (λ x. refl)) (λ x. refl)

  oneof-exact : Exact (rule.oneof_at n) (said.oneof_at n) expected.MessageBody (only token.oneof) (λ x. none)
  unfolding rule.oneof rule.oneof_elements said.oneof said.oneof_elements
  oneof-exact = mapped-exact (λ x. none) _ (λ x. refl)
      (seq-exact (word-exact (codes "oneof") token.oneof refl (omega arith) expected.MessageBody)
      (λ m. seq-exact (ident-exact expected.Ident)
      (λ name. seq-exact (open_brace-exact expected.LeftBrace) (λ m. elements-exact rule.add_oneof_element rule.no_oneof oneof_element-exact refl refl refl) (λ m. refl) (λ m. refl)) (λ x. refl) (λ x. refl)) (λ m. refl) (λ m. refl))

  pub message-exact : Exact (rule.message_at n) (said.message_at n) expected.Statement (only token.message) (λ x. none)
  unfolding rule.message said.message
  message-exact = mapped-exact (λ x. none) _ (λ x. refl)
      (seq-exact (word-exact (codes "message") token.message refl (omega arith) expected.Statement) (λ m. seq-exact (ident-exact expected.Ident) (λ name. body expected.LeftBrace) (λ x. refl) (λ x. refl)) (λ m. refl) (λ m. refl))

  keyword_element-exact : Exact (rule.keyword_element_at n) (said.keyword_element_at n) expected.MessageBody
      (union (only token.oneof) (union (only token.enum) (union (only token.message) (union (only token.extend) (union (only token.option) (union (only token.reserved) (only token.extensions))))))) (λ x. none)
  unfolding rule.keyword_element said.keyword_element
  keyword_element-exact = choice-exact (mapped-exact (λ x. none) _ (λ x. refl) oneof-exact)
      (choice-exact (mapped-exact (λ x. none) _ (λ x. refl) (enum-exact expected.MessageBody))
      (choice-exact (mapped-exact (λ x. none) _ (λ x. refl) message-exact)
      (choice-exact (mapped-exact (λ x. none) _ (λ x. refl) extend-exact) bodiless_element-exact (λ x. refl)) (λ x. refl)) (λ x. refl)) (λ x. refl)

  element-exact : Exact (rule.element_at n) (said.element_at n) expected.MessageBody (union (only token.semicolon) (union keywords fields)) (λ x. none)
  unfolding rule.element said.element
  element-exact = choice-exact (mapped-exact (λ x. none) _ (λ x. refl) (semicolon-exact expected.Semicolon))
      (choice-exact (begun_with keywords (λ k. ap (λ v. only token.oneof k || (only token.enum k || (only token.message k || (only token.extend k || (only token.option k || (only token.reserved k || v)))))) (or-none (only token.extensions k))) keyword_element-exact)
      (mapped-exact (λ x. none) _ (λ x. refl) (field-exact expected.MessageBody)) (λ x. refl)) (λ x. refl)

  pub braces-exact : (e : Expected) → Exact (rule.braces_at n) (said.braces_at n e) e (only token.open_brace) (λ x. none)
  unfolding rule.mbody rule.elements said.braces said.elements
  braces-exact e = mapped-exact (λ x. none) _ (λ x. refl) (seq-exact (open_brace-exact e) (λ m. elements-exact rule.add_element rule.nothing_inside element-exact refl refl refl) (λ m. refl) (λ m. refl))

-- ---- levels

brace-test : (shape : Shape) → is_token (Mark s.open_brace) shape ≡ only token.open_brace (class shape)
brace-test shape = mark-class s.open_brace token.open_brace refl (omega arith) shape

-- Where no level is left, only the brace is looked at.
module _ {A B : Type 0} (view : A → B) (e : Expected) where
  abbrev sunk : Reader Place B
  sunk = reader.mapped view (too_deep (Mark s.open_brace))

  deep-at : (r : Row Place) (zs : Rows Place) (c : Bool) → only token.open_brace (class r.shape) ≡ c → sunk (r ∷ zs) ≡ cond c (Err (Deep (length (r ∷ zs)))) (Err (Unexpected (length (r ∷ zs))))
  unfolding too_deep
  deep-at r zs true p = ap (λ b. reader.mapped view (λ (xs : Rows Place). cond b (Err (Deep (length xs))) (reader.refuse xs)) (r ∷ zs)) (brace-test r.shape ∙ p)
  deep-at r zs false p = ap (λ b. reader.mapped view (λ (xs : Rows Place). cond b (Err (Deep (length xs))) (reader.refuse xs)) (r ∷ zs)) (brace-test r.shape ∙ p)

  ended : sunk [] ≡ Err (Unexpected 0)
  unfolding too_deep
  ended = refl

  never-read : (xs : Rows Place) (x : B × Rows Place) → sunk xs ≡ Ok x → ⊥
  never-read [] x q = err-ok _ _ (sym ended ∙ q)
  never-read (r ∷ zs) x q = by (only token.open_brace (class r.shape)) refl
    where
      by : (c : Bool) → only token.open_brace (class r.shape) ≡ c → ⊥
      by true p = err-ok _ _ (sym (deep-at r zs true p) ∙ q)
      by false p = err-ok _ _ (sym (deep-at r zs false p) ∙ q)

  abbrev failed : Refusal → Result (B × Rows Place) Refusal
  failed d = Err d

  -- It is refused at its first row, if at all.
  refused-first : (y : Row Place) (zs : Rows Place) (n : ℕ) → sunk (y ∷ zs) ≡ Err (Unexpected n) → n ≡ suc (length zs)
  refused-first y zs n q = by (only token.open_brace (class y.shape)) refl
    where
      by : (c : Bool) → only token.open_brace (class y.shape) ≡ c → n ≡ suc (length zs)
      by true p = absurd (apart (sym (deep-at y zs true p) ∙ q))
        where
          apart : failed (Deep (length (y ∷ zs))) ≡ failed (Unexpected n) → ⊥
          apart q = absurd cc
      by false p = same (sym (deep-at y zs false p) ∙ q)
        where
          same : failed (Unexpected (suc (length zs))) ≡ failed (Unexpected n) → n ≡ suc (length zs)
          same q = cc

  bound : (xs : Rows Place) (n : ℕ) → sunk xs ≡ Err (Unexpected n) → n ≤ length xs
  bound [] n q = let same : 0 ≡ n = of-end (sym ended ∙ q) in omega (arith, same)
    where
      of-end : failed (Unexpected 0) ≡ failed (Unexpected n) → 0 ≡ n
      of-end q = cc
  bound (r ∷ zs) n q = omega (arith, refused-first r zs n q)

  all : (xs : Rows Place) → Took (length xs) (sunk xs)
  all [] = subst (Took 0) (sym ended) (omega arith)
  all (r ∷ zs) = by (only token.open_brace (class r.shape)) refl
    where
      by : (c : Bool) → only token.open_brace (class r.shape) ≡ c → Took (length (r ∷ zs)) (sunk (r ∷ zs))
      by true p = subst (Took (length (r ∷ zs))) (sym (deep-at r zs true p)) (omega arith, omega arith)
      by false p = subst (Took (length (r ∷ zs))) (sym (deep-at r zs false p)) (omega arith)

  sunk-exact : Exact sunk (always e) e (only token.open_brace) (λ x. none)
  sunk-exact = record {
    begins = λ r zs k. subst (Took (length zs)) (sym (deep-at r zs true k)) (omega arith, omega arith);
    barred = λ r zs k. deep-at r zs false k;
    empty = ended;
    says = λ t q. refl;
    inside = λ y ys t q r zs. absurd (omega (arith, refused-first y (ys ++ t) (length t) q, length-append ys t));
    ends = λ ys t x q r zs m. absurd (never-read (ys ++ t) (x, t) q);
    goes_on = λ ys t x q r zs m. absurd cc;
    stays = λ ys v vs t u x q. absurd (never-read (ys ++ (v ∷ (vs ++ t))) (x, v ∷ (vs ++ t)) q);
    rest = λ xs x q. absurd (never-read xs x q);
    bound = bound;
    all = all;
  }

-- A body of at most n levels is read exactly.
pub mbody-exact : (n : ℕ) (e : Expected) → Exact (rule.mbody_at n).code (said.mbody_at n e) e (only token.open_brace) (λ x. none)
unfolding rule.mbody_at said.mbody_at deep_read
mbody-exact zero e = sunk-exact rule.body_and_braces e
mbody-exact (suc n) e = braces-exact n (mbody-exact n) e
