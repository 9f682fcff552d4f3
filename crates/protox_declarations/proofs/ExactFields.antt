-- The kinds of fields that have no body are read exactly, and elements without one.
use Rattle.std.proofs.Common.{◌≡◌, true, refl, arith}
use Rattle.std.specs.Prelude.{codes}
use Rattle.protox_fault.specs.Faults.{Span}
use Rattle.protox_ast.specs.Spelling as s
use Rattle.protox_ast.specs.declared.ast.Ty as type_of
use Rattle.protox_ast.specs.declared.ast.Ty.TheVariants as ty
use Rattle.protox_grammar.specs.Class.{Set, none, only, union, within, words}
use Rattle.protox_grammar.specs.Rules as r
use Rattle.protox_grammar.specs.Token as token
use Rattle.protox_rows.specs.Expected.{named, allowed}
use Rattle.protox_rows.specs.declared.expected.Expected.{Expected}
use Rattle.protox_rows.specs.declared.expected.Expected.TheVariants as expected
use Rattle.protox_rows.specs.inner.Words.{always}
use Rattle.protox_rows.proofs.Lemmas.{Exact, choice-exact, field_type-exact, ident-exact}
use Rattle.protox_rows.proofs.Lemmas.{mapped-exact, mark-exact, seq-exact, type_more, word-exact}
use Rattle.protox_declarations.proofs.ExactEnums.{numbered-exact}
use Rattle.protox_declarations.proofs.ExactOptions.{option-exact-of}
use Rattle.protox_declarations.proofs.ExactRanges.{extensions-exact, reserved-exact}
use Rattle.protox_declarations.specs.inner.Bodies as bodies
use Rattle.protox_declarations.specs.inner.Fields as rule
use Rattle.protox_declarations.specs.inner.BodyWords as said

-- A test that holds behind a named type and behind a scalar type.
by-type : (T : Set → Expected → Type 0) (named scalar : Expected) → T (only token.dot) named → T none scalar → (x : type_of.Ty × Span) → T (type_more x) (said.after_type x.0 named scalar)
by-type T n c a b (ty.Named x, p) = a
by-type T n c a b (ty.Double, p) = b
by-type T n c a b (ty.Float, p) = b
by-type T n c a b (ty.Int32, p) = b
by-type T n c a b (ty.Int64, p) = b
by-type T n c a b (ty.Uint32, p) = b
by-type T n c a b (ty.Uint64, p) = b
by-type T n c a b (ty.Sint32, p) = b
by-type T n c a b (ty.Sint64, p) = b
by-type T n c a b (ty.Fixed32, p) = b
by-type T n c a b (ty.Fixed64, p) = b
by-type T n c a b (ty.Sfixed32, p) = b
by-type T n c a b (ty.Sfixed64, p) = b
by-type T n c a b (ty.Bool, p) = b
by-type T n c a b (ty.String, p) = b
by-type T n c a b (ty.Bytes, p) = b

-- What a type begins with.
abbrev pub types : Set
types = union r.scalar_set (union (only token.dot) words)

pub name_and_number-exact : (e : Expected) → Exact (rule.name_and_number).code (said.name_and_number e) e words (λ x. none)
unfolding rule.name_and_number said.name_and_number
name_and_number-exact e = mapped-exact (λ x. none) _ (λ x. refl) (seq-exact (ident-exact e) (λ name. numbered-exact expected.Equals) (λ x. refl) (λ x. refl))

pub normal-exact : (e : Expected) → Exact (rule.normal).code (said.normal e) e types (λ x. none)
unfolding rule.normal said.normal
normal-exact e = mapped-exact (λ x. none) _ (λ x. refl)
    (seq-exact (field_type-exact e) (λ x. name_and_number-exact (said.after_type x.0 expected.DotOrIdent expected.Ident))
    (by-type (λ S w. within (named w) (union S words) ≡ true) expected.DotOrIdent expected.Ident refl refl) (by-type (λ S w. within (union S words) (allowed w) ≡ true) expected.DotOrIdent expected.Ident refl refl))

-- A mark behind a type.
behind-low : (b : Set) (n c : Expected) → within (named n) (union (only token.dot) b) ≡ true → within (named c) (union none b) ≡ true → (x : type_of.Ty × Span) → within (named (said.after_type x.0 n c)) (union (type_more x) b) ≡ true
behind-low b n c p q = by-type (λ S w. within (named w) (union S b) ≡ true) n c p q

behind-high : (b : Set) (n c : Expected) → within (union (only token.dot) b) (allowed n) ≡ true → within (union none b) (allowed c) ≡ true → (x : type_of.Ty × Span) → within (union (type_more x) b) (allowed (said.after_type x.0 n c)) ≡ true
behind-high b n c p q = by-type (λ S w. within (union S b) (allowed w) ≡ true) n c p q

pub map_field-exact : Exact (rule.map_field).code said.map_field expected.Type (only token.map) (λ x. none)
unfolding rule.map_field said.map_field
map_field-exact = mapped-exact (λ x. none) _ (λ x. refl)
    (seq-exact (word-exact (codes "map") token.map refl (omega arith) expected.Type)
    (λ m. seq-exact (mark-exact s.open_angle token.open_angle refl (omega arith) expected.LeftAngleBracket)
    (λ m. seq-exact (field_type-exact expected.Type)
    (λ key. seq-exact (mark-exact s.comma token.comma refl (omega arith) (said.after_type key.0 expected.DotOrComma expected.Comma))
    (λ m. seq-exact (field_type-exact expected.Type)
    (λ value. seq-exact (mark-exact s.close_angle token.close_angle refl (omega arith) (said.after_type value.0 expected.DotOrRightAngleBracket expected.RightAngleBracket))
    (λ m. name_and_number-exact expected.Ident) (λ m. refl) (λ m. refl))
    (behind-low (only token.close_angle) expected.DotOrRightAngleBracket expected.RightAngleBracket refl refl) (behind-high (only token.close_angle) expected.DotOrRightAngleBracket expected.RightAngleBracket refl refl))
    (λ m. refl) (λ m. refl))
    (behind-low (only token.comma) expected.DotOrComma expected.Comma refl refl) (behind-high (only token.comma) expected.DotOrComma expected.Comma refl refl))
    (λ m. refl) (λ m. refl)) (λ m. refl) (λ m. refl))

pub bodiless_element-exact : Exact (bodies.bodiless_element).code said.bodiless_element expected.MessageBody (union (only token.option) (union (only token.reserved) (only token.extensions))) (λ x. none)
unfolding bodies.bodiless_element said.bodiless_element
bodiless_element-exact = choice-exact (mapped-exact (λ x. none) _ (λ x. refl) (option-exact-of expected.MessageBody))
    (choice-exact (mapped-exact (λ x. none) _ (λ x. refl) (reserved-exact expected.MessageBody)) (mapped-exact (λ x. none) _ (λ x. refl) (extensions-exact expected.MessageBody)) (λ x. refl)) (λ x. refl)

pub group_name-exact : Exact (rule.group_name).code (always expected.Ident) expected.Ident words (λ x. none)
unfolding rule.group_name
group_name-exact = ident-exact expected.Ident
