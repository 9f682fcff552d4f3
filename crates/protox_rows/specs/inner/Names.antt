-- Names, numbers, types and labels, as the code reads them.
use Rattle.std.specs.Prelude.{◌≡◌, ℕ, List, [], ◌∷◌, Option, Some, None, option_map, is_some, codes}
use Rattle.std.proofs.Common.{refl}
use Rattle.protox_fault.specs.Faults.{Span}
use Rattle.protox_ast.specs.Tree as tree
use Rattle.protox_ast.specs.Spelling as s
use Rattle.protox_ast.specs.Ast as ast
use Rattle.protox_ast.specs.Places.{Place}
use Rattle.protox_ast.specs.declared.ast.Ident as ident_type
use Rattle.protox_ast.specs.declared.ast.TypeName as type_name
use Rattle.protox_ast.specs.declared.ast.Int as int_type
use Rattle.protox_ast.specs.declared.ast.Ty.{Ty}
use Rattle.protox_ast.specs.declared.ast.Ty.TheVariants as ty
use Rattle.protox_ast.specs.declared.ast.FieldLabel.TheVariants as field_label
use Rattle.protox_grammar.specs.Class.{only}
use Rattle.protox_grammar.specs.Reader.{see_word, see_integer, see_float}
use Rattle.protox_grammar.specs.Rule as rule
use Rattle.protox_grammar.specs.Rules as r
use Rattle.protox_grammar.specs.Token as token
use Rattle.protox_grammar.proofs.Lemmas.{Silent, both, choice, list_of, named, one, optional, renamed}
use Rattle.protox_grammar.proofs.Lemmas.{seen, sign, the, three, two}

-- ---- names

-- Reads an identifier.
unfoldable pub ident : Silent r.ident ast.ident
ident = seen ast.ident (one see_word)

-- Reads a dot and an identifier.
unfoldable pub more_part : Silent (rule.seq (r.sign s.dot) r.ident) (λ y. ast.ident y.1)
more_part = seen (λ x. x.1) (both (sign s.dot) ident)

-- Reads identifiers with dots between them.
unfoldable pub fullident : Silent r.fullident ast.fullident
unfolding r.fullident
fullident = renamed _ (λ x. refl) (list_of (only token.dot) ident more_part)

-- The span of a name: from its leading dot or first part to its last part.
abbrev pub name_span : Option Span → List ident_type.Ident → Span
name_span d [] = record { start = 0; end = 0 }
name_span d (i ∷ is) = ast.join_if_any d (ast.join i.span (ast.last_place (λ (x : ident_type.Ident). x.span) i.span is))

-- A type's name and its span.
abbrev pub name_and_span : tree.TypeName Place → type_name.TypeName × Span
name_and_span x = (ast.typename x, ast.typename_span x)

-- A type's name with its dot, if there is one, and its span.
abbrev pub dotted : Option Place → List ident_type.Ident → type_name.TypeName × Span
dotted d n = (record { leading_dot = ast.span_if_any d; name = n }, name_span (ast.span_if_any d) n)

-- The code's name of a type is that of the tree.
pub dotted-is : (d : Option Place) (n : tree.FullIdent Place) → dotted (option_map (λ m. m) d) (ast.fullident n) ≡ name_and_span (record { leading_dot = d; name = n })
dotted-is None n = refl
dotted-is (Some m) n = refl

-- Reads a type's name.
unfoldable pub typename : Silent r.typename name_and_span
unfolding r.typename
typename = named _ (λ x. dotted x.0 x.1) (λ x. dotted-is x.0 x.1) (both (optional (only token.dot) (sign s.dot)) fullident)

-- ---- numbers

-- A value and its span.
abbrev pub with_span : {X : Type 0} → X × Place → X × Span
with_span x = (x.0, x.1.span)

-- Reads an integer.
unfoldable pub integer : Silent r.integer with_span
integer = seen with_span (one see_integer)

-- Reads a float.
unfoldable pub float : Silent r.float with_span
float = seen with_span (one see_float)

-- An integer with its sign, if there is one.
abbrev pub signed : Option Place → ℕ × Span → int_type.Int
signed d n = record { negative = is_some d; value = n.0; span = ast.join_if_any (ast.span_if_any d) n.1 }

-- The code's integer is that of the tree.
pub signed-is : (d : Option Place) (n : tree.Number Place) → signed (option_map (λ m. m) d) (with_span n) ≡ ast.int (record { sign = d; number = n })
signed-is None n = refl
signed-is (Some m) n = refl

-- Reads an integer, maybe with a minus sign.
unfoldable pub int : Silent r.int ast.int
unfolding r.int
int = named _ (λ x. signed x.0 x.1) (λ x. signed-is x.0 x.1) (both (optional (only token.minus) (sign s.minus)) integer)

-- ---- types and labels

-- A scalar type and its span.
abbrev pub scalar_and_span : tree.Scalar × Place → Ty × Span
scalar_and_span x = (ast.scalar x.0, x.1.span)

-- Reads a scalar type.
unfoldable pub scalar : Silent r.scalar scalar_and_span
scalar = seen scalar_and_span (one r.see_scalar)

-- A field's type and its span.
abbrev pub type_and_span : tree.FieldType Place → Ty × Span
type_and_span x = (ast.type x, ast.type_span x)

-- Reads a field's type.
unfoldable pub field_type : Silent r.type type_and_span
unfolding r.type
field_type = renamed r.to_type (two _ _ (λ x. refl) (λ x. refl)) (choice r.scalar_set scalar (seen (λ x. (ty.Named x.0, x.1)) typename))

-- Reads a label.
unfoldable pub label : Silent r.label ast.label
unfolding r.label
label = renamed r.to_label (three _ _ (λ x. refl) (λ x. refl) (λ x. refl))
    (choice (only token.optional) (seen (λ (p : Place). (field_label.Optional, p.span)) (the (codes "optional")))
    (choice (only token.required) (seen (λ (p : Place). (field_label.Required, p.span)) (the (codes "required")))
    (seen (λ (p : Place). (field_label.Repeated, p.span)) (the (codes "repeated")))))
