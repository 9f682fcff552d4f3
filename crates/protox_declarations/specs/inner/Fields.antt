-- How the code reads and notes the kinds of fields, and what a field is made of.
use Rattle.std.specs.Prelude.{◌≡◌, [], ◌∷◌, ◌++◌, Option, Some, None, option_map, ◌⊎◌, codes}
use Rattle.std.proofs.Common.{refl, append-nil, inl, inr}
use Rattle.std.specs.Option.{unwrap_or}
use Rattle.protox_fault.specs.Faults.{Span}
use Rattle.protox_lexeme.specs.Shapes.{Rows}
use Rattle.protox_ast.specs.Tree as tree
use Rattle.protox_ast.specs.Spelling as s
use Rattle.protox_ast.specs.Ast as ast
use Rattle.protox_ast.specs.CheckedNodes.{AGroupName}
use Rattle.protox_ast.specs.Places.{Place}
use Rattle.protox_ast.specs.declared.ast.FieldLabel.{FieldLabel}
use Rattle.protox_ast.specs.declared.ast.Ident.{Ident}
use Rattle.protox_ast.specs.declared.ast.Int.{Int}
use Rattle.protox_ast.specs.declared.ast.OptionList.{OptionList}
use Rattle.protox_grammar.specs.Class.{only}
use Rattle.protox_ast.specs.declared.ast.Field.{Field, roll-Field}
use Rattle.protox_ast.specs.declared.ast.FieldKind.TheVariants as kind
use Rattle.protox_grammar.specs.Rule as rule
use Rattle.protox_grammar.specs.Rules as r
use Rattle.protox_grammar.specs.Steps.{ANode}
use Rattle.protox_grammar.specs.Told.{group_notes}
use Rattle.protox_grammar.specs.Token as token
use Rattle.protox_grammar.proofs.Lemmas.{Noting, both, group-lie, named, seen, sign, the, with_note}
use Rattle.protox_grammar.proofs.Lemmas.{word-lies}
use Rattle.protox_rows.specs.inner.Names.{ident, int, field_type}
use Rattle.protox_rows.specs.inner.Reads.{declared}
use Rattle.protox_declarations.specs.inner.Options.{list_if_any}
use Rattle.protox_declarations.specs.declared.parts.FieldParts.{FieldParts}

-- ---- the kinds of fields: what the code keeps of each, the place that opens or ends its body, and
-- the last place

abbrev pub Kind : Type 0
Kind = FieldParts × (Place × Place)

-- the kind of a field of the tree as the code keeps it
abbrev pub kind_seen : tree.FieldKind Place → Kind
kind_seen (tree.normal x) = (record { name = ast.ident x.name; kind = kind.Normal (ast.type x.type) (ast.type_span x.type); number = ast.int x.number; options = option_map ast.list x.options }, (x.end, x.end))
kind_seen (tree.map x) = (record { name = ast.ident x.name; kind = kind.Map (ast.join x.keyword.span x.close_at.span) (ast.type x.key) (ast.type_span x.key) (ast.type x.value) (ast.type_span x.value); number = ast.int x.number; options = option_map ast.list x.options }, (x.end, x.end))
kind_seen (tree.group (tree.group_of m n e i l b)) = (record { name = ast.ident n; kind = kind.Group m.span (ast.mbody b); number = ast.int i; options = option_map ast.list l }, (ast.body_open b, ast.body_close b))

-- a name, a number, a list of options if there is one, and the place of the `;`
abbrev pub NameAndNumber : Type 0
NameAndNumber = Ident × (Int × (Option OptionList × Place))

-- the same, from the tree
abbrev pub name_and_number_seen : tree.Word Place × (Place × (tree.Int Place × (Option (tree.OptionList Place) × Place))) → NameAndNumber
name_and_number_seen (name, (_, (number, (options, end)))) = (ast.ident name, (ast.int number, (option_map ast.list options, end)))

-- ident "=" int list? ";"
unfoldable pub name_and_number : Noting (rule.seq r.ident (rule.seq (r.sign s.equals) (rule.seq r.int (rule.seq (rule.optional (only token.open_bracket) r.list) (r.sign s.semicolon))))) name_and_number_seen
name_and_number = seen (λ (name, (_, (number, (options, end)))). (name, (number, (options, end)))) (both ident (both (sign s.equals) (both int (both list_if_any (sign s.semicolon)))))

-- normal = type ident "=" int list? ";"
unfoldable pub normal : Noting r.normal (λ x. kind_seen (tree.normal x))
unfolding r.normal
normal = named _ (λ ((type, type_span), (name, (number, (options, end)))). (record { name = name; kind = kind.Normal type type_span; number = number; options = options }, (end, end))) (λ x. refl) (both field_type name_and_number)

-- map = "map" "<" type "," type ">" ident "=" int list? ";"
unfoldable pub map_field : Noting r.map (λ x. kind_seen (tree.map x))
unfolding r.map
map_field = named _ (λ (keyword, (_, ((key, key_span), (_, ((value, value_span), (close_at, (name, (number, (options, end))))))))). (
  record {
    name = name;
    kind = kind.Map (ast.join keyword.span close_at.span) key key_span value value_span;
    number = number;
    options = options;
  },
  (end, end),
)) (λ x. refl)
    (both (the (codes "map")) (both (sign s.open_angle) (both field_type (both (sign s.comma) (both field_type (both (sign s.close_angle) name_and_number))))))

-- a group's name; it is checked before the row behind it is read
unfoldable pub group_name : Noting (rule.noting (λ (x : tree.Word Place). ANode (AGroupName x)) r.ident) ast.ident
group_name = with_note (λ x. ANode (AGroupName x)) (λ i rest. group_notes (i.value, i.span) rest) (λ first w x rest. append-nil (group_notes (x.0, x.1.span) rest))
    (λ low high xs x q h. group-lie high (x.0.0, x.0.1.span) x.1 (word-lies x.0.1 low high xs x q h)) ident

-- ---- fields

-- the span of the first row
abbrev pub first_span : Rows Place → Span
first_span [] = record { start = 0; end = 0 }
first_span (x ∷ xs) = x.at.span

-- the field that begins at the first of these rows
abbrev pub field_of : Rows Place → Option (FieldLabel × Span) × Kind → Field
field_of xs (label, (field, (open_at, end))) = roll-Field (record { label = label; name = field.name; kind = field.kind; number = field.number; options = field.options; comments = declared xs open_at; span = ast.join (first_span xs) end.span })

-- the field that begins at this place
abbrev pub begun_at : Place → Option (FieldLabel × Span) × Kind → Field
begun_at p (label, (field, (open_at, end))) = roll-Field (record { label = label; name = field.name; kind = field.kind; number = field.number; options = field.options; comments = ast.comments p open_at; span = ast.join p.span end.span })

-- the place of the first token of a field's kind
abbrev pub kind_first : tree.FieldKind Place → Place
kind_first (tree.normal x) = ast.type_first x.type
kind_first (tree.map x) = x.keyword
kind_first (tree.group (tree.group_of m n e i l b)) = m

-- The field that begins at its label, or without one at its kind, is the field of the tree.
pub field-is : (l : Option (tree.Label Place)) (x : tree.FieldKind Place) → begun_at (ast.field_first l (kind_first x)) (option_map ast.label l, kind_seen x) ≡ ast.field (tree.field_of l x)
field-is l (tree.normal x) = refl
field-is l (tree.map x) = refl
field-is l (tree.group (tree.group_of m n e i o b)) = refl

-- A named type begins with its dot, or without one with its name.
pub dotted-begins : (d : Option Place) (n : tree.FullIdent Place) (x : Option (FieldLabel × Span) × Kind) (ys rest : Rows Place) → field_of (((s.maybe (s.sign s.dot) d ++ s.fullident n) ++ ys) ++ rest) x ≡ begun_at (unwrap_or d n.first.1) x
dotted-begins None n x ys rest = refl
dotted-begins (Some m) n x ys rest = refl

-- A field without a label begins with its type.
pub typed-begins : (t : tree.FieldType Place) (x : Option (FieldLabel × Span) × Kind) (ys rest : Rows Place) → field_of ((s.type t ++ ys) ++ rest) x ≡ begun_at (ast.type_first t) x
typed-begins (tree.scalar t m) x ys rest = refl
typed-begins (tree.named t) x ys rest = dotted-begins t.leading_dot t.name x ys rest

-- A field without a label begins with its kind.
pub kind-begins : (x : tree.FieldKind Place) (v : Option (FieldLabel × Span) × Kind) (rest : Rows Place) → field_of (s.field (tree.field_of None x) ++ rest) v ≡ begun_at (kind_first x) v
kind-begins (tree.normal x) v rest = typed-begins x.type v _ rest
kind-begins (tree.map x) v rest = refl
kind-begins (tree.group (tree.group_of m n e i o b)) v rest = refl

-- A field with a label begins with it.
pub label-begins : (l : tree.Label Place) (x : tree.FieldKind Place) (v : Option (FieldLabel × Span) × Kind) (rest : Rows Place) → field_of (s.field (tree.field_of (Some l) x) ++ rest) v ≡ begun_at (ast.label_place l) v
label-begins (tree.optional m) x v rest = refl
label-begins (tree.required m) x v rest = refl
label-begins (tree.repeated m) x v rest = refl

-- the label, if there is one, and the kind of a field of the tree as the code keeps them
abbrev pub labelled : (tree.Label Place × tree.FieldKind Place) ⊎ tree.FieldKind Place → Option (FieldLabel × Span) × Kind
labelled (inl x) = (Some (ast.label x.0), kind_seen x.1)
labelled (inr x) = (None, kind_seen x)
