-- Syntax trees for examples: a tree as data, the syntax tree made of it, and what its levels give.
use Rattle.std.proofs.Common.{◌≡◌, List, [], ◌∷◌, map, Option, refl, ap, ap₂, ◌∙◌}
use Rattle.protox_fault.specs.Faults.{Span}
use Rattle.protox_ast.specs.Steps.{Steps, of_message, of_body, of_item, of_field, of_kind, of_oneof, of_extend}
use Rattle.protox_ast.proofs.Lemmas.{item-enum, item-extend, item-field, item-message, item-oneof}
use Rattle.protox_ast.proofs.Lemmas.{kind-group, kind-map, kind-normal}
use Rattle.protox_ast.specs.declared.ast.Enum.{Enum}
use Rattle.protox_ast.specs.declared.ast.Extend.{Extend, roll-Extend}
use Rattle.protox_ast.specs.declared.ast.Extensions.{Extensions}
use Rattle.protox_ast.specs.declared.ast.Field.{Field, roll-Field}
use Rattle.protox_ast.specs.declared.ast.FieldKind.{FieldKind}
use Rattle.protox_ast.specs.declared.ast.FieldKind.TheVariants as kind
use Rattle.protox_ast.specs.declared.ast.FieldKind.TheOpen.{MessageItem-F, FieldKind-F}
use Rattle.protox_ast.specs.declared.ast.FieldKind.TheFolds.{fold-roll-Message, fold-roll-MessageBody, fold-roll-Field, fold-roll-Oneof, fold-roll-Extend}
use Rattle.protox_ast.specs.declared.ast.FieldLabel.{FieldLabel}
use Rattle.protox_ast.specs.declared.ast.Ident.{Ident}
use Rattle.protox_ast.specs.declared.ast.Int.{Int}
use Rattle.protox_ast.specs.declared.ast.Message.{Message, roll-Message}
use Rattle.protox_ast.specs.declared.ast.MessageBody.{MessageBody, roll-MessageBody}
use Rattle.protox_ast.specs.declared.ast.MessageItem.{MessageItem}
use Rattle.protox_ast.specs.declared.ast.MessageItem.TheVariants as item
use Rattle.protox_ast.specs.declared.ast.Oneof.{Oneof, roll-Oneof}
use Rattle.protox_ast.specs.declared.ast.OptionList.{OptionList}
use Rattle.protox_ast.specs.declared.ast.Reserved.{Reserved}
use Rattle.protox_ast.specs.declared.ast.Ty.{Ty}
use Rattle.protox_ast.specs.declared.ast.TypeName.{TypeName}
use Rattle.protox_ast.specs.Options.{OptionStatement}
use Rattle.protox_generate.proofs.samples.Written.{noted}

pub data Sort : Type 0 where
  MessageSort BodySort ItemsSort ItemSort FieldSort FieldsSort KindSort OneofSort ExtendSort : Sort

infixr 30 ◌&◌
-- a tree, in which each declaration is led by the comment that its span makes
pub data Tree : Sort → Type 0 where
  message : Ident → Tree BodySort → Span → Tree MessageSort
  body : Tree ItemsSort → List Extensions → List OptionStatement → List Reserved → Tree BodySort
  none : Tree ItemsSort
  ◌&◌ : Tree ItemSort → Tree ItemsSort → Tree ItemsSort
  a_field : Tree FieldSort → Tree ItemSort
  a_message : Tree MessageSort → Tree ItemSort
  a_oneof : Tree OneofSort → Tree ItemSort
  an_extend : Tree ExtendSort → Tree ItemSort
  an_enum : Enum → Tree ItemSort
  field : Option (FieldLabel × Span) → Tree KindSort → Ident → Int → Option OptionList → Span → Tree FieldSort
  normal : Ty → Span → Tree KindSort
  group : Span → Tree BodySort → Tree KindSort
  a_map : Span → Ty → Span → Ty → Span → Tree KindSort
  no_field : Tree FieldsSort
  more_fields : Tree FieldSort → Tree FieldsSort → Tree FieldsSort
  oneof : Ident → List OptionStatement → Tree FieldsSort → Span → Tree OneofSort
  extend : TypeName → Tree FieldsSort → Span → Tree ExtendSort

abbrev pub Made : Sort → Type 0
Made MessageSort = Message
Made BodySort = MessageBody
Made ItemsSort = List MessageItem
Made ItemSort = MessageItem
Made FieldSort = Field
Made FieldsSort = List Field
Made KindSort = FieldKind
Made OneofSort = Oneof
Made ExtendSort = Extend

-- the syntax tree
abbrev pub make : {k : Sort} → Tree k → Made k
make (message ident inside span) = roll-Message (record { name = ident; body = make inside; comments = noted span; span = span })
make (body items extensions options reserved) = roll-MessageBody (record { items = make items; extensions = extensions; options = options; reserved = reserved })
make none = []
make (first & rest) = make first ∷ make rest
make (a_field f) = item.Field (make f)
make (a_message m) = item.Message (make m)
make (a_oneof o) = item.Oneof (make o)
make (an_extend e) = item.Extend (make e)
make (an_enum e) = item.Enum e
make (field label what ident number options span) = roll-Field (record { label = label; name = ident; kind = make what; number = number; options = options; comments = noted span; span = span })
make (normal type span) = kind.Normal type span
make (group span inside) = kind.Group span (make inside)
make (a_map span key key_span type type_span) = kind.Map span key key_span type type_span
make no_field = []
make (more_fields first rest) = make first ∷ make rest
make (oneof ident options fields span) = roll-Oneof (record { name = ident; options = options; fields = make fields; comments = noted span; span = span })
make (extend extendee fields span) = roll-Extend (record { extendee = extendee; fields = make fields; comments = noted span; span = span })

module _ {K I E F M B O : Type 0} (s : Steps K I E F M B O) where
  abbrev pub Given : Sort → Type 0
  Given MessageSort = M
  Given BodySort = B
  Given ItemsSort = List I
  Given ItemSort = I
  Given FieldSort = F
  Given FieldsSort = List F
  Given KindSort = K
  Given OneofSort = O
  Given ExtendSort = E

  -- what the steps give of a tree
  abbrev pub give : {k : Sort} → Tree k → Given k
  give (message ident inside span) = s.message (record { name = ident; body = give inside; comments = noted span; span = span })
  give (body items extensions options reserved) = s.body (record { items = give items; extensions = extensions; options = options; reserved = reserved })
  give none = []
  give (first & rest) = give first ∷ give rest
  give (a_field f) = s.item (MessageItem-F.Field (give f))
  give (a_message m) = s.item (MessageItem-F.Message (give m))
  give (a_oneof o) = s.item (MessageItem-F.Oneof (give o))
  give (an_extend e) = s.item (MessageItem-F.Extend (give e))
  give (an_enum e) = s.item (MessageItem-F.Enum e)
  give (field label what ident number options span) = s.field (record { label = label; name = ident; kind = give what; number = number; options = options; comments = noted span; span = span })
  give (normal type span) = s.kind (FieldKind-F.Normal type span)
  give (group span inside) = s.kind (FieldKind-F.Group span (give inside))
  give (a_map span key key_span type type_span) = s.kind (FieldKind-F.Map span key key_span type type_span)
  give no_field = []
  give (more_fields first rest) = give first ∷ give rest
  give (oneof ident options fields span) = s.oneof (record { name = ident; options = options; fields = give fields; comments = noted span; span = span })
  give (extend extendee fields span) = s.extend (record { extendee = extendee; fields = give fields; comments = noted span; span = span })

  -- and of the syntax tree that it makes
  abbrev pub of : (k : Sort) → Made k → Given k
  of MessageSort = of_message s
  of BodySort = of_body s
  of ItemsSort = map (of_item s)
  of ItemSort = of_item s
  of FieldSort = of_field s
  of FieldsSort = map (of_field s)
  of KindSort = of_kind s
  of OneofSort = of_oneof s
  of ExtendSort = of_extend s

  pub given : {k : Sort} (t : Tree k) → of k (make t) ≡ give t
  given (message ident inside span) =
      fold-roll-Message K I E F M B O s.kind s.item s.extend s.field s.message s.body s.oneof (record { name = ident; body = make inside; comments = noted span; span = span })
      ∙ ap (λ b. s.message (record { name = ident; body = b; comments = noted span; span = span })) (given inside)
  given (body items extensions options reserved) =
      fold-roll-MessageBody K I E F M B O s.kind s.item s.extend s.field s.message s.body s.oneof (record { items = make items; extensions = extensions; options = options; reserved = reserved })
      ∙ ap (λ l. s.body (record { items = l; extensions = extensions; options = options; reserved = reserved })) (given items)
  given none = refl
  given (first & rest) = ap₂ (λ x xs. x ∷ xs) (given first) (given rest)
  given (a_field f) = item-field s (make f) ∙ ap (λ x. s.item (MessageItem-F.Field x)) (given f)
  given (a_message m) = item-message s (make m) ∙ ap (λ x. s.item (MessageItem-F.Message x)) (given m)
  given (a_oneof o) = item-oneof s (make o) ∙ ap (λ x. s.item (MessageItem-F.Oneof x)) (given o)
  given (an_extend e) = item-extend s (make e) ∙ ap (λ x. s.item (MessageItem-F.Extend x)) (given e)
  given (an_enum e) = item-enum s e
  given (field label what ident number options span) =
      fold-roll-Field K I E F M B O s.kind s.item s.extend s.field s.message s.body s.oneof (record { label = label; name = ident; kind = make what; number = number; options = options; comments = noted span; span = span })
      ∙ ap (λ x. s.field (record { label = label; name = ident; kind = x; number = number; options = options; comments = noted span; span = span })) (given what)
  given (normal type span) = kind-normal s type span
  given (group span inside) = kind-group s span (make inside) ∙ ap (λ b. s.kind (FieldKind-F.Group span b)) (given inside)
  given (a_map span key key_span type type_span) = kind-map s span key key_span type type_span
  given no_field = refl
  given (more_fields first rest) = ap₂ (λ x xs. x ∷ xs) (given first) (given rest)
  given (oneof ident options fields span) =
      fold-roll-Oneof K I E F M B O s.kind s.item s.extend s.field s.message s.body s.oneof (record { name = ident; options = options; fields = make fields; comments = noted span; span = span })
      ∙ ap (λ l. s.oneof (record { name = ident; options = options; fields = l; comments = noted span; span = span })) (given fields)
  given (extend extendee fields span) =
      fold-roll-Extend K I E F M B O s.kind s.item s.extend s.field s.message s.body s.oneof (record { extendee = extendee; fields = make fields; comments = noted span; span = span })
      ∙ ap (λ l. s.extend (record { extendee = extendee; fields = l; comments = noted span; span = span })) (given fields)

-- ---- shorter words

-- items in braces
abbrev pub inside : Tree ItemsSort → Tree BodySort
inside items = body items [] [] []

abbrev pub only : Tree FieldSort → Tree FieldsSort
only f = more_fields f no_field
