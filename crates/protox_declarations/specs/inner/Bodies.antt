-- How the code reads and notes bodies of messages and groups, level by level.
use Rattle.std.specs.Prelude.{◌≡◌, ℕ, zero, suc, List, [], ◌∷◌, ◌++◌, map, Option, Some, None, option_map, ◌⊎◌, codes}
use Rattle.std.proofs.Common.{refl, sym, ap, ◌∙◌, append-nil, append_assoc, inl, inr}
use Rattle.protox_fault.specs.Faults.{Span}
use Rattle.protox_lexeme.specs.Shapes.{Mark, Rows}
use Rattle.protox_ast.specs.Tree as tree
use Rattle.protox_ast.specs.Spelling as s
use Rattle.protox_ast.specs.KeywordWalk as k
use Rattle.protox_ast.specs.inner.AggregateWalk as aggregates
use Rattle.protox_ast.specs.Ast as ast
use Rattle.protox_ast.specs.CheckedNodes.{AGroupName}
use Rattle.protox_ast.specs.Places.{Place}
use Rattle.protox_ast.specs.declared.ast.Field.{Field}
use Rattle.protox_ast.specs.declared.ast.FieldLabel.{FieldLabel}
use Rattle.protox_ast.specs.declared.ast.Int.{Int}
use Rattle.protox_ast.specs.declared.ast.OptionList.{OptionList}
use Rattle.protox_ast.specs.declared.ast.FieldKind.TheVariants as kind
use Rattle.protox_ast.specs.declared.ast.MessageItem as item_type
use Rattle.protox_ast.specs.declared.ast.MessageItem.TheVariants as item
use Rattle.protox_ast.specs.declared.ast.Extensions as extensions_type
use Rattle.protox_ast.specs.declared.ast.Reserved as reserved_type
use Rattle.protox_ast.specs.declared.ast.MessageBody.{MessageBody, roll-MessageBody}
use Rattle.protox_ast.specs.declared.ast.Message.{Message, roll-Message}
use Rattle.protox_ast.specs.declared.ast.Extend as extend_type
use Rattle.protox_ast.specs.declared.ast.Extend.{roll-Extend}
use Rattle.protox_ast.specs.declared.ast.Oneof as oneof_type
use Rattle.protox_ast.specs.declared.ast.Oneof.{roll-Oneof}
use Rattle.protox_ast.specs.declared.ast.Option as oneof_lists
use Rattle.protox_grammar.specs.Class.{only, among, but}
use Rattle.protox_grammar.specs.Reader.{Reader, folded, fixed, leaf, see_word}
use Rattle.protox_grammar.specs.Rule as rule
use Rattle.protox_grammar.specs.Rules as r
use Rattle.protox_grammar.specs.Bodies as bodies
use Rattle.protox_grammar.specs.Steps.{ANode}
use Rattle.protox_grammar.specs.Told as told
use Rattle.protox_grammar.specs.Token as token
use Rattle.protox_grammar.proofs.Lemmas.{IsRead, Keeps, Noting, Opened, before, body_seen, both}
use Rattle.protox_grammar.proofs.Lemmas.{choice, gather, int-braced, keeps-of, named, named_from}
use Rattle.protox_grammar.proofs.Lemmas.{node-keeps, opened, opened_by, optional-laws, options-braced}
use Rattle.protox_grammar.proofs.Lemmas.{plain-keeps, renamed, seen, shown_by, sign, sunk, the, three}
use Rattle.protox_grammar.proofs.Lemmas.{two}
use Rattle.protox_grammar.proofs.Lemmas as grammar
use Rattle.protox_rows.specs.inner.Names.{ident, int, typename, label}
use Rattle.protox_declarations.specs.inner.Options.{here, list_if_any, option}
use Rattle.protox_declarations.specs.inner.Enums.{enum_}
use Rattle.protox_declarations.specs.inner.Ranges.{reserved, extensions}
use Rattle.protox_declarations.specs.inner.Fields.{Kind, kind_seen, normal, map_field, group_name, field_of, field-is, kind-begins, label-begins, labelled}
use Rattle.protox_declarations.specs.declared.parts.Element.{Element}
use Rattle.protox_declarations.specs.declared.parts.Element.TheVariants as element_of
use Rattle.protox_declarations.specs.declared.parts.ElementsByKind.{ElementsByKind}
use Rattle.protox_declarations.specs.declared.parts.OneofElement as oneof_element_type
use Rattle.protox_declarations.specs.declared.parts.OneofElement.TheVariants as oneof_element_of
use Rattle.protox_declarations.specs.declared.parts.OneofElementsByKind.{OneofElementsByKind}

-- ---- oneofs

-- an element of a oneof as the code keeps it
abbrev pub oneof_element_seen : tree.OneofElement Place → oneof_element_type.OneofElement
oneof_element_seen (tree.oneof_empty m) = oneof_element_of.Empty
oneof_element_seen (tree.oneof_option x) = oneof_element_of.Option (ast.option x)
oneof_element_seen (tree.oneof_field x) = oneof_element_of.Field (ast.field x)

-- An element is added to the lists of its kind.
abbrev pub add_oneof_element : OneofElementsByKind → oneof_element_type.OneofElement → OneofElementsByKind
add_oneof_element f oneof_element_of.Empty = f
add_oneof_element f (oneof_element_of.Option x) = record f { options = f.options ++ x ∷ [] }
add_oneof_element f (oneof_element_of.Field x) = record f { fields = f.fields ++ x ∷ [] }

-- the lists of all elements
abbrev pub oneof_inside : tree.OneofElements Place → OneofElementsByKind
oneof_inside es = record { options = ast.oneof_options es; fields = ast.oneof_fields es }

-- no element yet
abbrev pub no_oneof : OneofElementsByKind
no_oneof = record { options = []; fields = [] }

-- these lists as one value
abbrev pub oneof_of : List (oneof_lists.Option) → List Field → OneofElementsByKind
oneof_of a b = record { options = a; fields = b }

-- Adding one element after another gives the lists of all.
pub oneof-gathered : (a : List (oneof_lists.Option)) (b : List Field) (xs : List (tree.OneofElement Place)) → folded add_oneof_element (oneof_of a b) (map oneof_element_seen xs) ≡ oneof_of (a ++ ast.oneof_options (bodies.to_oneof_elements xs)) (b ++ ast.oneof_fields (bodies.to_oneof_elements xs))
oneof-gathered a b [] = ap (λ v. oneof_of v b) (sym (append-nil a)) ∙ ap (λ v. oneof_of (a ++ []) v) (sym (append-nil b))
oneof-gathered a b (tree.oneof_empty m ∷ xs) = oneof-gathered a b xs
oneof-gathered a b (tree.oneof_option x ∷ xs) = oneof-gathered (a ++ ast.option x ∷ []) b xs ∙ ap (λ v. oneof_of v (b ++ ast.oneof_fields (bodies.to_oneof_elements xs))) (append_assoc a (ast.option x ∷ []) _)
oneof-gathered a b (tree.oneof_field x ∷ xs) = oneof-gathered a (b ++ ast.field x ∷ []) xs ∙ ap (λ v. oneof_of (a ++ ast.oneof_options (bodies.to_oneof_elements xs)) v) (append_assoc b (ast.field x ∷ []) _)

-- ---- extends

-- the field that an element of an `extend` is, if it is one
abbrev pub extend_element_seen : tree.ExtendElement Place → Option Field
extend_element_seen (tree.extend_empty m) = None
extend_element_seen (tree.extend_field x) = Some (ast.field x)

-- A field is added to the list.
abbrev pub add_extend_element : List Field → Option Field → List Field
add_extend_element xs None = xs
add_extend_element xs (Some x) = xs ++ x ∷ []

-- Adding one field after another gives the list of all.
pub extend-gathered : (a : List Field) (xs : List (tree.ExtendElement Place)) → folded add_extend_element a (map extend_element_seen xs) ≡ a ++ ast.extend_fields (bodies.to_extend_elements xs)
extend-gathered a [] = sym (append-nil a)
extend-gathered a (tree.extend_empty m ∷ xs) = extend-gathered a xs
extend-gathered a (tree.extend_field x ∷ xs) = extend-gathered (a ++ ast.field x ∷ []) xs ∙ append_assoc a (ast.field x ∷ []) _

-- ---- messages

-- an element of a message as the code keeps it
abbrev pub element_seen : tree.Element Place → Element
element_seen (tree.empty m) = element_of.Empty
element_seen (tree.field x) = element_of.Item (item.Field (ast.field x))
element_seen (tree.oneof x) = element_of.Item (item.Oneof (ast.oneof x))
element_seen (tree.enum x) = element_of.Item (item.Enum (ast.enum x))
element_seen (tree.message x) = element_of.Item (item.Message (ast.message x))
element_seen (tree.extend x) = element_of.Item (item.Extend (ast.extend x))
element_seen (tree.option x) = element_of.Option (ast.option x)
element_seen (tree.reserved x) = element_of.Reserved (ast.reserved x)
element_seen (tree.extensions x) = element_of.Extensions (ast.extensions x)

-- An element is added to the lists of its kind.
abbrev pub add_element : ElementsByKind → Element → ElementsByKind
add_element f element_of.Empty = f
add_element f (element_of.Item x) = record f { items = f.items ++ x ∷ [] }
add_element f (element_of.Option x) = record f { options = f.options ++ x ∷ [] }
add_element f (element_of.Reserved x) = record f { reserved = f.reserved ++ x ∷ [] }
add_element f (element_of.Extensions x) = record f { extensions = f.extensions ++ x ∷ [] }

-- no element yet
abbrev pub nothing_inside : ElementsByKind
nothing_inside = record { items = []; extensions = []; options = []; reserved = [] }

-- the lists of all elements
abbrev pub inside : tree.Elements Place → ElementsByKind
inside es = record { items = ast.items es; extensions = ast.extensions_in es; options = ast.options_in es; reserved = ast.reserved_in es }

-- the lists with these elements added
abbrev pub then_inside : ElementsByKind → tree.Elements Place → ElementsByKind
then_inside f es = record { items = f.items ++ ast.items es; extensions = f.extensions ++ ast.extensions_in es; options = f.options ++ ast.options_in es; reserved = f.reserved ++ ast.reserved_in es }

-- these lists as one value
abbrev pub inside_of : List item_type.MessageItem → List extensions_type.Extensions → List oneof_lists.Option → List reserved_type.Reserved → ElementsByKind
inside_of a b c d = record { items = a; extensions = b; options = c; reserved = d }

-- an item, an option or a statement more
pub item-added : (f : ElementsByKind) (y : item_type.MessageItem) (xs : List item_type.MessageItem) (es : tree.Elements Place) → inside_of ((f.items ++ y ∷ []) ++ xs) (f.extensions ++ ast.extensions_in es) (f.options ++ ast.options_in es) (f.reserved ++ ast.reserved_in es)
    ≡ inside_of (f.items ++ y ∷ xs) (f.extensions ++ ast.extensions_in es) (f.options ++ ast.options_in es) (f.reserved ++ ast.reserved_in es)
item-added f y xs es = ap (λ v. inside_of v (f.extensions ++ ast.extensions_in es) (f.options ++ ast.options_in es) (f.reserved ++ ast.reserved_in es)) (append_assoc f.items (y ∷ []) xs)

-- Adding one element and then the others gives the lists of all.
pub element-added : (f : ElementsByKind) (e : tree.Element Place) (es : tree.Elements Place) → then_inside (add_element f (element_seen e)) es ≡ then_inside f (tree.elements e es)
element-added f (tree.empty m) es = refl
element-added f (tree.field x) es = item-added f (item.Field (ast.field x)) (ast.items es) es
element-added f (tree.oneof x) es = item-added f (item.Oneof (ast.oneof x)) (ast.items es) es
element-added f (tree.enum x) es = item-added f (item.Enum (ast.enum x)) (ast.items es) es
element-added f (tree.message x) es = item-added f (item.Message (ast.message x)) (ast.items es) es
element-added f (tree.extend x) es = item-added f (item.Extend (ast.extend x)) (ast.items es) es
element-added f (tree.option x) es = ap (λ v. inside_of (f.items ++ ast.items es) (f.extensions ++ ast.extensions_in es) v (f.reserved ++ ast.reserved_in es)) (append_assoc f.options (ast.option x ∷ []) (ast.options_in es))
element-added f (tree.reserved x) es = ap (λ v. inside_of (f.items ++ ast.items es) (f.extensions ++ ast.extensions_in es) (f.options ++ ast.options_in es) v) (append_assoc f.reserved (ast.reserved x ∷ []) (ast.reserved_in es))
element-added f (tree.extensions x) es = ap (λ v. inside_of (f.items ++ ast.items es) v (f.options ++ ast.options_in es) (f.reserved ++ ast.reserved_in es)) (append_assoc f.extensions (ast.extensions x ∷ []) (ast.extensions_in es))

-- Adding one element after another gives the lists of all.
pub inside-gathered : (f : ElementsByKind) (xs : List (tree.Element Place)) → folded add_element f (map element_seen xs) ≡ then_inside f (bodies.to_elements xs)
inside-gathered f [] =
    ap (λ v. inside_of v f.extensions f.options f.reserved) (sym (append-nil f.items)) ∙ ap (λ v. inside_of (f.items ++ []) v f.options f.reserved) (sym (append-nil f.extensions))
    ∙ ap (λ v. inside_of (f.items ++ []) (f.extensions ++ []) v f.reserved) (sym (append-nil f.options)) ∙ ap (λ v. inside_of (f.items ++ []) (f.extensions ++ []) (f.options ++ []) v) (sym (append-nil f.reserved))
inside-gathered f (x ∷ xs) = inside-gathered (add_element f (element_seen x)) xs ∙ element-added f x (bodies.to_elements xs)

-- the body with these lists
abbrev pub body_of : ElementsByKind → MessageBody
body_of x = roll-MessageBody (record { items = x.items; extensions = x.extensions; options = x.options; reserved = x.reserved })

-- a body, and the places of its `{` and `}`
abbrev pub body_and_braces : tree.Mbody Place → MessageBody × (Place × Place)
body_and_braces b = (ast.mbody b, (ast.body_open b, ast.body_close b))

-- a declaration without a body, which begins with a word of its own
abbrev pub bodiless_element_seen : tree.OptionStatement Place ⊎ (tree.Reserved Place ⊎ tree.Extensions Place) → Element
bodiless_element_seen (inl x) = element_of.Option (ast.option x)
bodiless_element_seen (inr (inl x)) = element_of.Reserved (ast.reserved x)
bodiless_element_seen (inr (inr x)) = element_of.Extensions (ast.extensions x)

-- option | reserved | extensions
unfoldable pub bodiless_element : Noting (rule.choice (only token.option) r.option (rule.choice (only token.reserved) r.reserved r.extensions)) bodiless_element_seen
bodiless_element = shown_by (three _ _ (λ x. refl) (λ x. refl) (λ x. refl)) (choice (only token.option) (seen element_of.Option option) (choice (only token.reserved) (seen element_of.Reserved reserved) (seen element_of.Extensions extensions)))

-- ---- rows between a word and its body don't change the word

pub name-keeps : Keeps (r.ident).trace
name-keeps = plain-keeps (leaf see_word)

pub equals-keeps : Keeps (r.sign s.equals).trace
equals-keeps = plain-keeps (fixed (Mark s.equals))

pub int-keeps : Keeps (r.int).trace
int-keeps = keeps-of r.int (grammar.int-laws here).traced (λ x. []) int-braced

pub options-keep : Keeps (rule.optional (only token.open_bracket) r.list).trace
options-keep = keeps-of (rule.optional (only token.open_bracket) r.list) (optional-laws (only token.open_bracket) (grammar.list-laws here) refl).traced (λ o. aggregates.of_list o) options-braced

pub group_name-keeps : Keeps (rule.noting (λ (x : tree.Word Place). ANode (AGroupName x)) r.ident).trace
group_name-keeps = node-keeps (r.ident).read (r.ident).trace (λ x. ANode (AGroupName x)) (λ x w. refl) name-keeps

-- ---- declarations with bodies of at most n levels

module _ (n : ℕ) (b : Opened (bodies.unsealed n).read (bodies.unsealed n).trace body_and_braces) where
  -- a number, a list of options if there is one, and a body with its braces
  abbrev pub NumberAndBody : Type 0
  NumberAndBody = Int × (Option OptionList × (MessageBody × (Place × Place)))

  -- the same, from the tree
  abbrev pub number_and_body_seen : Place × (tree.Int Place × (Option (tree.OptionList Place) × tree.Mbody Place)) → NumberAndBody
  number_and_body_seen (_, (number, (options, body))) = (ast.int number, (option_map ast.list options, body_and_braces body))

  -- "=" int list? mbody
  unfoldable pub number_and_body : Opened (rule.seq (r.sign s.equals) (rule.seq r.int (rule.seq (rule.optional (only token.open_bracket) r.list) (bodies.mbody_at n)))).read (rule.seq (r.sign s.equals) (rule.seq r.int (rule.seq (rule.optional (only token.open_bracket) r.list) (bodies.mbody_at n)))).trace number_and_body_seen
  number_and_body = body_seen (λ x. x.1) (before (sign s.equals) equals-keeps (before int int-keeps (before list_if_any options-keep b)))

  -- "group" ident "=" int list? mbody
  unfoldable pub group : Noting (bodies.group (bodies.mbody_at n)) (λ x. kind_seen (tree.group x))
  unfolding bodies.group
  group = named bodies.to_group (λ (keyword, (name, (number, (options, (body, braces))))). (record { name = name; kind = kind.Group keyword.span body; number = number; options = options }, braces)) (λ x. refl)
      (opened_by (codes "group") (before group_name group_name-keeps number_and_body))

  -- a map or a group of the tree as the code keeps it
  abbrev pub map_or_group_seen : tree.Map Place ⊎ tree.Group Place → Kind
  map_or_group_seen (inl x) = kind_seen (tree.map x)
  map_or_group_seen (inr x) = kind_seen (tree.group x)

  -- map | group
  unfoldable pub map_or_group : Noting (rule.choice (only token.map) r.map (bodies.group (bodies.mbody_at n))) map_or_group_seen
  map_or_group = shown_by (two _ _ (λ x. refl) (λ x. refl)) (choice (only token.map) map_field group)

  -- map | group | normal
  unfoldable pub field_kind : Noting (bodies.field_kind (bodies.mbody_at n)) kind_seen
  unfolding bodies.field_kind
  field_kind = renamed bodies.to_field_kind (two _ _ (two _ _ (λ x. refl) (λ x. refl)) (λ x. refl)) (choice (among (token.map ∷ token.group ∷ [])) (choice (only token.map) map_field group) normal)

  -- The field of the tree is the one that the code builds.
  pub field-seen : (x : (tree.Label Place × tree.FieldKind Place) ⊎ tree.FieldKind Place) (rest : Rows Place) → field_of (s.field (bodies.to_field x) ++ rest) (labelled x) ≡ ast.field (bodies.to_field x)
  field-seen (inl x) rest = label-begins x.0 x.1 (labelled (inl x)) rest ∙ field-is (Some x.0) x.1
  field-seen (inr x) rest = kind-begins x (labelled (inr x)) rest ∙ field-is None x

  abbrev pub law : IsRead {M = Place} (bodies.field (bodies.mbody_at n))
  law = (grammar.field-laws here k.KeepsMbody (bodies.FitsMbody n) (bodies.unsealed n).read (bodies.unsealed n).steps (bodies.unsealed n).trace (grammar.body-laws here n)).read

  -- label? field_kind
  unfoldable pub labelled_kind : Noting (rule.unless (among (token.optional ∷ token.required ∷ token.repeated ∷ [])) (rule.seq r.label (bodies.field_kind (bodies.mbody_at n))) (bodies.field_kind (bodies.mbody_at n))) labelled
  labelled_kind = shown_by (two _ _ (λ x. refl) (λ x. refl)) (choice (among (token.optional ∷ token.required ∷ token.repeated ∷ [])) (seen (λ x. (Some x.0, x.1)) (both label field_kind)) (seen (λ x. (None, x)) field_kind))

  -- field = label? field_kind
  unfoldable pub field : Noting (bodies.field (bodies.mbody_at n)) ast.field
  unfolding bodies.field
  field = named_from bodies.to_field (bodies.field (bodies.mbody_at n)) law (λ xs. refl) field_of field-seen labelled_kind

  -- ";" | field
  unfoldable pub extend_element : Noting (bodies.extend_element (bodies.mbody_at n)) extend_element_seen
  unfolding bodies.extend_element
  extend_element = renamed bodies.to_extend_element (two _ _ (λ x. refl) (λ x. refl)) (choice (only token.semicolon) (seen (λ m. None) (sign s.semicolon)) (seen Some field))

  -- the elements of an `extend`, up to its `}`
  unfoldable pub extend_elements : Noting (bodies.extend_elements (bodies.mbody_at n)) ast.extend_fields
  unfolding bodies.extend_elements
  extend_elements = renamed bodies.to_extend_elements (λ xs. refl) (gather (but token.close_brace) add_extend_element [] (λ xs. extend-gathered [] xs) extend_element)

  -- extend = "extend" typename "{" (";" | field)* "}"
  unfoldable pub extend : Noting (bodies.extend (bodies.mbody_at n)) ast.extend
  unfolding bodies.extend
  extend = named bodies.to_extend (λ (keyword, ((extendee, _), (open_at, (fields, close_at)))). roll-Extend (record { extendee = extendee; fields = fields; comments = ast.comments keyword open_at; span = ast.join keyword.span close_at.span })) (λ x. refl)
      (both (the (codes "extend")) (both typename (both (sign s.open_brace) (both extend_elements (sign s.close_brace)))))

  -- ";" | option | field
  unfoldable pub oneof_element : Noting (bodies.oneof_element (bodies.mbody_at n)) oneof_element_seen
  unfolding bodies.oneof_element
  oneof_element = renamed bodies.to_oneof_element (three _ _ (λ x. refl) (λ x. refl) (λ x. refl))
      (choice (only token.semicolon) (seen (λ m. oneof_element_of.Empty) (sign s.semicolon)) (choice (among (token.option ∷ [])) (seen oneof_element_of.Option option) (seen oneof_element_of.Field field)))

  -- the elements of a oneof, up to its `}`
  unfoldable pub oneof_elements : Noting (bodies.oneof_elements (bodies.mbody_at n)) oneof_inside
  unfolding bodies.oneof_elements
  oneof_elements = renamed bodies.to_oneof_elements (λ xs. refl) (gather (but token.close_brace) add_oneof_element no_oneof (λ xs. oneof-gathered [] [] xs) oneof_element)

  -- oneof = "oneof" ident "{" (";" | option | field)* "}"
  unfoldable pub oneof : Noting (bodies.oneof (bodies.mbody_at n)) ast.oneof
  unfolding bodies.oneof
  oneof = named bodies.to_oneof (λ (keyword, (name, (open_at, (inside, close_at)))). roll-Oneof (record { name = name; options = inside.options; fields = inside.fields; comments = ast.comments keyword open_at; span = ast.join keyword.span close_at.span })) (λ x. refl)
      (both (the (codes "oneof")) (both ident (both (sign s.open_brace) (both oneof_elements (sign s.close_brace)))))

  -- message = "message" ident mbody
  unfoldable pub message : Noting (bodies.message (bodies.mbody_at n)) ast.message
  unfolding bodies.message
  message = named bodies.to_message (λ (keyword, (name, (body, (open_at, close_at)))). roll-Message (record { name = name; body = body; comments = ast.comments keyword open_at; span = ast.join keyword.span close_at.span })) (λ x. refl)
      (opened_by (codes "message") (before ident name-keeps b))

  -- the declarations that begin with a word of their own
  abbrev pub KeywordElements : Type 0
  KeywordElements = bodies.Special Place

  -- such a declaration as the code keeps it
  abbrev pub keyword_element_seen : KeywordElements → Element
  keyword_element_seen (inl x) = element_of.Item (item.Oneof (ast.oneof x))
  keyword_element_seen (inr (inl x)) = element_of.Item (item.Enum (ast.enum x))
  keyword_element_seen (inr (inr (inl x))) = element_of.Item (item.Message (ast.message x))
  keyword_element_seen (inr (inr (inr (inl x)))) = element_of.Item (item.Extend (ast.extend x))
  keyword_element_seen (inr (inr (inr (inr x)))) = bodiless_element_seen x

  -- oneof | enum | message | extend | option | reserved | extensions
  unfoldable pub keyword_element : Noting (bodies.special (bodies.mbody_at n)) keyword_element_seen
  keyword_element = shown_by (two _ _ (λ x. refl) (two _ _ (λ x. refl) (two _ _ (λ x. refl) (two _ _ (λ x. refl) (λ x. refl)))))
      (choice (only token.oneof) (seen (λ x. element_of.Item (item.Oneof x)) oneof)
      (choice (only token.enum) (seen (λ x. element_of.Item (item.Enum x)) enum_)
      (choice (only token.message) (seen (λ x. element_of.Item (item.Message x)) message)
      (choice (only token.extend) (seen (λ x. element_of.Item (item.Extend x)) extend) bodiless_element))))

  pub element-is : (x : Place ⊎ (KeywordElements ⊎ tree.Field Place)) → rule.on_sum (λ m. element_of.Empty) (rule.on_sum keyword_element_seen (λ y. element_of.Item (item.Field (ast.field y)))) x ≡ element_seen (bodies.to_element x)
  element-is (inl m) = refl
  element-is (inr (inl (inl y))) = refl
  element-is (inr (inl (inr (inl y)))) = refl
  element-is (inr (inl (inr (inr (inl y))))) = refl
  element-is (inr (inl (inr (inr (inr (inl y)))))) = refl
  element-is (inr (inl (inr (inr (inr (inr (inl y))))))) = refl
  element-is (inr (inl (inr (inr (inr (inr (inr (inl y)))))))) = refl
  element-is (inr (inl (inr (inr (inr (inr (inr (inr y)))))))) = refl
  element-is (inr (inr y)) = refl

  -- ";" | oneof | enum | message | extend | option | reserved | extensions | field
  unfoldable pub element : Noting (bodies.element (bodies.mbody_at n)) element_seen
  unfolding bodies.element
  element = renamed bodies.to_element element-is
      (choice (only token.semicolon) (seen (λ m. element_of.Empty) (sign s.semicolon)) (choice (among (token.oneof ∷ token.enum ∷ token.message ∷ token.extend ∷ token.option ∷ token.reserved ∷ token.extensions ∷ [])) keyword_element (seen (λ x. element_of.Item (item.Field x)) field)))

  -- the elements of a message, up to its `}`
  unfoldable pub elements : Noting (bodies.elements (bodies.mbody_at n)) inside
  unfolding bodies.elements
  elements = renamed bodies.to_elements (λ xs. refl) (gather (but token.close_brace) add_element nothing_inside (λ xs. inside-gathered nothing_inside xs) element)

  -- mbody = "{" element* "}"
  unfoldable pub mbody : Noting (bodies.mbody (bodies.mbody_at n)) body_and_braces
  unfolding bodies.mbody
  mbody = named bodies.to_mbody (λ x. (body_of x.1.0, (x.0, x.1.1))) (λ x. refl) (both (sign s.open_brace) (both elements (sign s.close_brace)))

-- ---- levels

-- a body of at most n levels
unfoldable pub mbody_at : (n : ℕ) → Opened (bodies.unsealed n).read (bodies.unsealed n).trace body_and_braces
unfolding bodies.unsealed
mbody_at zero = sunk body_and_braces
mbody_at (suc n) = opened (mbody n (mbody_at n))

-- ---- what the code reads and notes with n levels left

abbrev pub group_at : ℕ → Reader Place (Kind)
group_at n = (group n (mbody_at n)).code

abbrev pub group_notes : ℕ → Rows Place → told.Notes
group_notes n = (group n (mbody_at n)).notes

abbrev pub map_or_group_at : ℕ → Reader Place (Kind)
map_or_group_at n = (map_or_group n (mbody_at n)).code

abbrev pub map_or_group_notes : ℕ → Rows Place → told.Notes
map_or_group_notes n = (map_or_group n (mbody_at n)).notes

abbrev pub field_kind_at : ℕ → Reader Place (Kind)
field_kind_at n = (field_kind n (mbody_at n)).code

abbrev pub field_kind_notes : ℕ → Rows Place → told.Notes
field_kind_notes n = (field_kind n (mbody_at n)).notes

abbrev pub field_at : ℕ → Reader Place (Field)
field_at n = (field n (mbody_at n)).code

abbrev pub field_notes : ℕ → Rows Place → told.Notes
field_notes n = (field n (mbody_at n)).notes

abbrev pub extend_element_at : ℕ → Reader Place (Option Field)
extend_element_at n = (extend_element n (mbody_at n)).code

abbrev pub extend_element_notes : ℕ → Rows Place → told.Notes
extend_element_notes n = (extend_element n (mbody_at n)).notes

abbrev pub extend_elements_at : ℕ → Reader Place (List Field)
extend_elements_at n = (extend_elements n (mbody_at n)).code

abbrev pub extend_elements_notes : ℕ → Rows Place → told.Notes
extend_elements_notes n = (extend_elements n (mbody_at n)).notes

abbrev pub extend_at : ℕ → Reader Place (extend_type.Extend)
extend_at n = (extend n (mbody_at n)).code

abbrev pub extend_notes : ℕ → Rows Place → told.Notes
extend_notes n = (extend n (mbody_at n)).notes

abbrev pub oneof_element_at : ℕ → Reader Place (oneof_element_type.OneofElement)
oneof_element_at n = (oneof_element n (mbody_at n)).code

abbrev pub oneof_element_notes : ℕ → Rows Place → told.Notes
oneof_element_notes n = (oneof_element n (mbody_at n)).notes

abbrev pub oneof_elements_at : ℕ → Reader Place (OneofElementsByKind)
oneof_elements_at n = (oneof_elements n (mbody_at n)).code

abbrev pub oneof_elements_notes : ℕ → Rows Place → told.Notes
oneof_elements_notes n = (oneof_elements n (mbody_at n)).notes

abbrev pub oneof_at : ℕ → Reader Place (oneof_type.Oneof)
oneof_at n = (oneof n (mbody_at n)).code

abbrev pub oneof_notes : ℕ → Rows Place → told.Notes
oneof_notes n = (oneof n (mbody_at n)).notes

abbrev pub message_at : ℕ → Reader Place (Message)
message_at n = (message n (mbody_at n)).code

abbrev pub message_notes : ℕ → Rows Place → told.Notes
message_notes n = (message n (mbody_at n)).notes

abbrev pub element_at : ℕ → Reader Place (Element)
element_at n = (element n (mbody_at n)).code

abbrev pub element_notes : ℕ → Rows Place → told.Notes
element_notes n = (element n (mbody_at n)).notes

abbrev pub elements_at : ℕ → Reader Place (ElementsByKind)
elements_at n = (elements n (mbody_at n)).code

abbrev pub elements_notes : ℕ → Rows Place → told.Notes
elements_notes n = (elements n (mbody_at n)).notes

abbrev pub labelled_kind_at : ℕ → Reader Place (Option (FieldLabel × Span) × Kind)
labelled_kind_at n = (labelled_kind n (mbody_at n)).code

abbrev pub labelled_kind_notes : ℕ → Rows Place → told.Notes
labelled_kind_notes n = (labelled_kind n (mbody_at n)).notes

abbrev pub keyword_element_at : ℕ → Reader Place Element
keyword_element_at n = (keyword_element n (mbody_at n)).code

abbrev pub keyword_element_notes : ℕ → Rows Place → told.Notes
keyword_element_notes n = (keyword_element n (mbody_at n)).notes

abbrev pub number_and_body_at : ℕ → Reader Place (Int × (Option OptionList × (MessageBody × (Place × Place))))
number_and_body_at n = (number_and_body n (mbody_at n)).code

abbrev pub number_and_body_notes : ℕ → Span → Rows Place → told.Notes
number_and_body_notes n = (number_and_body n (mbody_at n)).notes

abbrev pub braces_at : ℕ → Reader Place (MessageBody × (Place × Place))
braces_at n = (mbody n (mbody_at n)).code

abbrev pub braces_notes : ℕ → Rows Place → told.Notes
braces_notes n = (mbody n (mbody_at n)).notes
