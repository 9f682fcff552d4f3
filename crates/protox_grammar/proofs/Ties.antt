-- Each rule with messages in it is its plain form, whatever is known of the bodies in it.
use Rattle.std.proofs.Common.{◌≡◌, ℕ, true, false, List, [], ◌∷◌, ◌++◌, Option, Some, None, codes, refl, ap, inl, inr, ◌⊎◌}
use Rattle.protox_grammar.specs.Class.{apart, place, keywords, among, just_word, just_mark, but_mark, among_words}
use Rattle.protox_lexeme.specs.Shapes.{Rows}
use Rattle.protox_grammar.specs.Steps.{Steps}
use Rattle.protox_grammar.specs.Reader.{Reader}
use Rattle.protox_grammar.specs.Rule.{Rule, Stops, seq, unless, choice, optional, times}
use Rattle.protox_ast.specs.Tree as t
use Rattle.protox_ast.specs.Spelling as s
use Rattle.protox_ast.specs.KeywordWalk as k
use Rattle.protox_grammar.specs.Rules as r
use Rattle.protox_grammar.specs.Bodies as rule
use Rattle.protox_grammar.proofs.Sets.{apart-at}
use Rattle.protox_grammar.proofs.Begin.{places, known, type-stops, stops-type}
use Rattle.protox_grammar.proofs.Parts as parts

-- ---- how a field begins

module _ {M : Type 0} (m : M) (ks : List (List ℕ)) (known-ks : known ks ≡ true) (dotless : among (places ks) 42 ≡ false) (scalarless : apart r.scalar_set (among (places ks)) ≡ true) where
  no-scalar : (x : t.Scalar) → among (places ks) (place keywords (s.scalar_word x)) ≡ false
  no-scalar x = apart-at r.scalar_set (among (places ks)) scalarless (r.scalar_shape x) (parts.scalar-in m x)

  normal-stops : (x : t.Normal M) → k.TypeBeginsWithNone ks x.type → Stops (among (places ks)) (s.normal x)
  normal-stops x h = type-stops ks known-ks dotless no-scalar x.type _ h

  stops-normal : (x : t.Normal M) → Stops (among (places ks)) (s.normal x) → k.TypeBeginsWithNone ks x.type
  stops-normal x h = stops-type ks known-ks dotless no-scalar x.type _ h

  module _ (no-map : among (places ks) 16 ≡ false) (no-group : among (places ks) 18 ≡ false) where
    kind-stops : (x : t.FieldKind M) → k.UnlabelledBeginsWithNone ks (t.field_of None x) → Stops (among (places ks)) (s.field_kind x)
    kind-stops (t.normal x) h = normal-stops x h
    kind-stops (t.map x) h = no-map
    kind-stops (t.group (t.group_of a1 a2 a3 a4 a5 a6)) h = no-group

    stops-kind : (x : t.FieldKind M) → Stops (among (places ks)) (s.field_kind x) → k.UnlabelledBeginsWithNone ks (t.field_of None x)
    stops-kind (t.normal x) h = stops-normal x h
    stops-kind (t.map x) h = tt
    stops-kind (t.group x) h = tt

    module _ (no-optional : among (places ks) 13 ≡ false) (no-required : among (places ks) 14 ≡ false) (no-repeated : among (places ks) 15 ≡ false) where
      field-stops : (x : t.Field M) → k.UnlabelledBeginsWithNone ks x → Stops (among (places ks)) (s.field x)
      field-stops (t.field_of None x) h = kind-stops x h
      field-stops (t.field_of (Some (t.optional l)) x) h = no-optional
      field-stops (t.field_of (Some (t.required l)) x) h = no-required
      field-stops (t.field_of (Some (t.repeated l)) x) h = no-repeated

      stops-field : (x : t.Field M) → Stops (among (places ks)) (s.field x) → k.UnlabelledBeginsWithNone ks x
      stops-field (t.field_of None x) h = stops-kind x h
      stops-field (t.field_of (Some l) x) h = tt

-- the type rules of a field, in two parts
undotted-both : {M : Type 0} (a c : List ℕ) (ks : List (List ℕ)) (l : Option M) (w : List ℕ) → k.Undotted (a ∷ c ∷ []) l w → k.Undotted ks l w → k.Undotted (a ∷ c ∷ ks) l w
undotted-both a c ks (Some m) w g h = tt
undotted-both a c ks None w g h = (g.0, (g.1.0, h))

undotted-first : {M : Type 0} (a c : List ℕ) (ks : List (List ℕ)) (l : Option M) (w : List ℕ) → k.Undotted (a ∷ c ∷ ks) l w → k.Undotted (a ∷ c ∷ []) l w
undotted-first a c ks (Some m) w h = tt
undotted-first a c ks None w h = (h.0, (h.1.0, tt))

undotted-rest : {M : Type 0} (a c : List ℕ) (ks : List (List ℕ)) (l : Option M) (w : List ℕ) → k.Undotted (a ∷ c ∷ ks) l w → k.Undotted ks l w
undotted-rest a c ks (Some m) w h = tt
undotted-rest a c ks None w h = h.1.1

pub type-both : {M : Type 0} (a c : List ℕ) (ks : List (List ℕ)) (x : t.FieldType M) → k.TypeBeginsWithNone (a ∷ c ∷ []) x → k.TypeBeginsWithNone ks x → k.TypeBeginsWithNone (a ∷ c ∷ ks) x
type-both a c ks (t.scalar x y) g h = tt
type-both a c ks (t.named x) g h = undotted-both a c ks x.leading_dot x.name.first.0 g h

pub type-first : {M : Type 0} (a c : List ℕ) (ks : List (List ℕ)) (x : t.FieldType M) → k.TypeBeginsWithNone (a ∷ c ∷ ks) x → k.TypeBeginsWithNone (a ∷ c ∷ []) x
type-first a c ks (t.scalar x y) h = tt
type-first a c ks (t.named x) h = undotted-first a c ks x.leading_dot x.name.first.0 h

pub type-rest : {M : Type 0} (a c : List ℕ) (ks : List (List ℕ)) (x : t.FieldType M) → k.TypeBeginsWithNone (a ∷ c ∷ ks) x → k.TypeBeginsWithNone ks x
type-rest a c ks (t.scalar x y) h = tt
type-rest a c ks (t.named x) h = undotted-rest a c ks x.leading_dot x.name.first.0 h

-- ---- each rule is its plain form, whatever is known of the bodies in it

module _ {M : Type 0} (m : M) (read : Reader M (t.Mbody M)) (steps : t.Mbody M → Steps M) (trace : Rows M → Steps M) (Q : t.Mbody M → Type 0) where
  abbrev bodies : Rule M (t.Mbody M)
  bodies = rule.sealed Q Q read steps trace

  pub group-is : (x : t.Group M) → s.group x ≡ (seq (r.the (codes "group")) (seq r.ident (seq (r.sign s.equals) (seq r.int (seq (optional (just_mark s.open_bracket) r.list) bodies))))).spell (rule.from_group x)
  unfolding rule.group r.int r.list
  group-is (t.group_of a1 a2 a3 a4 a5 a6) = refl

  pub group-obeys : (x : t.Group M) → rule.GroupHas Q x → (seq (r.the (codes "group")) (seq r.ident (seq (r.sign s.equals) (seq r.int (seq (optional (just_mark s.open_bracket) r.list) bodies))))).may (rule.from_group x)
  unfolding rule.group r.int r.list
  group-obeys (t.group_of a1 a2 a3 a4 a5 a6) h = (tt, (tt, (tt, (tt, (h.0, h.1)))))

  pub group-allows : (x : t.Group M) → (seq (r.the (codes "group")) (seq r.ident (seq (r.sign s.equals) (seq r.int (seq (optional (just_mark s.open_bracket) r.list) bodies))))).may (rule.from_group x) → rule.GroupHas Q x
  unfolding rule.group r.int r.list
  group-allows (t.group_of a1 a2 a3 a4 a5 a6) h = (h.1.1.1.1.0, h.1.1.1.1.1)

  pub group-back : (x : t.Group M) → rule.to_group (rule.from_group x) ≡ x
  group-back (t.group_of a1 a2 a3 a4 a5 a6) = refl

  pub group-there : (x : M × (t.Word M × (M × (t.Int M × (Option (t.OptionList M) × t.Mbody M))))) → rule.from_group (rule.to_group x) ≡ x
  group-there (x) = refl

  pub field_kind-is : (x : t.FieldKind M) → s.field_kind x ≡ (unless (among_words (codes "map" ∷ codes "group" ∷ [])) (choice (just_word (codes "map")) r.map (rule.group bodies)) r.normal).spell (rule.from_field_kind x)
  unfolding rule.field_kind rule.group r.map r.normal
  field_kind-is (t.map x) = refl
  field_kind-is (t.group x) = refl
  field_kind-is (t.normal x) = refl

  pub field_kind-obeys : (x : t.FieldKind M) → rule.KindHas Q x → (unless (among_words (codes "map" ∷ codes "group" ∷ [])) (choice (just_word (codes "map")) r.map (rule.group bodies)) r.normal).may (rule.from_field_kind x)
  unfolding rule.field_kind rule.group r.map r.normal
  field_kind-obeys (t.map x) h = h
  field_kind-obeys (t.group x) h = h
  field_kind-obeys (t.normal x) h = ((type-rest (codes "map") (codes "group") k.scalars x.type h.0, h.1), normal-stops m (codes "map" ∷ codes "group" ∷ []) refl refl refl x (type-first (codes "map") (codes "group") k.scalars x.type h.0))

  pub field_kind-allows : (x : t.FieldKind M) → (unless (among_words (codes "map" ∷ codes "group" ∷ [])) (choice (just_word (codes "map")) r.map (rule.group bodies)) r.normal).may (rule.from_field_kind x) → rule.KindHas Q x
  unfolding rule.field_kind rule.group r.map r.normal
  field_kind-allows (t.map x) h = h
  field_kind-allows (t.group x) h = h
  field_kind-allows (t.normal x) h = (type-both (codes "map") (codes "group") k.scalars x.type (stops-normal m (codes "map" ∷ codes "group" ∷ []) refl refl refl x h.1) h.0.0, h.0.1)

  pub field_kind-back : (x : t.FieldKind M) → rule.to_field_kind (rule.from_field_kind x) ≡ x
  field_kind-back (t.map x) = refl
  field_kind-back (t.group x) = refl
  field_kind-back (t.normal x) = refl

  pub field_kind-there : (x : (t.Map M ⊎ t.Group M) ⊎ t.Normal M) → rule.from_field_kind (rule.to_field_kind x) ≡ x
  field_kind-there (inl (inl x)) = refl
  field_kind-there (inl (inr x)) = refl
  field_kind-there (inr x) = refl

  pub field-is : (x : t.Field M) → s.field x ≡ (unless (among_words (codes "optional" ∷ codes "required" ∷ codes "repeated" ∷ [])) (seq r.label (rule.field_kind bodies)) (rule.field_kind bodies)).spell (rule.from_field x)
  unfolding rule.field rule.field_kind r.label
  field-is (t.field_of (Some l) x) = refl
  field-is (t.field_of None x) = refl

  pub field-obeys : (x : t.Field M) → rule.FieldHas Q x → (unless (among_words (codes "optional" ∷ codes "required" ∷ codes "repeated" ∷ [])) (seq r.label (rule.field_kind bodies)) (rule.field_kind bodies)).may (rule.from_field x)
  unfolding rule.field rule.field_kind r.label
  field-obeys (t.field_of (Some l) x) h = (tt, h.1)
  field-obeys (t.field_of None x) h = (h.1, kind-stops m (k.labels) refl refl refl refl refl x h.0)

  pub field-allows : (x : t.Field M) → (unless (among_words (codes "optional" ∷ codes "required" ∷ codes "repeated" ∷ [])) (seq r.label (rule.field_kind bodies)) (rule.field_kind bodies)).may (rule.from_field x) → rule.FieldHas Q x
  unfolding rule.field rule.field_kind r.label
  field-allows (t.field_of (Some l) x) h = (tt, h.1)
  field-allows (t.field_of None x) h = (stops-kind m (k.labels) refl refl refl refl refl x h.1, h.0)

  pub field-back : (x : t.Field M) → rule.to_field (rule.from_field x) ≡ x
  field-back (t.field_of (Some l) x) = refl
  field-back (t.field_of None x) = refl

  pub field-there : (x : (t.Label M × t.FieldKind M) ⊎ t.FieldKind M) → rule.from_field (rule.to_field x) ≡ x
  field-there (inl x) = refl
  field-there (inr x) = refl

  pub oneof_element-is : (x : t.OneofElement M) → s.oneof_element x ≡ (choice (just_mark s.semicolon) (r.sign s.semicolon) (unless (among_words (codes "option" ∷ [])) r.option (rule.field bodies))).spell (rule.from_oneof_element x)
  unfolding rule.oneof_element rule.field r.option
  oneof_element-is (t.oneof_empty x) = refl
  oneof_element-is (t.oneof_option x) = refl
  oneof_element-is (t.oneof_field x) = refl

  pub oneof_element-obeys : (x : t.OneofElement M) → rule.OneofElementHas Q x → (choice (just_mark s.semicolon) (r.sign s.semicolon) (unless (among_words (codes "option" ∷ [])) r.option (rule.field bodies))).may (rule.from_oneof_element x)
  unfolding rule.oneof_element rule.field r.option
  oneof_element-obeys (t.oneof_empty x) h = tt
  oneof_element-obeys (t.oneof_option x) h = h
  oneof_element-obeys (t.oneof_field x) h = (h.1, field-stops m (codes "option" ∷ []) refl refl refl refl refl refl refl refl x h.0)

  pub oneof_element-allows : (x : t.OneofElement M) → (choice (just_mark s.semicolon) (r.sign s.semicolon) (unless (among_words (codes "option" ∷ [])) r.option (rule.field bodies))).may (rule.from_oneof_element x) → rule.OneofElementHas Q x
  unfolding rule.oneof_element rule.field r.option
  oneof_element-allows (t.oneof_empty x) h = tt
  oneof_element-allows (t.oneof_option x) h = h
  oneof_element-allows (t.oneof_field x) h = (stops-field m (codes "option" ∷ []) refl refl refl refl refl refl refl refl x h.1, h.0)

  pub oneof_element-back : (x : t.OneofElement M) → rule.to_oneof_element (rule.from_oneof_element x) ≡ x
  oneof_element-back (t.oneof_empty x) = refl
  oneof_element-back (t.oneof_option x) = refl
  oneof_element-back (t.oneof_field x) = refl

  pub oneof_element-there : (x : M ⊎ (t.OptionStatement M ⊎ t.Field M)) → rule.from_oneof_element (rule.to_oneof_element x) ≡ x
  oneof_element-there (inl x) = refl
  oneof_element-there (inr (inl x)) = refl
  oneof_element-there (inr (inr x)) = refl

  pub oneof_elements-is : (x : t.OneofElements M) → s.oneof_elements x ≡ (times (but_mark s.close_brace) (rule.oneof_element bodies)).spell (rule.from_oneof_elements x)
  unfolding rule.oneof_elements rule.oneof_element
  oneof_elements-is t.no_oneof_elements = refl
  oneof_elements-is (t.oneof_elements x xs) = ap (λ ys. s.oneof_element x ++ ys) (oneof_elements-is xs)

  pub oneof_elements-obeys : (x : t.OneofElements M) → rule.OneofElementsHas Q x → (times (but_mark s.close_brace) (rule.oneof_element bodies)).may (rule.from_oneof_elements x)
  unfolding rule.oneof_elements rule.oneof_element
  oneof_elements-obeys t.no_oneof_elements h = tt
  oneof_elements-obeys (t.oneof_elements x xs) h = (h.0, oneof_elements-obeys xs h.1)

  pub oneof_elements-allows : (x : t.OneofElements M) → (times (but_mark s.close_brace) (rule.oneof_element bodies)).may (rule.from_oneof_elements x) → rule.OneofElementsHas Q x
  unfolding rule.oneof_elements rule.oneof_element
  oneof_elements-allows t.no_oneof_elements h = tt
  oneof_elements-allows (t.oneof_elements x xs) h = (h.0, oneof_elements-allows xs h.1)

  pub oneof_elements-back : (x : t.OneofElements M) → rule.to_oneof_elements (rule.from_oneof_elements x) ≡ x
  oneof_elements-back t.no_oneof_elements = refl
  oneof_elements-back (t.oneof_elements x xs) = ap (t.oneof_elements x) (oneof_elements-back xs)

  pub oneof_elements-there : (x : List (t.OneofElement M)) → rule.from_oneof_elements (rule.to_oneof_elements x) ≡ x
  oneof_elements-there [] = refl
  oneof_elements-there (x ∷ xs) = ap (λ ys. x ∷ ys) (oneof_elements-there xs)

  pub oneof-is : (x : t.Oneof M) → s.oneof x ≡ (seq (r.the (codes "oneof")) (seq r.ident (seq (r.sign s.open_brace) (seq (rule.oneof_elements bodies) (r.sign s.close_brace))))).spell (rule.from_oneof x)
  unfolding rule.oneof rule.oneof_elements
  oneof-is (t.oneof_of a1 a2 a3 a4 a5) = refl

  pub oneof-obeys : (x : t.Oneof M) → rule.OneofHas Q x → (seq (r.the (codes "oneof")) (seq r.ident (seq (r.sign s.open_brace) (seq (rule.oneof_elements bodies) (r.sign s.close_brace))))).may (rule.from_oneof x)
  unfolding rule.oneof rule.oneof_elements
  oneof-obeys (t.oneof_of a1 a2 a3 a4 a5) h = (tt, (tt, (tt, (h, tt))))

  pub oneof-allows : (x : t.Oneof M) → (seq (r.the (codes "oneof")) (seq r.ident (seq (r.sign s.open_brace) (seq (rule.oneof_elements bodies) (r.sign s.close_brace))))).may (rule.from_oneof x) → rule.OneofHas Q x
  unfolding rule.oneof rule.oneof_elements
  oneof-allows (t.oneof_of a1 a2 a3 a4 a5) h = h.1.1.1.0

  pub oneof-back : (x : t.Oneof M) → rule.to_oneof (rule.from_oneof x) ≡ x
  oneof-back (t.oneof_of a1 a2 a3 a4 a5) = refl

  pub oneof-there : (x : M × (t.Word M × (M × (t.OneofElements M × M)))) → rule.from_oneof (rule.to_oneof x) ≡ x
  oneof-there (x) = refl

  pub extend_element-is : (x : t.ExtendElement M) → s.extend_element x ≡ (choice (just_mark s.semicolon) (r.sign s.semicolon) (rule.field bodies)).spell (rule.from_extend_element x)
  unfolding rule.extend_element rule.field
  extend_element-is (t.extend_empty x) = refl
  extend_element-is (t.extend_field x) = refl

  pub extend_element-obeys : (x : t.ExtendElement M) → rule.ExtendElementHas Q x → (choice (just_mark s.semicolon) (r.sign s.semicolon) (rule.field bodies)).may (rule.from_extend_element x)
  unfolding rule.extend_element rule.field
  extend_element-obeys (t.extend_empty x) h = tt
  extend_element-obeys (t.extend_field x) h = h

  pub extend_element-allows : (x : t.ExtendElement M) → (choice (just_mark s.semicolon) (r.sign s.semicolon) (rule.field bodies)).may (rule.from_extend_element x) → rule.ExtendElementHas Q x
  unfolding rule.extend_element rule.field
  extend_element-allows (t.extend_empty x) h = tt
  extend_element-allows (t.extend_field x) h = h

  pub extend_element-back : (x : t.ExtendElement M) → rule.to_extend_element (rule.from_extend_element x) ≡ x
  extend_element-back (t.extend_empty x) = refl
  extend_element-back (t.extend_field x) = refl

  pub extend_element-there : (x : M ⊎ t.Field M) → rule.from_extend_element (rule.to_extend_element x) ≡ x
  extend_element-there (inl x) = refl
  extend_element-there (inr x) = refl

  pub extend_elements-is : (x : t.ExtendElements M) → s.extend_elements x ≡ (times (but_mark s.close_brace) (rule.extend_element bodies)).spell (rule.from_extend_elements x)
  unfolding rule.extend_elements rule.extend_element
  extend_elements-is t.no_extend_elements = refl
  extend_elements-is (t.extend_elements x xs) = ap (λ ys. s.extend_element x ++ ys) (extend_elements-is xs)

  pub extend_elements-obeys : (x : t.ExtendElements M) → rule.ExtendElementsHas Q x → (times (but_mark s.close_brace) (rule.extend_element bodies)).may (rule.from_extend_elements x)
  unfolding rule.extend_elements rule.extend_element
  extend_elements-obeys t.no_extend_elements h = tt
  extend_elements-obeys (t.extend_elements x xs) h = (h.0, extend_elements-obeys xs h.1)

  pub extend_elements-allows : (x : t.ExtendElements M) → (times (but_mark s.close_brace) (rule.extend_element bodies)).may (rule.from_extend_elements x) → rule.ExtendElementsHas Q x
  unfolding rule.extend_elements rule.extend_element
  extend_elements-allows t.no_extend_elements h = tt
  extend_elements-allows (t.extend_elements x xs) h = (h.0, extend_elements-allows xs h.1)

  pub extend_elements-back : (x : t.ExtendElements M) → rule.to_extend_elements (rule.from_extend_elements x) ≡ x
  extend_elements-back t.no_extend_elements = refl
  extend_elements-back (t.extend_elements x xs) = ap (t.extend_elements x) (extend_elements-back xs)

  pub extend_elements-there : (x : List (t.ExtendElement M)) → rule.from_extend_elements (rule.to_extend_elements x) ≡ x
  extend_elements-there [] = refl
  extend_elements-there (x ∷ xs) = ap (λ ys. x ∷ ys) (extend_elements-there xs)

  pub extend-is : (x : t.Extend M) → s.extend x ≡ (seq (r.the (codes "extend")) (seq r.typename (seq (r.sign s.open_brace) (seq (rule.extend_elements bodies) (r.sign s.close_brace))))).spell (rule.from_extend x)
  unfolding rule.extend rule.extend_elements r.typename
  extend-is (t.extend_of a1 a2 a3 a4 a5) = refl

  pub extend-obeys : (x : t.Extend M) → rule.ExtendHas Q x → (seq (r.the (codes "extend")) (seq r.typename (seq (r.sign s.open_brace) (seq (rule.extend_elements bodies) (r.sign s.close_brace))))).may (rule.from_extend x)
  unfolding rule.extend rule.extend_elements r.typename
  extend-obeys (t.extend_of a1 a2 a3 a4 a5) h = (tt, (tt, (tt, (h, tt))))

  pub extend-allows : (x : t.Extend M) → (seq (r.the (codes "extend")) (seq r.typename (seq (r.sign s.open_brace) (seq (rule.extend_elements bodies) (r.sign s.close_brace))))).may (rule.from_extend x) → rule.ExtendHas Q x
  unfolding rule.extend rule.extend_elements r.typename
  extend-allows (t.extend_of a1 a2 a3 a4 a5) h = h.1.1.1.0

  pub extend-back : (x : t.Extend M) → rule.to_extend (rule.from_extend x) ≡ x
  extend-back (t.extend_of a1 a2 a3 a4 a5) = refl

  pub extend-there : (x : M × (t.TypeName M × (M × (t.ExtendElements M × M)))) → rule.from_extend (rule.to_extend x) ≡ x
  extend-there (x) = refl

  pub message-is : (x : t.Message M) → s.message x ≡ (seq (r.the (codes "message")) (seq r.ident bodies)).spell (rule.from_message x)
  unfolding rule.message
  message-is (t.message_of a1 a2 a3) = refl

  pub message-obeys : (x : t.Message M) → rule.MessageHas Q x → (seq (r.the (codes "message")) (seq r.ident bodies)).may (rule.from_message x)
  unfolding rule.message
  message-obeys (t.message_of a1 a2 a3) h = (tt, (tt, h))

  pub message-allows : (x : t.Message M) → (seq (r.the (codes "message")) (seq r.ident bodies)).may (rule.from_message x) → rule.MessageHas Q x
  unfolding rule.message
  message-allows (t.message_of a1 a2 a3) h = h.1.1

  pub message-back : (x : t.Message M) → rule.to_message (rule.from_message x) ≡ x
  message-back (t.message_of a1 a2 a3) = refl

  pub message-there : (x : M × (t.Word M × t.Mbody M)) → rule.from_message (rule.to_message x) ≡ x
  message-there (x) = refl

  pub element-is : (x : t.Element M) → s.element x ≡ (choice (just_mark s.semicolon) (r.sign s.semicolon) (unless (among_words (codes "oneof" ∷ codes "enum" ∷ codes "message" ∷ codes "extend" ∷ codes "option" ∷ codes "reserved" ∷ codes "extensions" ∷ [])) (rule.special bodies) (rule.field bodies))).spell (rule.from_element x)
  unfolding rule.element rule.field rule.oneof r.enum rule.message rule.extend r.option r.reserved r.extensions
  element-is (t.empty x) = refl
  element-is (t.field x) = refl
  element-is (t.oneof x) = refl
  element-is (t.enum x) = refl
  element-is (t.message x) = refl
  element-is (t.extend x) = refl
  element-is (t.option x) = refl
  element-is (t.reserved x) = refl
  element-is (t.extensions x) = refl

  pub element-obeys : (x : t.Element M) → rule.ElementHas Q x → (choice (just_mark s.semicolon) (r.sign s.semicolon) (unless (among_words (codes "oneof" ∷ codes "enum" ∷ codes "message" ∷ codes "extend" ∷ codes "option" ∷ codes "reserved" ∷ codes "extensions" ∷ [])) (rule.special bodies) (rule.field bodies))).may (rule.from_element x)
  unfolding rule.element rule.field rule.oneof r.enum rule.message rule.extend r.option r.reserved r.extensions
  element-obeys (t.empty x) h = tt
  element-obeys (t.field x) h = (h.1, field-stops m (k.in_message) refl refl refl refl refl refl refl refl x h.0)
  element-obeys (t.oneof x) h = h
  element-obeys (t.enum x) h = h
  element-obeys (t.message x) h = h
  element-obeys (t.extend x) h = h
  element-obeys (t.option x) h = h
  element-obeys (t.reserved x) h = tt
  element-obeys (t.extensions x) h = h

  pub element-allows : (x : t.Element M) → (choice (just_mark s.semicolon) (r.sign s.semicolon) (unless (among_words (codes "oneof" ∷ codes "enum" ∷ codes "message" ∷ codes "extend" ∷ codes "option" ∷ codes "reserved" ∷ codes "extensions" ∷ [])) (rule.special bodies) (rule.field bodies))).may (rule.from_element x) → rule.ElementHas Q x
  unfolding rule.element rule.field rule.oneof r.enum rule.message rule.extend r.option r.reserved r.extensions
  element-allows (t.empty x) h = tt
  element-allows (t.field x) h = (stops-field m (k.in_message) refl refl refl refl refl refl refl refl x h.1, h.0)
  element-allows (t.oneof x) h = h
  element-allows (t.enum x) h = h
  element-allows (t.message x) h = h
  element-allows (t.extend x) h = h
  element-allows (t.option x) h = h
  element-allows (t.reserved x) h = tt
  element-allows (t.extensions x) h = h

  pub element-back : (x : t.Element M) → rule.to_element (rule.from_element x) ≡ x
  element-back (t.empty x) = refl
  element-back (t.field x) = refl
  element-back (t.oneof x) = refl
  element-back (t.enum x) = refl
  element-back (t.message x) = refl
  element-back (t.extend x) = refl
  element-back (t.option x) = refl
  element-back (t.reserved x) = refl
  element-back (t.extensions x) = refl

  pub element-there : (x : M ⊎ (rule.Special M ⊎ t.Field M)) → rule.from_element (rule.to_element x) ≡ x
  element-there (inl x) = refl
  element-there (inr (inr x)) = refl
  element-there (inr (inl (inl x))) = refl
  element-there (inr (inl (inr (inl x)))) = refl
  element-there (inr (inl (inr (inr (inl x))))) = refl
  element-there (inr (inl (inr (inr (inr (inl x)))))) = refl
  element-there (inr (inl (inr (inr (inr (inr (inl x))))))) = refl
  element-there (inr (inl (inr (inr (inr (inr (inr (inl x)))))))) = refl
  element-there (inr (inl (inr (inr (inr (inr (inr (inr x)))))))) = refl

  pub elements-is : (x : t.Elements M) → s.elements x ≡ (times (but_mark s.close_brace) (rule.element bodies)).spell (rule.from_elements x)
  unfolding rule.elements rule.element
  elements-is t.no_elements = refl
  elements-is (t.elements x xs) = ap (λ ys. s.element x ++ ys) (elements-is xs)

  pub elements-obeys : (x : t.Elements M) → rule.ElementsHas Q x → (times (but_mark s.close_brace) (rule.element bodies)).may (rule.from_elements x)
  unfolding rule.elements rule.element
  elements-obeys t.no_elements h = tt
  elements-obeys (t.elements x xs) h = (h.0, elements-obeys xs h.1)

  pub elements-allows : (x : t.Elements M) → (times (but_mark s.close_brace) (rule.element bodies)).may (rule.from_elements x) → rule.ElementsHas Q x
  unfolding rule.elements rule.element
  elements-allows t.no_elements h = tt
  elements-allows (t.elements x xs) h = (h.0, elements-allows xs h.1)

  pub elements-back : (x : t.Elements M) → rule.to_elements (rule.from_elements x) ≡ x
  elements-back t.no_elements = refl
  elements-back (t.elements x xs) = ap (t.elements x) (elements-back xs)

  pub elements-there : (x : List (t.Element M)) → rule.from_elements (rule.to_elements x) ≡ x
  elements-there [] = refl
  elements-there (x ∷ xs) = ap (λ ys. x ∷ ys) (elements-there xs)

  pub mbody-is : (x : t.Mbody M) → s.mbody x ≡ (seq (r.sign s.open_brace) (seq (rule.elements bodies) (r.sign s.close_brace))).spell (rule.from_mbody x)
  unfolding rule.mbody rule.elements
  mbody-is (t.mbody_of a1 a2 a3) = refl

  pub mbody-obeys : (x : t.Mbody M) → rule.MbodyHas Q x → (seq (r.sign s.open_brace) (seq (rule.elements bodies) (r.sign s.close_brace))).may (rule.from_mbody x)
  unfolding rule.mbody rule.elements
  mbody-obeys (t.mbody_of a1 a2 a3) h = (tt, (h, tt))

  pub mbody-allows : (x : t.Mbody M) → (seq (r.sign s.open_brace) (seq (rule.elements bodies) (r.sign s.close_brace))).may (rule.from_mbody x) → rule.MbodyHas Q x
  unfolding rule.mbody rule.elements
  mbody-allows (t.mbody_of a1 a2 a3) h = h.1.0

  pub mbody-back : (x : t.Mbody M) → rule.to_mbody (rule.from_mbody x) ≡ x
  mbody-back (t.mbody_of a1 a2 a3) = refl

  pub mbody-there : (x : M × (t.Elements M × M)) → rule.from_mbody (rule.to_mbody x) ≡ x
  mbody-there (x) = refl

  pub statement-is : (x : t.Statement M) → s.statement x ≡ (choice (just_mark s.semicolon) (r.sign s.semicolon) (choice (just_word (codes "import")) r.«import» (choice (just_word (codes "package")) r.«package» (choice (just_word (codes "option")) r.option (choice (just_word (codes "extend")) (rule.extend bodies) (choice (just_word (codes "message")) (rule.message bodies) (choice (just_word (codes "enum")) r.enum r.service))))))).spell (rule.from_statement x)
  unfolding rule.statement r.«import» r.«package» r.option rule.extend rule.message r.enum r.service
  statement-is (t.an_empty x) = refl
  statement-is (t.an_import x) = refl
  statement-is (t.a_package x) = refl
  statement-is (t.an_option x) = refl
  statement-is (t.an_extend x) = refl
  statement-is (t.a_message x) = refl
  statement-is (t.an_enum x) = refl
  statement-is (t.a_service x) = refl

  pub statement-obeys : (x : t.Statement M) → rule.StatementHas Q x → (choice (just_mark s.semicolon) (r.sign s.semicolon) (choice (just_word (codes "import")) r.«import» (choice (just_word (codes "package")) r.«package» (choice (just_word (codes "option")) r.option (choice (just_word (codes "extend")) (rule.extend bodies) (choice (just_word (codes "message")) (rule.message bodies) (choice (just_word (codes "enum")) r.enum r.service))))))).may (rule.from_statement x)
  unfolding rule.statement r.«import» r.«package» r.option rule.extend rule.message r.enum r.service
  statement-obeys (t.an_empty x) h = tt
  statement-obeys (t.an_import x) h = tt
  statement-obeys (t.a_package x) h = tt
  statement-obeys (t.an_option x) h = h
  statement-obeys (t.an_extend x) h = h
  statement-obeys (t.a_message x) h = h
  statement-obeys (t.an_enum x) h = h
  statement-obeys (t.a_service x) h = h

  pub statement-allows : (x : t.Statement M) → (choice (just_mark s.semicolon) (r.sign s.semicolon) (choice (just_word (codes "import")) r.«import» (choice (just_word (codes "package")) r.«package» (choice (just_word (codes "option")) r.option (choice (just_word (codes "extend")) (rule.extend bodies) (choice (just_word (codes "message")) (rule.message bodies) (choice (just_word (codes "enum")) r.enum r.service))))))).may (rule.from_statement x) → rule.StatementHas Q x
  unfolding rule.statement r.«import» r.«package» r.option rule.extend rule.message r.enum r.service
  statement-allows (t.an_empty x) h = tt
  statement-allows (t.an_import x) h = tt
  statement-allows (t.a_package x) h = tt
  statement-allows (t.an_option x) h = h
  statement-allows (t.an_extend x) h = h
  statement-allows (t.a_message x) h = h
  statement-allows (t.an_enum x) h = h
  statement-allows (t.a_service x) h = h

  pub statement-back : (x : t.Statement M) → rule.to_statement (rule.from_statement x) ≡ x
  statement-back (t.an_empty x) = refl
  statement-back (t.an_import x) = refl
  statement-back (t.a_package x) = refl
  statement-back (t.an_option x) = refl
  statement-back (t.an_extend x) = refl
  statement-back (t.a_message x) = refl
  statement-back (t.an_enum x) = refl
  statement-back (t.a_service x) = refl

  pub statement-there : (x : rule.Form M) → rule.from_statement (rule.to_statement x) ≡ x
  statement-there (inl x) = refl
  statement-there (inr (inl x)) = refl
  statement-there (inr (inr (inl x))) = refl
  statement-there (inr (inr (inr (inl x)))) = refl
  statement-there (inr (inr (inr (inr (inl x))))) = refl
  statement-there (inr (inr (inr (inr (inr (inl x)))))) = refl
  statement-there (inr (inr (inr (inr (inr (inr (inl x))))))) = refl
  statement-there (inr (inr (inr (inr (inr (inr (inr x))))))) = refl
