-- If the rows of a tree are spelled, the tree's locations lead to its names.
use Rattle.std.proofs.Common.{◌≡◌, ℕ, List, [], ◌∷◌, ◌++◌, map, flat_map, Option, Some, None, refl, sym, ap, ◌∙◌, subst}
use Rattle.std.specs.Prelude.{pos, if◌then◌else◌, option_map}
use Rattle.std.specs.Str.{str_to_ascii_lowercase}
use Rattle.protox_ast.proofs.Lemmas.{Pairs, body-gives, each-back, each-front, field-gives}
use Rattle.protox_ast.proofs.Lemmas.{item-enum, item-extend, item-field, item-message, item-oneof}
use Rattle.protox_ast.proofs.Lemmas.{kind-group, kind-map, kind-normal, message-gives}
use Rattle.protox_ast.specs.Ast as ast
use Rattle.protox_ast.specs.Basics.{Each}
use Rattle.protox_ast.specs.Places.{Place}
use Rattle.protox_ast.specs.Spelling as s
use Rattle.protox_ast.specs.Steps.{Steps, of_extend, of_field, of_item, of_message, of_body, of_oneof}
use Rattle.protox_ast.specs.Tree as t
use Rattle.protox_ast.specs.declared.ast.Field.{Field, out-Field}
use Rattle.protox_ast.specs.declared.ast.Extend.{Extend, roll-Extend}
use Rattle.protox_ast.specs.declared.ast.FieldKind.{FieldKind}
use Rattle.protox_ast.specs.declared.ast.FieldKind.TheFolds.{fold-roll-Extend, fold-roll-Oneof}
use Rattle.protox_ast.specs.declared.ast.FieldKind.TheOpen.{Extend-F, Oneof-F}
use Rattle.protox_ast.specs.declared.ast.Message.{Message}
use Rattle.protox_ast.specs.declared.ast.MessageBody.{MessageBody}
use Rattle.protox_ast.specs.declared.ast.MessageItem.{MessageItem}
use Rattle.protox_ast.specs.declared.ast.Oneof.{Oneof, roll-Oneof}
use Rattle.protox_ast.specs.declared.ast.Syntax.{Syntax}
use Rattle.protox_ast.specs.declared.ast.TypeName.{TypeName}
use Rattle.protox_describe.specs.Descriptor.{Gives, Item, OfField as AField, OfOneof as AOneof, OneofGives, descriptor_steps, extending, in_oneof}
use Rattle.protox_describe.specs.Fields.{Kind, Parts}
use Rattle.protox_descriptor.specs.declared.descriptor.DescriptorProto.{DescriptorProto}
use Rattle.protox_generate.proofs.Leads.{Fits, a-name, alone, apart, options-start}
use Rattle.protox_generate.proofs.Named.{BodyFits, ExtendFits, FieldAt, FieldFits, ItemFits, MessageAt, OneofFits, body-fits, message-fits, pairs-both, pairs-flat, pairs-map}
use Rattle.protox_generate.proofs.NamedParts.{Spelled, enum-fits, field-fits, not-group, own-none}
use Rattle.protox_generate.proofs.Spelled.{RowSpelled}
use Rattle.protox_generate.specs.Names.{InSmallLetters, Written, own}
use Rattle.protox_lexeme.specs.Shapes.{Rows}
use Rattle.protox_locate.specs.FieldLocations as kinds
use Rattle.protox_locate.specs.FieldLocations.{OfField, OfKind}
use Rattle.protox_places.specs.Lines.{span_numbers}
use Rattle.protox_locate.specs.LocationWords.{Part, part}
use Rattle.protox_locate.specs.Locations.{OfExtend, OfItem, OfOneof, location_steps, messages_of}

both : {B C : Type 0} (P : B → C → Type 0) {x x1 : B} {y y1 : C} → x ≡ x1 → y ≡ y1 → P x1 y1 → P x y
both P {x} {x1} {y} {y1} e f p = subst (λ a. P a y) (sym e) (subst (P x1) (sym f) p)

-- a oneof and an extend block, by their parts
module _ {K I E F M B O : Type 0} (steps : Steps K I E F M B O) where
  oneof-made : (x : Oneof-F FieldKind MessageItem Extend Field Message MessageBody Oneof)
      → of_oneof steps (roll-Oneof x) ≡ steps.oneof (record { name = x.name; options = x.options; fields = map (of_field steps) x.fields; comments = x.comments; span = x.span })
  oneof-made x = fold-roll-Oneof K I E F M B O steps.kind steps.item steps.extend steps.field steps.message steps.body steps.oneof x

  extend-made : (x : Extend-F FieldKind MessageItem Extend Field Message MessageBody Oneof)
      → of_extend steps (roll-Extend x) ≡ steps.extend (record { extendee = x.extendee; fields = map (of_field steps) x.fields; comments = x.comments; span = x.span })
  extend-made x = fold-roll-Extend K I E F M B O steps.kind steps.item steps.extend steps.field steps.message steps.body steps.oneof x

module _ (syntax : Syntax) (source : List ℕ) where
  abbrev ds : Steps Kind Item (List Gives) Gives DescriptorProto Parts OneofGives
  ds = descriptor_steps syntax

  abbrev ls : Steps OfKind OfItem OfExtend OfField Part Part OfOneof
  ls = location_steps (span_numbers source)

  abbrev Right : Rows Place → Type 0
  Right rows = Each (RowSpelled source) rows

  -- ---- fields

  abbrev given : Field → Kind → Gives
  given x kind = let y = out-Field x in ds.field (record { label = y.label; name = y.name; kind = kind; number = y.number; options = y.options; comments = y.comments; span = y.span })

  abbrev located : Field → OfKind → OfField
  located x kind = let y = out-Field x in ls.field (record { label = y.label; name = y.name; kind = kind; number = y.number; options = y.options; comments = y.comments; span = y.span })

  abbrev FieldHas : Field → Type 0
  FieldHas x = FieldFits source (of_field ds x) (of_field ls x)

  normal-has : (l : Option (t.Label Place)) (x : t.Normal Place) → Right (s.maybe s.label l ++ s.normal x) → FieldHas (ast.normal l x)
  normal-has l x h =
      let field = ast.normal l x in
      let y = out-Field field in
      let type = ast.type x.type in
      let span = ast.type_span x.type in
      let spelled = (each-back (RowSpelled source) (s.type x.type) _ (each-back (RowSpelled source) (s.maybe s.label l) (s.normal x) h)).0 x.name.0 refl in
      both (FieldFits source) (field-gives ds field ∙ ap (given field) (kind-normal ds type span)) (field-gives ls field ∙ ap (located field) (kind-normal ls type span))
      (record {
        own_at = λ extendee. subst (λ look. Fits source look ((located field (kinds.Normal type span)).own extendee))
            (sym (ap (λ b. own (option_map (if b then InSmallLetters else Written) (Some x.name.0))) (not-group type)))
            (field-fits source (Written x.name.0) y.label y.name (kinds.Normal type span) y.number y.options y.comments y.span spelled (λ text e. e) extendee);
        messages = tt;
      })

  map-has : (l : Option (t.Label Place)) (x : t.Map Place) → Right (s.maybe s.label l ++ s.map x) → FieldHas (ast.map_field l x)
  map-has l x h =
      let field = ast.map_field l x in
      let y = out-Field field in
      let span = ast.join x.keyword.span x.close_at.span in
      let key = ast.type x.key in
      let key_span = ast.type_span x.key in
      let value = ast.type x.value in
      let value_span = ast.type_span x.value in
      let behind = each-back (RowSpelled source) (s.maybe s.label l) (s.map x) h in
      let behind-key = each-back (RowSpelled source) (s.type x.key) _ behind.1.1 in
      let behind-value = each-back (RowSpelled source) (s.type x.value) _ behind-key.1 in
      let spelled = behind-value.1.0 x.name.0 refl in
      both (FieldFits source) (field-gives ds field ∙ ap (given field) (kind-map ds span key key_span value value_span)) (field-gives ls field ∙ ap (located field) (kind-map ls span key key_span value value_span))
      (record {
        own_at = λ extendee. field-fits source (Written x.name.0) y.label y.name (kinds.Map span) y.number y.options y.comments y.span spelled (λ text e. e) extendee;
        messages = (λ path. tt, tt);
      })

  group-has : (l : Option (t.Label Place)) (k : Place) (n : t.Word Place) (e : Place) (i : t.Int Place) (o : Option (t.OptionList Place)) (b : t.Mbody Place)
      → Spelled source (ast.ident n) → BodyFits source (of_body ds (ast.mbody b)) (of_body ls (ast.mbody b)) → FieldHas (ast.group l (t.group_of k n e i o b))
  group-has l k n e i o b spelled body =
      let field = ast.group l (t.group_of k n e i o b) in
      let y = out-Field field in
      both (FieldFits source) (field-gives ds field ∙ ap (given field) (kind-group ds k.span (ast.mbody b))) (field-gives ls field ∙ ap (located field) (kind-group ls k.span (ast.mbody b)))
      (record {
        own_at = λ extendee. field-fits source (InSmallLetters (str_to_ascii_lowercase n.0)) y.label y.name (kinds.Group k.span (of_body ls (ast.mbody b))) y.number y.options y.comments y.span spelled
            (λ text e. ap str_to_ascii_lowercase e) extendee;
        messages = (message-fits source y.name y.comments y.span (of_body ds (ast.mbody b)) (of_body ls (ast.mbody b)) spelled body, tt);
      })

  -- ---- items

  of-field : (g : Gives) (x : OfField) → FieldFits source g x → ItemFits source (AField g) (record { fields = x.own None ∷ []; messages = x.messages; enums = []; blocks = []; extensions = []; oneofs = [] })
  of-field g x h = record { fields = λ others before. (h.own_at None, tt); messages = h.messages; enums = tt; extensions = tt; oneofs = tt; blocks = tt }

  of-oneof : (g : OneofGives) (x : OfOneof) → OneofFits source g x
      → ItemFits source (AOneof g) (record { fields = map (λ f. f.own None) x.fields; messages = messages_of x.fields; enums = []; blocks = []; extensions = []; oneofs = x.own ∷ [] })
  of-oneof g x h = record {
    fields = λ others before. pairs-map (FieldFits source) (FieldAt source) (in_oneof _) (λ f. f.own None) (λ a b k. k.own_at None) g.fields x.fields h.fields;
    messages = pairs-flat (FieldFits source) (MessageAt source) (λ g. g.nested) (λ f. f.messages) (λ a b k. k.messages) g.fields x.fields h.fields;
    enums = tt;
    extensions = tt;
    oneofs = (h.own_at, tt);
    blocks = tt;
  }

  extended-fields : (extendee : TypeName) (gs : List Gives) (xs : List OfField) → Pairs (FieldFits source) gs xs
      → Pairs (FieldAt source) (map (λ (g : Gives). g.field) (map (extending extendee) gs)) (map (λ f. f.own (Some extendee)) xs)
  extended-fields extendee [] [] h = tt
  extended-fields extendee [] (x ∷ xs) h = absurd h
  extended-fields extendee (g ∷ gs) [] h = absurd h
  extended-fields extendee (g ∷ gs) (x ∷ xs) h = (h.0.own_at (Some extendee), extended-fields extendee gs xs h.1)

  extended-messages : (extendee : TypeName) (gs : List Gives) (xs : List OfField) → Pairs (FieldFits source) gs xs → Pairs (MessageAt source) (flat_map (λ (g : Gives). g.nested) (map (extending extendee) gs)) (messages_of xs)
  extended-messages extendee [] [] h = tt
  extended-messages extendee [] (x ∷ xs) h = absurd h
  extended-messages extendee (g ∷ gs) [] h = absurd h
  extended-messages extendee (g ∷ gs) (x ∷ xs) h = pairs-both (MessageAt source) g.nested _ x.messages (messages_of xs) h.0.messages (extended-messages extendee gs xs h.1)

  mutual
    pub message-has : (x : t.Message Place) → Right (s.message x) → MessageAt source (of_message ds (ast.message x)) (of_message ls (ast.message x))
    message-has (t.message_of k n b) h =
        let x = ast.message (t.message_of k n b) in
        both (MessageAt source) (message-gives ds x) (message-gives ls x)
        (message-fits source (ast.ident n) _ _ (of_body ds (ast.mbody b)) (of_body ls (ast.mbody b)) (h.1.0 n.0 refl) (body-has b h.1.1))

    body-has : (b : t.Mbody Place) → Right (s.mbody b) → BodyFits source (of_body ds (ast.mbody b)) (of_body ls (ast.mbody b))
    body-has (t.mbody_of o es c) h =
        let x = ast.mbody (t.mbody_of o es c) in
        both (BodyFits source) (body-gives ds x) (body-gives ls x)
        (body-fits source syntax _ _ (ast.extensions_in es) (ast.options_in es) (ast.reserved_in es) (items-have es (each-front (RowSpelled source) (s.elements es) _ h.1)))

    items-have : (es : t.Elements Place) → Right (s.elements es) → Pairs (ItemFits source) (map (of_item ds) (ast.items es)) (map (of_item ls) (ast.items es))
    items-have t.no_elements h = tt
    items-have (t.elements (t.field x) es) h = (
      both (ItemFits source) (item-field ds (ast.field x)) (item-field ls (ast.field x)) (of-field _ _ (field-has x (each-front (RowSpelled source) (s.field x) (s.elements es) h))),
      items-have es (each-back (RowSpelled source) (s.field x) (s.elements es) h),
    )
    items-have (t.elements (t.oneof x) es) h = (
      both (ItemFits source) (item-oneof ds (ast.oneof x)) (item-oneof ls (ast.oneof x)) (of-oneof _ _ (oneof-has x (each-front (RowSpelled source) (s.oneof x) (s.elements es) h))),
      items-have es (each-back (RowSpelled source) (s.oneof x) (s.elements es) h),
    )
    items-have (t.elements (t.enum x) es) h = (
      both (ItemFits source) (item-enum ds (ast.enum x)) (item-enum ls (ast.enum x))
          (record { fields = λ others before. tt; messages = tt; enums = (enum-fits source x (each-front (RowSpelled source) (s.enum x) (s.elements es) h), tt); extensions = tt; oneofs = tt; blocks = tt }),
      items-have es (each-back (RowSpelled source) (s.enum x) (s.elements es) h),
    )
    items-have (t.elements (t.message x) es) h = (
      both (ItemFits source) (item-message ds (ast.message x)) (item-message ls (ast.message x))
          (record { fields = λ others before. tt; messages = (message-has x (each-front (RowSpelled source) (s.message x) (s.elements es) h), tt); enums = tt; extensions = tt; oneofs = tt; blocks = tt }),
      items-have es (each-back (RowSpelled source) (s.message x) (s.elements es) h),
    )
    items-have (t.elements (t.extend x) es) h =
        let e = extend-has x (each-front (RowSpelled source) (s.extend x) (s.elements es) h) in (
          both (ItemFits source) (item-extend ds (ast.extend x)) (item-extend ls (ast.extend x))
              (record { fields = λ others before. tt; messages = e.messages; enums = tt; extensions = e.extensions; oneofs = tt; blocks = (e.block, tt) }),
          items-have es (each-back (RowSpelled source) (s.extend x) (s.elements es) h),
        )
    items-have (t.elements (t.empty m) es) h = items-have es h.1
    items-have (t.elements (t.option x) es) h = items-have es (each-back (RowSpelled source) (s.option x) (s.elements es) h)
    items-have (t.elements (t.reserved x) es) h = items-have es (each-back (RowSpelled source) (s.reserved x) (s.elements es) h)
    items-have (t.elements (t.extensions x) es) h = items-have es (each-back (RowSpelled source) (s.extensions x) (s.elements es) h)

    field-has : (x : t.Field Place) → Right (s.field x) → FieldHas (ast.field x)
    field-has (t.field_of l (t.normal x)) h = normal-has l x h
    field-has (t.field_of l (t.map x)) h = map-has l x h
    field-has (t.field_of l (t.group (t.group_of k n e i o b))) h =
        let behind = each-back (RowSpelled source) (s.maybe s.label l) _ h in
        let in-body = each-back (RowSpelled source) (s.maybe s.list o) (s.mbody b) (each-back (RowSpelled source) (s.int i) _ behind.1.1.1) in
        group-has l k n e i o b (behind.1.0 n.0 refl) (body-has b in-body)

    oneof-has : (x : t.Oneof Place) → Right (s.oneof x) → OneofFits source (of_oneof ds (ast.oneof x)) (of_oneof ls (ast.oneof x))
    oneof-has (t.oneof_of k n o es c) h =
        let x : Oneof-F FieldKind MessageItem Extend Field Message MessageBody Oneof = record { name = ast.ident n; options = ast.oneof_options es; fields = ast.oneof_fields es; comments = ast.comments k o; span = ast.join k.span c.span } in
        let look = own (Some (Written n.0)) in
        both (OneofFits source) (oneof-made ds x) (oneof-made ls x)
        (record {
          own_at = λ path. (
            alone source look path _ refl refl,
            (
              a-name source look path (ast.ident n) (Written n.0) refl (h.1.0 n.0 refl) (λ text e. e),
              apart source look path (pos 2) _ (own-none (Some (Written n.0)) (pos 2) refl) (options-start (span_numbers source) (ast.oneof_options es) (part path (pos 2))),
            ),
          );
          fields = oneof_fields-have es (each-front (RowSpelled source) (s.oneof_elements es) _ h.1.1.1);
        })

    oneof_fields-have : (es : t.OneofElements Place) → Right (s.oneof_elements es) → Pairs (FieldFits source) (map (of_field ds) (ast.oneof_fields es)) (map (of_field ls) (ast.oneof_fields es))
    oneof_fields-have t.no_oneof_elements h = tt
    oneof_fields-have (t.oneof_elements (t.oneof_field x) es) h =
        (field-has x (each-front (RowSpelled source) (s.field x) (s.oneof_elements es) h), oneof_fields-have es (each-back (RowSpelled source) (s.field x) (s.oneof_elements es) h))
    oneof_fields-have (t.oneof_elements (t.oneof_empty m) es) h = oneof_fields-have es h.1
    oneof_fields-have (t.oneof_elements (t.oneof_option x) es) h = oneof_fields-have es (each-back (RowSpelled source) (s.option x) (s.oneof_elements es) h)

    pub extend-has : (x : t.Extend Place) → Right (s.extend x) → ExtendFits source (of_extend ds (ast.extend x)) (of_extend ls (ast.extend x))
    extend-has (t.extend_of k n o es c) h =
        let x : Extend-F FieldKind MessageItem Extend Field Message MessageBody Oneof = record { extendee = ast.typename n; fields = ast.extend_fields es; comments = ast.comments k o; span = ast.join k.span c.span } in
        let fields = extend_fields-have es (each-front (RowSpelled source) (s.extend_elements es) _ (each-back (RowSpelled source) (s.typename n) _ h.1).1) in
        both (ExtendFits source) (extend-made ds x) (extend-made ls x)
        (record { block = λ path. (refl, tt); extensions = extended-fields (ast.typename n) _ _ fields; messages = extended-messages (ast.typename n) _ _ fields })

    extend_fields-have : (es : t.ExtendElements Place) → Right (s.extend_elements es) → Pairs (FieldFits source) (map (of_field ds) (ast.extend_fields es)) (map (of_field ls) (ast.extend_fields es))
    extend_fields-have t.no_extend_elements h = tt
    extend_fields-have (t.extend_elements (t.extend_field x) es) h =
        (field-has x (each-front (RowSpelled source) (s.field x) (s.extend_elements es) h), extend_fields-have es (each-back (RowSpelled source) (s.field x) (s.extend_elements es) h))
    extend_fields-have (t.extend_elements (t.extend_empty m) es) h = extend_fields-have es h.1
