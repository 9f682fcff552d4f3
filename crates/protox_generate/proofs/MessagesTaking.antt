-- What messages and the parts in them take: comments of their rows.
use Rattle.std.proofs.Common.{◌≡◌, ◌+◌, ◌≤◌, List, [], ◌∷◌, ◌++◌, map, flat_map, Some, None, ℤ, refl, sym, subst, arith}
use Rattle.protox_fault.specs.Faults.{Span}
use Rattle.protox_lexeme.specs.Shapes.{Rows}
use Rattle.protox_ast.proofs.Lemmas.{body-gives, item-enum, item-extend, item-field, item-message}
use Rattle.protox_ast.proofs.Lemmas.{item-oneof, message-gives}
use Rattle.protox_ast.specs.Ast as ast
use Rattle.protox_ast.specs.Places.{Place}
use Rattle.protox_ast.specs.Spelling as s
use Rattle.protox_ast.specs.Steps.{of_item, of_field, of_message, of_oneof, of_extend}
use Rattle.protox_ast.specs.Tree as t
use Rattle.protox_ast.specs.declared.ast.MessageItem.{MessageItem}
use Rattle.protox_ast.specs.declared.ast.MessageItem.TheVariants as item
use Rattle.protox_ast.specs.declared.ast.Reserved.{Reserved}
use Rattle.protox_ast.specs.declared.ast.Field.{Field}
use Rattle.protox_ast.specs.declared.ast.FieldKind.{FieldKind}
use Rattle.protox_ast.specs.declared.ast.FieldKind.TheFolds.{fold-roll-Oneof, fold-roll-Extend}
use Rattle.protox_ast.specs.declared.ast.FieldKind.TheOpen.{Oneof-F, Extend-F}
use Rattle.protox_ast.specs.declared.ast.Extend.{Extend, roll-Extend}
use Rattle.protox_ast.specs.declared.ast.Message.{Message}
use Rattle.protox_ast.specs.declared.ast.MessageBody.{MessageBody}
use Rattle.protox_ast.specs.declared.ast.Oneof.{Oneof, roll-Oneof}
use Rattle.protox_descriptor.specs.declared.tag.oneof.TheConstants as oneof_tag
use Rattle.protox_locate.specs.FieldLocations.{OfField, OfKind}
use Rattle.protox_locate.specs.LocationWords.{Path, Part, part, option_statement, range_statement, name_statement, extensions_statement}
use Rattle.protox_locate.specs.Locations.{OfItem, OfOneof, OfExtend, location_steps, messages_of}
use Rattle.protox_generate.proofs.Taking.{Weights, Cost, free, open_brace, behind-append, weigh, weigh-append, Take, take-none, take-more, take-bare, take-opening, take-append, Parts, parts-first, parts-one, parts-append}
use Rattle.protox_generate.proofs.PartsTaking.{options-take, option-takes, ranges-take, names-take, reserved-takes, extensions-take, extensions_statement-takes}
use Rattle.protox_generate.proofs.BlocksTaking.{enum-takes}
use Rattle.protox_generate.proofs.Bags.{Lists, Bag, no, bag-of, empty, bag-none, bag-more, bag-append}
use Rattle.protox_generate.proofs.FieldsTaking.{FieldTakes, BodyTakes, normal-takes, map-takes, group-takes, FieldsTake, fields-none, fields-more, fields-first}

-- the parts that an item brings
abbrev pub item_lists : OfItem → Lists
item_lists i = record empty { fields = i.fields; messages = i.messages; enums = i.enums; blocks = i.blocks; extensions = i.extensions; oneofs = i.oneofs }

module _ (numbers : Span → List ℤ) where
  abbrev items_in : t.Elements Place → List OfItem
  items_in es = map (of_item (location_steps numbers)) (ast.items es)

  -- the parts that the elements of a body bring
  abbrev lists_in : t.Elements Place → Lists
  lists_in es = record {
    fields = flat_map (λ (i : OfItem). i.fields) (items_in es);
    messages = flat_map (λ (i : OfItem). i.messages) (items_in es);
    enums = flat_map (λ (i : OfItem). i.enums) (items_in es);
    blocks = flat_map (λ (i : OfItem). i.blocks) (items_in es);
    extensions = flat_map (λ (i : OfItem). i.extensions) (items_in es);
    oneofs = flat_map (λ (i : OfItem). i.oneofs) (items_in es);
    options = map (option_statement numbers) (ast.options_in es);
    statements = map (extensions_statement numbers) (ast.extensions_in es);
    ranges = flat_map (λ (x : Reserved). range_statement numbers x x.kind) (ast.reserved_in es);
    names = flat_map (λ (x : Reserved). name_statement numbers x x.kind) (ast.reserved_in es);
  }

  -- an item
  item-bag : (rows : Rows Place) (x : MessageItem) (node : OfItem) → of_item (location_steps numbers) x ≡ node → Bag numbers rows (item_lists node) → Bag numbers rows (item_lists (of_item (location_steps numbers) x))
  item-bag rows x node is g = subst (λ n. Bag numbers rows (item_lists n)) (sym is) g

  -- the parts of a oneof: options and fields
  record OneofTakes (es : t.OneofElements Place) : Type 0 where
    options : Cost
    own : Cost
    messages : Cost
    option_parts : Parts numbers (map (option_statement numbers) (ast.oneof_options es)) options
    own_parts : Parts numbers (map (λ (f : OfField). f.own None) (map (of_field (location_steps numbers)) (ast.oneof_fields es))) own
    message_parts : Parts numbers (messages_of (map (of_field (location_steps numbers)) (ast.oneof_fields es))) messages
    within : (w : Weights) → options w + own w + messages w ≤ weigh w (s.oneof_elements es)

  -- a oneof and an `extend`, by what they bring
  oneof-bag : (rows : Rows Place) (o : OfOneof) {c d m : Cost} → ((path : Path) → Take numbers (o.own path) c) → Parts numbers (map (λ (f : OfField). f.own None) o.fields) d → Parts numbers (messages_of o.fields) m
      → ((w : Weights) → c w + d w + m w ≤ weigh w rows) → Bag numbers rows (record empty { fields = map (λ (f : OfField). f.own None) o.fields; messages = messages_of o.fields; oneofs = o.own ∷ [] })
  oneof-bag rows o own fields messages h = bag-of rows fields messages no no no (parts-one own) no no no no (λ w. omega (arith, h w))

  pub record ExtendTakes (rows : Rows Place) (e : OfExtend) : Type 0 where
    pub own : Cost
    pub extensions : Cost
    pub messages : Cost
    pub block : (path : Path) → Take numbers (e.block path) own
    pub extension_parts : Parts numbers e.extensions extensions
    pub message_parts : Parts numbers e.messages messages
    pub within : (w : Weights) → own w + extensions w + messages w ≤ weigh w rows

  extend-bag : (rows : Rows Place) (e : OfExtend) → ExtendTakes rows e → Bag numbers rows (record empty { messages = e.messages; blocks = e.block ∷ []; extensions = e.extensions })
  extend-bag rows e h = bag-of rows no h.message_parts no (parts-one h.block) h.extension_parts no no no no no (λ w. omega (arith, h.within w))

  abbrev OneofBag : Rows Place → OfOneof → Type 0
  OneofBag rows o = Bag numbers rows (record empty { fields = map (λ (f : OfField). f.own None) o.fields; messages = messages_of o.fields; oneofs = o.own ∷ [] })

  abbrev Layer : (Type 0 → Type 0 → Type 0 → Type 0 → Type 0 → Type 0 → Type 0 → Type 0) → Type 0
  Layer F = F FieldKind MessageItem Extend Field Message MessageBody Oneof

  -- a oneof and an extend, by their parts
  oneof-made : (x : Layer Oneof-F) → of_oneof (location_steps numbers) (roll-Oneof x) ≡ (location_steps numbers).oneof (record { name = x.name; options = x.options; fields = map (of_field (location_steps numbers)) x.fields; comments = x.comments; span = x.span })
  oneof-made x =
      let steps = location_steps numbers in
      fold-roll-Oneof OfKind OfItem OfExtend OfField Part Part OfOneof steps.kind steps.item steps.extend steps.field steps.message steps.body steps.oneof x

  extend-made : (x : Layer Extend-F) → of_extend (location_steps numbers) (roll-Extend x) ≡ (location_steps numbers).extend (record { extendee = x.extendee; fields = map (of_field (location_steps numbers)) x.fields; comments = x.comments; span = x.span })
  extend-made x =
      let steps = location_steps numbers in
      fold-roll-Extend OfKind OfItem OfExtend OfField Part Part OfOneof steps.kind steps.item steps.extend steps.field steps.message steps.body steps.oneof x

  mutual
    pub message-takes : (x : t.Message Place) (path : Path) → Take numbers (of_message (location_steps numbers) (ast.message x) path) (λ w. weigh w (s.message x))
    message-takes (t.message_of k n b) path =
        let body = body-takes b in
        subst (λ (p : Part). Take numbers (p path) (λ w. weigh w (s.message (t.message_of k n b)))) (sym (message-gives (location_steps numbers) (ast.message (t.message_of k n b))))
        (take-opening k (ast.body_open b) (ast.body_close b) (refl, refl, refl, refl) (take-bare (refl, refl, refl) (body.takes path)) (λ w. omega (arith, body.within w, body.opens w k)))

    body-takes : (b : t.Mbody Place) → BodyTakes numbers b
    body-takes (t.mbody_of o es c) =
        let g = elements-take es in
        let x = ast.mbody (t.mbody_of o es c) in
        record {
          inside = λ w. weigh w (s.elements es);
          takes = λ path.
              subst (λ (p : Part). Take numbers (p path) (λ w. weigh w (s.elements es))) (sym (body-gives (location_steps numbers) x))
              (take-more (take-append (g.field_parts.numbered path _ 0) (take-append (g.message_parts.numbered path _ 0) (take-append (g.enum_parts.numbered path _ 0)
              (take-append (extensions-take numbers path (ast.extensions_in es) g.statement_parts) (take-append (g.block_parts.at _) (take-append (g.extension_parts.numbered path _ 0)
              (take-append (options-take numbers _ (ast.options_in es) g.option_parts) (take-append (g.oneof_parts.numbered path _ 0)
              (take-append (ranges-take numbers path _ (ast.reserved_in es) g.range_parts) (names-take numbers path _ (ast.reserved_in es) g.name_parts))))))))))
              (λ w. omega (arith, g.within w)));
          within = λ w. omega (arith, weigh-append w (s.elements es) (s.sign s.close_brace c), behind-append w o (s.elements es) (s.sign s.close_brace c));
          opens = λ w p. omega arith;
        }

    elements-take : (es : t.Elements Place) → Bag numbers (s.elements es) (lists_in es)
    elements-take t.no_elements = bag-none []
    elements-take (t.elements (t.field x) es) =
        let f = field-takes x in
        bag-append (s.field x) (s.elements es)
        (item-bag (s.field x) (item.Field (ast.field x)) _ (item-field (location_steps numbers) (ast.field x)) (bag-of (s.field x) (parts-one (f.own_takes None)) f.message_parts no no no no no no no no (λ w. omega (arith, f.within w))))
        (elements-take es)
    elements-take (t.elements (t.oneof x) es) =
        bag-append (s.oneof x) (s.elements es) (item-bag (s.oneof x) (item.Oneof (ast.oneof x)) _ (item-oneof (location_steps numbers) (ast.oneof x)) (oneof-takes x)) (elements-take es)
    elements-take (t.elements (t.enum x) es) =
        bag-append (s.enum x) (s.elements es)
        (item-bag (s.enum x) (item.Enum (ast.enum x)) _ (item-enum (location_steps numbers) (ast.enum x)) (bag-of (s.enum x) no no (parts-one (enum-takes numbers x)) no no no no no no no (λ w. omega arith))) (elements-take es)
    elements-take (t.elements (t.message x) es) =
        bag-append (s.message x) (s.elements es)
        (item-bag (s.message x) (item.Message (ast.message x)) _ (item-message (location_steps numbers) (ast.message x)) (bag-of (s.message x) no (parts-one (message-takes x)) no no no no no no no no (λ w. omega arith))) (elements-take es)
    elements-take (t.elements (t.extend x) es) =
        bag-append (s.extend x) (s.elements es)
        (item-bag (s.extend x) (item.Extend (ast.extend x)) _ (item-extend (location_steps numbers) (ast.extend x)) (extend-bag (s.extend x) _ (extend-takes x))) (elements-take es)
    elements-take (t.elements (t.empty m) es) = bag-more (s.elements es) (s.sign s.semicolon m ++ s.elements es) (elements-take es) (λ w. omega arith)
    elements-take (t.elements (t.option x) es) =
        bag-append (s.option x) (s.elements es) {l = record empty { options = option_statement numbers (ast.option x) ∷ [] }} (bag-of (s.option x) no no no no no no (option-takes numbers x) no no no (λ w. omega arith)) (elements-take es)
    elements-take (t.elements (t.reserved x) es) =
        let y = reserved-takes numbers x in
        bag-append (s.reserved x) (s.elements es) {l = record empty { ranges = range_statement numbers (ast.reserved x) (ast.reserved x).kind; names = name_statement numbers (ast.reserved x) (ast.reserved x).kind }}
        (bag-of (s.reserved x) no no no no no no no no y.range_parts y.name_parts (λ w. omega (arith, y.within w))) (elements-take es)
    elements-take (t.elements (t.extensions x) es) =
        bag-append (s.extensions x) (s.elements es) {l = record empty { statements = extensions_statement numbers (ast.extensions x) ∷ [] }}
        (bag-of (s.extensions x) no no no no no no no (extensions_statement-takes numbers x) no no (λ w. omega arith)) (elements-take es)

    field-takes : (x : t.Field Place) → FieldTakes numbers (s.field x) (of_field (location_steps numbers) (ast.field x))
    field-takes (t.field_of l (t.normal x)) = normal-takes numbers l x
    field-takes (t.field_of l (t.map x)) = map-takes numbers l x
    field-takes (t.field_of l (t.group (t.group_of k n e i o b))) = group-takes numbers l k n e i o b (body-takes b)

    oneof-takes : (x : t.Oneof Place) → OneofBag (s.oneof x) (of_oneof (location_steps numbers) (ast.oneof x))
    oneof-takes (t.oneof_of k n o es c) =
        let e = oneof_elements-take es in
        let rows = s.oneof (t.oneof_of k n o es c) in
        subst (OneofBag rows) (sym (oneof-made (record { name = ast.ident n; options = ast.oneof_options es; fields = ast.oneof_fields es; comments = ast.comments k o; span = ast.join k.span c.span })))
        (oneof-bag rows _ {c = λ w. w.first k + w.last o + w.mark open_brace o + w.both k o + w.both o c + e.options w} (λ path. take-opening k o c (refl, refl, refl, refl) (take-bare (refl, refl, refl) (options-take numbers (part path oneof_tag.OPTIONS) (ast.oneof_options es) e.option_parts)) (λ w. omega arith))
        e.own_parts e.message_parts (λ w. omega (arith, e.within w, weigh-append w (s.oneof_elements es) (s.sign s.close_brace c), behind-append w o (s.oneof_elements es) (s.sign s.close_brace c))))

    oneof_elements-take : (es : t.OneofElements Place) → OneofTakes es
    oneof_elements-take t.no_oneof_elements = record { options = free; own = free; messages = free; option_parts = no; own_parts = no; message_parts = no; within = λ w. omega arith }
    oneof_elements-take (t.oneof_elements (t.oneof_field x) es) =
        let f = field-takes x in
        let r = oneof_elements-take es in
        record {
          options = r.options;
          own = λ w. f.own w + r.own w;
          messages = λ w. f.messages w + r.messages w;
          option_parts = r.option_parts;
          own_parts = parts-first (f.own_takes None) r.own_parts;
          message_parts = parts-append f.message_parts r.message_parts;
          within = λ w. omega (arith, f.within w, r.within w, weigh-append w (s.field x) (s.oneof_elements es));
        }
    oneof_elements-take (t.oneof_elements (t.oneof_empty m) es) =
        let r = oneof_elements-take es in
        record { options = r.options; own = r.own; messages = r.messages; option_parts = r.option_parts; own_parts = r.own_parts; message_parts = r.message_parts; within = λ w. omega (arith, r.within w) }
    oneof_elements-take (t.oneof_elements (t.oneof_option x) es) =
        let r = oneof_elements-take es in
        record {
          options = λ w. weigh w (s.option x) + r.options w;
          own = r.own;
          messages = r.messages;
          option_parts = parts-append (option-takes numbers x) r.option_parts;
          own_parts = r.own_parts;
          message_parts = r.message_parts;
          within = λ w. omega (arith, r.within w, weigh-append w (s.option x) (s.oneof_elements es));
        }

    pub extend-takes : (x : t.Extend Place) → ExtendTakes (s.extend x) (of_extend (location_steps numbers) (ast.extend x))
    extend-takes (t.extend_of k n o es c) =
        let f = extend_fields-take es in
        let x = ast.extend (t.extend_of k n o es c) in
        subst (ExtendTakes (s.extend (t.extend_of k n o es c))) (sym (extend-made (record { extendee = ast.typename n; fields = ast.extend_fields es; comments = ast.comments k o; span = ast.join k.span c.span })))
        (record {
          own = λ w. w.first k + w.last o + w.mark open_brace o + w.both k o + w.both o c;
          extensions = f.own;
          messages = f.messages;
          block = λ path. take-opening k o c (refl, refl, refl, refl) (take-none free) (λ w. omega arith);
          extension_parts = f.own_parts (Some (ast.typename n));
          message_parts = f.message_parts;
          within = λ w.
              omega (
                arith,
                f.within w,
                weigh-append w (s.typename n) (s.sign s.open_brace o ++ (s.extend_elements es ++ s.sign s.close_brace c)),
                weigh-append w (s.extend_elements es) (s.sign s.close_brace c),
                behind-append w k (s.typename n) (s.sign s.open_brace o ++ (s.extend_elements es ++ s.sign s.close_brace c)),
                behind-append w o (s.extend_elements es) (s.sign s.close_brace c),
              );
        })

    extend_fields-take : (es : t.ExtendElements Place) → FieldsTake numbers (s.extend_elements es) (map (of_field (location_steps numbers)) (ast.extend_fields es))
    extend_fields-take t.no_extend_elements = fields-none numbers
    extend_fields-take (t.extend_elements (t.extend_field x) es) = fields-first numbers (s.field x) (s.extend_elements es) (field-takes x) (extend_fields-take es)
    extend_fields-take (t.extend_elements (t.extend_empty m) es) = fields-more numbers (s.extend_elements es) (s.sign s.semicolon m ++ s.extend_elements es) (extend_fields-take es) (λ w. omega arith)
