-- If the steps of two functions on trees keep a relation, the functions keep it for each tree.
use Rattle.std.proofs.Common.{◌≡◌, List, [], ◌∷◌, map, subst, sym}
use Rattle.protox_ast.specs.Steps.{Steps, of_message, of_body, of_item, of_field, of_kind, of_oneof, of_extend}
use Rattle.protox_ast.specs.declared.ast.Extend.{Extend, roll-Extend}
use Rattle.protox_ast.specs.declared.ast.Field.{Field, roll-Field}
use Rattle.protox_ast.specs.declared.ast.FieldKind.{FieldKind, roll-FieldKind}
use Rattle.protox_ast.specs.declared.ast.FieldKind.TheOpen.{Message-F, MessageBody-F, MessageItem-F, Field-F, FieldKind-F, Oneof-F, Extend-F}
use Rattle.protox_ast.specs.declared.ast.FieldKind.TheFolds.{ind-Message, ind-Extend, map-Message, map-MessageBody, map-MessageItem, map-Field, map-FieldKind, map-Oneof, map-Extend, fold-roll-Message, fold-roll-MessageBody, fold-roll-MessageItem, fold-roll-Field, fold-roll-FieldKind, fold-roll-Oneof, fold-roll-Extend}
use Rattle.protox_ast.specs.declared.ast.Message.{Message, roll-Message}
use Rattle.protox_ast.specs.declared.ast.MessageBody.{MessageBody, roll-MessageBody}
use Rattle.protox_ast.specs.declared.ast.MessageItem.{MessageItem, roll-MessageItem}
use Rattle.protox_ast.specs.declared.ast.Oneof.{Oneof, roll-Oneof}

-- P holds for the elements at the same index of both lists.
abbrev pub Pairs : {A B : Type 0} → (A → B → Type 0) → List A → List B → Type 0
Pairs P [] [] = Unit {0}
Pairs P [] (y ∷ ys) = ⊥
Pairs P (x ∷ xs) [] = ⊥
Pairs P (x ∷ xs) (y ∷ ys) = P x y × Pairs P xs ys

pairs-tree : {A B C : Type 0} (f : A → B) (g : A → C) (P : B → C → Type 0) (ys : List ((x : A) × P (f x) (g x))) → Pairs P (map f (map (λ e. e.0) ys)) (map g (map (λ e. e.0) ys))
pairs-tree f g P [] = tt
pairs-tree f g P (y ∷ ys) = (y.1, pairs-tree f g P ys)

module _ {K I E F M B O K' I' E' F' M' B' O' : Type 0} (PK : K → K' → Type 0) (PI : I → I' → Type 0) (PE : E → E' → Type 0) (PF : F → F' → Type 0) (PM : M → M' → Type 0) (PB : B → B' → Type 0) (PO : O → O' → Type 0)
    (s : Steps K I E F M B O) (s' : Steps K' I' E' F' M' B' O') where
  pub record Keeps : Type 0 where
    pub normal : (type : _) (span : _) → PK (s.kind (FieldKind-F.Normal type span)) (s'.kind (FieldKind-F.Normal type span))
    pub group : (span : _) (b : B) (b' : B') → PB b b' → PK (s.kind (FieldKind-F.Group span b)) (s'.kind (FieldKind-F.Group span b'))
    pub a_map : (span : _) (key : _) (key_span : _) (value : _) (value_span : _) → PK (s.kind (FieldKind-F.Map span key key_span value value_span)) (s'.kind (FieldKind-F.Map span key key_span value value_span))
    pub item_field : (x : F) (x' : F') → PF x x' → PI (s.item (MessageItem-F.Field x)) (s'.item (MessageItem-F.Field x'))
    pub item_message : (x : M) (x' : M') → PM x x' → PI (s.item (MessageItem-F.Message x)) (s'.item (MessageItem-F.Message x'))
    pub item_oneof : (x : O) (x' : O') → PO x x' → PI (s.item (MessageItem-F.Oneof x)) (s'.item (MessageItem-F.Oneof x'))
    pub item_extend : (x : E) (x' : E') → PE x x' → PI (s.item (MessageItem-F.Extend x)) (s'.item (MessageItem-F.Extend x'))
    pub item_enum : (x : _) → PI (s.item (MessageItem-F.Enum x)) (s'.item (MessageItem-F.Enum x))
    pub extend : (extendee : _) (fields : List F) (fields' : List F') (comments : _) (span : _) → Pairs PF fields fields'
        → PE (s.extend (record { extendee = extendee; fields = fields; comments = comments; span = span })) (s'.extend (record { extendee = extendee; fields = fields'; comments = comments; span = span }))
    pub field : (label : _) (name : _) (k : K) (k' : K') (number : _) (options : _) (comments : _) (span : _) → PK k k'
        → PF (s.field (record { label = label; name = name; kind = k; number = number; options = options; comments = comments; span = span })) (s'.field (record { label = label; name = name; kind = k'; number = number; options = options; comments = comments; span = span }))
    pub message : (name : _) (b : B) (b' : B') (comments : _) (span : _) → PB b b'
        → PM (s.message (record { name = name; body = b; comments = comments; span = span })) (s'.message (record { name = name; body = b'; comments = comments; span = span }))
    pub body : (items : List I) (items' : List I') (extensions : _) (options : _) (reserved : _) → Pairs PI items items'
        → PB (s.body (record { items = items; extensions = extensions; options = options; reserved = reserved })) (s'.body (record { items = items'; extensions = extensions; options = options; reserved = reserved }))
    pub oneof : (name : _) (options : _) (fields : List F) (fields' : List F') (comments : _) (span : _) → Pairs PF fields fields'
        → PO (s.oneof (record { name = name; options = options; fields = fields; comments = comments; span = span })) (s'.oneof (record { name = name; options = options; fields = fields'; comments = comments; span = span }))

  module _ (keeps : Keeps) where
    abbrev QK : FieldKind → Type 0
    QK x = PK (of_kind s x) (of_kind s' x)

    abbrev QI : MessageItem → Type 0
    QI x = PI (of_item s x) (of_item s' x)

    abbrev QE : Extend → Type 0
    QE x = PE (of_extend s x) (of_extend s' x)

    abbrev QF : Field → Type 0
    QF x = PF (of_field s x) (of_field s' x)

    abbrev QM : Message → Type 0
    QM x = PM (of_message s x) (of_message s' x)

    abbrev QB : MessageBody → Type 0
    QB x = PB (of_body s x) (of_body s' x)

    abbrev QO : Oneof → Type 0
    QO x = PO (of_oneof s x) (of_oneof s' x)

    -- a layer for whose parts it holds
    abbrev Layer : (Type 0 → Type 0 → Type 0 → Type 0 → Type 0 → Type 0 → Type 0 → Type 0) → Type 0
    Layer G = G ((x : FieldKind) × QK x) ((x : MessageItem) × QI x) ((x : Extend) × QE x) ((x : Field) × QF x) ((x : Message) × QM x) ((x : MessageBody) × QB x) ((x : Oneof) × QO x)

    both : {B C : Type 0} (P : B → C → Type 0) {x x1 : B} {y y1 : C} → x ≡ x1 → y ≡ y1 → P x1 y1 → P x y
    both P {x} {x1} {y} {y1} e f p = subst (λ a. P a y) (sym e) (subst (P x1) (sym f) p)

    kind-level : (y : Layer FieldKind-F) → QK (roll-FieldKind (map-FieldKind _ _ _ _ _ _ _ _ _ _ _ _ _ _ (λ e. e.0) (λ e. e.0) (λ e. e.0) (λ e. e.0) (λ e. e.0) (λ e. e.0) (λ e. e.0) y))
    kind-level (FieldKind-F.Normal type span) =
        both PK (fold-roll-FieldKind K I E F M B O s.kind s.item s.extend s.field s.message s.body s.oneof (FieldKind-F.Normal type span)) (fold-roll-FieldKind K' I' E' F' M' B' O' s'.kind s'.item s'.extend s'.field s'.message s'.body s'.oneof (FieldKind-F.Normal type span))
        (keeps.normal type span)
    kind-level (FieldKind-F.Group span body) =
        both PK (fold-roll-FieldKind K I E F M B O s.kind s.item s.extend s.field s.message s.body s.oneof (FieldKind-F.Group span body.0)) (fold-roll-FieldKind K' I' E' F' M' B' O' s'.kind s'.item s'.extend s'.field s'.message s'.body s'.oneof (FieldKind-F.Group span body.0))
        (keeps.group span (of_body s body.0) (of_body s' body.0) body.1)
    kind-level (FieldKind-F.Map span key key_span value value_span) =
        both PK (fold-roll-FieldKind K I E F M B O s.kind s.item s.extend s.field s.message s.body s.oneof (FieldKind-F.Map span key key_span value value_span)) (fold-roll-FieldKind K' I' E' F' M' B' O' s'.kind s'.item s'.extend s'.field s'.message s'.body s'.oneof (FieldKind-F.Map span key key_span value value_span))
        (keeps.a_map span key key_span value value_span)

    item-level : (y : Layer MessageItem-F) → QI (roll-MessageItem (map-MessageItem _ _ _ _ _ _ _ _ _ _ _ _ _ _ (λ e. e.0) (λ e. e.0) (λ e. e.0) (λ e. e.0) (λ e. e.0) (λ e. e.0) (λ e. e.0) y))
    item-level (MessageItem-F.Field x) =
        both PI (fold-roll-MessageItem K I E F M B O s.kind s.item s.extend s.field s.message s.body s.oneof (MessageItem-F.Field x.0)) (fold-roll-MessageItem K' I' E' F' M' B' O' s'.kind s'.item s'.extend s'.field s'.message s'.body s'.oneof (MessageItem-F.Field x.0))
        (keeps.item_field (of_field s x.0) (of_field s' x.0) x.1)
    item-level (MessageItem-F.Message x) =
        both PI (fold-roll-MessageItem K I E F M B O s.kind s.item s.extend s.field s.message s.body s.oneof (MessageItem-F.Message x.0)) (fold-roll-MessageItem K' I' E' F' M' B' O' s'.kind s'.item s'.extend s'.field s'.message s'.body s'.oneof (MessageItem-F.Message x.0))
        (keeps.item_message (of_message s x.0) (of_message s' x.0) x.1)
    item-level (MessageItem-F.Oneof x) =
        both PI (fold-roll-MessageItem K I E F M B O s.kind s.item s.extend s.field s.message s.body s.oneof (MessageItem-F.Oneof x.0)) (fold-roll-MessageItem K' I' E' F' M' B' O' s'.kind s'.item s'.extend s'.field s'.message s'.body s'.oneof (MessageItem-F.Oneof x.0))
        (keeps.item_oneof (of_oneof s x.0) (of_oneof s' x.0) x.1)
    item-level (MessageItem-F.Extend x) =
        both PI (fold-roll-MessageItem K I E F M B O s.kind s.item s.extend s.field s.message s.body s.oneof (MessageItem-F.Extend x.0)) (fold-roll-MessageItem K' I' E' F' M' B' O' s'.kind s'.item s'.extend s'.field s'.message s'.body s'.oneof (MessageItem-F.Extend x.0))
        (keeps.item_extend (of_extend s x.0) (of_extend s' x.0) x.1)
    item-level (MessageItem-F.Enum x) =
        both PI (fold-roll-MessageItem K I E F M B O s.kind s.item s.extend s.field s.message s.body s.oneof (MessageItem-F.Enum x)) (fold-roll-MessageItem K' I' E' F' M' B' O' s'.kind s'.item s'.extend s'.field s'.message s'.body s'.oneof (MessageItem-F.Enum x))
        (keeps.item_enum x)

    extend-level : (y : Layer Extend-F) → QE (roll-Extend (map-Extend _ _ _ _ _ _ _ _ _ _ _ _ _ _ (λ e. e.0) (λ e. e.0) (λ e. e.0) (λ e. e.0) (λ e. e.0) (λ e. e.0) (λ e. e.0) y))
    extend-level y =
        both PE (fold-roll-Extend K I E F M B O s.kind s.item s.extend s.field s.message s.body s.oneof (record { extendee = y.extendee; fields = (map (λ e. e.0) y.fields); comments = y.comments; span = y.span })) (fold-roll-Extend K' I' E' F' M' B' O' s'.kind s'.item s'.extend s'.field s'.message s'.body s'.oneof (record { extendee = y.extendee; fields = (map (λ e. e.0) y.fields); comments = y.comments; span = y.span }))
        (keeps.extend y.extendee (map (of_field s) (map (λ e. e.0) y.fields)) (map (of_field s') (map (λ e. e.0) y.fields)) y.comments y.span (pairs-tree (of_field s) (of_field s') PF y.fields))

    field-level : (y : Layer Field-F) → QF (roll-Field (map-Field _ _ _ _ _ _ _ _ _ _ _ _ _ _ (λ e. e.0) (λ e. e.0) (λ e. e.0) (λ e. e.0) (λ e. e.0) (λ e. e.0) (λ e. e.0) y))
    field-level y =
        both PF (fold-roll-Field K I E F M B O s.kind s.item s.extend s.field s.message s.body s.oneof (record { label = y.label; name = y.name; kind = y.kind.0; number = y.number; options = y.options; comments = y.comments; span = y.span })) (fold-roll-Field K' I' E' F' M' B' O' s'.kind s'.item s'.extend s'.field s'.message s'.body s'.oneof (record { label = y.label; name = y.name; kind = y.kind.0; number = y.number; options = y.options; comments = y.comments; span = y.span }))
        (keeps.field y.label y.name (of_kind s y.kind.0) (of_kind s' y.kind.0) y.number y.options y.comments y.span y.kind.1)

    message-level : (y : Layer Message-F) → QM (roll-Message (map-Message _ _ _ _ _ _ _ _ _ _ _ _ _ _ (λ e. e.0) (λ e. e.0) (λ e. e.0) (λ e. e.0) (λ e. e.0) (λ e. e.0) (λ e. e.0) y))
    message-level y =
        both PM (fold-roll-Message K I E F M B O s.kind s.item s.extend s.field s.message s.body s.oneof (record { name = y.name; body = y.body.0; comments = y.comments; span = y.span })) (fold-roll-Message K' I' E' F' M' B' O' s'.kind s'.item s'.extend s'.field s'.message s'.body s'.oneof (record { name = y.name; body = y.body.0; comments = y.comments; span = y.span }))
        (keeps.message y.name (of_body s y.body.0) (of_body s' y.body.0) y.comments y.span y.body.1)

    body-level : (y : Layer MessageBody-F) → QB (roll-MessageBody (map-MessageBody _ _ _ _ _ _ _ _ _ _ _ _ _ _ (λ e. e.0) (λ e. e.0) (λ e. e.0) (λ e. e.0) (λ e. e.0) (λ e. e.0) (λ e. e.0) y))
    body-level y =
        both PB (fold-roll-MessageBody K I E F M B O s.kind s.item s.extend s.field s.message s.body s.oneof (record { items = (map (λ e. e.0) y.items); extensions = y.extensions; options = y.options; reserved = y.reserved })) (fold-roll-MessageBody K' I' E' F' M' B' O' s'.kind s'.item s'.extend s'.field s'.message s'.body s'.oneof (record { items = (map (λ e. e.0) y.items); extensions = y.extensions; options = y.options; reserved = y.reserved }))
        (keeps.body (map (of_item s) (map (λ e. e.0) y.items)) (map (of_item s') (map (λ e. e.0) y.items)) y.extensions y.options y.reserved (pairs-tree (of_item s) (of_item s') PI y.items))

    oneof-level : (y : Layer Oneof-F) → QO (roll-Oneof (map-Oneof _ _ _ _ _ _ _ _ _ _ _ _ _ _ (λ e. e.0) (λ e. e.0) (λ e. e.0) (λ e. e.0) (λ e. e.0) (λ e. e.0) (λ e. e.0) y))
    oneof-level y =
        both PO (fold-roll-Oneof K I E F M B O s.kind s.item s.extend s.field s.message s.body s.oneof (record { name = y.name; options = y.options; fields = (map (λ e. e.0) y.fields); comments = y.comments; span = y.span })) (fold-roll-Oneof K' I' E' F' M' B' O' s'.kind s'.item s'.extend s'.field s'.message s'.body s'.oneof (record { name = y.name; options = y.options; fields = (map (λ e. e.0) y.fields); comments = y.comments; span = y.span }))
        (keeps.oneof y.name y.options (map (of_field s) (map (λ e. e.0) y.fields)) (map (of_field s') (map (λ e. e.0) y.fields)) y.comments y.span (pairs-tree (of_field s) (of_field s') PF y.fields))

    pub message_has : (x : Message) → QM x
    message_has = ind-Message QK QI QE QF QM QB QO
        (λ x y is. subst (λ z. QK (roll-FieldKind z)) is (kind-level y))
        (λ x y is. subst (λ z. QI (roll-MessageItem z)) is (item-level y))
        (λ x y is. subst (λ z. QE (roll-Extend z)) is (extend-level y))
        (λ x y is. subst (λ z. QF (roll-Field z)) is (field-level y))
        (λ x y is. subst (λ z. QM (roll-Message z)) is (message-level y))
        (λ x y is. subst (λ z. QB (roll-MessageBody z)) is (body-level y))
        (λ x y is. subst (λ z. QO (roll-Oneof z)) is (oneof-level y))

    pub extend_has : (x : Extend) → QE x
    extend_has = ind-Extend QK QI QE QF QM QB QO
        (λ x y is. subst (λ z. QK (roll-FieldKind z)) is (kind-level y))
        (λ x y is. subst (λ z. QI (roll-MessageItem z)) is (item-level y))
        (λ x y is. subst (λ z. QE (roll-Extend z)) is (extend-level y))
        (λ x y is. subst (λ z. QF (roll-Field z)) is (field-level y))
        (λ x y is. subst (λ z. QM (roll-Message z)) is (message-level y))
        (λ x y is. subst (λ z. QB (roll-MessageBody z)) is (body-level y))
        (λ x y is. subst (λ z. QO (roll-Oneof z)) is (oneof-level y))
