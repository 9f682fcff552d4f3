-- Where messages, groups, oneofs and extends stand, with all that is in them, given the rows that
-- spell them.
use Rattle.std.proofs.Common.{◌≡◌, ℕ, ◌≤◌, List, [], ◌∷◌, ◌++◌, map, flat_map, Option, sym, ap, subst, ◌∙◌, arith}
use Rattle.std.proofs.lemmas.List.{append-nil}
use Rattle.protox_fault.specs.Faults.{Span}
use Rattle.protox_lexeme.specs.Shapes.{Rows}
use Rattle.protox_ast.specs.declared.ast.Extensions.{Extensions}
use Rattle.protox_ast.specs.declared.ast.Field as field_type
use Rattle.protox_ast.specs.declared.ast.Extend as extend_type
use Rattle.protox_ast.specs.declared.ast.FieldKind.{FieldKind}
use Rattle.protox_ast.specs.declared.ast.FieldKind.TheFolds.{fold-roll-Oneof, fold-roll-Extend}
use Rattle.protox_ast.specs.declared.ast.FieldKind.TheOpen.{FieldKind-F, Oneof-F, Extend-F}
use Rattle.protox_ast.specs.declared.ast.Message.{Message}
use Rattle.protox_ast.specs.declared.ast.MessageBody.{MessageBody}
use Rattle.protox_ast.specs.declared.ast.Oneof as oneof_type
use Rattle.protox_ast.specs.declared.ast.Reserved.{Reserved}
use Rattle.protox_ast.specs.declared.ast.MessageItem.{MessageItem}
use Rattle.protox_ast.specs.declared.ast.MessageItem.TheVariants as item
use Rattle.protox_ast.specs.Keywords.{Each}
use Rattle.protox_ast.specs.Tree as t
use Rattle.protox_ast.specs.Spelling as s
use Rattle.protox_ast.specs.Places.{Place}
use Rattle.protox_ast.specs.Ast as ast
use Rattle.protox_ast.specs.Steps.{of_item, of_field, of_message, of_body, of_oneof, of_extend}
use Rattle.protox_ast.proofs.Levels.{body-gives, message-gives, field-gives, item-field, item-enum, item-message, item-extend, item-oneof, kind-normal, kind-group, kind-map}
use Rattle.protox_ast.specs.Siblings.{Siblings, SiblingsStand, siblings, option_spans, option_siblings, extensions_siblings, extension_ranges, reserved_siblings, SiblingKind, AField, AMessage, AnEnum, AOneof, AnExtend, AnExtension, AService, Node, OfKind, nodes, inside_field, of_field_kind, field_brings, message_brings, enum_brings, oneof_brings, extend_brings, service_brings, enum_node, service_node}
use Rattle.protox_ast.proofs.Standing.{Stand, stand-after}
use Rattle.protox_ast.proofs.SpansStand.{each-append, each-so, siblings-wider, Hold, End, IsNode, Lists, begin-first, begin-front, end-last, end-back, none, nothing, past, token, both, before, after, whole, last-list, more-lists, lists-within, lists-node, HoldAll, spans-only, kinds-lists, all-none, all-past, all-before, all-after}
use Rattle.protox_ast.proofs.PartsStand.{typename-hold, option-node, reserved-node, reserved-lists, extensions-node, extension_ranges-hold, type-node}
use Rattle.protox_ast.proofs.BlocksStand.{tail-hold, enum-node, service-node, label-hold, field-begin, type-begin, map_rows, map_tail, map-parts, map_type-node, tail-end}

-- The rows are the node, and hold what it adds of each kind.
pub record Is (rows : Rows Place) (x : Node) : Type 0 where
  pub node : IsNode rows x.span x.inside
  pub bring : (kind : SiblingKind) → Hold rows (x.brings kind) []

pub all-both : (a b : Rows Place) {x : Node} {nodes : List Node} → Is a x → HoldAll b nodes → HoldAll (a ++ b) (x ∷ nodes)
all-both a b f g = record { hold = both a b f.node.hold g.hold; bring = λ kind. both a b (f.bring kind) (g.bring kind) }

-- ---- what is in a body whose rows stand in a node

pub record InBody (rows : Rows Place) (inside : Span → List Siblings) : Type 0 where
  pub at : (span : Span) (low high : ℕ) → Stand span.start span.end rows → low ≤ span.start → span.end ≤ high → Each (SiblingsStand low high) (inside span)

-- The second rows stand at the end of the first.
record Behind (rows b : Rows Place) : Type 0 where
  at : (low high : ℕ) → Stand low high rows → (m : ℕ) × (low ≤ m) × Stand m high b

behind-all : (b : Rows Place) → Behind b b
behind-all b = record { at = λ low high h. (low, omega arith, h) }

behind-back : (a b : Rows Place) {c : Rows Place} → Behind b c → Behind (a ++ b) c
behind-back a b {c} f = record {
  at = λ low high h.
      let p = stand-after low high a b h in
      let q = f.at p.0 high p.2 in
      (q.0, omega (arith, p.1, q.1), q.2);
}

stand-lower : (low m high : ℕ) (rows : Rows Place) → low ≤ m → Stand m high rows → Stand low high rows
stand-lower low m high [] l h = omega (arith, l, h)
stand-lower low m high (x ∷ a) l h = (omega (arith, l, h.0), h.1, h.2)

with-body : {rows b : Rows Place} {span : Span} {x : Siblings} {i : List Siblings} {inside : Span → List Siblings} → Behind rows b → IsNode rows span (x ∷ i) → InBody b inside → IsNode rows span (x ∷ (inside span ++ i))
with-body {rows} {b} {span} {x} {i} {inside} f n k = record {
  begin = n.begin;
  end = n.end;
  hold = record {
    stand = λ low high h.
        let q = n.end.at low high h in
        let p = n.begin.at low span.end q.1 in
        let r = f.at span.start span.end p.2 in
        let m = n.hold.stand low high h in
        record {
          spans = m.spans;
          within = (m.within.0, each-append (SiblingsStand low high) (inside span) i (k.at span low high (stand-lower span.start r.0 span.end b r.1 r.2) p.0 q.0) m.within.1);
        };
  };
}

lists-body : {rows : Rows Place} {xss : List (List Span)} {i : List Siblings} → Lists rows xss i → InBody rows (λ span. map (siblings span) xss ++ i)
lists-body {rows} {xss} {i} f = record {
  at = λ span low high h l m.
      let n = f.stand span.start span.end h in
      each-append (SiblingsStand low high) (map (siblings span) xss) i (lists-within span low high xss l m n.0)
      (each-so (SiblingsStand span.start span.end) (SiblingsStand low high) i (λ x k. siblings-wider span.start span.end low high x l m k) n.1);
}

-- ---- fields

-- For a field of this kind.
abbrev field_node : field_type.Field → OfKind → Node
field_node x kind = let y = field_type.out-Field x in record {
  span = y.span;
  inside = inside_field (record { label = y.label; name = y.name; kind = kind; number = y.number; options = y.options; comments = y.comments; span = y.span });
  brings = field_brings y.span (kind.messages y.span);
}

field-bring : {rows : Rows Place} {span : Span} {messages : List Span} {i : List Siblings} → Hold rows (span ∷ []) i → Hold rows messages [] → (kind : SiblingKind) → Hold rows (field_brings span messages kind) []
field-bring f g AField = spans-only f
field-bring f g AMessage = g
field-bring {rows} f g _ = nothing rows

field-of : {rows : Rows Place} {span : Span} {i : List Siblings} (messages : List Span) → IsNode rows span i → Hold rows messages [] → Is rows (record { span = span; inside = i; brings = field_brings span messages })
field-of messages f g = record { node = f; bring = field-bring f.hold g }

-- a group or a map, with its message
holder-of : {rows : Rows Place} {span : Span} {i : List Siblings} → IsNode rows span i → Is rows (record { span = span; inside = i; brings = field_brings span (span ∷ []) })
holder-of {span = span} f = field-of (span ∷ []) f (spans-only f.hold)

normal-is : (l : Option (t.Label Place)) (x : t.Normal Place) → Is (s.maybe s.label l ++ s.normal x) (of_field nodes (ast.normal l x))
normal-is l x =
    subst (Is (s.maybe s.label l ++ s.normal x)) (sym (field-gives nodes (ast.normal l x) ∙ ap (field_node (ast.normal l x)) (kind-normal nodes (ast.type x.type) (ast.type_span x.type))))
    (field-of [] (whole (ast.join (ast.field_first l (ast.type_first x.type)).span x.end.span) (field-begin l (ast.type_first x.type) (s.normal x) (begin-front (s.type x.type) _ (type-begin x.type)))
    (end-back (s.maybe s.label l) _ (end-back (s.type x.type) _ (tail-end x.name x.equals_sign x.number x.options x.end)))
    (both (s.maybe s.label l) _ (label-hold l) (both (s.type x.type) _ (type-node x.type).hold (tail-hold x.name x.equals_sign x.number x.options _)))) (nothing _))

map-is : (l : Option (t.Label Place)) (x : t.Map Place) → Is (s.maybe s.label l ++ s.map x) (of_field nodes (ast.map_field l x))
map-is l x =
    let span = ast.join x.keyword.span x.close_at.span in
    let kind = of_field_kind (FieldKind-F.Map span (ast.type x.key) (ast.type_span x.key) (ast.type x.value) (ast.type_span x.value)) in
    subst (Is (s.maybe s.label l ++ s.map x)) (sym (field-gives nodes (ast.map_field l x)
    ∙ ap (field_node (ast.map_field l x)) (kind-map nodes span (ast.type x.key) (ast.type_span x.key) (ast.type x.value) (ast.type_span x.value))))
    (subst (λ rows. Is (s.maybe s.label l ++ rows) (field_node (ast.map_field l x) kind)) (map-parts x)
    (holder-of (whole (ast.join (ast.field_first l x.keyword).span x.end.span) (field-begin l x.keyword (map_rows x ++ map_tail x) (begin-first _ _))
    (end-back (s.maybe s.label l) _ (end-back (map_rows x) _ (tail-end x.name x.equals_sign x.number x.options x.end)))
    (both (s.maybe s.label l) _ (label-hold l) (both (map_rows x) _ (map_type-node x).hold (tail-hold x.name x.equals_sign x.number x.options _))))))

group-is : (l : Option (t.Label Place)) (k : Place) (n : t.Word Place) (e : Place) (i : t.Int Place) (o : Option (t.OptionList Place)) (b : t.Mbody Place)
    → InBody (s.mbody b) (of_body nodes (ast.mbody b)) → End (s.mbody b) (ast.body_close b).span.end → Is (s.maybe s.label l ++ s.group (t.group_of k n e i o b)) (of_field nodes (ast.group l (t.group_of k n e i o b)))
group-is l k n e i o b f last =
    let x = ast.group l (t.group_of k n e i o b) in
    let rows = s.maybe s.label l ++ s.group (t.group_of k n e i o b) in
    subst (Is rows) (sym (field-gives nodes x ∙ ap (field_node x) (kind-group nodes k.span (ast.mbody b))))
    (holder-of (with-body (behind-back (s.maybe s.label l) _ (behind-back (_ ∷ _ ∷ _ ∷ []) _ (behind-back (s.int i) _ (behind-back (s.maybe s.list o) _ (behind-all (s.mbody b))))))
    (whole (ast.join (ast.field_first l k).span (ast.body_close b).span) (field-begin l k _ (begin-first _ _))
    (end-back (s.maybe s.label l) _ (end-back (_ ∷ _ ∷ _ ∷ []) _ (end-back (s.int i) _ (end-back (s.maybe s.list o) _ last))))
    (both (s.maybe s.label l) _ (label-hold l) (token _ (tail-hold n e i o (s.mbody b))))) f))

-- ---- elements that are no items

options-hold : (es : t.Elements Place) → Hold (s.elements es) (option_spans (ast.options_in es)) (flat_map option_siblings (ast.options_in es))
options-hold t.no_elements = none
options-hold (t.elements (t.option x) es) = both (s.option x) (s.elements es) (option-node x).hold (options-hold es)
options-hold (t.elements e es) = before (s.element e) (s.elements es) (options-hold es)

extensions-hold : (es : t.Elements Place) → Hold (s.elements es) (map (λ (x : Extensions). x.span) (ast.extensions_in es)) (flat_map extensions_siblings (ast.extensions_in es))
extensions-hold t.no_elements = none
extensions-hold (t.elements (t.extensions x) es) = both (s.extensions x) (s.elements es) (extensions-node x).hold (extensions-hold es)
extensions-hold (t.elements e es) = before (s.element e) (s.elements es) (extensions-hold es)

reserved-hold : (es : t.Elements Place) → Hold (s.elements es) (map (λ (x : Reserved). x.span) (ast.reserved_in es)) (flat_map reserved_siblings (ast.reserved_in es))
reserved-hold t.no_elements = none
reserved-hold (t.elements (t.reserved x) es) = both (s.reserved x) (s.elements es) (reserved-node x).hold (reserved-hold es)
reserved-hold (t.elements e es) = before (s.element e) (s.elements es) (reserved-hold es)

extension_parts-hold : (es : t.Elements Place) → Hold (s.elements es) (flat_map extension_ranges (ast.extensions_in es)) []
extension_parts-hold t.no_elements = none
extension_parts-hold (t.elements (t.extensions x) es) = both (s.extensions x) (s.elements es) (extension_ranges-hold x) (extension_parts-hold es)
extension_parts-hold (t.elements e es) = before (s.element e) (s.elements es) (extension_parts-hold es)

reserved_parts-hold : (f : Reserved → List Span) → ((x : t.Reserved Place) → Hold (s.reserved x) (f (ast.reserved x)) []) → (es : t.Elements Place) → Hold (s.elements es) (flat_map f (ast.reserved_in es)) []
reserved_parts-hold f h t.no_elements = none
reserved_parts-hold f h (t.elements (t.reserved x) es) = both (s.reserved x) (s.elements es) (h x) (reserved_parts-hold f h es)
reserved_parts-hold f h (t.elements e es) = before (s.element e) (s.elements es) (reserved_parts-hold f h es)

oneof_options-hold : (es : t.OneofElements Place) → Hold (s.oneof_elements es) (option_spans (ast.oneof_options es)) (flat_map option_siblings (ast.oneof_options es))
oneof_options-hold t.no_oneof_elements = none
oneof_options-hold (t.oneof_elements (t.oneof_option x) es) = both (s.option x) (s.oneof_elements es) (option-node x).hold (oneof_options-hold es)
oneof_options-hold (t.oneof_elements e es) = before (s.oneof_element e) (s.oneof_elements es) (oneof_options-hold es)

-- ---- what the items add

item-first : (a b : Rows Place) (x : MessageItem) (xs : List MessageItem) (node : Node) → of_item nodes x ≡ node → Is a node → HoldAll b (map (of_item nodes) xs) → HoldAll (a ++ b) (map (of_item nodes) (x ∷ xs))
item-first a b x xs node e n f = all-both a b (subst (Is a) (sym e) n) f

message-bring : {rows : Rows Place} {span : Span} {i : List Siblings} → Hold rows (span ∷ []) i → (kind : SiblingKind) → Hold rows (message_brings span kind) []
message-bring f AMessage = spans-only f
message-bring {rows} f _ = nothing rows

enum-bring : {rows : Rows Place} {span : Span} {i : List Siblings} → Hold rows (span ∷ []) i → (kind : SiblingKind) → Hold rows (enum_brings span kind) []
enum-bring f AnEnum = spans-only f
enum-bring {rows} f _ = nothing rows

pub enum-is : (x : t.Enum Place) → Is (s.enum x) (enum_node (ast.enum x))
enum-is x = record { node = enum-node x; bring = enum-bring (enum-node x).hold }

service-bring : {rows : Rows Place} {span : Span} {i : List Siblings} → Hold rows (span ∷ []) i → (kind : SiblingKind) → Hold rows (service_brings span kind) []
service-bring f AService = spans-only f
service-bring {rows} f _ = nothing rows

pub service-is : (x : t.Service Place) → Is (s.service x) (service_node (ast.service x))
service-is x = record { node = service-node x; bring = service-bring (service-node x).hold }

oneof-bring : {rows : Rows Place} {span : Span} {i : List Siblings} {fields : List Node} → Hold rows (span ∷ []) i → HoldAll rows fields → (kind : SiblingKind) → Hold rows (oneof_brings span fields kind) []
oneof-bring f g AField = g.bring AField
oneof-bring f g AMessage = g.bring AMessage
oneof-bring f g AOneof = spans-only f
oneof-bring {rows} f g _ = nothing rows

oneof-of : {rows : Rows Place} {span : Span} {i : List Siblings} {fields : List Node} → IsNode rows span i → HoldAll rows fields → Is rows (record { span = span; inside = i; brings = oneof_brings span fields })
oneof-of f g = record { node = f; bring = oneof-bring f.hold g }

extend-bring : {rows : Rows Place} {span : Span} {i : List Siblings} {fields : List Node} → Hold rows (span ∷ []) i → HoldAll rows fields → (kind : SiblingKind) → Hold rows (extend_brings span fields kind) []
extend-bring f g AMessage = g.bring AMessage
extend-bring f g AnExtend = spans-only f
extend-bring f g AnExtension = g.bring AField
extend-bring {rows} f g _ = nothing rows

extend-of : {rows : Rows Place} {span : Span} {i : List Siblings} {fields : List Node} → IsNode rows span i → HoldAll rows fields → Is rows (record { span = span; inside = i; brings = extend_brings span fields })
extend-of f g = record { node = f; bring = extend-bring f.hold g }

abbrev Layer : (Type 0 → Type 0 → Type 0 → Type 0 → Type 0 → Type 0 → Type 0 → Type 0) → Type 0
Layer F = F FieldKind MessageItem extend_type.Extend field_type.Field Message MessageBody oneof_type.Oneof

-- The node of a oneof and of an extend, by their parts.
oneof-made : (x : Layer Oneof-F) → of_oneof nodes (oneof_type.roll-Oneof x) ≡ nodes.oneof (record { name = x.name; options = x.options; fields = map (of_field nodes) x.fields; comments = x.comments; span = x.span })
oneof-made x = fold-roll-Oneof OfKind Node Node Node Node (Span → List Siblings) Node nodes.kind nodes.item nodes.extend nodes.field nodes.message nodes.body nodes.oneof x

extend-made : (x : Layer Extend-F) → of_extend nodes (extend_type.roll-Extend x) ≡ nodes.extend (record { extendee = x.extendee; fields = map (of_field nodes) x.fields; comments = x.comments; span = x.span })
extend-made x = fold-roll-Extend OfKind Node Node Node Node (Span → List Siblings) Node nodes.kind nodes.item nodes.extend nodes.field nodes.message nodes.body nodes.oneof x

mbody-end : (b : t.Mbody Place) → End (s.mbody b) (ast.body_close b).span.end
mbody-end (t.mbody_of o es c) = end-back (_ ∷ []) _ (end-back (s.elements es) _ (end-last _))

mutual
  pub message-is : (x : t.Message Place) → Is (s.message x) (of_message nodes (ast.message x))
  message-is (t.message_of k n b) =
      let span = ast.join k.span (ast.body_close b).span in
      let node : IsNode (s.message (t.message_of k n b)) span (siblings span (n.1.span ∷ []) ∷ of_body nodes (ast.mbody b) span) =
      subst (λ i. IsNode (s.message (t.message_of k n b)) span (siblings span (n.1.span ∷ []) ∷ i)) (append-nil (of_body nodes (ast.mbody b) span))
      (with-body (behind-back (_ ∷ _ ∷ []) _ (behind-all (s.mbody b)))
      (whole {rows = s.message (t.message_of k n b)} span (begin-first _ _) (end-back (_ ∷ _ ∷ []) _ (mbody-end b)) (past _ (token _ (nothing (s.mbody b))))) (body-is b))
      in
      subst (Is (s.message (t.message_of k n b))) (sym (message-gives nodes (ast.message (t.message_of k n b)))) (record { node = node; bring = message-bring node.hold })

  body-is : (b : t.Mbody Place) → InBody (s.mbody b) (of_body nodes (ast.mbody b))
  body-is (t.mbody_of o es c) =
      let items = items-hold es in
      subst (InBody (s.mbody (t.mbody_of o es c))) (sym (body-gives nodes (ast.mbody (t.mbody_of o es c))))
      (lists-body (kinds-lists (all-past _ (all-after (s.elements es) _ items))
      (more-lists (past _ (after (s.elements es) _ items.hold)) (more-lists (past _ (after (s.elements es) _ (options-hold es)))
      (more-lists (past _ (after (s.elements es) _ (extensions-hold es))) (more-lists (past _ (after (s.elements es) _ (extension_parts-hold es)))
      (reserved-lists (s.mbody (t.mbody_of o es c)) (ast.reserved_in es) (λ f h. past _ (after (s.elements es) _ (reserved_parts-hold f h es))) (past _ (after (s.elements es) _ (reserved-hold es))))))))))

  items-hold : (es : t.Elements Place) → HoldAll (s.elements es) (map (of_item nodes) (ast.items es))
  items-hold t.no_elements = all-none
  items-hold (t.elements (t.field x) es) = item-first (s.field x) (s.elements es) (item.Field (ast.field x)) (ast.items es) (of_field nodes (ast.field x)) (item-field nodes (ast.field x)) (field-is x) (items-hold es)
  items-hold (t.elements (t.oneof x) es) = item-first (s.oneof x) (s.elements es) (item.Oneof (ast.oneof x)) (ast.items es) (of_oneof nodes (ast.oneof x)) (item-oneof nodes (ast.oneof x)) (oneof-is x) (items-hold es)
  items-hold (t.elements (t.enum x) es) = item-first (s.enum x) (s.elements es) (item.Enum (ast.enum x)) (ast.items es) (enum_node (ast.enum x)) (item-enum nodes (ast.enum x)) (enum-is x) (items-hold es)
  items-hold (t.elements (t.message x) es) = item-first (s.message x) (s.elements es) (item.Message (ast.message x)) (ast.items es) (of_message nodes (ast.message x)) (item-message nodes (ast.message x)) (message-is x) (items-hold es)
  items-hold (t.elements (t.extend x) es) = item-first (s.extend x) (s.elements es) (item.Extend (ast.extend x)) (ast.items es) (of_extend nodes (ast.extend x)) (item-extend nodes (ast.extend x)) (extend-is x) (items-hold es)
  items-hold (t.elements (t.empty m) es) = all-past _ (items-hold es)
  items-hold (t.elements (t.option x) es) = all-before (s.option x) (s.elements es) (items-hold es)
  items-hold (t.elements (t.reserved x) es) = all-before (s.reserved x) (s.elements es) (items-hold es)
  items-hold (t.elements (t.extensions x) es) = all-before (s.extensions x) (s.elements es) (items-hold es)

  field-is : (x : t.Field Place) → Is (s.field x) (of_field nodes (ast.field x))
  field-is (t.field_of l (t.normal x)) = normal-is l x
  field-is (t.field_of l (t.map x)) = map-is l x
  field-is (t.field_of l (t.group (t.group_of k n e i o b))) = group-is l k n e i o b (body-is b) (mbody-end b)

  oneof-is : (x : t.Oneof Place) → Is (s.oneof x) (of_oneof nodes (ast.oneof x))
  oneof-is (t.oneof_of k n o es c) =
      let fields = all-past _ (all-past _ (all-past _ (all-after (s.oneof_elements es) (s.sign s.close_brace c) (oneof_fields-hold es)))) in
      subst (Is (s.oneof (t.oneof_of k n o es c))) (sym (oneof-made (record { name = ast.ident n; options = ast.oneof_options es; fields = ast.oneof_fields es; comments = ast.comments k o; span = ast.join k.span c.span })))
      (oneof-of (lists-node {rows = s.oneof (t.oneof_of k n o es c)} (ast.join k.span c.span) (begin-first _ _) (end-back (_ ∷ _ ∷ _ ∷ []) _ (end-back (s.oneof_elements es) _ (end-last _)))
      (more-lists (past _ (token _ (nothing _))) (more-lists (past _ (past _ (past _ (after (s.oneof_elements es) _ (oneof_options-hold es))))) (last-list fields.hold)))) fields)

  oneof_fields-hold : (es : t.OneofElements Place) → HoldAll (s.oneof_elements es) (map (of_field nodes) (ast.oneof_fields es))
  oneof_fields-hold t.no_oneof_elements = all-none
  oneof_fields-hold (t.oneof_elements (t.oneof_field x) es) = all-both (s.field x) (s.oneof_elements es) (field-is x) (oneof_fields-hold es)
  oneof_fields-hold (t.oneof_elements (t.oneof_empty m) es) = all-past _ (oneof_fields-hold es)
  oneof_fields-hold (t.oneof_elements (t.oneof_option x) es) = all-before (s.option x) (s.oneof_elements es) (oneof_fields-hold es)

  pub extend-is : (x : t.Extend Place) → Is (s.extend x) (of_extend nodes (ast.extend x))
  extend-is (t.extend_of k n o es c) =
      let fields = all-past _ (all-before (s.typename n) _ (all-past _ (all-after (s.extend_elements es) (s.sign s.close_brace c) (extend_fields-hold es)))) in
      subst (Is (s.extend (t.extend_of k n o es c))) (sym (extend-made (record { extendee = ast.typename n; fields = ast.extend_fields es; comments = ast.comments k o; span = ast.join k.span c.span })))
      (extend-of (lists-node {rows = s.extend (t.extend_of k n o es c)} (ast.join k.span c.span) (begin-first _ _) (end-back (_ ∷ []) _ (end-back (s.typename n) _ (end-back (_ ∷ []) _ (end-back (s.extend_elements es) _ (end-last _)))))
      (more-lists (past _ (after (s.typename n) _ (typename-hold n))) (last-list fields.hold))) fields)

  extend_fields-hold : (es : t.ExtendElements Place) → HoldAll (s.extend_elements es) (map (of_field nodes) (ast.extend_fields es))
  extend_fields-hold t.no_extend_elements = all-none
  extend_fields-hold (t.extend_elements (t.extend_field x) es) = all-both (s.field x) (s.extend_elements es) (field-is x) (extend_fields-hold es)
  extend_fields-hold (t.extend_elements (t.extend_empty m) es) = all-past _ (extend_fields-hold es)
