-- The checked parts of a file lie in each source in which the file stands.
use Rattle.std.proofs.Common.{ℕ, Bool, true, false, if◌then◌else◌, List, [], ◌∷◌, ◌++◌, map, flat_map, Option, Some, None, IfSome, codes, subst}
use Rattle.std.specs.Prelude.{find}
use Rattle.protox_fault.specs.Faults.{Span, SpanLiesIn}
use Rattle.protox_ast.specs.Keywords.{Each}
use Rattle.protox_ast.specs.Options.{OptionStatement, bodies_of, default_of, json_name_of, has_name, listed, options_left, without_first}
use Rattle.protox_ast.specs.Ranges.{kind_ranges}
use Rattle.protox_ast.specs.Siblings as places
use Rattle.protox_ast.specs.Siblings.{FileStands, Siblings, SiblingsStand, siblings, place_if_any, body_siblings, list_siblings, list_span, option_siblings, end_if_any, range_siblings, reserved_siblings, ident_spans, extensions_siblings, enum_value_siblings, enum_siblings, method_siblings, service_siblings, inside_all, file_node}
use Rattle.protox_ast.specs.Spans.{body_span, part_span, range_span, value_span}
use Rattle.protox_ast.specs.declared.ast.Enum.{Enum}
use Rattle.protox_ast.specs.declared.ast.EnumValue.{EnumValue}
use Rattle.protox_ast.specs.declared.ast.Extensions.{Extensions}
use Rattle.protox_ast.specs.declared.ast.FieldLabel.{FieldLabel}
use Rattle.protox_ast.specs.declared.ast.File.{File}
use Rattle.protox_ast.specs.declared.ast.FileItem.{FileItem}
use Rattle.protox_ast.specs.declared.ast.FileItem.TheVariants as item
use Rattle.protox_ast.specs.declared.ast.Ident.{Ident}
use Rattle.protox_ast.specs.declared.ast.Int.{Int}
use Rattle.protox_ast.specs.declared.ast.Method.{Method}
use Rattle.protox_ast.specs.declared.ast.OptionBody.{OptionBody}
use Rattle.protox_ast.specs.declared.ast.OptionList.{OptionList}
use Rattle.protox_ast.specs.declared.ast.Reserved.{Reserved}
use Rattle.protox_ast.specs.declared.ast.ReservedKind.{ReservedKind}
use Rattle.protox_ast.specs.declared.ast.ReservedKind.TheVariants as reserved_kinds
use Rattle.protox_ast.specs.declared.ast.ReservedRange.{ReservedRange}
use Rattle.protox_ast.specs.declared.ast.ReservedRangeEnd.{ReservedRangeEnd}
use Rattle.protox_ast.specs.declared.ast.ReservedRangeEnd.TheVariants as range_end
use Rattle.protox_ast.specs.declared.ast.Service.{Service}
use Rattle.protox_ast.proofs.Lemmas.{Keeps, Pairs, declarations-stand, each-append, each-back}
use Rattle.protox_ast.proofs.Lemmas.{each-front, each-lies, extend_has, message_has, spans-order}
use Rattle.protox_checks.specs.FieldFaults.{Scope, InMessage, InOneof, InExtend, KindNode, Map, FieldNode}
use Rattle.protox_checks.specs.Nodes.{Node, AMessageNumber, AnEnumNumber, AField, AJsonName, AnOption, AnEmptyOneof, option_nodes, json_name_nodes, end_nodes, range_nodes, reserved_nodes, extensions_nodes, enum_value_nodes, enum_nodes, method_nodes, service_nodes, fields_nodes, empty_nodes, node_steps, item_nodes, file_nodes}
use Rattle.protox_checks.proofs.NodeLevels.{kind_nodes, reserved-flat}

-- ---- lists

through : {A B C : Type 0} (P : B → Type 0) (Q : C → Type 0) (f : A → List B) (g : A → List C) → ((x : A) → Each P (f x) → Each Q (g x)) → (xs : List A) → Each P (flat_map f xs) → Each Q (flat_map g xs)
through P Q f g h [] e = tt
through P Q f g h (x ∷ xs) e =
    each-append Q (g x) (flat_map g xs) (h x (each-front P (f x) (flat_map f xs) e)) (through P Q f g h xs (each-back P (f x) (flat_map f xs) e))

first-found : {A : Type 0} (P : A → Type 0) (b : Bool) (x : A) (others : Option A) → P x → IfSome others P → IfSome (if b then Some x else others) P
first-found P true x others h k = h
first-found P false x others h k = k

-- If something holds of each element, it holds of the one that is found.
found : {A : Type 0} (P : A → Type 0) (test : A → Bool) (xs : List A) → Each P xs → IfSome (find test xs) P
found P test [] h = tt
found P test (x ∷ xs) h = first-found P (test x) x (find test xs) h.0 (found P test xs h.1)

first-left : (P : OptionBody → Type 0) (b : Bool) (xs ys : List OptionBody) → Each P xs → Each P ys → Each P (if b then xs else ys)
first-left P true xs ys h k = h
first-left P false xs ys h k = k

left : (P : OptionBody → Type 0) (name : List ℕ) (xs : List OptionBody) → Each P xs → Each P (without_first name xs)
left P name [] h = tt
left P name (x ∷ xs) h = first-left P (has_name name x) xs (x ∷ without_first name xs) h.1 (h.0, left P name xs h.1)

-- ---- parts that lie in a source of `size` bytes

module _ (n : ℕ) where
  -- an option, and its value
  abbrev pub OptionLies : OptionBody → Type 0
  OptionLies body = SpanLiesIn n (body_span body) × SpanLiesIn n (value_span body.value)

  abbrev pub LabelLies : FieldLabel × Span → Type 0
  LabelLies label = SpanLiesIn n label.1

  abbrev pub KindLies : KindNode → Type 0
  KindLies (Map key key_span) = SpanLiesIn n key_span
  KindLies kind = Unit {0}

  pub record FieldLies (f : FieldNode) : Type 0 where
    pub label : IfSome f.label LabelLies
    pub kind : KindLies f.kind
    pub default : IfSome f.default OptionLies
    pub span : SpanLiesIn n f.span

  abbrev pub NodeLies : Node → Type 0
  NodeLies (AMessageNumber int) = SpanLiesIn n int.span
  NodeLies (AnEnumNumber int) = SpanLiesIn n int.span
  NodeLies (AField scope field) = FieldLies field
  NodeLies (AJsonName value) = SpanLiesIn n (value_span value)
  NodeLies (AnOption value) = SpanLiesIn n (value_span value)
  NodeLies (AnEmptyOneof span) = SpanLiesIn n span

  abbrev Within : List Siblings → Type 0
  Within = Each (SiblingsStand 0 n)

  parent-lies : (whole : Span) (parts : List Span) → SiblingsStand 0 n (siblings whole parts) → SpanLiesIn n whole
  parent-lies whole parts h = (spans-order whole.start whole.end parts h.parts, h.to)

  parts-lie : (whole : Span) (parts : List Span) → SiblingsStand 0 n (siblings whole parts) → Each (SpanLiesIn n) parts
  parts-lie whole parts h = each-lies whole.start whole.end n parts h.to h.parts

  front : (xs ys : List Siblings) → Within (xs ++ ys) → Within xs
  front = each-front (SiblingsStand 0 n)

  back : (xs ys : List Siblings) → Within (xs ++ ys) → Within ys
  back = each-back (SiblingsStand 0 n)

  both : (xs ys : List Node) → Each NodeLies xs → Each NodeLies ys → Each NodeLies (xs ++ ys)
  both = each-append NodeLies

  -- ---- options

  body-lies : (x : OptionBody) → Within (body_siblings x) → OptionLies x
  body-lies x h =
      let parts = map part_span x.name ++ value_span x.value ∷ [] in
      (parent-lies (body_span x) parts h.0, (each-back (SpanLiesIn n) (map part_span x.name) (value_span x.value ∷ []) (parts-lie (body_span x) parts h.0)).0)

  bodies-lie : (xs : List OptionBody) → Within (flat_map body_siblings xs) → Each OptionLies xs
  bodies-lie [] h = tt
  bodies-lie (x ∷ xs) h = (body-lies x (front (body_siblings x) (flat_map body_siblings xs) h), bodies-lie xs (back (body_siblings x) (flat_map body_siblings xs) h))

  list-lies : (list : Option OptionList) → Within (list_siblings list) → Each OptionLies (listed list)
  list-lies None h = tt
  list-lies (Some list) h = bodies-lie list.options h.1

  options-lie : (xs : List OptionBody) → Each OptionLies xs → Each NodeLies (option_nodes xs)
  options-lie [] h = tt
  options-lie (x ∷ xs) h = (h.0.1, options-lie xs h.1)

  statements-lie : (xs : List OptionStatement) → Within (flat_map option_siblings xs) → Each NodeLies (option_nodes (bodies_of xs))
  statements-lie [] h = tt
  statements-lie (x ∷ xs) h =
      ((body-lies x.body (front (option_siblings x) (flat_map option_siblings xs) h).1).1, statements-lie xs (back (option_siblings x) (flat_map option_siblings xs) h))

  json_name-lies : (body : Option OptionBody) → IfSome body OptionLies → Each NodeLies (json_name_nodes body)
  json_name-lies None h = tt
  json_name-lies (Some body) h = (h.1, tt)

  -- ---- ranges

  module _ (node : Int → Node) (so : (int : Int) → SpanLiesIn n int.span → NodeLies (node int)) where
    end-lies : (end : ReservedRangeEnd) → Each (SpanLiesIn n) (end_if_any end) → Each NodeLies (end_nodes node end)
    end-lies range_end.None h = tt
    end-lies (range_end.Int int) h = (so int h.0, tt)
    end-lies (range_end.Max span) h = tt

    range-lies : (x : ReservedRange) → Within (range_siblings x) → Each NodeLies (range_nodes node x)
    range-lies x h = let parts = parts-lie (range_span x) (x.start.span ∷ end_if_any x.end) h.0 in (so x.start parts.0, end-lies x.end parts.1)

    abbrev siblings_of : Span → ReservedKind → List Siblings
    siblings_of span kind = elim kind as (λ _. List Siblings) [
      | reserved_kinds.Ranges ranges ↦ siblings span (map range_span ranges) ∷ flat_map range_siblings ranges
      | reserved_kinds.Names names ↦ siblings span (ident_spans names) ∷ []
    ]

    ranges-lie : (span : Span) (kind : ReservedKind) → Within (siblings_of span kind) → Each NodeLies (flat_map (range_nodes node) (kind_ranges kind))
    ranges-lie span (reserved_kinds.Ranges ranges) h = through (SiblingsStand 0 n) NodeLies range_siblings (range_nodes node) range-lies ranges h.1
    ranges-lie span (reserved_kinds.Names names) h = tt

    reserved-lie : (xs : List Reserved) → Within (flat_map reserved_siblings xs) → Each NodeLies (reserved_nodes node xs)
    reserved-lie xs h =
        subst (Each NodeLies) (reserved-flat node xs)
        (through (SiblingsStand 0 n) NodeLies reserved_siblings (kind_nodes node) (λ x k. ranges-lie x.span x.kind k) xs h)

  extensions-lie : (x : Extensions) → Within (extensions_siblings x) → Each NodeLies (extensions_nodes x)
  extensions-lie x h =
      let options = options-lie (listed x.options) (list-lies x.options (back (flat_map range_siblings x.ranges) (list_siblings x.options) h.1)) in
      through (SiblingsStand 0 n) NodeLies range_siblings (λ range. option_nodes (listed x.options) ++ range_nodes AMessageNumber range)
      (λ range k. both (option_nodes (listed x.options)) (range_nodes AMessageNumber range) options (range-lies AMessageNumber (λ int s. s) range k)) x.ranges
      (front (flat_map range_siblings x.ranges) (list_siblings x.options) h.1)

  -- ---- enums and services

  enum_value-lies : (x : EnumValue) → Within (enum_value_siblings x) → Each NodeLies (enum_value_nodes x)
  enum_value-lies x h = ((parts-lie x.span (x.name.span ∷ (x.number.span ∷ list_span x.options)) h.0).1.0, options-lie (listed x.options) (list-lies x.options h.1))

  enum-lies : (x : Enum) → Within (enum_siblings x) → Each NodeLies (enum_nodes x)
  enum-lies x h =
      let inside = h.1.1.1.1.1.1.1.1 in
      let behind = back (flat_map option_siblings x.options) (flat_map enum_value_siblings x.values ++ flat_map reserved_siblings x.reserved) inside in
      both (flat_map enum_value_nodes x.values) (reserved_nodes AnEnumNumber x.reserved ++ option_nodes (bodies_of x.options))
      (through (SiblingsStand 0 n) NodeLies enum_value_siblings enum_value_nodes enum_value-lies x.values (front (flat_map enum_value_siblings x.values) (flat_map reserved_siblings x.reserved) behind))
      (both (reserved_nodes AnEnumNumber x.reserved) (option_nodes (bodies_of x.options))
      (reserved-lie AnEnumNumber (λ int s. s) x.reserved (back (flat_map enum_value_siblings x.values) (flat_map reserved_siblings x.reserved) behind))
      (statements-lie x.options (front (flat_map option_siblings x.options) _ inside)))

  method-lies : (x : Method) → Within (method_siblings x) → Each NodeLies (method_nodes x)
  method-lies x h = statements-lie x.options h.1.1

  service-lies : (x : Service) → Within (service_siblings x) → Each NodeLies (service_nodes x)
  service-lies x h =
      both (flat_map method_nodes x.methods) (option_nodes (bodies_of x.options))
      (through (SiblingsStand 0 n) NodeLies method_siblings method_nodes method-lies x.methods (back (flat_map option_siblings x.options) (flat_map method_siblings x.methods) h.1.1.1))
      (statements-lie x.options (front (flat_map option_siblings x.options) (flat_map method_siblings x.methods) h.1.1.1))

  -- ---- the levels of a tree

  -- The checked parts of a node lie in the source if the parts in the node stand there.
  abbrev Lie : List Node → places.Node → Type 0
  Lie nodes place = Within place.inside → Each NodeLies nodes

  abbrev FieldLie : (Scope → List Node) → places.Node → Type 0
  FieldLie field place = Within place.inside → (scope : Scope) → Each NodeLies (field scope)

  abbrev KindLie : KindNode × List Node → places.OfKind → Type 0
  KindLie kind place = (whole : Span) → Within (place.inside whole) → KindLies kind.0 × Each NodeLies kind.1

  abbrev BodyLie : List Node → (Span → List Siblings) → Type 0
  BodyLie nodes inside = (whole : Span) → Within (inside whole) → Each NodeLies nodes

  items-lie : (items : List (List Node)) (ns : List places.Node) → Pairs Lie items ns → Within (inside_all ns) → Each NodeLies (flat_map (λ nodes. nodes) items)
  items-lie [] [] p h = tt
  items-lie [] (x ∷ ns) p h = absurd p
  items-lie (i ∷ is) [] p h = absurd p
  items-lie (i ∷ is) (x ∷ ns) p h = both i (flat_map (λ nodes. nodes) is) (p.0 (front x.inside (inside_all ns) h)) (items-lie is ns p.1 (back x.inside (inside_all ns) h))

  fields-lie : (scope : Scope) (fields : List (Scope → List Node)) (ns : List places.Node) → Pairs FieldLie fields ns → Within (inside_all ns) → Each NodeLies (fields_nodes scope fields)
  fields-lie scope [] [] p h = tt
  fields-lie scope [] (x ∷ ns) p h = absurd p
  fields-lie scope (f ∷ fs) [] p h = absurd p
  fields-lie scope (f ∷ fs) (x ∷ ns) p h = both (f scope) (fields_nodes scope fs) (p.0 (front x.inside (inside_all ns) h) scope) (fields-lie scope fs ns p.1 (back x.inside (inside_all ns) h))

  empty-lies : {A : Type 0} (xs : List A) (span : Span) → SpanLiesIn n span → Each NodeLies (empty_nodes xs span)
  empty-lies [] span h = (h, tt)
  empty-lies (x ∷ xs) span h = tt

  label-lies : (label : Option (FieldLabel × Span)) → Each (SpanLiesIn n) (place_if_any label) → IfSome label LabelLies
  label-lies None h = tt
  label-lies (Some label) h = h.0

  field-lies : (label : Option (FieldLabel × Span)) (name : Ident) (kind : KindNode × List Node) (place : places.OfKind) (number : Int) (options : Option OptionList) (span : Span) → KindLie kind place
      → SiblingsStand 0 n (siblings span (place_if_any label ++ (place.type ∷ (name.span ∷ (number.span ∷ list_span options))))) → Within (place.inside span ++ list_siblings options)
      → (scope : Scope) → Each NodeLies (AMessageNumber number ∷ AField scope (record { label = label; kind = kind.0; default = default_of options; span = span }) ∷ (kind.1 ++ (json_name_nodes (json_name_of options) ++ option_nodes (options_left options))))
  field-lies label name kind place number options span h own inside scope =
      let behind = place.type ∷ (name.span ∷ (number.span ∷ list_span options)) in
      let parts = parts-lie span (place_if_any label ++ behind) own in
      let of-kind = h span (front (place.inside span) (list_siblings options) inside) in
      let list = list-lies options (back (place.inside span) (list_siblings options) inside) in (
        (each-back (SpanLiesIn n) (place_if_any label) behind parts).1.1.0,
        (
          record {
            label = label-lies label (each-front (SpanLiesIn n) (place_if_any label) behind parts);
            kind = of-kind.0;
            default = found OptionLies (has_name (codes "default")) (listed options) list;
            span = parent-lies span (place_if_any label ++ behind) own;
          },
          both kind.1 (json_name_nodes (json_name_of options) ++ option_nodes (options_left options)) of-kind.1
              (both (json_name_nodes (json_name_of options)) (option_nodes (options_left options))
              (json_name-lies (json_name_of options) (found OptionLies (has_name (codes "json_name")) (listed options) list))
              (options-lie (options_left options) (left OptionLies (codes "json_name") (without_first (codes "default") (listed options)) (left OptionLies (codes "default") (listed options) list)))),
        ),
      )

  aside-lies : (extensions : List Extensions) (options : List OptionStatement) (reserved : List Reserved)
      → Within (flat_map option_siblings options ++ (flat_map extensions_siblings extensions ++ flat_map reserved_siblings reserved))
      → Each NodeLies (reserved_nodes AMessageNumber reserved ++ (flat_map extensions_nodes extensions ++ option_nodes (bodies_of options)))
  aside-lies extensions options reserved h =
      let behind = back (flat_map option_siblings options) (flat_map extensions_siblings extensions ++ flat_map reserved_siblings reserved) h in
      both (reserved_nodes AMessageNumber reserved) (flat_map extensions_nodes extensions ++ option_nodes (bodies_of options))
      (reserved-lie AMessageNumber (λ int s. s) reserved (back (flat_map extensions_siblings extensions) (flat_map reserved_siblings reserved) behind))
      (both (flat_map extensions_nodes extensions) (option_nodes (bodies_of options))
      (through (SiblingsStand 0 n) NodeLies extensions_siblings extensions_nodes extensions-lie extensions (front (flat_map extensions_siblings extensions) (flat_map reserved_siblings reserved) behind))
      (statements-lie options (front (flat_map option_siblings options) (flat_map extensions_siblings extensions ++ flat_map reserved_siblings reserved) h)))

  all-keep : Keeps KindLie Lie Lie FieldLie Lie BodyLie Lie node_steps places.nodes
  all-keep = record {
    normal = λ type span whole h. (tt, tt);
    group = λ span b place h whole k. (tt, h whole k);
    a_map = λ span key key_span value value_span whole h. ((parts-lie span (key_span ∷ (value_span ∷ [])) h.0).0, tt);
    item_field = λ x place h k. h k InMessage;
    item_message = λ x place h. h;
    item_oneof = λ x place h. h;
    item_extend = λ x place h. h;
    item_enum = enum-lies;
    extend = λ extendee fields ns comments span p h. fields-lie InExtend fields ns p h.1.1;
    field = λ label name kind place number options comments span k h scope. field-lies label name kind place number options span k h.0 h.1 scope;
    message = λ name b place comments span k h. k span h.1;
    body = λ items ns extensions options reserved p whole h.
        let inside = h.1.1.1.1.1.1.1.1.1.1.1.1.1.1.1.1 in
        both (flat_map (λ nodes. nodes) items) _ (items-lie items ns p (front (inside_all ns) _ inside)) (aside-lies extensions options reserved (back (inside_all ns) _ inside));
    oneof = λ name options fields ns comments span p h.
        let inside = h.1.1.1 in
        both (option_nodes (bodies_of options)) (empty_nodes fields span ++ fields_nodes InOneof fields) (statements-lie options (front (flat_map option_siblings options) (inside_all ns) inside))
        (both (empty_nodes fields span) (fields_nodes InOneof fields) (empty-lies fields span (parent-lies span (name.span ∷ []) h.0)) (fields-lie InOneof fields ns p (back (flat_map option_siblings options) (inside_all ns) inside)));
  }

  -- ---- a file

  item-lies : (x : FileItem) → Within (file_node x).inside → Each NodeLies (item_nodes x)
  item-lies (item.Enum x) h = enum-lies x h
  item-lies (item.Message x) h = message_has KindLie Lie Lie FieldLie Lie BodyLie Lie node_steps places.nodes all-keep x h
  item-lies (item.Extend x) h = extend_has KindLie Lie Lie FieldLie Lie BodyLie Lie node_steps places.nodes all-keep x h
  item-lies (item.Service x) h = service-lies x h

  file_items-lie : (xs : List FileItem) → Within (inside_all (map file_node xs)) → Each NodeLies (flat_map item_nodes xs)
  file_items-lie [] h = tt
  file_items-lie (x ∷ xs) h =
      both (item_nodes x) (flat_map item_nodes xs) (item-lies x (front (file_node x).inside (inside_all (map file_node xs)) h)) (file_items-lie xs (back (file_node x).inside (inside_all (map file_node xs)) h))

  pub nodes-lie : (file : File) → FileStands n file → Each NodeLies (file_nodes file)
  nodes-lie file h =
      let parts = declarations-stand n file h in
      both (flat_map item_nodes file.items) (option_nodes (bodies_of file.options)) (file_items-lie file.items parts.in_items) (statements-lie file.options parts.in_options)
