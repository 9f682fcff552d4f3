-- The locations of messages and of a file: those whose paths lead to a name stand at that name.
use Rattle.std.proofs.Common.{◌≡◌, ℕ, false, List, [], ◌∷◌, ◌++◌, map, flat_map, Option, Some, None, refl, sym, ap, subst}
use Rattle.std.specs.Prelude.{ℤ, pos, if◌then◌else◌}
use Rattle.std.specs.Ordering.{int_eq}
use Rattle.protox_ast.specs.Basics.{Each}
use Rattle.protox_ast.specs.Options.{OptionStatement}
use Rattle.protox_ast.specs.declared.ast.Comments.{Comments}
use Rattle.protox_ast.specs.declared.ast.Extensions.{Extensions}
use Rattle.protox_ast.specs.declared.ast.Ident.{Ident}
use Rattle.protox_ast.specs.declared.ast.Reserved.{Reserved}
use Rattle.protox_ast.specs.declared.ast.Syntax.{Syntax}
use Rattle.protox_ast.specs.declared.ast.TypeName.{TypeName}
use Rattle.protox_describe.specs.Descriptor.{Gives, Item, OneofGives, descriptor_steps, enums_of, extensions_of, fields_of, is_oneof, nested_of, oneofs_of, synthetic_of}
use Rattle.protox_describe.specs.Fields.{Parts, message_proto}
use Rattle.protox_describe.specs.Siblings.{count, each_after}
use Rattle.protox_descriptor.specs.declared.descriptor.DescriptorProto.{DescriptorProto}
use Rattle.protox_descriptor.specs.declared.descriptor.DescriptorProto.TheFolds.{fold-roll-DescriptorProto}
use Rattle.protox_descriptor.specs.FieldDescriptorProto.{FieldDescriptorProto}
use Rattle.protox_descriptor.specs.declared.descriptor.source_code_info.Location.{Location}
use Rattle.protox_fault.specs.Faults.{Span}
use Rattle.protox_generate.proofs.Leads.{Fits, Fronts, Leads, a-name, all-fronts, alone, apart, each-both, extensions-start, fronts, leaf, names-start, options-start, ranges-start, siblings}
use Rattle.protox_generate.proofs.NamedParts.{Spelled}
use Rattle.protox_generate.specs.Names.{Lookup, Written, in_enum, in_field, in_message, in_oneof as oneof_lookup, message_step}
use Rattle.protox_ast.proofs.Lemmas.{Pairs}
use Rattle.protox_locate.specs.FieldLocations.{OfField, group_locations}
use Rattle.protox_places.specs.Lines.{span_numbers}
use Rattle.protox_locate.specs.LocationWords.{Path, Part, part, each_at}
use Rattle.protox_locate.specs.Locations.{OfExtend, OfItem, OfOneof as LocatedOneof, location_steps}

-- ---- lists of pairs

pub pairs-both : {A B : Type 0} (P : A → B → Type 0) (xs xs' : List A) (ys ys' : List B) → Pairs P xs ys → Pairs P xs' ys' → Pairs P (xs ++ xs') (ys ++ ys')
pairs-both P [] xs' [] ys' h k = k
pairs-both P [] xs' (y ∷ ys) ys' h k = absurd h
pairs-both P (x ∷ xs) xs' [] ys' h k = absurd h
pairs-both P (x ∷ xs) xs' (y ∷ ys) ys' h k = (h.0, pairs-both P xs xs' ys ys' h.1 k)

-- the parts that the elements of paired lists bring are paired
pub pairs-flat : {A B C D : Type 0} (Q : A → B → Type 0) (P : C → D → Type 0) (f : A → List C) (g : B → List D) → ((a : A) (b : B) → Q a b → Pairs P (f a) (g b)) → (xs : List A) (ys : List B) → Pairs Q xs ys
    → Pairs P (flat_map f xs) (flat_map g ys)
pairs-flat Q P f g h [] [] k = tt
pairs-flat Q P f g h [] (y ∷ ys) k = absurd k
pairs-flat Q P f g h (x ∷ xs) [] k = absurd k
pairs-flat Q P f g h (x ∷ xs) (y ∷ ys) k = pairs-both P (f x) (flat_map f xs) (g y) (flat_map g ys) (h x y k.0) (pairs-flat Q P f g h xs ys k.1)

pub pairs-map : {A B C D : Type 0} (Q : A → B → Type 0) (P : C → D → Type 0) (f : A → C) (g : B → D) → ((a : A) (b : B) → Q a b → P (f a) (g b)) → (xs : List A) (ys : List B) → Pairs Q xs ys → Pairs P (map f xs) (map g ys)
pairs-map Q P f g h [] [] k = tt
pairs-map Q P f g h [] (y ∷ ys) k = absurd k
pairs-map Q P f g h (x ∷ xs) [] k = absurd k
pairs-map Q P f g h (x ∷ xs) (y ∷ ys) k = (h x y k.0, pairs-map Q P f g h xs ys k.1)

-- at its path alone
abbrev pub BlockAt : Part → Type 0
BlockAt at = (path : Path) → Each (λ (l : Location). l.path ≡ path) (at path)

module _ (source : List ℕ) where
  abbrev numbers : Span → List ℤ
  numbers = span_numbers source

  abbrev pub MessageAt : DescriptorProto → Part → Type 0
  MessageAt m = Fits source (in_message m)

  abbrev pub FieldAt : FieldDescriptorProto → Part → Type 0
  FieldAt f = Fits source (in_field f)

  -- ---- messages

  -- what paths lead to in a message of these parts
  abbrev look_in : List ℕ → Parts → Lookup
  look_in name parts = message_step (record {
    name = Some name;
    field = parts.field;
    extension = parts.extension;
    nested_type = map in_message parts.nested;
    enum_type = parts.enum;
    extension_range = parts.extension_range;
    oneof_decl = parts.oneof;
    options = parts.options;
    reserved_range = parts.reserved_range;
    reserved_name = parts.reserved_name;
  })

  look-in : (name : List ℕ) (parts : Parts) → in_message (message_proto name parts) ≡ look_in name parts
  look-in name parts = fold-roll-DescriptorProto Lookup message_step (record {
    name = Some name;
    field = parts.field;
    extension = parts.extension;
    nested_type = parts.nested;
    enum_type = parts.enum;
    extension_range = parts.extension_range;
    oneof_decl = parts.oneof;
    options = parts.options;
    reserved_range = parts.reserved_range;
    reserved_name = parts.reserved_name;
  })

  -- locations that stand apart from the name
  abbrev pub BodyFits : Parts → Part → Type 0
  BodyFits parts b = (name : List ℕ) → Fits source (look_in name parts) b

  pub message-fits : (ident : Ident) (comments : Comments) (span : Span) (parts : Parts) (b : Part) → Spelled source ident → BodyFits parts b
      → MessageAt (message_proto ident.value parts) (group_locations numbers ident comments span b)
  message-fits ident comments span parts b spelled body path =
      let look = look_in ident.value parts in
      subst (λ look. Each (Leads source look path) (group_locations numbers ident comments span b path)) (sym (look-in ident.value parts))
      (alone source look path _ refl refl, (a-name source look path ident (Written ident.value) refl spelled (λ text e. e), body ident.value path))

  -- ---- fields

  pub record FieldFits (g : Gives) (f : OfField) : Type 0 where
    pub own_at : (extendee : Option TypeName) → FieldAt g.field (f.own extendee)
    pub messages : Pairs MessageAt g.nested f.messages

  pub record ItemFits (i : Item) (o : OfItem) : Type 0 where
    pub fields : (others : ℕ) (before : List Item) → Pairs FieldAt (fields_of others before i) o.fields
    pub messages : Pairs MessageAt (nested_of i) o.messages
    pub enums : Pairs (λ e. Fits source (in_enum e)) (enums_of i) o.enums
    pub extensions : Pairs FieldAt (extensions_of i) o.extensions
    pub oneofs : Pairs (λ o. Fits source (oneof_lookup o)) (oneofs_of i) o.oneofs
    pub blocks : Each BlockAt o.blocks

  pub record ExtendFits (e : List Gives) (o : OfExtend) : Type 0 where
    pub block : BlockAt o.block
    pub extensions : Pairs FieldAt (map (λ g. g.field) e) o.extensions
    pub messages : Pairs MessageAt (flat_map (λ g. g.nested) e) o.messages

  pub record OneofFits (g : OneofGives) (o : LocatedOneof) : Type 0 where
    pub own_at : Fits source (oneof_lookup g.oneof) o.own
    pub fields : Pairs FieldFits g.fields o.fields

  -- ---- bodies

  item-fields : (others : ℕ) (before items : List Item) (os : List OfItem) → Pairs ItemFits items os → Pairs FieldAt (each_after (fields_of others) before items) (flat_map (λ o. o.fields) os)
  item-fields others before [] [] h = tt
  item-fields others before [] (o ∷ os) h = absurd h
  item-fields others before (i ∷ is) [] h = absurd h
  item-fields others before (i ∷ is) (o ∷ os) h =
      pairs-both FieldAt (fields_of others before i) _ o.fields (flat_map (λ o. o.fields) os) (h.0.fields others before) (item-fields others (before ++ i ∷ []) is os h.1)

  item-blocks : (items : List Item) (os : List OfItem) → Pairs ItemFits items os → Each BlockAt (flat_map (λ o. o.blocks) os)
  item-blocks [] [] h = tt
  item-blocks [] (o ∷ os) h = absurd h
  item-blocks (i ∷ is) [] h = absurd h
  item-blocks (i ∷ is) (o ∷ os) h = each-both BlockAt o.blocks (flat_map (λ o. o.blocks) os) h.0.blocks (item-blocks is os h.1)

  pub blocks-row : (look : Lookup) (path : Path) (tag : ℤ) (ats : List Part) → look (tag ∷ []) ≡ None → Each BlockAt ats → Each (Leads source look path) (each_at (part path tag) ats)
  blocks-row look path tag [] e h = tt
  blocks-row look path tag (at ∷ ats) e h =
      each-both (Leads source look path) (at (part path tag)) (each_at (part path tag) ats) (own-row (at (part path tag)) (h.0 (part path tag))) (blocks-row look path tag ats e h.1)
    where
      own-row : (ls : List Location) → Each (λ (l : Location). l.path ≡ part path tag) ls → Each (Leads source look path) ls
      own-row [] h = tt
      own-row (l ∷ ls) h = (leaf source look path tag l e h.0, own-row ls h.1)

  nested-fronts : (ms : List DescriptorProto) (ats : List Part) → Pairs MessageAt ms ats → Fronts (λ (inner : Lookup). Fits source inner) (map in_message ms) ats
  nested-fronts [] [] h = tt
  nested-fronts [] (at ∷ ats) h = absurd h
  nested-fronts (m ∷ ms) [] h = absurd h
  nested-fronts (m ∷ ms) (at ∷ ats) h = (h.0, nested-fronts ms ats h.1)

  apart-in : (name : List ℕ) (parts : Parts) (tag : ℤ) → int_eq tag (pos 1) ≡ false → ((place : ℤ) (rest : Path) → look_in name parts (tag ∷ place ∷ rest) ≡ None) → (rest : Path) → look_in name parts (tag ∷ rest) ≡ None
  apart-in name parts tag e more [] = ap (λ b. if b then Some (Written name) else None) e
  apart-in name parts tag e more (place ∷ rest) = more place rest

  pub body-fits : (syntax : Syntax) (items : List Item) (os : List OfItem) (extensions : List Extensions) (options : List OptionStatement) (reserved : List Reserved) → Pairs ItemFits items os
      → BodyFits ((descriptor_steps syntax).body (record { items = items; extensions = extensions; options = options; reserved = reserved }))
      ((location_steps numbers).body (record { items = os; extensions = extensions; options = options; reserved = reserved }))
  body-fits syntax items os extensions options reserved h name path =
      let parts = (descriptor_steps syntax).body (record { items = items; extensions = extensions; options = options; reserved = reserved }) in
      let look = look_in name parts in
      let P = Leads source look path in
      each-both P _ _ (siblings source in_field look (pos 2) parts.field _ (λ place rest. refl) (all-fronts _ _ _ (item-fields (count is_oneof items) [] items os h)) path)
      (each-both P _ _
      (siblings source (λ inner. inner) look (pos 3) (map in_message parts.nested) _ (λ place rest. refl) (nested-fronts parts.nested _ (pairs-flat ItemFits MessageAt nested_of (λ o. o.messages) (λ i o f. f.messages) items os h)) path)
      (each-both P _ _
      (siblings source in_enum look (pos 4) parts.enum _ (λ place rest. refl) (all-fronts _ _ _ (pairs-flat ItemFits _ enums_of (λ o. o.enums) (λ i o f. f.enums) items os h)) path)
      (each-both P _ _ (apart source look path (pos 5) _ (apart-in name parts (pos 5) refl (λ place rest. refl)) (extensions-start numbers path extensions))
      (each-both P _ _ (blocks-row look path (pos 6) _ refl (item-blocks items os h))
      (each-both P _ _
      (siblings source in_field look (pos 6) parts.extension _ (λ place rest. refl) (all-fronts _ _ _ (pairs-flat ItemFits FieldAt extensions_of (λ o. o.extensions) (λ i o f. f.extensions) items os h)) path)
      (each-both P _ _ (apart source look path (pos 7) _ (apart-in name parts (pos 7) refl (λ place rest. refl)) (options-start numbers options (part path (pos 7))))
      (each-both P _ _
      (siblings source oneof_lookup look (pos 8) parts.oneof _ (λ place rest. refl) (fronts _ (flat_map oneofs_of items) (flat_map synthetic_of items) _ (pairs-flat ItemFits _ oneofs_of (λ o. o.oneofs) (λ i o f. f.oneofs) items os h)) path)
      (each-both P _ _ (apart source look path (pos 9) _ (apart-in name parts (pos 9) refl (λ place rest. refl)) (ranges-start numbers path (pos 9) reserved))
      (apart source look path (pos 10) _ (apart-in name parts (pos 10) refl (λ place rest. refl)) (names-start numbers path (pos 10) reserved))))))))))
