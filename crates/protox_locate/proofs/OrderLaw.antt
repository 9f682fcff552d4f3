-- The locations of a file are in order.
use Rattle.std.proofs.Common.{◌≡◌, ℕ, ◌<◌, ◌≤◌, List, [], ◌∷◌, ◌++◌, map, flat_map, Option, Some, None, refl, sym, arith, append_assoc, append-nil, subst}
use Rattle.std.specs.Prelude.{ℤ, pos}
use Rattle.protox_fault.specs.Faults.{Span}
use Rattle.protox_ast.specs.Basics.{Each}
use Rattle.protox_ast.specs.Names.{type_name_span}
use Rattle.protox_ast.specs.Options.{default_of, json_name_of, listed, options_left}
use Rattle.protox_ast.specs.Siblings as places
use Rattle.protox_ast.specs.Siblings.{Siblings, Node, AnExtend}
use Rattle.protox_ast.specs.Steps.{of_extend, of_message}
use Rattle.protox_ast.specs.declared.ast.Comments.{Comments}
use Rattle.protox_ast.specs.declared.ast.Extend.{Extend}
use Rattle.protox_ast.specs.declared.ast.Extensions.{Extensions}
use Rattle.protox_ast.specs.declared.ast.FieldLabel.{FieldLabel}
use Rattle.protox_ast.specs.declared.ast.File.{File}
use Rattle.protox_ast.specs.declared.ast.FileItem.{FileItem}
use Rattle.protox_ast.specs.declared.ast.FileItem.TheVariants as item
use Rattle.protox_ast.specs.declared.ast.Ident.{Ident}
use Rattle.protox_ast.specs.declared.ast.Import.{Import}
use Rattle.protox_ast.specs.declared.ast.ImportKind.{ImportKind}
use Rattle.protox_ast.specs.declared.ast.ImportKind.TheVariants as import_kind
use Rattle.protox_ast.specs.declared.ast.Int.{Int}
use Rattle.protox_ast.specs.declared.ast.Message.{Message}
use Rattle.protox_ast.specs.declared.ast.Option as option_type
use Rattle.protox_ast.specs.declared.ast.OptionBody.{OptionBody}
use Rattle.protox_ast.specs.declared.ast.OptionList.{OptionList}
use Rattle.protox_ast.specs.declared.ast.Package.{Package}
use Rattle.protox_ast.specs.declared.ast.Reserved.{Reserved}
use Rattle.protox_ast.specs.declared.ast.Ty.{Ty}
use Rattle.protox_ast.specs.declared.ast.Ty.TheVariants as ty
use Rattle.protox_ast.specs.declared.ast.TypeName.{TypeName}
use Rattle.protox_descriptor.specs.declared.descriptor.source_code_info.Location.{Location}
use Rattle.protox_locate.specs.FieldLocations.{OfField, OfKind, Normal, Group, Map, defaulted, extended, from_number, group_locations, itself, json_named, label_locations, labelled, type_tag_of, typed, brought}
use Rattle.protox_locate.specs.LocationWords.{Path, Part, part, each_at, numbered, siblings_at, commented, bare, option_list, option_statements, range_statements, name_statements, extensions_statements}
use Rattle.protox_locate.specs.Locations.{OfExtend, OfItem, OfOneof, file_at, file_from_blocks, from_blocks, import_locations, item_blocks, item_enums, item_extensions, item_messages, item_services, location_steps, package_locations, public_words, weak_words, syntax_locations}
use Rattle.protox_ast.proofs.Lemmas.{Keeps, Pairs, extend_has, message_has}
use Rattle.protox_locate.proofs.Order.{Run, Good, each_both, none, joined, leaf, statements, and_siblings, all_at, node}
use Rattle.protox_locate.proofs.Rows.{RiseBy, Standing, AllStood, stood_both, commented_stood, at_one, one, commented_good, bare_good, list_row, options_row, ranges_row, names_row, extensions_row, each_flat, each_map, skip, rises, each_stands, enum_good, service_good, json_at}

module _ (numbers : Span → List ℤ) (Same : Location → Location → Type 0) (Later : ℕ → ℕ → Type 0)
    (so : (a b : Location) (x y : Span) → a.span ≡ numbers x → b.span ≡ numbers y → Later x.start y.start → Same a b)
    (Stands : List Siblings → Type 0) (standing : Standing Later Stands) where
  abbrev Fine : Part → Type 0
  Fine = Good Same

  abbrev Row : Path → ℕ → ℕ → List Location → Type 0
  Row = Run Same

  abbrev BodyFine : Part → Type 0
  BodyFine b = (path : Path) → Row path 2 11 (b path)

  -- ---- fields

  record FieldFine (f : OfField) : Type 0 where
    pub own : (extendee : Option TypeName) → Fine (f.own extendee)
    pub messages : Each Fine f.messages

  abbrev KindFine : OfKind → places.OfKind → Type 0
  KindFine (Normal type span) k = Unit {0}
  KindFine (Group word body) k = (whole : Span) → Stands (k.inside whole) → BodyFine body
  KindFine (Map span) k = Unit {0}

  at-tag : (path : Path) (t : ℕ) (span : Span) → 5 ≤ t → t < 7 → Row path 5 7 (bare numbers (part path (pos t)) span ∷ [])
  at-tag path t span a b = one numbers Same Later so path t 5 7 span a b

  type-row : (path : Path) (type : Ty) (span : Span) → Row path 5 7 (bare numbers (part path (type_tag_of type)) span ∷ [])
  type-row path ty.Double span = at-tag path 5 span (omega arith) (omega arith)
  type-row path ty.Float span = at-tag path 5 span (omega arith) (omega arith)
  type-row path ty.Int32 span = at-tag path 5 span (omega arith) (omega arith)
  type-row path ty.Int64 span = at-tag path 5 span (omega arith) (omega arith)
  type-row path ty.Uint32 span = at-tag path 5 span (omega arith) (omega arith)
  type-row path ty.Uint64 span = at-tag path 5 span (omega arith) (omega arith)
  type-row path ty.Sint32 span = at-tag path 5 span (omega arith) (omega arith)
  type-row path ty.Sint64 span = at-tag path 5 span (omega arith) (omega arith)
  type-row path ty.Fixed32 span = at-tag path 5 span (omega arith) (omega arith)
  type-row path ty.Fixed64 span = at-tag path 5 span (omega arith) (omega arith)
  type-row path ty.Sfixed32 span = at-tag path 5 span (omega arith) (omega arith)
  type-row path ty.Sfixed64 span = at-tag path 5 span (omega arith) (omega arith)
  type-row path ty.Bool span = at-tag path 5 span (omega arith) (omega arith)
  type-row path ty.String span = at-tag path 5 span (omega arith) (omega arith)
  type-row path ty.Bytes span = at-tag path 5 span (omega arith) (omega arith)
  type-row path (ty.Named name) span = at-tag path 6 span (omega arith) (omega arith)

  typed-row : (path : Path) (name : Ident) (kind : OfKind) → Row path 5 7 (typed numbers path name kind)
  typed-row path name (Normal type span) = type-row path type span
  typed-row path name (Group word body) =
      joined Same path 5 6 7 (bare numbers (part path (pos 5)) word ∷ []) (bare numbers (part path (pos 6)) name.span ∷ []) (one numbers Same Later so path 5 5 6 word (omega arith) (omega arith))
      (one numbers Same Later so path 6 6 7 name.span (omega arith) (omega arith))
  typed-row path name (Map span) = at-tag path 6 span (omega arith) (omega arith)

  label-row : (path : Path) (label : Option (FieldLabel × Span)) → Row path 4 5 (label_locations numbers path label)
  label-row path None = none Same path 4 5 (omega arith)
  label-row path (Some label) = one numbers Same Later so path 4 4 5 label.1 (omega arith) (omega arith)

  labelled-row : (path : Path) (label : Option (FieldLabel × Span)) (kind : OfKind) → Row path 4 5 (labelled numbers path label kind)
  labelled-row path label (Normal type span) = label-row path label
  labelled-row path label (Group word body) = label-row path label
  labelled-row path label (Map span) = none Same path 4 5 (omega arith)

  extended-row : (path : Path) (extendee : Option TypeName) → Row path 2 3 (extended numbers path extendee)
  extended-row path None = none Same path 2 3 (omega arith)
  extended-row path (Some name) = one numbers Same Later so path 2 2 3 (type_name_span name) (omega arith) (omega arith)

  default-row : (path : Path) (body : Option OptionBody) → Row path 7 8 (defaulted numbers path body)
  default-row path None = none Same path 7 8 (omega arith)
  default-row path (Some body) = one numbers Same Later so path 7 7 8 _ (omega arith) (omega arith)

  json-stands : (options : Option OptionList) → Stands (places.list_siblings options) → Each (λ b. Stands (places.body_siblings b)) (listed options)
  json-stands None h = tt
  json-stands (Some list) h = each_stands numbers Same Later so Stands standing places.body_siblings list.options (skip numbers Same Later so Stands standing h)

  json-row : (path : Path) (options : Option OptionList) → Stands (places.list_siblings options) → Row path 10 11 (json_named numbers path (json_name_of options))
  json-row path options h =
      subst (Row path 10 11) (append-nil (json_named numbers path (json_name_of options)))
      (statements Same path 10 0 0 10 11 (json_named numbers path (json_name_of options)) [] (json_at numbers Same Later so Stands standing path (listed options) (json-stands options h)) (none Same (part path (pos 10)) 0 0 (omega arith)) (omega arith) (omega arith))

  number-row : (path : Path) (number : Int) (label : Option (FieldLabel × Span)) (name : Ident) (kind : OfKind) (options : Option OptionList) → Stands (places.list_siblings options)
      → Row path 3 11 (from_number numbers path number label name kind options)
  number-row path number label name kind options h =
      joined Same path 3 4 11 (bare numbers (part path (pos 3)) number.span ∷ []) _ (one numbers Same Later so path 3 3 4 number.span (omega arith) (omega arith))
      (joined Same path 4 5 11 (labelled numbers path label kind) _ (labelled-row path label kind)
      (joined Same path 5 7 11 (typed numbers path name kind) _ (typed-row path name kind)
      (joined Same path 7 8 11 (defaulted numbers path (default_of options)) _ (default-row path (default_of options))
      (joined Same path 8 10 11 (option_list numbers (part path (pos 8)) options (options_left options)) (json_named numbers path (json_name_of options)) (list_row numbers Same Later so path 8 8 10 options (options_left options) (omega arith) (omega arith))
      (json-row path options h)))))

  at-path : (path : Path) (span : Span) (comments : Comments) (kind : OfKind) → (itself numbers path span comments kind).path ≡ path
  at-path path span comments (Normal type s) = refl
  at-path path span comments (Group word body) = refl
  at-path path span comments (Map s) = refl

  -- a message or a group: its name, and its body
  named : (name : Ident) (comments : Comments) (span : Span) (body : Part) → BodyFine body → Fine (group_locations numbers name comments span body)
  named name comments span body fine =
      node Same (λ path. commented numbers path span comments ∷ []) (λ path. bare numbers (part path (pos 1)) name.span ∷ body path) 1 11 (λ path. (refl, tt, tt))
      (λ path. joined Same path 1 2 11 (bare numbers (part path (pos 1)) name.span ∷ []) (body path) (one numbers Same Later so path 1 1 2 name.span (omega arith) (omega arith)) (fine path))

  nothing-fine : Fine (λ path. [])
  nothing-fine = node Same (λ path. []) (λ path. []) 0 0 (λ path. tt) (λ path. none Same path 0 0 (omega arith))

  brought-fine : (name : Ident) (comments : Comments) (span : Span) (kind : OfKind) (k : places.OfKind) → KindFine kind k → Stands (k.inside span) → Each Fine (brought numbers name comments span kind)
  brought-fine name comments span (Normal type place) k h s = tt
  brought-fine name comments span (Group word body) k h s = (named name comments span body (h span s), tt)
  brought-fine name comments span (Map place) k h s = (nothing-fine, tt)

  abbrev FieldHas : OfField → Node → Type 0
  FieldHas f n = Stands n.inside → FieldFine f

  field-fine : (label : Option (FieldLabel × Span)) (name : Ident) (kind : OfKind) (k : places.OfKind) (number : Int) (options : Option OptionList) (comments : Comments) (span : Span) → KindFine kind k
      → FieldHas ((location_steps numbers).field (record { label = label; name = name; kind = kind; number = number; options = options; comments = comments; span = span })) ((places.nodes).field (record { label = label; name = name; kind = k; number = number; options = options; comments = comments; span = span }))
  field-fine label name kind k number options comments span h s =
      let inside = skip numbers Same Later so Stands standing s in
      let list : Stands (places.list_siblings options) = standing.back (k.inside span) (places.list_siblings options) inside in
      record {
        own = λ extendee.
            node Same (λ path. itself numbers path span comments kind ∷ []) (λ path. bare numbers (part path (pos 1)) name.span ∷ (extended numbers path extendee ++ from_number numbers path number label name kind options)) 1 11
            (λ path. (at-path path span comments kind, tt, tt))
            (λ path. joined Same path 1 2 11 (bare numbers (part path (pos 1)) name.span ∷ []) _ (one numbers Same Later so path 1 1 2 name.span (omega arith) (omega arith))
            (joined Same path 2 3 11 (extended numbers path extendee) (from_number numbers path number label name kind options) (extended-row path extendee) (number-row path number label name kind options list)));
        messages = brought-fine name comments span kind k h (standing.front (k.inside span) (places.list_siblings options) inside);
      }

  -- ---- lists of fields and of items

  record AFieldHas (f : OfField) (n : Node) : Type 0 where
    pub brings : n.brings AnExtend ≡ []
    pub fine : FieldHas f n

  fields-fine : (fields : List OfField) (ns : List Node) → Pairs AFieldHas fields ns → Stands (places.inside_all ns) → Each FieldFine fields
  fields-fine [] [] p s = tt
  fields-fine [] (n ∷ ns) p s = absurd p
  fields-fine (f ∷ fs) [] p s = absurd p
  fields-fine (f ∷ fs) (n ∷ ns) p s = (p.0.fine (standing.front n.inside (places.inside_all ns) s), fields-fine fs ns p.1 (standing.back n.inside (places.inside_all ns) s))

  owns : (extendee : Option TypeName) (fields : List OfField) → Each FieldFine fields → Each Fine (map (λ f. f.own extendee) fields)
  owns extendee [] e = tt
  owns extendee (f ∷ fs) e = (e.0.own extendee, owns extendee fs e.1)

  field-messages : (fields : List OfField) → Each FieldFine fields → Each (λ f. Each Fine f.messages) fields
  field-messages [] e = tt
  field-messages (f ∷ fs) e = (e.0.messages, field-messages fs e.1)

  record ItemFine (i : OfItem) : Type 0 where
    pub fields : Each Fine i.fields
    pub messages : Each Fine i.messages
    pub enums : Each Fine i.enums
    pub extensions : Each Fine i.extensions
    pub oneofs : Each Fine i.oneofs

  record ItemHas (i : OfItem) (n : Node) : Type 0 where
    pub blocks : AllStood numbers Same Later so i.blocks (n.brings AnExtend)
    pub fine : Stands n.inside → ItemFine i

  record ExtendHas (e : OfExtend) (n : Node) : Type 0 where
    pub block : AllStood numbers Same Later so (e.block ∷ []) (n.brings AnExtend)
    pub extensions : Stands n.inside → Each Fine e.extensions
    pub messages : Stands n.inside → Each Fine e.messages

  record OneofHas (o : OfOneof) (n : Node) : Type 0 where
    pub brings : n.brings AnExtend ≡ []
    pub own : Stands n.inside → Fine o.own
    pub fields : Stands n.inside → Each FieldFine o.fields

  record MessageHas (m : Part) (n : Node) : Type 0 where
    pub brings : n.brings AnExtend ≡ []
    pub fine : Stands n.inside → Fine m

  blocks-stood : (items : List OfItem) (ns : List Node) → Pairs ItemHas items ns → AllStood numbers Same Later so (flat_map (λ i. i.blocks) items) (places.brought AnExtend ns)
  blocks-stood [] [] p = tt
  blocks-stood [] (n ∷ ns) p = absurd p
  blocks-stood (i ∷ is) [] p = absurd p
  blocks-stood (i ∷ is) (n ∷ ns) p =
      stood_both numbers Same Later so i.blocks (flat_map (λ i. i.blocks) is) (n.brings AnExtend) (places.brought AnExtend ns) p.0.blocks (blocks-stood is ns p.1)

  items-fine : (items : List OfItem) (ns : List Node) → Pairs ItemHas items ns → Stands (places.inside_all ns) → Each ItemFine items
  items-fine [] [] p s = tt
  items-fine [] (n ∷ ns) p s = absurd p
  items-fine (i ∷ is) [] p s = absurd p
  items-fine (i ∷ is) (n ∷ ns) p s = (p.0.fine (standing.front n.inside (places.inside_all ns) s), items-fine is ns p.1 (standing.back n.inside (places.inside_all ns) s))

  kind-of : (kind : OfItem → List Part) (items : List OfItem) → ((i : OfItem) → ItemFine i → Each Fine (kind i)) → Each ItemFine items → Each Fine (flat_map kind items)
  kind-of kind [] h e = tt
  kind-of kind (i ∷ is) h e = each_both Fine (kind i) (flat_map kind is) (h i e.0) (kind-of kind is h e.1)

  -- ---- bodies

  blocks-row : (path : Path) (items : List OfItem) (ns : List Node) (options : List option_type.Option) (reserved : List Reserved) → Pairs ItemHas items ns → Each ItemFine items
      → RiseBy Later (places.brought AnExtend ns) → RiseBy Later (places.option_spans options) → RiseBy Later (flat_map places.range_statement reserved) → RiseBy Later (flat_map places.name_statement reserved)
      → Row path 6 11 (from_blocks numbers path items options reserved)
  blocks-row path items ns options reserved p fine bs os rs ns' =
      let blocks = each_at (part path (pos 6)) (flat_map (λ i. i.blocks) items) in
      let extensions = numbered path (pos 6) 0 (flat_map (λ i. i.extensions) items) in
      subst (Row path 6 11) (append_assoc blocks extensions _)
      (joined Same path 6 7 11 (blocks ++ extensions) _
      (and_siblings Same path 6 6 7 blocks (flat_map (λ i. i.extensions) items) (at_one numbers Same Later so (part path (pos 6)) (flat_map (λ i. i.blocks) items) (places.brought AnExtend ns) (blocks-stood items ns p) bs)
      (kind-of (λ i. i.extensions) items (λ i f. f.extensions) fine) (omega arith) (omega arith))
      (joined Same path 7 8 11 (option_statements numbers (part path (pos 7)) options) _ (options_row numbers Same Later so path 7 7 8 options os (omega arith) (omega arith))
      (joined Same path 8 9 11 (numbered path (pos 8) 0 (flat_map (λ i. i.oneofs) items)) _ (all_at Same path 8 8 9 (flat_map (λ i. i.oneofs) items) (kind-of (λ i. i.oneofs) items (λ i f. f.oneofs) fine) (omega arith) (omega arith))
      (joined Same path 9 10 11 (range_statements numbers path (pos 9) reserved) (name_statements numbers path (pos 10) reserved) (ranges_row numbers Same Later so path 9 9 10 reserved rs (omega arith) (omega arith))
      (names_row numbers Same Later so path 10 10 11 reserved ns' (omega arith) (omega arith))))))

  body-fine : (items : List OfItem) (ns : List Node) (extensions : List Extensions) (options : List option_type.Option) (reserved : List Reserved) → Pairs ItemHas items ns
      → (whole : Span) → Stands (places.inside_body (record { items = ns; extensions = extensions; options = options; reserved = reserved }) whole)
      → BodyFine ((location_steps numbers).body (record { items = items; extensions = extensions; options = options; reserved = reserved }))
  body-fine items ns extensions options reserved p whole s path =
      let at2 = skip numbers Same Later so Stands standing s in
      let at3 = skip numbers Same Later so Stands standing at2 in
      let at4 = skip numbers Same Later so Stands standing at3 in
      let blocks = skip numbers Same Later so Stands standing at4 in
      let at6 = skip numbers Same Later so Stands standing blocks in
      let at7 = skip numbers Same Later so Stands standing at6 in
      let at8 = skip numbers Same Later so Stands standing at7 in
      let of-options = skip numbers Same Later so Stands standing at8 in
      let of-extensions = skip numbers Same Later so Stands standing of-options in
      let at11 = skip numbers Same Later so Stands standing of-extensions in
      let of-ranges = skip numbers Same Later so Stands standing at11 in
      let at13 = skip numbers Same Later so Stands standing of-ranges in
      let of-names = skip numbers Same Later so Stands standing at13 in
      let at15 = skip numbers Same Later so Stands standing of-names in
      let at16 = skip numbers Same Later so Stands standing at15 in
      let behind = skip numbers Same Later so Stands standing at16 in
      let fine = items-fine items ns p (standing.front (places.inside_all ns) _ behind) in
      joined Same path 2 3 11 (numbered path (pos 2) 0 (flat_map (λ i. i.fields) items)) _ (all_at Same path 2 2 3 (flat_map (λ i. i.fields) items) (kind-of (λ i. i.fields) items (λ i f. f.fields) fine) (omega arith) (omega arith))
      (joined Same path 3 4 11 (numbered path (pos 3) 0 (flat_map (λ i. i.messages) items)) _ (all_at Same path 3 3 4 (flat_map (λ i. i.messages) items) (kind-of (λ i. i.messages) items (λ i f. f.messages) fine) (omega arith) (omega arith))
      (joined Same path 4 5 11 (numbered path (pos 4) 0 (flat_map (λ i. i.enums) items)) _ (all_at Same path 4 4 5 (flat_map (λ i. i.enums) items) (kind-of (λ i. i.enums) items (λ i f. f.enums) fine) (omega arith) (omega arith))
      (joined Same path 5 6 11 (extensions_statements numbers path extensions) (from_blocks numbers path items options reserved)
      (extensions_row numbers Same Later so path 5 6 extensions (rises numbers Same Later so Stands standing of-extensions) (omega arith) (omega arith))
      (blocks-row path items ns options reserved p fine (rises numbers Same Later so Stands standing blocks) (rises numbers Same Later so Stands standing of-options) (rises numbers Same Later so Stands standing of-ranges)
      (rises numbers Same Later so Stands standing of-names)))))

  -- ---- every tree

  abbrev BodyHas : Part → (Span → List Siblings) → Type 0
  BodyHas b n = (whole : Span) → Stands (n whole) → BodyFine b

  no-block : (n : Node) → n.brings AnExtend ≡ [] → AllStood numbers Same Later so [] (n.brings AnExtend)
  no-block n e = subst (AllStood numbers Same Later so []) (sym e) tt

  all-keep : Keeps KindFine ItemHas ExtendHas AFieldHas MessageHas BodyHas OneofHas (location_steps numbers) places.nodes
  all-keep = record {
    normal = λ type span. tt;
    group = λ span b b' h. h;
    a_map = λ span key key_span value value_span. tt;
    item_field = λ x n h. record { blocks = no-block n h.brings; fine = λ s. record { fields = ((h.fine s).own None, tt); messages = (h.fine s).messages; enums = tt; extensions = tt; oneofs = tt } };
    item_message = λ x n h. record { blocks = no-block n h.brings; fine = λ s. record { fields = tt; messages = (h.fine s, tt); enums = tt; extensions = tt; oneofs = tt } };
    item_oneof = λ x n h. record {
      blocks = no-block n h.brings;
      fine = λ s. record { fields = owns None x.fields (h.fields s); messages = each_flat Fine (λ f. f.messages) x.fields (field-messages x.fields (h.fields s)); enums = tt; extensions = tt; oneofs = (h.own s, tt) };
    };
    item_extend = λ x n h. record { blocks = h.block; fine = λ s. record { fields = tt; messages = h.messages s; enums = tt; extensions = h.extensions s; oneofs = tt } };
    item_enum = λ x. record { blocks = tt; fine = λ s. record { fields = tt; messages = tt; enums = (enum_good numbers Same Later so Stands standing x s, tt); extensions = tt; oneofs = tt } };
    extend = λ extendee fields ns comments span p. record {
      block = (commented_stood numbers Same Later so span comments, tt);
      extensions = λ s. owns (Some extendee) fields (fields-fine fields ns p (skip numbers Same Later so Stands standing (skip numbers Same Later so Stands standing s)));
      messages = λ s. each_flat Fine (λ f. f.messages) fields (field-messages fields (fields-fine fields ns p (skip numbers Same Later so Stands standing (skip numbers Same Later so Stands standing s))));
    };
    field = λ label name k k' number options comments span h. record { brings = refl; fine = field-fine label name k k' number options comments span h };
    message = λ name b b' comments span h. record { brings = refl; fine = λ s. named name comments span b (h span (skip numbers Same Later so Stands standing s)) };
    body = body-fine;
    oneof = λ name options fields ns comments span p. record {
      brings = refl;
      own = λ s. node Same (λ path. commented numbers path span comments ∷ []) (λ path. bare numbers (part path (pos 1)) name.span ∷ option_statements numbers (part path (pos 2)) options) 1 3 (λ path. (refl, tt, tt))
          (λ path. joined Same path 1 2 3 (bare numbers (part path (pos 1)) name.span ∷ []) (option_statements numbers (part path (pos 2)) options) (one numbers Same Later so path 1 1 2 name.span (omega arith) (omega arith))
          (options_row numbers Same Later so path 2 2 3 options (rises numbers Same Later so Stands standing (skip numbers Same Later so Stands standing s)) (omega arith) (omega arith)));
      fields = λ s. fields-fine fields ns p (standing.back (flat_map places.option_siblings options) (places.inside_all ns)
          (skip numbers Same Later so Stands standing (skip numbers Same Later so Stands standing (skip numbers Same Later so Stands standing s))));
    };
  }

  message-has : (x : Message) → MessageHas (of_message (location_steps numbers) x) (of_message places.nodes x)
  message-has = message_has KindFine ItemHas ExtendHas AFieldHas MessageHas BodyHas OneofHas (location_steps numbers) places.nodes all-keep

  extend-has : (x : Extend) → ExtendHas (of_extend (location_steps numbers) x) (of_extend places.nodes x)
  extend-has = extend_has KindFine ItemHas ExtendHas AFieldHas MessageHas BodyHas OneofHas (location_steps numbers) places.nodes all-keep

  -- ---- the items of a file

  record FileItemFine (x : FileItem) : Type 0 where
    pub messages : Each Fine (item_messages numbers x)
    pub enums : Each Fine (item_enums numbers x)
    pub services : Each Fine (item_services numbers x)
    pub extensions : Each Fine (item_extensions numbers x)

  file-item-fine : (x : FileItem) → Stands (places.file_node x).inside → FileItemFine x
  file-item-fine (item.Message x) s = record { messages = ((message-has x).fine s, tt); enums = tt; services = tt; extensions = tt }
  file-item-fine (item.Enum x) s = record { messages = tt; enums = (enum_good numbers Same Later so Stands standing x s, tt); services = tt; extensions = tt }
  file-item-fine (item.Extend x) s = record { messages = (extend-has x).messages s; enums = tt; services = tt; extensions = (extend-has x).extensions s }
  file-item-fine (item.Service x) s = record { messages = tt; enums = tt; services = (service_good numbers Same Later so Stands standing x s, tt); extensions = tt }

  file-block : (x : FileItem) → AllStood numbers Same Later so (item_blocks numbers x) ((places.file_node x).brings AnExtend)
  file-block (item.Message x) = no-block (of_message places.nodes x) (message-has x).brings
  file-block (item.Enum x) = tt
  file-block (item.Extend x) = (extend-has x).block
  file-block (item.Service x) = tt

  file-blocks : (xs : List FileItem) → AllStood numbers Same Later so (flat_map (item_blocks numbers) xs) (places.brought AnExtend (map places.file_node xs))
  file-blocks [] = tt
  file-blocks (x ∷ xs) = stood_both numbers Same Later so (item_blocks numbers x) (flat_map (item_blocks numbers) xs) ((places.file_node x).brings AnExtend) (places.brought AnExtend (map places.file_node xs)) (file-block x) (file-blocks xs)

  file-items : (xs : List FileItem) → Stands (places.inside_all (map places.file_node xs)) → Each FileItemFine xs
  file-items [] s = tt
  file-items (x ∷ xs) s =
      (file-item-fine x (standing.front (places.file_node x).inside (places.inside_all (map places.file_node xs)) s), file-items xs (standing.back (places.file_node x).inside (places.inside_all (map places.file_node xs)) s))

  file-kind : (kind : FileItem → List Part) (xs : List FileItem) → ((x : FileItem) → FileItemFine x → Each Fine (kind x)) → Each FileItemFine xs → Each Fine (flat_map kind xs)
  file-kind kind [] h e = tt
  file-kind kind (x ∷ xs) h e = each_both Fine (kind x) (flat_map kind xs) (h x e.0) (file-kind kind xs h e.1)

  -- ---- a file

  package-row : (path : Path) (x : Option Package) → Row path 2 3 (package_locations numbers path x)
  package-row path None = none Same path 2 3 (omega arith)
  package-row path (Some x) = leaf Same path 2 2 3 (commented numbers (part path (pos 2)) x.span x.comments) refl (omega arith) (omega arith)

  syntax-row : (path : Path) (x : Option (Span × Comments)) → Row path 12 13 (syntax_locations numbers path x)
  syntax-row path None = none Same path 12 13 (omega arith)
  syntax-row path (Some x) = leaf Same path 12 12 13 (commented numbers (part path (pos 12)) x.0 x.1) refl (omega arith) (omega arith)

  public-fine : (kind : Option (ImportKind × Span)) → Each Fine (public_words numbers kind)
  public-fine None = tt
  public-fine (Some (import_kind.Public, span)) = (bare_good numbers Same Later so span, tt)
  public-fine (Some (import_kind.Weak, span)) = tt

  weak-fine : (kind : Option (ImportKind × Span)) → Each Fine (weak_words numbers kind)
  weak-fine None = tt
  weak-fine (Some (import_kind.Public, span)) = tt
  weak-fine (Some (import_kind.Weak, span)) = (bare_good numbers Same Later so span, tt)

  words-fine : (words : Option (ImportKind × Span) → List Part) → ((kind : Option (ImportKind × Span)) → Each Fine (words kind)) → (xs : List Import) → Each Fine (flat_map (λ (x : Import). words x.kind) xs)
  words-fine words h [] = tt
  words-fine words h (x ∷ xs) = each_both Fine (words x.kind) (flat_map (λ (x : Import). words x.kind) xs) (h x.kind) (words-fine words h xs)

  -- the parts of a file without the file itself
  abbrev others : File → Part
  others file path =
      package_locations numbers path file.«package»
      ++ (siblings_at path (pos 3) (map (import_locations numbers) file.imports)
      ++ (siblings_at path (pos 4) (flat_map (item_messages numbers) file.items)
      ++ (siblings_at path (pos 5) (flat_map (item_enums numbers) file.items)
      ++ (siblings_at path (pos 6) (flat_map (item_services numbers) file.items)
      ++ file_from_blocks numbers file path))))

  pub file-fine : (size : ℕ) (file : File) → Stands (places.file_siblings size file) → Good Same (file_at numbers file)
  file-fine size file s =
      let at2 = skip numbers Same Later so Stands standing s in
      let at3 = skip numbers Same Later so Stands standing at2 in
      let at4 = skip numbers Same Later so Stands standing at3 in
      let blocks = skip numbers Same Later so Stands standing at4 in
      let at6 = skip numbers Same Later so Stands standing blocks in
      let at7 = skip numbers Same Later so Stands standing at6 in
      let at8 = skip numbers Same Later so Stands standing at7 in
      let at9 = skip numbers Same Later so Stands standing at8 in
      let at10 = skip numbers Same Later so Stands standing at9 in
      let of-options = skip numbers Same Later so Stands standing at10 in
      let at12 = skip numbers Same Later so Stands standing of-options in
      let behind = skip numbers Same Later so Stands standing at12 in
      let behind2 = standing.back (places.package_siblings file.«package») _ behind in
      let behind3 = standing.back (flat_map places.import_siblings file.imports) _ behind2 in
      let fine = file-items file.items (standing.back (flat_map places.option_siblings file.options) (places.inside_all (map places.file_node file.items)) behind3) in
      node Same (λ path. bare numbers path file.span ∷ []) (others file) 2 13 (λ path. (refl, tt, tt))
      (λ path.
      let locate-blocks = each_at (part path (pos 7)) (flat_map (item_blocks numbers) file.items) in
      let extensions = numbered path (pos 7) 0 (flat_map (item_extensions numbers) file.items) in
      joined Same path 2 3 13 (package_locations numbers path file.«package») _ (package-row path file.«package»)
      (joined Same path 3 4 13 (numbered path (pos 3) 0 (map (import_locations numbers) file.imports)) _
      (all_at Same path 3 3 4 (map (import_locations numbers) file.imports) (each_map Fine (import_locations numbers) file.imports (λ (x : Import). commented_good numbers Same Later so x.span x.comments)) (omega arith) (omega arith))
      (joined Same path 4 5 13 (numbered path (pos 4) 0 (flat_map (item_messages numbers) file.items)) _ (all_at Same path 4 4 5 (flat_map (item_messages numbers) file.items) (file-kind (item_messages numbers) file.items (λ x f. f.messages) fine) (omega arith) (omega arith))
      (joined Same path 5 6 13 (numbered path (pos 5) 0 (flat_map (item_enums numbers) file.items)) _ (all_at Same path 5 5 6 (flat_map (item_enums numbers) file.items) (file-kind (item_enums numbers) file.items (λ x f. f.enums) fine) (omega arith) (omega arith))
      (joined Same path 6 7 13 (numbered path (pos 6) 0 (flat_map (item_services numbers) file.items)) _ (all_at Same path 6 6 7 (flat_map (item_services numbers) file.items) (file-kind (item_services numbers) file.items (λ x f. f.services) fine) (omega arith) (omega arith))
      (subst (Row path 7 13) (append_assoc locate-blocks extensions _)
      (joined Same path 7 8 13 (locate-blocks ++ extensions) _
      (and_siblings Same path 7 7 8 locate-blocks (flat_map (item_extensions numbers) file.items)
      (at_one numbers Same Later so (part path (pos 7)) (flat_map (item_blocks numbers) file.items) (places.brought AnExtend (map places.file_node file.items)) (file-blocks file.items) (rises numbers Same Later so Stands standing blocks))
      (file-kind (item_extensions numbers) file.items (λ x f. f.extensions) fine) (omega arith) (omega arith))
      (joined Same path 8 10 13 (option_statements numbers (part path (pos 8)) file.options) _ (options_row numbers Same Later so path 8 8 10 file.options (rises numbers Same Later so Stands standing of-options) (omega arith) (omega arith))
      (joined Same path 10 11 13 (numbered path (pos 10) 0 (flat_map (λ (x : Import). public_words numbers x.kind) file.imports)) _
      (all_at Same path 10 10 11 (flat_map (λ (x : Import). public_words numbers x.kind) file.imports) (words-fine (public_words numbers) public-fine file.imports) (omega arith) (omega arith))
      (joined Same path 11 12 13 (numbered path (pos 11) 0 (flat_map (λ (x : Import). weak_words numbers x.kind) file.imports)) (syntax_locations numbers path file.syntax_span)
      (all_at Same path 11 11 12 (flat_map (λ (x : Import). weak_words numbers x.kind) file.imports) (words-fine (weak_words numbers) weak-fine file.imports) (omega arith) (omega arith))
      (syntax-row path file.syntax_span)))))))))))
