-- The names of messages and of the parts in them have their locations.
use Rattle.std.proofs.Common.{◌≡◌, ℕ, ◌+◌, ◌-◌, ◌≤◌, Bool, true, false, List, [], ◌∷◌, ◌++◌, length, map, flat_map, Option, Some, None, refl, sym, ap, ◌∙◌, subst, arith, append_assoc, length-append}
use Rattle.std.specs.Prelude.{ℤ, pos, if◌then◌else◌}
use Rattle.protox_ast.proofs.Lemmas.{Keeps, Pairs, extend_has, message_has}
use Rattle.protox_ast.specs.Basics.{Each}
use Rattle.protox_ast.specs.Options.{OptionStatement, bodies_of, options_message}
use Rattle.protox_ast.specs.Steps.{of_extend, of_message}
use Rattle.protox_ast.specs.declared.ast.Comments.{Comments}
use Rattle.protox_ast.specs.declared.ast.Extend.{Extend}
use Rattle.protox_ast.specs.declared.ast.Extensions.{Extensions}
use Rattle.protox_ast.specs.declared.ast.Ident.{Ident}
use Rattle.protox_ast.specs.declared.ast.Message.{Message}
use Rattle.protox_ast.specs.declared.ast.OptionBody.{OptionBody}
use Rattle.protox_ast.specs.declared.ast.Reserved.{Reserved}
use Rattle.protox_ast.specs.declared.ast.Syntax.{Syntax}
use Rattle.protox_ast.specs.declared.ast.TypeName.{TypeName}
use Rattle.protox_describe.specs.Descriptor.{Gives, Item, OneofGives, descriptor_steps, enums_of, extending, extensions_of, fields_of, in_oneof, is_oneof, nested_of, oneofs_of, synthetic_of}
use Rattle.protox_describe.specs.Fields.{Kind, Parts, entry_name, entry_parts, is_proto3_optional, message_proto, messages_of as described, optional_flag, synthetic_oneof}
use Rattle.protox_describe.specs.Oneofs.{is_optional}
use Rattle.protox_describe.specs.Siblings.{count, each_after}
use Rattle.protox_descriptor.specs.declared.descriptor.DescriptorProto.{DescriptorProto}
use Rattle.protox_descriptor.specs.declared.descriptor.DescriptorProto.TheFolds.{fold-roll-DescriptorProto}
use Rattle.protox_descriptor.specs.declared.descriptor.OneofDescriptorProto.{OneofDescriptorProto}
use Rattle.protox_descriptor.specs.FieldDescriptorProto.{FieldDescriptorProto}
use Rattle.protox_descriptor.specs.declared.descriptor.source_code_info.Location.{Location}
use Rattle.protox_fault.specs.Faults.{Span}
use Rattle.protox_generate.proofs.Leads.{each-both, extensions-start, names-start, ranges-start}
use Rattle.protox_generate.proofs.Named.{BlockAt, pairs-both, pairs-flat, pairs-map}
use Rattle.protox_generate.proofs.Placed.{Placed, Row, all-at, below-tag, first-at, joined, named-node, quiet-then, siblings, statements, then-quiet}
use Rattle.protox_generate.proofs.PlacedParts.{enum-placed, field-placed, oneof-placed, options-below}
use Rattle.protox_generate.specs.NamePaths.{enum_paths, field_paths, in_list, in_places, is_alone, is_map_entry, message_paths, oneof_paths, paths_step, written_oneofs}
use Rattle.protox_locate.proofs.Lemmas.{Below}
use Rattle.protox_locate.specs.FieldLocations.{OfField, OfKind, brought, group_locations}
use Rattle.protox_locate.specs.LocationWords.{Path, Part, part, commented, each_at, extensions_statements, name_statements, numbered, option_statements, range_statements}
use Rattle.protox_locate.specs.Locations.{OfExtend, OfItem, OfOneof, location_steps, messages_of}

-- the names in a message of these parts, without its own name
abbrev body_paths : Parts → List Path
body_paths parts =
    in_list (pos 2) (map field_paths parts.field)
    ++ (in_list (pos 3) (map message_paths parts.nested)
    ++ (in_list (pos 4) (map enum_paths parts.enum)
    ++ (in_list (pos 6) (map field_paths parts.extension) ++ in_list (pos 8) (map oneof_paths (written_oneofs parts.field parts.oneof)))))

message-paths : (name : List ℕ) (parts : Parts) → is_map_entry parts.options ≡ false → message_paths (message_proto name parts) ≡ (pos 1 ∷ []) ∷ body_paths parts
message-paths name parts plain =
    fold-roll-DescriptorProto (List Path) paths_step (record {
      name = Some name;
      field = parts.field;
      extension = parts.extension;
      nested_type = parts.nested;
      enum_type = parts.enum;
      extension_range = parts.extension_range;
      oneof_decl = parts.oneof;
      options = parts.options;
      reserved_range = parts.reserved_range;
      reserved_name = parts.reserved_name;
    })
    ∙ ap (λ b. if b then [] else (pos 1 ∷ []) ∷ body_paths parts) plain

-- no name in the entry message of a map
entry-paths : (name : List ℕ) (parts : Parts) → is_map_entry parts.options ≡ true → message_paths (message_proto name parts) ≡ []
entry-paths name parts entry =
    fold-roll-DescriptorProto (List Path) paths_step (record {
      name = Some name;
      field = parts.field;
      extension = parts.extension;
      nested_type = parts.nested;
      enum_type = parts.enum;
      extension_range = parts.extension_range;
      oneof_decl = parts.oneof;
      options = parts.options;
      reserved_range = parts.reserved_range;
      reserved_name = parts.reserved_name;
    })
    ∙ ap (λ b. if b then [] else (pos 1 ∷ []) ∷ body_paths parts) entry

-- ---- oneofs made for fields

count-joined : (fields more : List FieldDescriptorProto) → count is_alone (fields ++ more) ≡ count is_alone fields + count is_alone more
count-joined [] more = omega arith
count-joined (f ∷ fs) more = omega (arith, count-joined fs more)

abbrev pub MessageAt : DescriptorProto → Part → Type 0
MessageAt m at = Placed (message_paths m) at

abbrev pub FieldAt : FieldDescriptorProto → Part → Type 0
FieldAt f at = Placed (field_paths f) at

made-for : (b : Bool) (oneof : OneofDescriptorProto) → length (if b then oneof ∷ [] else []) ≤ (if is_optional (optional_flag b) then 1 else 0) + 0
made-for true oneof = omega arith
made-for false oneof = omega arith

-- an options message that is written
plain-options : (bodies : List OptionBody) → is_map_entry (options_message (λ uninterpreted. record { map_entry = None; uninterpreted_option = uninterpreted }) bodies) ≡ false
plain-options [] = refl
plain-options (body ∷ bodies) = refl

-- blocks stand at their path
pub blocks-at : (path : Path) (ats : List Part) → Each BlockAt ats → Each (λ (l : Location). l.path ≡ path) (each_at path ats)
blocks-at path [] h = tt
blocks-at path (at ∷ ats) h = each-both (λ (l : Location). l.path ≡ path) (at path) (each_at path ats) (h.0 path) (blocks-at path ats h.1)

module _ (syntax : Syntax) (numbers : Span → List ℤ) where
  -- ---- the parts of a descriptor together with their locations

  record BodyHas (parts : Parts) (b : Part) : Type 0 where
    pub row : (path : Path) → Row path 2 11 (body_paths parts) (b path)
    pub plain : is_map_entry parts.options ≡ false

  abbrev KindHas : Kind → OfKind → Type 0
  KindHas k o = (name : Ident) (comments : Comments) (span : Span) → Pairs MessageAt (described name.value k) (brought numbers name comments span o)

  record FieldHas (g : Gives) (f : OfField) : Type 0 where
    pub own_at : (extendee : Option TypeName) → FieldAt g.field (f.own extendee)
    pub messages : Pairs MessageAt g.nested f.messages
    pub made : length g.synthetic ≤ count is_alone (g.field ∷ [])

  record ItemHas (i : Item) (o : OfItem) : Type 0 where
    pub fields : (others : ℕ) (before : List Item) → Pairs FieldAt (fields_of others before i) o.fields
    pub messages : Pairs MessageAt (nested_of i) o.messages
    pub enums : Pairs (λ e at. Placed (enum_paths e) at) (enums_of i) o.enums
    pub extensions : Pairs FieldAt (extensions_of i) o.extensions
    pub oneofs : Pairs (λ o at. Placed (oneof_paths o) at) (oneofs_of i) o.oneofs
    pub blocks : Each BlockAt o.blocks
    pub made : (others : ℕ) (before : List Item) → length (synthetic_of i) ≤ count is_alone (fields_of others before i)

  pub record ExtendHas (e : List Gives) (o : OfExtend) : Type 0 where
    pub block : BlockAt o.block
    pub extensions : Pairs FieldAt (map (λ g. g.field) e) o.extensions
    pub messages : Pairs MessageAt (flat_map (λ g. g.nested) e) o.messages

  record OneofHas (g : OneofGives) (o : OfOneof) : Type 0 where
    pub own_at : Placed (oneof_paths g.oneof) o.own
    pub fields : Pairs FieldHas g.fields o.fields

  -- ---- messages

  message-placed : (name : Ident) (comments : Comments) (span : Span) (parts : Parts) (b : Part) → BodyHas parts b → MessageAt (message_proto name.value parts) (group_locations numbers name comments span b)
  message-placed name comments span parts b h =
      subst (λ (names : List Path). Placed names (group_locations numbers name comments span b)) (sym (message-paths name.value parts h.plain))
      (named-node numbers name.span (body_paths parts) (λ path. commented numbers path span comments) b 11 (λ path. refl) h.row)

  entry-placed : (name : List ℕ) (parts : Parts) → is_map_entry parts.options ≡ true → MessageAt (message_proto name parts) (λ path. [])
  entry-placed name parts entry = subst (λ (names : List Path). Placed names (λ path. [])) (sym (entry-paths name parts entry)) (record { from = λ path. tt; once = λ path. tt })

  -- ---- bodies

  item-fields : (others : ℕ) (before items : List Item) (os : List OfItem) → Pairs ItemHas items os → Pairs FieldAt (each_after (fields_of others) before items) (flat_map (λ o. o.fields) os)
  item-fields others before [] [] h = tt
  item-fields others before [] (o ∷ os) h = absurd h
  item-fields others before (i ∷ is) [] h = absurd h
  item-fields others before (i ∷ is) (o ∷ os) h =
      pairs-both FieldAt (fields_of others before i) _ o.fields (flat_map (λ o. o.fields) os) (h.0.fields others before) (item-fields others (before ++ i ∷ []) is os h.1)

  item-blocks : (items : List Item) (os : List OfItem) → Pairs ItemHas items os → Each BlockAt (flat_map (λ o. o.blocks) os)
  item-blocks [] [] h = tt
  item-blocks [] (o ∷ os) h = absurd h
  item-blocks (i ∷ is) [] h = absurd h
  item-blocks (i ∷ is) (o ∷ os) h = each-both BlockAt o.blocks (flat_map (λ o. o.blocks) os) h.0.blocks (item-blocks is os h.1)

  -- There are at least as many fields with a oneof of their own as oneofs that are made.
  all-made : (others : ℕ) (before items : List Item) (os : List OfItem) → Pairs ItemHas items os → length (flat_map synthetic_of items) ≤ count is_alone (each_after (fields_of others) before items)
  all-made others before [] [] h = omega arith
  all-made others before [] (o ∷ os) h = absurd h
  all-made others before (i ∷ is) [] h = absurd h
  all-made others before (i ∷ is) (o ∷ os) h =
      let more = each_after (fields_of others) (before ++ i ∷ []) is in
      omega (arith, length-append (synthetic_of i) (flat_map synthetic_of is), count-joined (fields_of others before i) more, h.0.made others before, all-made others (before ++ i ∷ []) is os h.1)

  body-has : (items : List Item) (os : List OfItem) (extensions : List Extensions) (options : List OptionStatement) (reserved : List Reserved) → Pairs ItemHas items os
      → BodyHas ((descriptor_steps syntax).body (record { items = items; extensions = extensions; options = options; reserved = reserved }))
      ((location_steps numbers).body (record { items = os; extensions = extensions; options = options; reserved = reserved }))
  body-has items os extensions options reserved h =
      let parts = (descriptor_steps syntax).body (record { items = items; extensions = extensions; options = options; reserved = reserved }) in
      let written = flat_map oneofs_of items in
      let made = flat_map synthetic_of items in
      let fewer : length (written ++ made) - count is_alone parts.field ≤ length written =
      omega (arith, length-append written made, all-made (count is_oneof items) [] items os h) in
      record {
        plain = plain-options (bodies_of options);
        row = λ path.
            let blocks = each_at (part path (pos 6)) (flat_map (λ o. o.blocks) os) in
            let ats = flat_map (λ o. o.extensions) os in
            let extending = numbered path (pos 6) 0 ats in
            let oneofs = numbered path (pos 8) 0 (flat_map (λ o. o.oneofs) os) in
            let ranges = range_statements numbers path (pos 9) reserved in
            let names = name_statements numbers path (pos 10) reserved in
            let rest = option_statements numbers (part path (pos 7)) options ++ (oneofs ++ (ranges ++ names)) in
            joined path 2 3 11 (in_list (pos 2) (map field_paths parts.field)) _ _ _ (all-at field_paths path 2 2 3 parts.field (flat_map (λ o. o.fields) os) (omega arith) (omega arith) (item-fields (count is_oneof items) [] items os h))
            (joined path 3 4 11 (in_list (pos 3) (map message_paths parts.nested)) _ _ _
            (all-at message_paths path 3 3 4 parts.nested (flat_map (λ o. o.messages) os) (omega arith) (omega arith) (pairs-flat ItemHas MessageAt nested_of (λ o. o.messages) (λ i o f. f.messages) items os h))
            (joined path 4 5 11 (in_list (pos 4) (map enum_paths parts.enum)) _ _ _
            (all-at enum_paths path 4 4 5 parts.enum (flat_map (λ o. o.enums) os) (omega arith) (omega arith) (pairs-flat ItemHas (λ e at. Placed (enum_paths e) at) enums_of (λ o. o.enums) (λ i o f. f.enums) items os h))
            (quiet-then path 5 6 11 _ (extensions_statements numbers path extensions) _ (omega arith) (below-tag path 5 5 6 (extensions_statements numbers path extensions) (omega arith) (omega arith) (extensions-start numbers path extensions))
            (subst (λ (ls : List Location). Row path 6 11 (in_list (pos 6) (map field_paths parts.extension) ++ in_list (pos 8) (map oneof_paths (written_oneofs parts.field parts.oneof))) ls) (append_assoc blocks extending rest)
            (joined path 6 7 11 (in_list (pos 6) (map field_paths parts.extension)) _ (blocks ++ extending) rest
            (statements path 6 0 (length parts.extension) 6 7 (in_places 0 (map field_paths parts.extension)) blocks extending (omega arith) (omega arith) (blocks-at (part path (pos 6)) (flat_map (λ o. o.blocks) os) (item-blocks items os h))
            (siblings field_paths path (pos 6) 0 (length parts.extension) parts.extension ats (pairs-flat ItemHas FieldAt extensions_of (λ o. o.extensions) (λ i o f. f.extensions) items os h) (omega arith)))
            (quiet-then path 7 8 11 _ (option_statements numbers (part path (pos 7)) options) (oneofs ++ (ranges ++ names)) (omega arith) (options-below numbers path 7 7 8 options (omega arith) (omega arith))
            (then-quiet path 8 9 11 _ oneofs (ranges ++ names) (omega arith)
            (first-at oneof_paths path 8 8 9 written made (flat_map (λ o. o.oneofs) os) (length (written ++ made) - count is_alone parts.field) (omega arith) (omega arith) fewer
            (pairs-flat ItemHas (λ o at. Placed (oneof_paths o) at) oneofs_of (λ o. o.oneofs) (λ i o f. f.oneofs) items os h))
            (each-both (Below path 9 11) ranges names (below-tag path 9 9 11 ranges (omega arith) (omega arith) (ranges-start numbers path (pos 9) reserved))
            (below-tag path 10 9 11 names (omega arith) (omega arith) (names-start numbers path (pos 10) reserved))))))))));
      }

  -- ---- extensions

  extended-fields : (extendee : TypeName) (gs : List Gives) (xs : List OfField) → Pairs FieldHas gs xs → Pairs FieldAt (map (λ (g : Gives). g.field) (map (extending extendee) gs)) (map (λ f. f.own (Some extendee)) xs)
  extended-fields extendee [] [] h = tt
  extended-fields extendee [] (x ∷ xs) h = absurd h
  extended-fields extendee (g ∷ gs) [] h = absurd h
  extended-fields extendee (g ∷ gs) (x ∷ xs) h = (h.0.own_at (Some extendee), extended-fields extendee gs xs h.1)

  extended-messages : (extendee : TypeName) (gs : List Gives) (xs : List OfField) → Pairs FieldHas gs xs → Pairs MessageAt (flat_map (λ (g : Gives). g.nested) (map (extending extendee) gs)) (messages_of xs)
  extended-messages extendee [] [] h = tt
  extended-messages extendee [] (x ∷ xs) h = absurd h
  extended-messages extendee (g ∷ gs) [] h = absurd h
  extended-messages extendee (g ∷ gs) (x ∷ xs) h = pairs-both MessageAt g.nested _ x.messages (messages_of xs) h.0.messages (extended-messages extendee gs xs h.1)

  -- ---- all levels

  all-keep : Keeps KindHas ItemHas ExtendHas FieldHas MessageAt BodyHas OneofHas (descriptor_steps syntax) (location_steps numbers)
  all-keep = record {
    normal = λ type place name comments span. tt;
    group = λ place body at h name comments span. (message-placed name comments span body at h, tt);
    a_map = λ place key key_span value value_span name comments span. (entry-placed (entry_name name.value) (entry_parts key value) refl, tt);
    item_field = λ x at h. record { fields = λ others before. (h.own_at None, tt); messages = h.messages; enums = tt; extensions = tt; oneofs = tt; blocks = tt; made = λ others before. h.made };
    item_message = λ x at h. record { fields = λ others before. tt; messages = (h, tt); enums = tt; extensions = tt; oneofs = tt; blocks = tt; made = λ others before. omega arith };
    item_oneof = λ x at h. record {
      fields = λ others before. pairs-map FieldHas FieldAt (in_oneof _) (λ f. f.own None) (λ a b k. k.own_at None) x.fields at.fields h.fields;
      messages = pairs-flat FieldHas MessageAt (λ g. g.nested) (λ f. f.messages) (λ a b k. k.messages) x.fields at.fields h.fields;
      enums = tt;
      extensions = tt;
      oneofs = (h.own_at, tt);
      blocks = tt;
      made = λ others before. omega arith;
    };
    item_extend = λ x at h. record { fields = λ others before. tt; messages = h.messages; enums = tt; extensions = h.extensions; oneofs = tt; blocks = (h.block, tt); made = λ others before. omega arith };
    item_enum = λ x. record { fields = λ others before. tt; messages = tt; enums = (enum-placed numbers x, tt); extensions = tt; oneofs = tt; blocks = tt; made = λ others before. omega arith };
    extend = λ extendee fields at comments span h. record { block = λ path. (refl, tt); extensions = extended-fields extendee fields at h; messages = extended-messages extendee fields at h };
    field = λ label name kind of number options comments span h. record {
      own_at = λ extendee. field-placed numbers label name of number options comments span extendee;
      messages = h name comments span;
      made = made-for (is_proto3_optional syntax label) (synthetic_oneof name.value);
    };
    message = λ name body at comments span h. message-placed name comments span body at h;
    body = body-has;
    oneof = λ name options fields at comments span h. record { own_at = oneof-placed numbers name options comments span; fields = h };
  }

  pub message-has : (x : Message) → MessageAt (of_message (descriptor_steps syntax) x) (of_message (location_steps numbers) x)
  message-has x = message_has KindHas ItemHas ExtendHas FieldHas MessageAt BodyHas OneofHas (descriptor_steps syntax) (location_steps numbers) all-keep x

  pub extend-has : (x : Extend) → ExtendHas (of_extend (descriptor_steps syntax) x) (of_extend (location_steps numbers) x)
  extend-has x = extend_has KindHas ItemHas ExtendHas FieldHas MessageAt BodyHas OneofHas (descriptor_steps syntax) (location_steps numbers) all-keep x
