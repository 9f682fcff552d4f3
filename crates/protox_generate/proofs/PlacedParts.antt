-- Fields, oneofs, enums and services: their names have their locations.
use Rattle.std.proofs.Common.{◌≡◌, ℕ, ◌≤◌, ◌<◌, List, [], ◌∷◌, ◌++◌, map, Option, Some, None, refl, arith}
use Rattle.std.specs.Prelude.{ℤ, pos}
use Rattle.protox_ast.proofs.Lemmas.{Pairs}
use Rattle.protox_ast.specs.Basics.{Each}
use Rattle.protox_ast.specs.Names.{type_name_span}
use Rattle.protox_ast.specs.Options.{OptionStatement, default_of, json_name_of, listed, options_left}
use Rattle.protox_ast.specs.Spans.{body_span, value_span}
use Rattle.protox_ast.specs.declared.ast.Comments.{Comments}
use Rattle.protox_ast.specs.declared.ast.Enum.{Enum}
use Rattle.protox_ast.specs.declared.ast.EnumValue.{EnumValue}
use Rattle.protox_ast.specs.declared.ast.FieldLabel.{FieldLabel}
use Rattle.protox_ast.specs.declared.ast.Ident.{Ident}
use Rattle.protox_ast.specs.declared.ast.Int.{Int}
use Rattle.protox_ast.specs.declared.ast.Method.{Method}
use Rattle.protox_ast.specs.declared.ast.OptionBody.{OptionBody}
use Rattle.protox_ast.specs.declared.ast.OptionList.{OptionList}
use Rattle.protox_ast.specs.declared.ast.Service.{Service}
use Rattle.protox_ast.specs.declared.ast.Ty.{Ty}
use Rattle.protox_ast.specs.declared.ast.Ty.TheVariants as ty
use Rattle.protox_ast.specs.declared.ast.TypeName.{TypeName}
use Rattle.protox_describe.specs.Enums.{enum_proto, enum_value_proto}
use Rattle.protox_describe.specs.Services.{method_proto, service_proto}
use Rattle.protox_descriptor.specs.declared.descriptor.source_code_info.Location.{Location}
use Rattle.protox_fault.specs.Faults.{Span}
use Rattle.protox_generate.proofs.Leads.{each-both, list-start, names-start, options-start, ranges-start}
use Rattle.protox_generate.proofs.Placed.{Placed, all-at, below-tag, named-leaf, named-node, one-below, then-quiet}
use Rattle.protox_generate.specs.NamePaths.{enum_paths, in_list, method_paths, service_paths, value_paths}
use Rattle.protox_locate.proofs.Lemmas.{Below}
use Rattle.protox_locate.specs.EnumLocations.{enum_locations, enum_value_locations}
use Rattle.protox_locate.specs.FieldLocations.{OfKind, Normal, Group, Map, defaulted, extended, from_number, itself, json_named, label_locations, labelled, type_tag_of, typed}
use Rattle.protox_locate.specs.LocationWords.{Path, part, bare, commented, numbered, option_list, option_statements, range_statements, name_statements}
use Rattle.protox_locate.specs.ServiceLocations.{method_locations, service_locations, stream_locations}

module _ (numbers : Span → List ℤ) where
  -- ---- parts that are no name

  abbrev Behind : ℕ → Path → List Location → Type 0
  Behind high path ls = Each (Below path 2 high) ls

  one : (high : ℕ) (path : Path) (tag : ℕ) (span : Span) → 2 ≤ tag → tag < high → Behind high path (bare numbers (part path (pos tag)) span ∷ [])
  one high path tag span l h = one-below path tag 2 high (bare numbers (part path (pos tag)) span) l h refl

  pub options-below : (path : Path) (tag low high : ℕ) (ss : List OptionStatement) → low ≤ tag → tag < high → Each (Below path low high) (option_statements numbers (part path (pos tag)) ss)
  options-below path tag low high ss l h = below-tag path tag low high (option_statements numbers (part path (pos tag)) ss) l h (options-start numbers ss (part path (pos tag)))

  list-below : (path : Path) (tag high : ℕ) (options : Option OptionList) (bodies : List OptionBody) → 2 ≤ tag → tag < high → Behind high path (option_list numbers (part path (pos tag)) options bodies)
  list-below path tag high options bodies l h = below-tag path tag 2 high (option_list numbers (part path (pos tag)) options bodies) l h (list-start numbers options bodies (part path (pos tag)))

  -- ---- fields

  abbrev InField : Path → List Location → Type 0
  InField path ls = Behind 11 path ls

  in-field : (path : Path) (tag : ℕ) (span : Span) → 2 ≤ tag → tag < 11 → InField path (bare numbers (part path (pos tag)) span ∷ [])
  in-field path tag span l h = one 11 path tag span l h

  extended-below : (path : Path) (extendee : Option TypeName) → InField path (extended numbers path extendee)
  extended-below path None = tt
  extended-below path (Some extendee) = in-field path 2 (type_name_span extendee) (omega arith) (omega arith)

  label-below : (path : Path) (label : Option (FieldLabel × Span)) → InField path (label_locations numbers path label)
  label-below path None = tt
  label-below path (Some label) = in-field path 4 label.1 (omega arith) (omega arith)

  labelled-below : (path : Path) (label : Option (FieldLabel × Span)) (kind : OfKind) → InField path (labelled numbers path label kind)
  labelled-below path label (Normal type span) = label-below path label
  labelled-below path label (Group word body) = label-below path label
  labelled-below path label (Map span) = tt

  scalar-below : (path : Path) (span : Span) → InField path (bare numbers (part path (pos 5)) span ∷ [])
  scalar-below path span = in-field path 5 span (omega arith) (omega arith)

  named-below : (path : Path) (span : Span) → InField path (bare numbers (part path (pos 6)) span ∷ [])
  named-below path span = in-field path 6 span (omega arith) (omega arith)

  type-below : (path : Path) (type : Ty) (span : Span) → InField path (bare numbers (part path (type_tag_of type)) span ∷ [])
  type-below path ty.Double span = scalar-below path span
  type-below path ty.Float span = scalar-below path span
  type-below path ty.Int32 span = scalar-below path span
  type-below path ty.Int64 span = scalar-below path span
  type-below path ty.Uint32 span = scalar-below path span
  type-below path ty.Uint64 span = scalar-below path span
  type-below path ty.Sint32 span = scalar-below path span
  type-below path ty.Sint64 span = scalar-below path span
  type-below path ty.Fixed32 span = scalar-below path span
  type-below path ty.Fixed64 span = scalar-below path span
  type-below path ty.Sfixed32 span = scalar-below path span
  type-below path ty.Sfixed64 span = scalar-below path span
  type-below path ty.Bool span = scalar-below path span
  type-below path ty.String span = scalar-below path span
  type-below path ty.Bytes span = scalar-below path span
  type-below path (ty.Named name) span = named-below path span

  typed-below : (path : Path) (name : Ident) (kind : OfKind) → InField path (typed numbers path name kind)
  typed-below path name (Normal type span) = type-below path type span
  typed-below path name (Group word body) = ((scalar-below path word).0, named-below path name.span)
  typed-below path name (Map span) = named-below path span

  default-below : (path : Path) (body : Option OptionBody) → InField path (defaulted numbers path body)
  default-below path None = tt
  default-below path (Some body) = in-field path 7 (value_span body.value) (omega arith) (omega arith)

  json-below : (path : Path) (body : Option OptionBody) → InField path (json_named numbers path body)
  json-below path None = tt
  json-below path (Some body) = ((in-field path 10 (body_span body) (omega arith) (omega arith)).0, in-field path 10 (value_span body.value) (omega arith) (omega arith))

  number-below : (path : Path) (number : Int) (label : Option (FieldLabel × Span)) (name : Ident) (kind : OfKind) (options : Option OptionList)
      → InField path (from_number numbers path number label name kind options)
  number-below path number label name kind options =
      let P = Below path 2 11 in (
        (in-field path 3 number.span (omega arith) (omega arith)).0,
        each-both P (labelled numbers path label kind) _ (labelled-below path label kind)
            (each-both P (typed numbers path name kind) _ (typed-below path name kind)
            (each-both P (defaulted numbers path (default_of options)) _ (default-below path (default_of options))
            (each-both P (option_list numbers (part path (pos 8)) options (options_left options)) _
            (list-below path 8 11 options (options_left options) (omega arith) (omega arith))
            (json-below path (json_name_of options))))),
      )

  own-at : (path : Path) (span : Span) (comments : Comments) (kind : OfKind) → (itself numbers path span comments kind).path ≡ path
  own-at path span comments (Normal type s) = refl
  own-at path span comments (Group word body) = refl
  own-at path span comments (Map s) = refl

  pub field-placed : (label : Option (FieldLabel × Span)) (name : Ident) (kind : OfKind) (number : Int) (options : Option OptionList) (comments : Comments) (span : Span) (extendee : Option TypeName)
      → Placed ((pos 1 ∷ []) ∷ []) (λ path. itself numbers path span comments kind ∷ bare numbers (part path (pos 1)) name.span ∷ (extended numbers path extendee ++ from_number numbers path number label name kind options))
  field-placed label name kind number options comments span extendee =
      named-leaf numbers name.span (λ path. itself numbers path span comments kind) (λ path. extended numbers path extendee ++ from_number numbers path number label name kind options) 11 (omega arith)
      (λ path. own-at path span comments kind)
      (λ path. each-both (Below path 2 11) (extended numbers path extendee) (from_number numbers path number label name kind options) (extended-below path extendee) (number-below path number label name kind options))

  -- ---- oneofs

  pub oneof-placed : (name : Ident) (options : List OptionStatement) (comments : Comments) (span : Span)
      → Placed ((pos 1 ∷ []) ∷ []) (λ path. commented numbers path span comments ∷ bare numbers (part path (pos 1)) name.span ∷ option_statements numbers (part path (pos 2)) options)
  oneof-placed name options comments span =
      named-leaf numbers name.span (λ path. commented numbers path span comments) (λ path. option_statements numbers (part path (pos 2)) options) 3 (omega arith) (λ path. refl)
      (λ path. options-below path 2 2 3 options (omega arith) (omega arith))

  -- ---- enums

  value-placed : (value : EnumValue) → Placed (value_paths (enum_value_proto value)) (enum_value_locations numbers value)
  value-placed value =
      named-leaf numbers value.name.span (λ path. commented numbers path value.span value.comments)
      (λ path. bare numbers (part path (pos 2)) value.number.span ∷ option_list numbers (part path (pos 3)) value.options (listed value.options)) 4 (omega arith) (λ path. refl)
      (λ path. ((one 4 path 2 value.number.span (omega arith) (omega arith)).0, list-below path 3 4 value.options (listed value.options) (omega arith) (omega arith)))

  values-placed : (values : List EnumValue) → Pairs (λ v at. Placed (value_paths v) at) (map enum_value_proto values) (map (enum_value_locations numbers) values)
  values-placed [] = tt
  values-placed (v ∷ vs) = (value-placed v, values-placed vs)

  pub enum-placed : (enum : Enum) → Placed (enum_paths (enum_proto enum)) (enum_locations numbers enum)
  enum-placed enum =
      let values = (enum_proto enum).value in
      let ats = map (enum_value_locations numbers) enum.values in
      named-node numbers enum.name.span (in_list (pos 2) (map value_paths values)) (λ path. commented numbers path enum.span enum.comments)
      (λ path. numbered path (pos 2) 0 ats ++ (option_statements numbers (part path (pos 3)) enum.options ++ (range_statements numbers path (pos 4) enum.reserved ++ name_statements numbers path (pos 5) enum.reserved))) 6 (λ path. refl)
      (λ path. then-quiet path 2 3 6 (in_list (pos 2) (map value_paths values)) (numbered path (pos 2) 0 ats) _ (omega arith)
      (all-at value_paths path 2 2 3 values ats (omega arith) (omega arith) (values-placed enum.values))
      (each-both (Below path 3 6) (option_statements numbers (part path (pos 3)) enum.options) _ (options-below path 3 3 6 enum.options (omega arith) (omega arith))
      (each-both (Below path 3 6) (range_statements numbers path (pos 4) enum.reserved) (name_statements numbers path (pos 5) enum.reserved)
      (below-tag path 4 3 6 (range_statements numbers path (pos 4) enum.reserved) (omega arith) (omega arith) (ranges-start numbers path (pos 4) enum.reserved))
      (below-tag path 5 3 6 (name_statements numbers path (pos 5) enum.reserved) (omega arith) (omega arith) (names-start numbers path (pos 5) enum.reserved)))))

  -- ---- services

  stream-below : (path : Path) (tag : ℕ) (word : Option Span) → 2 ≤ tag → tag < 7 → Behind 7 path (stream_locations numbers (part path (pos tag)) word)
  stream-below path tag None l h = tt
  stream-below path tag (Some span) l h = one 7 path tag span l h

  method-placed : (method : Method) → Placed (method_paths (method_proto method)) (method_locations numbers method)
  method-placed method =
      named-leaf numbers method.name.span (λ path. commented numbers path method.span method.comments)
      (λ path.
      bare numbers (part path (pos 2)) (type_name_span method.input_ty)
      ∷ bare numbers (part path (pos 3)) (type_name_span method.output_ty)
      ∷ (option_statements numbers (part path (pos 4)) method.options
      ++ (stream_locations numbers (part path (pos 5)) method.client_streaming ++ stream_locations numbers (part path (pos 6)) method.server_streaming))) 7 (omega arith) (λ path. refl)
      (λ path. (
        (one 7 path 2 (type_name_span method.input_ty) (omega arith) (omega arith)).0,
        (
          (one 7 path 3 (type_name_span method.output_ty) (omega arith) (omega arith)).0,
          each-both (Below path 2 7) (option_statements numbers (part path (pos 4)) method.options) _ (options-below path 4 2 7 method.options (omega arith) (omega arith))
              (each-both (Below path 2 7) (stream_locations numbers (part path (pos 5)) method.client_streaming) (stream_locations numbers (part path (pos 6)) method.server_streaming)
              (stream-below path 5 method.client_streaming (omega arith) (omega arith)) (stream-below path 6 method.server_streaming (omega arith) (omega arith))),
        ),
      ))

  methods-placed : (methods : List Method) → Pairs (λ m at. Placed (method_paths m) at) (map method_proto methods) (map (method_locations numbers) methods)
  methods-placed [] = tt
  methods-placed (m ∷ ms) = (method-placed m, methods-placed ms)

  pub service-placed : (service : Service) → Placed (service_paths (service_proto service)) (service_locations numbers service)
  service-placed service =
      let methods = (service_proto service).method in
      let ats = map (method_locations numbers) service.methods in
      named-node numbers service.name.span (in_list (pos 2) (map method_paths methods)) (λ path. commented numbers path service.span service.comments)
      (λ path. numbered path (pos 2) 0 ats ++ option_statements numbers (part path (pos 3)) service.options) 4 (λ path. refl)
      (λ path. then-quiet path 2 3 4 (in_list (pos 2) (map method_paths methods)) (numbered path (pos 2) 0 ats) (option_statements numbers (part path (pos 3)) service.options) (omega arith)
      (all-at method_paths path 2 2 3 methods ats (omega arith) (omega arith) (methods-placed service.methods))
      (options-below path 3 3 4 service.options (omega arith) (omega arith)))
