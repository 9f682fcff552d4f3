-- Fields, oneofs, enums and services: their locations lead to their names.
use Rattle.std.proofs.Common.{◌≡◌, ℕ, false, List, [], ◌∷◌, ◌++◌, map, Option, Some, None, refl, ap}
use Rattle.std.specs.Prelude.{ℤ, pos, if◌then◌else◌}
use Rattle.std.specs.List.{filter_map}
use Rattle.std.specs.Ordering.{int_eq}
use Rattle.protox_ast.proofs.Lemmas.{Pairs, each-back, each-front}
use Rattle.protox_ast.specs.Ast as ast
use Rattle.protox_ast.specs.Basics.{Each}
use Rattle.protox_ast.specs.FieldNumbers.{scalar_number}
use Rattle.protox_ast.specs.Names.{type_name_span}
use Rattle.protox_ast.specs.Options.{default_of, json_name_of, listed, options_left}
use Rattle.protox_ast.specs.Places.{Place}
use Rattle.protox_ast.specs.Spans.{body_span, value_span}
use Rattle.protox_ast.specs.Spelling as s
use Rattle.protox_ast.specs.Tree as t
use Rattle.protox_ast.specs.Types.{scalar_type}
use Rattle.protox_ast.specs.declared.ast.Comments.{Comments}
use Rattle.protox_ast.specs.declared.ast.EnumValue.{EnumValue}
use Rattle.protox_ast.specs.declared.ast.FieldLabel.{FieldLabel}
use Rattle.protox_ast.specs.declared.ast.Ident.{Ident}
use Rattle.protox_ast.specs.declared.ast.Int.{Int}
use Rattle.protox_ast.specs.declared.ast.Method.{Method}
use Rattle.protox_ast.specs.declared.ast.OptionBody.{OptionBody}
use Rattle.protox_ast.specs.declared.ast.OptionList.{OptionList}
use Rattle.protox_ast.specs.declared.ast.Ty.{Ty}
use Rattle.protox_ast.specs.declared.ast.Ty.TheVariants as ty
use Rattle.protox_ast.specs.declared.ast.TypeName.{TypeName}
use Rattle.protox_describe.specs.Enums.{enum_proto, enum_value_proto}
use Rattle.protox_describe.specs.Services.{method_proto, service_proto}
use Rattle.protox_descriptor.specs.declared.descriptor.EnumDescriptorProto.{EnumDescriptorProto}
use Rattle.protox_descriptor.specs.declared.descriptor.ServiceDescriptorProto.{ServiceDescriptorProto}
use Rattle.protox_descriptor.specs.declared.descriptor.source_code_info.Location.{Location}
use Rattle.protox_fault.specs.Faults.{Span}
use Rattle.protox_generate.proofs.Leads.{Fits, Leads, a-name, all-fronts, alone, apart, each-both, leaf, list-start, names-start, options-start, ranges-start, siblings}
use Rattle.protox_generate.proofs.Spelled.{RowSpelled, TextAt}
use Rattle.protox_generate.specs.Names.{Lookup, Name, Written, Writes, at, in_enum, in_method, in_service, in_value, is_group, own, written}
use Rattle.protox_locate.specs.EnumLocations.{enum_locations, enum_value_locations}
use Rattle.protox_locate.specs.FieldLocations.{OfKind, Normal, Group, Map, defaulted, extended, from_number, itself, json_named, label_locations, labelled, type_tag_of, typed}
use Rattle.protox_places.specs.Lines.{span_numbers}
use Rattle.protox_locate.specs.LocationWords.{Path, part, bare, option_list}
use Rattle.protox_locate.specs.ServiceLocations.{method_locations, service_locations, stream_locations}

-- ---- types

pub not-group : (type : Ty) → is_group (scalar_number (scalar_type type)) ≡ false
not-group ty.Double = refl
not-group ty.Float = refl
not-group ty.Int32 = refl
not-group ty.Int64 = refl
not-group ty.Uint32 = refl
not-group ty.Uint64 = refl
not-group ty.Sint32 = refl
not-group ty.Sint64 = refl
not-group ty.Fixed32 = refl
not-group ty.Fixed64 = refl
not-group ty.Sfixed32 = refl
not-group ty.Sfixed64 = refl
not-group ty.Bool = refl
not-group ty.String = refl
not-group ty.Bytes = refl
not-group (ty.Named name) = refl

type-tag : (type : Ty) → int_eq (type_tag_of type) (pos 1) ≡ false
type-tag ty.Double = refl
type-tag ty.Float = refl
type-tag ty.Int32 = refl
type-tag ty.Int64 = refl
type-tag ty.Uint32 = refl
type-tag ty.Uint64 = refl
type-tag ty.Sint32 = refl
type-tag ty.Sint64 = refl
type-tag ty.Fixed32 = refl
type-tag ty.Fixed64 = refl
type-tag ty.Sfixed32 = refl
type-tag ty.Sfixed64 = refl
type-tag ty.Bool = refl
type-tag ty.String = refl
type-tag ty.Bytes = refl
type-tag (ty.Named name) = refl

-- Behind a number other than 1 there is no name of the part itself.
pub own-none : (name : Option Name) (tag : ℤ) → int_eq tag (pos 1) ≡ false → (rest : Path) → own name (tag ∷ rest) ≡ None
own-none name tag e [] = ap (λ b. if b then name else None) e
own-none name tag e (place ∷ rest) = refl

module _ (source : List ℕ) where
  abbrev numbers : Span → List ℤ
  numbers = span_numbers source

  abbrev pub Spelled : Ident → Type 0
  Spelled ident = TextAt source ident.span ident.value

  -- ---- fields

  own-at : (path : Path) (span : Span) (comments : Comments) (kind : OfKind) → (itself numbers path span comments kind).path ≡ path
  own-at path span comments (Normal type s) = refl
  own-at path span comments (Group word body) = refl
  own-at path span comments (Map s) = refl

  module _ (name : Name) where
    abbrev look : Lookup
    look = own (Some name)

    abbrev Row : Path → List Location → Type 0
    Row path ls = Each (Leads source look path) ls

    one : (path : Path) (tag : ℤ) (span : Span) → int_eq tag (pos 1) ≡ false → Row path (bare numbers (part path tag) span ∷ [])
    one path tag span e = (leaf source look path tag (bare numbers (part path tag) span) (own-none (Some name) tag e []) refl, tt)

    extended-row : (path : Path) (extendee : Option TypeName) → Row path (extended numbers path extendee)
    extended-row path None = tt
    extended-row path (Some extendee) = one path (pos 2) (type_name_span extendee) refl

    label-row : (path : Path) (label : Option (FieldLabel × Span)) → Row path (label_locations numbers path label)
    label-row path None = tt
    label-row path (Some label) = one path (pos 4) label.1 refl

    labelled-row : (path : Path) (label : Option (FieldLabel × Span)) (kind : OfKind) → Row path (labelled numbers path label kind)
    labelled-row path label (Normal type span) = label-row path label
    labelled-row path label (Group word body) = label-row path label
    labelled-row path label (Map span) = tt

    typed-row : (path : Path) (ident : Ident) (kind : OfKind) → Row path (typed numbers path ident kind)
    typed-row path ident (Normal type span) = one path (type_tag_of type) span (type-tag type)
    typed-row path ident (Group word body) = ((one path (pos 5) word refl).0, one path (pos 6) ident.span refl)
    typed-row path ident (Map span) = one path (pos 6) span refl

    default-row : (path : Path) (body : Option OptionBody) → Row path (defaulted numbers path body)
    default-row path None = tt
    default-row path (Some body) = one path (pos 7) (value_span body.value) refl

    json-row : (path : Path) (body : Option OptionBody) → Row path (json_named numbers path body)
    json-row path None = tt
    json-row path (Some body) = ((one path (pos 10) (body_span body) refl).0, one path (pos 10) (value_span body.value) refl)

    number-row : (path : Path) (number : Int) (label : Option (FieldLabel × Span)) (ident : Ident) (kind : OfKind) (options : Option OptionList)
        → Row path (from_number numbers path number label ident kind options)
    number-row path number label ident kind options =
        let P = Leads source look path in (
          (one path (pos 3) number.span refl).0,
          each-both P (labelled numbers path label kind) _ (labelled-row path label kind)
              (each-both P (typed numbers path ident kind) _ (typed-row path ident kind)
              (each-both P (defaulted numbers path (default_of options)) _ (default-row path (default_of options))
              (each-both P (option_list numbers (part path (pos 8)) options (options_left options)) _
              (apart source look path (pos 8) _ (own-none (Some name) (pos 8) refl) (list-start numbers options (options_left options) (part path (pos 8))))
              (json-row path (json_name_of options))))),
        )

    -- a field, whose text writes this name
    pub field-fits : (label : Option (FieldLabel × Span)) (ident : Ident) (kind : OfKind) (number : Int) (options : Option OptionList) (comments : Comments) (span : Span)
        → Spelled ident → ((text : List ℕ) → text ≡ ident.value → Writes text name) → (extendee : Option TypeName)
        → Fits source look (λ path. itself numbers path span comments kind ∷ bare numbers (part path (pos 1)) ident.span ∷ (extended numbers path extendee ++ from_number numbers path number label ident kind options))
    field-fits label ident kind number options comments span spelled writes extendee path = (
      alone source look path (itself numbers path span comments kind) refl (own-at path span comments kind),
      (
        a-name source look path ident name refl spelled writes,
        each-both (Leads source look path) (extended numbers path extendee) _ (extended-row path extendee) (number-row path number label ident kind options),
      ),
    )

  -- ---- enums

  value-fits : (value : EnumValue) → Spelled value.name → Fits source (in_value (enum_value_proto value)) (enum_value_locations numbers value)
  value-fits value spelled path =
      let look = in_value (enum_value_proto value) in (
        alone source look path _ refl refl,
        (
          a-name source look path value.name (Written value.name.value) refl spelled (λ text e. e),
          (
            leaf source look path (pos 2) _ refl refl,
            apart source look path (pos 3) _ (own-none (written (enum_value_proto value).name) (pos 3) refl) (list-start numbers value.options (listed value.options) (part path (pos 3))),
          ),
        ),
      )

  enum-none : (enum : EnumDescriptorProto) (tag : ℤ) → int_eq tag (pos 1) ≡ false → int_eq tag (pos 2) ≡ false → (rest : Path) → in_enum enum (tag ∷ rest) ≡ None
  enum-none enum tag e f [] = own-none (written enum.name) tag e []
  enum-none enum tag e f (place ∷ rest) = ap (λ b. if b then at in_value enum.value place rest else None) f

  values-fit : (values : List EnumValue) → Each (λ (v : EnumValue). Spelled v.name) values
      → Pairs (λ v at. Fits source (in_value v) at) (map enum_value_proto values) (map (enum_value_locations numbers) values)
  values-fit [] h = tt
  values-fit (v ∷ vs) h = (value-fits v h.0, values-fit vs h.1)

  values-spelled : (xs : List (t.EnumElement Place)) → Each (RowSpelled source) (s.many s.enum_element xs) → Each (λ (v : EnumValue). Spelled v.name) (filter_map ast.enum_value xs)
  values-spelled [] h = tt
  values-spelled (t.enum_value x ∷ xs) h = (h.0 x.name.0 refl, values-spelled xs (each-back (RowSpelled source) (s.evalue x) (s.many s.enum_element xs) h))
  values-spelled (t.enum_empty m ∷ xs) h = values-spelled xs h.1
  values-spelled (t.enum_option x ∷ xs) h = values-spelled xs (each-back (RowSpelled source) (s.option x) (s.many s.enum_element xs) h)
  values-spelled (t.enum_reserved x ∷ xs) h = values-spelled xs (each-back (RowSpelled source) (s.reserved x) (s.many s.enum_element xs) h)

  pub enum-fits : (x : t.Enum Place) → Each (RowSpelled source) (s.enum x) → Fits source (in_enum (enum_proto (ast.enum x))) (enum_locations numbers (ast.enum x))
  enum-fits x h path =
      let enum = ast.enum x in
      let look = in_enum (enum_proto enum) in
      let P = Leads source look path in
      let values = values-spelled x.elements (each-front (RowSpelled source) (s.many s.enum_element x.elements) _ h.1.1.1) in
      let none = enum-none (enum_proto enum) in (
        alone source look path _ refl refl,
        (
          a-name source look path enum.name (Written enum.name.value) refl (h.1.0 x.name.0 refl) (λ text e. e),
          each-both P _ _
              (siblings source in_value look (pos 2) (enum_proto enum).value _ (λ place rest. refl) (all-fronts _ _ _ (values-fit enum.values values)) path)
              (each-both P _ _ (apart source look path (pos 3) _ (none (pos 3) refl refl) (options-start numbers enum.options (part path (pos 3))))
              (each-both P _ _ (apart source look path (pos 4) _ (none (pos 4) refl refl) (ranges-start numbers path (pos 4) enum.reserved))
              (apart source look path (pos 5) _ (none (pos 5) refl refl) (names-start numbers path (pos 5) enum.reserved)))),
        ),
      )

  -- ---- services

  stream-row : (inside : Lookup) (path : Path) (tag : ℤ) (word : Option Span) → inside (tag ∷ []) ≡ None → Each (Leads source inside path) (stream_locations numbers (part path tag) word)
  stream-row inside path tag None e = tt
  stream-row inside path tag (Some span) e = (leaf source inside path tag _ e refl, tt)

  method-fits : (method : Method) → Spelled method.name → Fits source (in_method (method_proto method)) (method_locations numbers method)
  method-fits method spelled path =
      let look = in_method (method_proto method) in
      let P = Leads source look path in (
        alone source look path _ refl refl,
        (
          a-name source look path method.name (Written method.name.value) refl spelled (λ text e. e),
          (
            leaf source look path (pos 2) _ refl refl,
            (
              leaf source look path (pos 3) _ refl refl,
              each-both P _ _ (apart source look path (pos 4) _ (own-none (written (method_proto method).name) (pos 4) refl) (options-start numbers method.options (part path (pos 4))))
                  (each-both P _ _ (stream-row look path (pos 5) method.client_streaming refl) (stream-row look path (pos 6) method.server_streaming refl)),
            ),
          ),
        ),
      )

  service-none : (service : ServiceDescriptorProto) (rest : Path) → in_service service (pos 3 ∷ rest) ≡ None
  service-none service [] = refl
  service-none service (place ∷ rest) = refl

  methods-fit : (methods : List Method) → Each (λ (m : Method). Spelled m.name) methods → Pairs (λ m at. Fits source (in_method m) at) (map method_proto methods) (map (method_locations numbers) methods)
  methods-fit [] h = tt
  methods-fit (m ∷ ms) h = (method-fits m h.0, methods-fit ms h.1)

  methods-spelled : (xs : List (t.ServiceElement Place)) → Each (RowSpelled source) (s.many s.service_element xs) → Each (λ (m : Method). Spelled m.name) (filter_map ast.service_rpc xs)
  methods-spelled [] h = tt
  methods-spelled (t.service_rpc x ∷ xs) h = (h.1.0 x.name.0 refl, methods-spelled xs (each-back (RowSpelled source) (s.rpc x) (s.many s.service_element xs) h))
  methods-spelled (t.service_empty m ∷ xs) h = methods-spelled xs h.1
  methods-spelled (t.service_option x ∷ xs) h = methods-spelled xs (each-back (RowSpelled source) (s.option x) (s.many s.service_element xs) h)

  pub service-fits : (x : t.Service Place) → Each (RowSpelled source) (s.service x) → Fits source (in_service (service_proto (ast.service x))) (service_locations numbers (ast.service x))
  service-fits x h path =
      let service = ast.service x in
      let look = in_service (service_proto service) in
      let methods = methods-spelled x.elements (each-front (RowSpelled source) (s.many s.service_element x.elements) _ h.1.1.1) in
      let none = service-none (service_proto service) in (
        alone source look path _ refl refl,
        (
          a-name source look path service.name (Written service.name.value) refl (h.1.0 x.name.0 refl) (λ text e. e),
          each-both (Leads source look path) _ _
              (siblings source in_method look (pos 2) (service_proto service).method _ (λ place rest. refl) (all-fronts _ _ _ (methods-fit service.methods methods)) path)
              (apart source look path (pos 3) _ none (options-start numbers service.options (part path (pos 3)))),
        ),
      )
