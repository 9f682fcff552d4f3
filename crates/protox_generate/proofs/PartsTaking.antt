-- What the parts of a declaration take. Names, types, numbers, options and ranges take no comments;
-- a statement takes its own.
use Rattle.std.proofs.Common.{◌≡◌, ◌+◌, ◌≤◌, List, [], ◌∷◌, ◌++◌, map, flat_map, Option, Some, None, ℤ, refl, arith}
use Rattle.protox_fault.specs.Faults.{Span}
use Rattle.protox_ast.specs.Ast as ast
use Rattle.protox_ast.specs.Options.{OptionStatement, default_of, json_name_of, options_left, listed}
use Rattle.protox_ast.specs.Places.{Place}
use Rattle.protox_ast.specs.Spelling as s
use Rattle.protox_ast.specs.Tree as t
use Rattle.protox_ast.specs.Ranges.{kind_names, kind_ranges}
use Rattle.protox_ast.specs.declared.ast.Extensions.{Extensions}
use Rattle.protox_ast.specs.declared.ast.Ident.{Ident}
use Rattle.protox_ast.specs.declared.ast.Int.{Int}
use Rattle.protox_ast.specs.declared.ast.FieldLabel.{FieldLabel}
use Rattle.protox_ast.specs.declared.ast.OptionBody.{OptionBody}
use Rattle.protox_ast.specs.declared.ast.OptionList.{OptionList}
use Rattle.protox_ast.specs.declared.ast.Reserved.{Reserved}
use Rattle.protox_ast.specs.declared.ast.ReservedRange.{ReservedRange}
use Rattle.protox_ast.specs.declared.ast.TypeName.{TypeName}
use Rattle.protox_descriptor.specs.declared.descriptor.source_code_info.Location.{Location}
use Rattle.protox_descriptor.specs.declared.tag.TheConstants.{UNINTERPRETED_OPTION}
use Rattle.protox_descriptor.specs.declared.tag.message.TheConstants as message_tag
use Rattle.protox_descriptor.specs.declared.tag.message.extension_range.TheConstants as extension_range_tag
use Rattle.protox_locate.specs.LocationWords.{Path, part, option_place, option_statement, option_statements, option_body, option_list, range_locations, reserved_name, reserved_statement, range_statement, name_statement, range_statements, name_statements, extension_range, extensions_statement, extensions_statements}
use Rattle.protox_locate.specs.FieldLocations.{OfKind, Normal, Group, Map, extended, labelled, typed, defaulted, json_named, from_number}
use Rattle.protox_generate.proofs.Taking.{Weights, Cost, free, behind-append, weigh, weigh-append, Take, take-none, take-bare, take-ending, bare-then, then-bare, Parts, parts-none, parts-one, parts-bare, parts-flat}

module _ (numbers : Span → List ℤ) where
  -- ---- options

  one-bare : {l : Location} → (l.leading_comments ≡ None) × (l.trailing_comments ≡ None) × (l.leading_detached_comments ≡ []) → Take numbers (l ∷ []) free
  one-bare says = take-bare says (take-none free)

  pub list-free : (path : Path) (list : Option OptionList) (bodies : List OptionBody) → Take numbers (option_list numbers path list bodies) free
  list-free path None bodies = take-none free
  list-free path (Some list) bodies = take-bare (refl, refl, refl) ((parts-bare (option_body numbers) (λ x path. one-bare (refl, refl, refl)) bodies).numbered path UNINTERPRETED_OPTION 0)

  -- option statements: bare at the options' path, and with their comments as options
  pub options-take : (path : Path) (xs : List OptionStatement) {c : Cost} → Parts numbers (map (option_statement numbers) xs) c → Take numbers (option_statements numbers path xs) c
  options-take path xs t = bare-then ((parts-bare (option_place numbers) (λ x path. one-bare (refl, refl, refl)) xs).at path) (t.numbered path UNINTERPRETED_OPTION 0)

  pub option-takes : (x : t.OptionStatement Place) → Parts numbers (option_statement numbers (ast.option x) ∷ []) (λ w. weigh w (s.option x))
  option-takes x = parts-one (λ path. take-ending x.keyword x.end (refl, refl, refl, refl) (take-none free)
      (λ w. omega (arith, weigh-append w (s.body x.body) (s.sign s.semicolon x.end), behind-append w x.keyword (s.body x.body) (s.sign s.semicolon x.end))))

  -- ---- ranges

  range-free : (x : ReservedRange) (path : Path) → Take numbers (range_locations numbers x path) free
  range-free x path = take-bare (refl, refl, refl) (take-bare (refl, refl, refl) (one-bare (refl, refl, refl)))

  pub ranges-take : (path : Path) (tag : ℤ) (xs : List Reserved) {c : Cost} → Parts numbers (flat_map (λ (x : Reserved). range_statement numbers x x.kind) xs) c → Take numbers (range_statements numbers path tag xs) c
  ranges-take path tag xs t =
      then-bare (t.at (part path tag)) ((parts-flat (λ (x : Reserved). map (range_locations numbers) (kind_ranges x.kind)) (λ x. parts-bare (range_locations numbers) range-free (kind_ranges x.kind)) xs).numbered path tag 0)

  pub names-take : (path : Path) (tag : ℤ) (xs : List Reserved) {c : Cost} → Parts numbers (flat_map (λ (x : Reserved). name_statement numbers x x.kind) xs) c → Take numbers (name_statements numbers path tag xs) c
  names-take path tag xs t =
      then-bare (t.at (part path tag)) ((parts-flat (λ (x : Reserved). map (reserved_name numbers) (kind_names x.kind)) (λ x. parts-bare (reserved_name numbers) (λ y path. one-bare (refl, refl, refl)) (kind_names x.kind)) xs).numbered path tag 0)

  pub extensions-take : (path : Path) (xs : List Extensions) {c : Cost} → Parts numbers (map (extensions_statement numbers) xs) c → Take numbers (extensions_statements numbers path xs) c
  extensions-take path xs t =
      then-bare (t.at (part path message_tag.EXTENSION_RANGE))
      ((parts-flat (λ (x : Extensions). map (extension_range numbers x) x.ranges) (λ x. parts-bare (extension_range numbers x) (λ y path. bare-then (range-free y path) (list-free (part path extension_range_tag.OPTIONS) x.options (listed x.options))) x.ranges) xs).numbered path message_tag.EXTENSION_RANGE 0)

  pub extensions_statement-takes : (x : t.Extensions Place) → Parts numbers (extensions_statement numbers (ast.extensions x) ∷ []) (λ w. weigh w (s.extensions x))
  extensions_statement-takes x = parts-one (λ path. take-ending x.keyword x.end (refl, refl, refl, refl) (take-none free)
      (λ w. omega (
        arith,
        weigh-append w (s.ranges x.ranges) (s.maybe s.list x.options ++ s.sign s.semicolon x.end),
        weigh-append w (s.maybe s.list x.options) (s.sign s.semicolon x.end),
        behind-append w x.keyword (s.ranges x.ranges) (s.maybe s.list x.options ++ s.sign s.semicolon x.end),
        behind-append w x.keyword (s.maybe s.list x.options) (s.sign s.semicolon x.end),
      )))

  reserved-one : (x : t.Reserved Place) (path : Path) → Take numbers (reserved_statement numbers (ast.reserved x) path) (λ w. weigh w (s.reserved x))
  reserved-one x path = take-ending x.keyword x.end (refl, refl, refl, refl) (take-none free)
      (λ w. omega (arith, weigh-append w (s.reserved_kind x.kind) (s.sign s.semicolon x.end), behind-append w x.keyword (s.reserved_kind x.kind) (s.sign s.semicolon x.end)))

  -- a reserved statement has ranges or names
  pub record Reserves (x : t.Reserved Place) : Type 0 where
    pub ranges : Cost
    pub names : Cost
    pub range_parts : Parts numbers (range_statement numbers (ast.reserved x) (ast.reserved x).kind) ranges
    pub name_parts : Parts numbers (name_statement numbers (ast.reserved x) (ast.reserved x).kind) names
    pub within : (w : Weights) → ranges w + names w ≤ weigh w (s.reserved x)

  pub reserved-takes : (x : t.Reserved Place) → Reserves x
  reserved-takes x = of x.kind
    where
      of : (kind : t.ReservedKind Place) → Reserves (record { keyword = x.keyword; kind = kind; end = x.end })
      of (t.ranges y) = record {
        ranges = λ w. weigh w (s.reserved (record { keyword = x.keyword; kind = t.ranges y; end = x.end }));
        names = free;
        range_parts = parts-one (reserved-one (record { keyword = x.keyword; kind = t.ranges y; end = x.end }));
        name_parts = parts-none free;
        within = λ w. omega arith;
      }
      of (t.names y) = record {
        ranges = free;
        names = λ w. weigh w (s.reserved (record { keyword = x.keyword; kind = t.names y; end = x.end }));
        range_parts = parts-none free;
        name_parts = parts-one (reserved-one (record { keyword = x.keyword; kind = t.names y; end = x.end }));
        within = λ w. omega arith;
      }

  -- ---- fields, but for the location of the field itself

  labelled-free : (path : Path) (label : Option (FieldLabel × Span)) (kind : OfKind) → Take numbers (labelled numbers path label kind) free
  labelled-free path label (Map span) = take-none free
  labelled-free path None (Normal type span) = take-none free
  labelled-free path None (Group word body) = take-none free
  labelled-free path (Some x) (Normal type span) = one-bare (refl, refl, refl)
  labelled-free path (Some x) (Group word body) = one-bare (refl, refl, refl)

  typed-free : (path : Path) (name : Ident) (kind : OfKind) → Take numbers (typed numbers path name kind) free
  typed-free path name (Normal type span) = one-bare (refl, refl, refl)
  typed-free path name (Group word body) = take-bare (refl, refl, refl) (one-bare (refl, refl, refl))
  typed-free path name (Map span) = one-bare (refl, refl, refl)

  defaulted-free : (path : Path) (x : Option OptionBody) → Take numbers (defaulted numbers path x) free
  defaulted-free path None = take-none free
  defaulted-free path (Some x) = one-bare (refl, refl, refl)

  json_named-free : (path : Path) (x : Option OptionBody) → Take numbers (json_named numbers path x) free
  json_named-free path None = take-none free
  json_named-free path (Some x) = take-bare (refl, refl, refl) (one-bare (refl, refl, refl))

  extended-free : (path : Path) (x : Option TypeName) → Take numbers (extended numbers path x) free
  extended-free path None = take-none free
  extended-free path (Some x) = one-bare (refl, refl, refl)

  from_number-free : (path : Path) (number : Int) (label : Option (FieldLabel × Span)) (name : Ident) (kind : OfKind) (options : Option OptionList) → Take numbers (from_number numbers path number label name kind options) free
  from_number-free path number label name kind options =
      take-bare (refl, refl, refl) (bare-then (labelled-free path label kind) (bare-then (typed-free path name kind) (bare-then (defaulted-free path (default_of options))
      (bare-then (list-free _ options (options_left options)) (json_named-free path (json_name_of options))))))

  -- the parts behind a field's own location
  pub behind-free : (path : Path) (extendee : Option TypeName) (number : Int) (label : Option (FieldLabel × Span)) (name : Ident) (kind : OfKind) (options : Option OptionList)
      → Take numbers (extended numbers path extendee ++ from_number numbers path number label name kind options) free
  behind-free path extendee number label name kind options = bare-then (extended-free path extendee) (from_number-free path number label name kind options)
