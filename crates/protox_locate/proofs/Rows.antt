-- The parts of a tree are in order from their paths on, if statements of one kind rise.
use Rattle.std.proofs.Common.{◌≡◌, ℕ, ◌<◌, ◌≤◌, Bool, true, false, List, [], ◌∷◌, ◌++◌, map, flat_map, Option, Some, None, refl, ap, sym, arith, subst}
use Rattle.std.specs.Prelude.{ℤ, pos, if◌then◌else◌, codes, find}
use Rattle.protox_fault.specs.Faults.{Span}
use Rattle.protox_ast.specs.Basics.{Each}
use Rattle.protox_ast.specs.Options.{OptionStatement, has_name, listed}
use Rattle.protox_ast.specs.Ranges.{kind_names, kind_ranges}
use Rattle.protox_ast.specs.Siblings as places
use Rattle.protox_ast.specs.Siblings.{Siblings}
use Rattle.protox_ast.specs.Names.{type_name_span}
use Rattle.protox_ast.specs.Spans.{body_span, value_span, range_span, start_span, end_span}
use Rattle.protox_ast.specs.declared.ast.Comments.{Comments}
use Rattle.protox_ast.specs.declared.ast.Enum.{Enum}
use Rattle.protox_ast.specs.declared.ast.EnumValue.{EnumValue}
use Rattle.protox_ast.specs.declared.ast.Extensions.{Extensions}
use Rattle.protox_ast.specs.declared.ast.Ident.{Ident}
use Rattle.protox_ast.specs.declared.ast.Method.{Method}
use Rattle.protox_ast.specs.declared.ast.OptionBody.{OptionBody}
use Rattle.protox_ast.specs.declared.ast.OptionList.{OptionList}
use Rattle.protox_ast.specs.declared.ast.OptionNamePart.{OptionNamePart}
use Rattle.protox_ast.specs.declared.ast.OptionNamePart.TheVariants as name_part
use Rattle.protox_ast.specs.declared.ast.Reserved.{Reserved}
use Rattle.protox_ast.specs.declared.ast.ReservedKind.{ReservedKind}
use Rattle.protox_ast.specs.declared.ast.ReservedKind.TheVariants as reserved
use Rattle.protox_ast.specs.declared.ast.ReservedRange.{ReservedRange}
use Rattle.protox_ast.specs.declared.ast.Service.{Service}
use Rattle.protox_descriptor.specs.declared.descriptor.source_code_info.Location.{Location}
use Rattle.protox_locate.specs.EnumLocations.{enum_locations, enum_value_locations}
use Rattle.protox_locate.specs.FieldLocations.{json_named}
use Rattle.protox_locate.specs.LocationWords.{Path, Part, part, each_at, commented, bare, option_place, option_statement, option_statements, option_body, option_list, numbered, range_locations, reserved_name, range_statement, name_statement, range_statements, name_statements, extension_range, extensions_statement, extensions_statements}
use Rattle.protox_locate.specs.ServiceLocations.{method_locations, service_locations, stream_locations}
use Rattle.protox_locate.proofs.Order.{Run, Good, AtOne, each_both, none, joined, leaf, statements, and_siblings, all_at, node}

-- each starts before those behind it, by a relation of starts
abbrev pub RiseBy : (ℕ → ℕ → Type 0) → List Span → Type 0
RiseBy Later [] = Unit {0}
RiseBy Later (x ∷ xs) = Each (λ (y : Span). Later x.start y.start) xs × RiseBy Later xs

pub each_map : {A B : Type 0} (P : B → Type 0) (f : A → B) (xs : List A) → ((x : A) → P (f x)) → Each P (map f xs)
each_map P f [] h = tt
each_map P f (x ∷ xs) h = (h x, each_map P f xs h)

pub each_flat : {A B : Type 0} (P : B → Type 0) (f : A → List B) (xs : List A) → Each (λ x. Each P (f x)) xs → Each P (flat_map f xs)
each_flat P f [] h = tt
each_flat P f (x ∷ xs) h = each_both P (f x) (flat_map f xs) h.0 (each_flat P f xs h.1)

pub each_all : {A : Type 0} (P : A → Type 0) (xs : List A) → ((x : A) → P x) → Each P xs
each_all P [] h = tt
each_all P (x ∷ xs) h = (h x, each_all P xs h)

-- how a tree stands in a source, as far as the order needs it: the starts of siblings rise
pub record Standing (Later : ℕ → ℕ → Type 0) (Stands : List Siblings → Type 0) : Type 0 where
  pub first : (s : Siblings) (ss : List Siblings) → Stands (s ∷ ss) → RiseBy Later s.children
  pub rest : (s : Siblings) (ss : List Siblings) → Stands (s ∷ ss) → Stands ss
  pub front : (xs ys : List Siblings) → Stands (xs ++ ys) → Stands xs
  pub back : (xs ys : List Siblings) → Stands (xs ++ ys) → Stands ys

module _ (numbers : Span → List ℤ) (Same : Location → Location → Type 0) (Later : ℕ → ℕ → Type 0)
    (so : (a b : Location) (x y : Span) → a.span ≡ numbers x → b.span ≡ numbers y → Later x.start y.start → Same a b) where
  -- a part that is one location of this place, at its path
  pub record Stood (at : Part) (place : Span) : Type 0 where
    pub one : Path → Location
    pub is : (path : Path) → at path ≡ one path ∷ []
    pub path : (path : Path) → (one path).path ≡ path
    pub span : (path : Path) → (one path).span ≡ numbers place

  abbrev pub AllStood : List Part → List Span → Type 0
  AllStood [] [] = Unit {0}
  AllStood [] (x ∷ xs) = ⊥
  AllStood (at ∷ ats) [] = ⊥
  AllStood (at ∷ ats) (x ∷ xs) = Stood at x × AllStood ats xs

  pub stood_both : (ats bts : List Part) (xs ys : List Span) → AllStood ats xs → AllStood bts ys → AllStood (ats ++ bts) (xs ++ ys)
  stood_both [] bts [] ys a b = b
  stood_both [] bts (x ∷ xs) ys a b = absurd a
  stood_both (at ∷ ats) bts [] ys a b = absurd a
  stood_both (at ∷ ats) bts (x ∷ xs) ys a b = (a.0, stood_both ats bts xs ys a.1 b)

  pub commented_stood : (span : Span) (comments : Comments) → Stood (λ path. commented numbers path span comments ∷ []) span
  commented_stood span comments = record { one = λ path. commented numbers path span comments; is = λ path. refl; path = λ path. refl; span = λ path. refl }

  bare_stood : (span : Span) → Stood (λ path. bare numbers path span ∷ []) span
  bare_stood span = record { one = λ path. bare numbers path span; is = λ path. refl; path = λ path. refl; span = λ path. refl }

  later_same : (p : Path) (l : Location) (x : Span) (ats : List Part) (xs : List Span) → l.span ≡ numbers x → AllStood ats xs → Each (λ (y : Span). Later x.start y.start) xs
      → Each (Same l) (each_at p ats)
  later_same p l x [] [] e a r = tt
  later_same p l x [] (y ∷ ys) e a r = absurd a
  later_same p l x (at ∷ ats) [] e a r = absurd a
  later_same p l x (at ∷ ats) (y ∷ ys) e a r =
      subst (λ ls. Each (Same l) (ls ++ each_at p ats)) (sym (a.0.is p)) (so l (a.0.one p) x y e (a.0.span p) r.0, later_same p l x ats ys e a.1 r.1)

  -- statements of one kind, whose starts rise
  pub at_one : (p : Path) (ats : List Part) (xs : List Span) → AllStood ats xs → RiseBy Later xs → AtOne Same p (each_at p ats)
  at_one p [] [] a r = tt
  at_one p [] (x ∷ xs) a r = absurd a
  at_one p (at ∷ ats) [] a r = absurd a
  at_one p (at ∷ ats) (x ∷ xs) a r =
      subst (λ ls. AtOne Same p (ls ++ each_at p ats)) (sym (a.0.is p)) (a.0.path p, later_same p (a.0.one p) x ats xs (a.0.span p) a.1 r.0, at_one p ats xs a.1 r.1)

  -- ---- leaves

  pub one : (path : Path) (t low high : ℕ) (span : Span) → low ≤ t → t < high → Run Same path low high (bare numbers (part path (pos t)) span ∷ [])
  one path t low high span a b = leaf Same path t low high (bare numbers (part path (pos t)) span) refl a b

  pub bare_good : (span : Span) → Good Same (λ path. bare numbers path span ∷ [])
  bare_good span = node Same (λ path. bare numbers path span ∷ []) (λ path. []) 0 0 (λ path. (refl, tt, tt)) (λ path. none Same path 0 0 (omega arith))

  pub commented_good : (span : Span) (comments : Comments) → Good Same (λ path. commented numbers path span comments ∷ [])
  commented_good span comments =
      node Same (λ path. commented numbers path span comments ∷ []) (λ path. []) 0 0 (λ path. (refl, tt, tt)) (λ path. none Same path 0 0 (omega arith))

  -- ---- options

  pub list_row : (path : Path) (t low high : ℕ) (list : Option OptionList) (bodies : List OptionBody) → low ≤ t → t < high → Run Same path low high (option_list numbers (part path (pos t)) list bodies)
  list_row path t low high None bodies a b = none Same path low high (omega (arith, a, b))
  list_row path t low high (Some list) bodies a b =
      statements Same path t 999 1000 low high (bare numbers (part path (pos t)) list.span ∷ []) _ (refl, tt, tt)
      (all_at Same (part path (pos t)) 999 999 1000 (map (option_body numbers) bodies) (each_map (Good Same) (option_body numbers) bodies (λ x. bare_good (body_span x))) (omega arith) (omega arith)) a b

  options_stood : (ss : List OptionStatement) → AllStood (map (option_place numbers) ss) (places.option_spans ss)
  options_stood [] = tt
  options_stood (x ∷ ss) = (bare_stood x.span, options_stood ss)

  pub options_row : (path : Path) (t low high : ℕ) (ss : List OptionStatement) → RiseBy Later (places.option_spans ss) → low ≤ t → t < high
      → Run Same path low high (option_statements numbers (part path (pos t)) ss)
  options_row path t low high ss r a b =
      statements Same path t 999 1000 low high (each_at (part path (pos t)) (map (option_place numbers) ss)) _ (at_one (part path (pos t)) (map (option_place numbers) ss) (places.option_spans ss) (options_stood ss) r)
      (all_at Same (part path (pos t)) 999 999 1000 (map (option_statement numbers) ss) (each_map (Good Same) (option_statement numbers) ss (λ x. commented_good x.span x.comments)) (omega arith) (omega arith)) a b

  -- ---- ranges

  range_good : (range : ReservedRange) → Good Same (range_locations numbers range)
  range_good range =
      node Same (λ path. bare numbers path (range_span range) ∷ []) (λ path. bare numbers (part path (pos 1)) (start_span range) ∷ bare numbers (part path (pos 2)) (end_span range) ∷ []) 1 3 (λ path. (refl, tt, tt))
      (λ path. joined Same path 1 2 3 (bare numbers (part path (pos 1)) (start_span range) ∷ []) (bare numbers (part path (pos 2)) (end_span range) ∷ []) (one path 1 1 2 (start_span range) (omega arith) (omega arith))
      (one path 2 2 3 (end_span range) (omega arith) (omega arith)))

  range_stood : (s : Reserved) (kind : ReservedKind) → AllStood (range_statement numbers s kind) (elim kind as (λ _. List Span) [ reserved.Ranges ranges ↦ s.span ∷ [] | reserved.Names names ↦ [] ])
  range_stood s (reserved.Ranges ranges) = (commented_stood s.span s.comments, tt)
  range_stood s (reserved.Names names) = tt

  name_stood : (s : Reserved) (kind : ReservedKind) → AllStood (name_statement numbers s kind) (elim kind as (λ _. List Span) [ reserved.Ranges ranges ↦ [] | reserved.Names names ↦ s.span ∷ [] ])
  name_stood s (reserved.Ranges ranges) = tt
  name_stood s (reserved.Names names) = (commented_stood s.span s.comments, tt)

  ranges_stood : (ss : List Reserved) → AllStood (flat_map (λ (s : Reserved). range_statement numbers s s.kind) ss) (flat_map places.range_statement ss)
  ranges_stood [] = tt
  ranges_stood (s ∷ ss) = stood_both (range_statement numbers s s.kind) _ (places.range_statement s) (flat_map places.range_statement ss) (range_stood s s.kind) (ranges_stood ss)

  names_stood : (ss : List Reserved) → AllStood (flat_map (λ (s : Reserved). name_statement numbers s s.kind) ss) (flat_map places.name_statement ss)
  names_stood [] = tt
  names_stood (s ∷ ss) = stood_both (name_statement numbers s s.kind) _ (places.name_statement s) (flat_map places.name_statement ss) (name_stood s s.kind) (names_stood ss)

  pub ranges_row : (path : Path) (t low high : ℕ) (ss : List Reserved) → RiseBy Later (flat_map places.range_statement ss) → low ≤ t → t < high → Run Same path low high (range_statements numbers path (pos t) ss)
  ranges_row path t low high ss r a b =
      and_siblings Same path t low high (each_at (part path (pos t)) (flat_map (λ (s : Reserved). range_statement numbers s s.kind) ss)) (flat_map (λ (s : Reserved). map (range_locations numbers) (kind_ranges s.kind)) ss)
      (at_one (part path (pos t)) (flat_map (λ (s : Reserved). range_statement numbers s s.kind) ss) (flat_map places.range_statement ss) (ranges_stood ss) r)
      (each_flat (Good Same) (λ (s : Reserved). map (range_locations numbers) (kind_ranges s.kind)) ss (each_all _ ss (λ s. each_map (Good Same) (range_locations numbers) (kind_ranges s.kind) range_good))) a b

  pub names_row : (path : Path) (t low high : ℕ) (ss : List Reserved) → RiseBy Later (flat_map places.name_statement ss) → low ≤ t → t < high → Run Same path low high (name_statements numbers path (pos t) ss)
  names_row path t low high ss r a b =
      and_siblings Same path t low high (each_at (part path (pos t)) (flat_map (λ (s : Reserved). name_statement numbers s s.kind) ss)) (flat_map (λ (s : Reserved). map (reserved_name numbers) (kind_names s.kind)) ss)
      (at_one (part path (pos t)) (flat_map (λ (s : Reserved). name_statement numbers s s.kind) ss) (flat_map places.name_statement ss) (names_stood ss) r)
      (each_flat (Good Same) (λ (s : Reserved). map (reserved_name numbers) (kind_names s.kind)) ss (each_all _ ss (λ s. each_map (Good Same) (reserved_name numbers) (kind_names s.kind) (λ (name : Ident). bare_good name.span)))) a b

  extension_good : (s : Extensions) (range : ReservedRange) → Good Same (extension_range numbers s range)
  extension_good s range =
      let options = λ (path : Path). option_list numbers (part path (pos 3)) s.options (listed s.options) in
      node Same (λ path. bare numbers path (range_span range) ∷ []) (λ path. bare numbers (part path (pos 1)) (start_span range) ∷ bare numbers (part path (pos 2)) (end_span range) ∷ options path) 1 4 (λ path. (refl, tt, tt))
      (λ path. joined Same path 1 2 4 (bare numbers (part path (pos 1)) (start_span range) ∷ []) (bare numbers (part path (pos 2)) (end_span range) ∷ options path) (one path 1 1 2 (start_span range) (omega arith) (omega arith))
      (joined Same path 2 3 4 (bare numbers (part path (pos 2)) (end_span range) ∷ []) (options path) (one path 2 2 3 (end_span range) (omega arith) (omega arith)) (list_row path 3 3 4 s.options (listed s.options) (omega arith) (omega arith))))

  extensions_stood : (ss : List Extensions) → AllStood (map (extensions_statement numbers) ss) (map (λ (s : Extensions). s.span) ss)
  extensions_stood [] = tt
  extensions_stood (s ∷ ss) = (commented_stood s.span s.comments, extensions_stood ss)

  pub extensions_row : (path : Path) (low high : ℕ) (ss : List Extensions) → RiseBy Later (map (λ (s : Extensions). s.span) ss) → low ≤ 5 → 5 < high → Run Same path low high (extensions_statements numbers path ss)
  extensions_row path low high ss r a b =
      and_siblings Same path 5 low high (each_at (part path (pos 5)) (map (extensions_statement numbers) ss)) (flat_map (λ (s : Extensions). map (extension_range numbers s) s.ranges) ss)
      (at_one (part path (pos 5)) (map (extensions_statement numbers) ss) (map (λ (s : Extensions). s.span) ss) (extensions_stood ss) r)
      (each_flat (Good Same) (λ (s : Extensions). map (extension_range numbers s) s.ranges) ss (each_all _ ss (λ s. each_map (Good Same) (extension_range numbers s) s.ranges (extension_good s)))) a b

  -- ---- enums and services

  value_good : (value : EnumValue) → Good Same (enum_value_locations numbers value)
  value_good value =
      node Same (λ path. commented numbers path value.span value.comments ∷ [])
      (λ path. bare numbers (part path (pos 1)) value.name.span ∷ bare numbers (part path (pos 2)) value.number.span ∷ option_list numbers (part path (pos 3)) value.options (listed value.options)) 1 4 (λ path. (refl, tt, tt))
      (λ path. joined Same path 1 2 4 (bare numbers (part path (pos 1)) value.name.span ∷ []) (bare numbers (part path (pos 2)) value.number.span ∷ option_list numbers (part path (pos 3)) value.options (listed value.options)) (one path 1 1 2 value.name.span (omega arith) (omega arith))
      (joined Same path 2 3 4 (bare numbers (part path (pos 2)) value.number.span ∷ []) (option_list numbers (part path (pos 3)) value.options (listed value.options)) (one path 2 2 3 value.number.span (omega arith) (omega arith)) (list_row path 3 3 4 value.options (listed value.options) (omega arith) (omega arith))))

  stream_row : (path : Path) (t low high : ℕ) (word : Option Span) → low ≤ t → t < high → Run Same path low high (stream_locations numbers (part path (pos t)) word)
  stream_row path t low high None a b = none Same path low high (omega (arith, a, b))
  stream_row path t low high (Some span) a b = one path t low high span a b

  module _ (Stands : List Siblings → Type 0) (standing : Standing Later Stands) where
    pub skip : {s : Siblings} {ss : List Siblings} → Stands (s ∷ ss) → Stands ss
    skip {s} {ss} h = standing.rest s ss h

    pub rises : {s : Siblings} {ss : List Siblings} → Stands (s ∷ ss) → RiseBy Later s.children
    rises {s} {ss} h = standing.first s ss h

    pub each_stands : {A : Type 0} (f : A → List Siblings) (xs : List A) → Stands (flat_map f xs) → Each (λ x. Stands (f x)) xs
    each_stands f [] h = tt
    each_stands f (x ∷ xs) h = (standing.front (f x) (flat_map f xs) h, each_stands f xs (standing.back (f x) (flat_map f xs) h))

    pub enum_good : (enum : Enum) → Stands (places.enum_siblings enum) → Good Same (enum_locations numbers enum)
    enum_good enum h =
        let options = skip h in
        let ranges = skip (skip options) in
        let names = skip (skip ranges) in
        node Same (λ path. commented numbers path enum.span enum.comments ∷ [])
        (λ path. bare numbers (part path (pos 1)) enum.name.span ∷ (numbered path (pos 2) 0 (map (enum_value_locations numbers) enum.values)
        ++ (option_statements numbers (part path (pos 3)) enum.options ++ (range_statements numbers path (pos 4) enum.reserved ++ name_statements numbers path (pos 5) enum.reserved)))) 1 6 (λ path. (refl, tt, tt))
        (λ path. joined Same path 1 2 6 (bare numbers (part path (pos 1)) enum.name.span ∷ []) _ (one path 1 1 2 enum.name.span (omega arith) (omega arith))
        (joined Same path 2 3 6 (numbered path (pos 2) 0 (map (enum_value_locations numbers) enum.values)) _ (all_at Same path 2 2 3 (map (enum_value_locations numbers) enum.values) (each_map (Good Same) (enum_value_locations numbers) enum.values value_good) (omega arith) (omega arith))
        (joined Same path 3 4 6 (option_statements numbers (part path (pos 3)) enum.options) _ (options_row path 3 3 4 enum.options (rises options) (omega arith) (omega arith))
        (joined Same path 4 5 6 (range_statements numbers path (pos 4) enum.reserved) _ (ranges_row path 4 4 5 enum.reserved (rises ranges) (omega arith) (omega arith)) (names_row path 5 5 6 enum.reserved (rises names) (omega arith) (omega arith))))))

    method_good : (method : Method) → Stands (places.method_siblings method) → Good Same (method_locations numbers method)
    method_good method h =
        node Same (λ path. commented numbers path method.span method.comments ∷ [])
        (λ path. bare numbers (part path (pos 1)) method.name.span ∷ bare numbers (part path (pos 2)) (type_name_span method.input_ty) ∷ bare numbers (part path (pos 3)) (type_name_span method.output_ty)
        ∷ (option_statements numbers (part path (pos 4)) method.options ++ (stream_locations numbers (part path (pos 5)) method.client_streaming ++ stream_locations numbers (part path (pos 6)) method.server_streaming))) 1 7 (λ path. (refl, tt, tt))
        (λ path. joined Same path 1 2 7 (bare numbers (part path (pos 1)) method.name.span ∷ []) _ (one path 1 1 2 method.name.span (omega arith) (omega arith))
        (joined Same path 2 3 7 (bare numbers (part path (pos 2)) (type_name_span method.input_ty) ∷ []) _ (one path 2 2 3 (type_name_span method.input_ty) (omega arith) (omega arith))
        (joined Same path 3 4 7 (bare numbers (part path (pos 3)) (type_name_span method.output_ty) ∷ []) _ (one path 3 3 4 (type_name_span method.output_ty) (omega arith) (omega arith))
        (joined Same path 4 5 7 (option_statements numbers (part path (pos 4)) method.options) _ (options_row path 4 4 5 method.options (rises (skip h)) (omega arith) (omega arith))
        (joined Same path 5 6 7 (stream_locations numbers (part path (pos 5)) method.client_streaming) (stream_locations numbers (part path (pos 6)) method.server_streaming) (stream_row path 5 5 6 method.client_streaming (omega arith) (omega arith))
        (stream_row path 6 6 7 method.server_streaming (omega arith) (omega arith)))))))

    methods_good : (methods : List Method) → Each (λ m. Stands (places.method_siblings m)) methods → Each (Good Same) (map (method_locations numbers) methods)
    methods_good [] h = tt
    methods_good (m ∷ ms) h = (method_good m h.0, methods_good ms h.1)

    pub service_good : (service : Service) → Stands (places.service_siblings service) → Good Same (service_locations numbers service)
    service_good service h =
        let inside = standing.back (flat_map places.option_siblings service.options) (flat_map places.method_siblings service.methods) (skip (skip (skip h))) in
        node Same (λ path. commented numbers path service.span service.comments ∷ [])
        (λ path. bare numbers (part path (pos 1)) service.name.span ∷ (numbered path (pos 2) 0 (map (method_locations numbers) service.methods) ++ option_statements numbers (part path (pos 3)) service.options)) 1 4 (λ path. (refl, tt, tt))
        (λ path. joined Same path 1 2 4 (bare numbers (part path (pos 1)) service.name.span ∷ []) _ (one path 1 1 2 service.name.span (omega arith) (omega arith))
        (joined Same path 2 3 4 (numbered path (pos 2) 0 (map (method_locations numbers) service.methods)) (option_statements numbers (part path (pos 3)) service.options)
        (all_at Same path 2 2 3 (map (method_locations numbers) service.methods) (methods_good service.methods (each_stands places.method_siblings service.methods inside)) (omega arith) (omega arith))
        (options_row path 3 3 4 service.options (rises (skip h)) (omega arith) (omega arith))))

    -- ---- the option `json_name`, whose name stands before its value

    json_some : (path : Path) (body : OptionBody) → Later (body_span body).start (value_span body.value).start → AtOne Same (part path (pos 10)) (json_named numbers path (Some body))
    json_some path body l = (refl, (so _ _ (body_span body) (value_span body.value) refl refl l, tt), (refl, tt, tt))

    value_later : (body : OptionBody) (names : List OptionNamePart) → body.name ≡ names → has_name (codes "json_name") (record body { name = names }) ≡ true → Stands (places.body_siblings body)
        → Later (body_span body).start (value_span body.value).start
    value_later body [] e n h = absurd (cc)
    value_later body (name_part.Ident ident ∷ []) e n h =
        let e' : body ≡ record { name = name_part.Ident ident ∷ []; value = body.value } = ap (λ (names : List OptionNamePart). record { name = names; value = body.value }) e in
        subst (λ (b : OptionBody). Later (body_span b).start (value_span b.value).start) (sym e')
        ((rises (subst (λ (b : OptionBody). Stands (places.body_siblings b)) e' h)).0.0)
    value_later body (name_part.Ident ident ∷ x ∷ more) e n h = absurd (cc)
    value_later body (name_part.Extension name span ∷ more) e n h = absurd (cc)

    json_found : (v : Bool) (path : Path) (x : OptionBody) (bodies : List OptionBody) → has_name (codes "json_name") x ≡ v → Stands (places.body_siblings x)
        → AtOne Same (part path (pos 10)) (json_named numbers path (find (has_name (codes "json_name")) bodies))
        → AtOne Same (part path (pos 10)) (json_named numbers path (if v then Some x else find (has_name (codes "json_name")) bodies))
    json_found true path x bodies e h more = json_some path x (value_later x x.name refl e h)
    json_found false path x bodies e h more = more

    pub json_at : (path : Path) (bodies : List OptionBody) → Each (λ b. Stands (places.body_siblings b)) bodies → AtOne Same (part path (pos 10)) (json_named numbers path (find (has_name (codes "json_name")) bodies))
    json_at path [] h = tt
    json_at path (x ∷ bodies) h = json_found (has_name (codes "json_name") x) path x bodies refl h.0 (json_at path bodies h.1)
