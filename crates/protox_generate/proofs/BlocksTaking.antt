-- What enums and services take: comments of their own rows.
use Rattle.std.proofs.Common.{◌+◌, ◌≤◌, List, [], ◌∷◌, ◌++◌, map, flat_map, Option, Some, None, codes, ℤ, refl, arith}
use Rattle.std.specs.List.{filter_map}
use Rattle.protox_fault.specs.Faults.{Span}
use Rattle.protox_ast.specs.Ast as ast
use Rattle.protox_ast.specs.Options.{listed}
use Rattle.protox_ast.specs.Places.{Place}
use Rattle.protox_ast.specs.Spelling as s
use Rattle.protox_ast.specs.Tree as t
use Rattle.protox_ast.specs.declared.ast.Reserved.{Reserved}
use Rattle.protox_locate.specs.LocationWords.{Path, option_statement, range_statement, name_statement}
use Rattle.protox_locate.specs.EnumLocations.{enum_value_locations, enum_locations}
use Rattle.protox_locate.specs.ServiceLocations.{stream_locations, method_locations, service_locations}
use Rattle.protox_generate.proofs.Taking.{Weights, Cost, free, behind, behind-append, weigh, weigh-append, Take, take-none, take-bare, take-ending, take-opening, take-append, bare-then, then-bare, Parts, parts-none, parts-more, parts-first, parts-append}
use Rattle.protox_generate.proofs.PartsTaking.{list-free, options-take, option-takes, ranges-take, names-take, reserved-takes}

module _ (numbers : Span → List ℤ) where
  -- ---- enums

  evalue-takes : (x : t.Evalue Place) (path : Path) → Take numbers (enum_value_locations numbers (ast.evalue x) path) (λ w. weigh w (s.evalue x))
  evalue-takes x path =
      take-ending x.name.1 x.end (refl, refl, refl, refl) (take-bare (refl, refl, refl) (take-bare (refl, refl, refl) (list-free numbers _ (ast.evalue x).options (listed (ast.evalue x).options))))
      (λ w. omega (
        arith,
        weigh-append w (s.int x.number) (s.maybe s.list x.options ++ s.sign s.semicolon x.end),
        weigh-append w (s.maybe s.list x.options) (s.sign s.semicolon x.end),
        behind-append w x.name.1 (s.int x.number) (s.maybe s.list x.options ++ s.sign s.semicolon x.end),
        behind-append w x.name.1 (s.maybe s.list x.options) (s.sign s.semicolon x.end),
      ))

  record EnumTakes (es : List (t.EnumElement Place)) : Type 0 where
    values : Cost
    options : Cost
    ranges : Cost
    names : Cost
    value_parts : Parts numbers (map (enum_value_locations numbers) (filter_map ast.enum_value es)) values
    option_parts : Parts numbers (map (option_statement numbers) (filter_map ast.enum_option es)) options
    range_parts : Parts numbers (flat_map (λ (x : Reserved). range_statement numbers x x.kind) (filter_map ast.enum_reserved es)) ranges
    name_parts : Parts numbers (flat_map (λ (x : Reserved). name_statement numbers x x.kind) (filter_map ast.enum_reserved es)) names
    within : (w : Weights) → values w + options w + ranges w + names w ≤ weigh w (s.many s.enum_element es)

  enum-elements : (es : List (t.EnumElement Place)) → EnumTakes es
  enum-elements [] = record {
    values = free;
    options = free;
    ranges = free;
    names = free;
    value_parts = parts-none free;
    option_parts = parts-none free;
    range_parts = parts-none free;
    name_parts = parts-none free;
    within = λ w. omega arith;
  }
  enum-elements (t.enum_empty m ∷ es) =
      let r = enum-elements es in
      record {
        values = r.values;
        options = r.options;
        ranges = r.ranges;
        names = r.names;
        value_parts = r.value_parts;
        option_parts = r.option_parts;
        range_parts = r.range_parts;
        name_parts = r.name_parts;
        within = λ w. omega (arith, r.within w);
      }
  enum-elements (t.enum_option x ∷ es) =
      let r = enum-elements es in
      record {
        values = r.values;
        options = λ w. weigh w (s.option x) + r.options w;
        ranges = r.ranges;
        names = r.names;
        value_parts = r.value_parts;
        option_parts = parts-append (option-takes numbers x) r.option_parts;
        range_parts = r.range_parts;
        name_parts = r.name_parts;
        within = λ w. omega (arith, r.within w, weigh-append w (s.option x) (s.many s.enum_element es));
      }
  enum-elements (t.enum_reserved x ∷ es) =
      let r = enum-elements es in
      let y = reserved-takes numbers x in
      record {
        values = r.values;
        options = r.options;
        ranges = λ w. y.ranges w + r.ranges w;
        names = λ w. y.names w + r.names w;
        value_parts = r.value_parts;
        option_parts = r.option_parts;
        range_parts = parts-append y.range_parts r.range_parts;
        name_parts = parts-append y.name_parts r.name_parts;
        within = λ w. omega (arith, r.within w, y.within w, weigh-append w (s.reserved x) (s.many s.enum_element es));
      }
  enum-elements (t.enum_value x ∷ es) =
      let r = enum-elements es in
      record {
        values = λ w. weigh w (s.evalue x) + r.values w;
        options = r.options;
        ranges = r.ranges;
        names = r.names;
        value_parts = parts-first (evalue-takes x) r.value_parts;
        option_parts = r.option_parts;
        range_parts = r.range_parts;
        name_parts = r.name_parts;
        within = λ w. omega (arith, r.within w, weigh-append w (s.evalue x) (s.many s.enum_element es));
      }

  pub enum-takes : (x : t.Enum Place) (path : Path) → Take numbers (enum_locations numbers (ast.enum x) path) (λ w. weigh w (s.enum x))
  enum-takes x path =
      let e = enum-elements x.elements in
      take-opening x.keyword x.open_at x.close_at (refl, refl, refl, refl)
      (take-bare (refl, refl, refl) (take-append (e.value_parts.numbered path _ 0) (take-append (options-take numbers _ (ast.enum x).options e.option_parts)
      (take-append (ranges-take numbers path _ (ast.enum x).reserved e.range_parts) (names-take numbers path _ (ast.enum x).reserved e.name_parts)))))
      (λ w. omega (arith, e.within w, weigh-append w (s.many s.enum_element x.elements) (s.sign s.close_brace x.close_at), behind-append w x.open_at (s.many s.enum_element x.elements) (s.sign s.close_brace x.close_at)))

  -- ---- services

  stream-free : (path : Path) (x : Option Span) → Take numbers (stream_locations numbers path x) free
  stream-free path None = take-none free
  stream-free path (Some span) = take-bare (refl, refl, refl) (take-none free)

  rpc-options : (xs : List (t.RpcElement Place)) → Parts numbers (map (option_statement numbers) (filter_map ast.rpc_option xs)) (λ w. weigh w (s.many s.rpc_element xs))
  rpc-options [] = parts-none (λ w. weigh w [])
  rpc-options (t.rpc_empty m ∷ xs) = parts-more (rpc-options xs) (λ w. omega arith)
  rpc-options (t.rpc_option x ∷ xs) = parts-more (parts-append (option-takes numbers x) (rpc-options xs)) (λ w. omega (arith, weigh-append w (s.option x) (s.many s.rpc_element xs)))

  record RpcTakes (x : t.RpcEnd Place) : Type 0 where
    options : Cost
    option_parts : Parts numbers (map (option_statement numbers) (ast.rpc_options x)) options
    within : (w : Weights) → w.last (ast.rpc_last x) + options w ≤ weigh w (s.rpc_end x)
    ends : (w : Weights) (p : Place) → w.both p (ast.rpc_last x) ≤ behind w p (s.rpc_end x)

  rpc_end-takes : (x : t.RpcEnd Place) → RpcTakes x
  rpc_end-takes (t.rpc_semicolon m) = record { options = free; option_parts = parts-none free; within = λ w. omega arith; ends = λ w p. omega arith }
  rpc_end-takes (t.rpc_braces o xs c) = record {
    options = λ w. weigh w (s.many s.rpc_element xs);
    option_parts = rpc-options xs;
    within = λ w. omega (arith, weigh-append w (s.many s.rpc_element xs) (s.sign s.close_brace c));
    ends = λ w p. omega (arith, behind-append w p (s.many s.rpc_element xs) (s.sign s.close_brace c));
  }

  rpc-takes : (x : t.Rpc Place) (path : Path) → Take numbers (method_locations numbers (ast.rpc x) path) (λ w. weigh w (s.rpc x))
  rpc-takes x path =
      let e = rpc_end-takes x.end in
      let answered = s.rpc_type x.output ++ (s.sign s.close_paren x.output_close ++ s.rpc_end x.end) in
      let returned = s.sign s.close_paren x.input_close ++ (s.keyword (codes "returns") x.returns_at ++ (s.sign s.open_paren x.output_open ++ answered)) in
      take-ending x.keyword (ast.rpc_last x.end) (refl, refl, refl, refl)
      (take-bare (refl, refl, refl) (take-bare (refl, refl, refl) (take-bare (refl, refl, refl)
      (then-bare (options-take numbers _ (ast.rpc_options x.end) e.option_parts) (bare-then (stream-free _ (ast.rpc x).client_streaming) (stream-free _ (ast.rpc x).server_streaming))))))
      (λ w. omega (
        arith,
        e.within w,
        e.ends w x.keyword,
        weigh-append w (s.rpc_type x.input) returned,
        weigh-append w (s.rpc_type x.output) (s.sign s.close_paren x.output_close ++ s.rpc_end x.end),
        behind-append w x.keyword (s.rpc_type x.input) returned,
        behind-append w x.keyword (s.rpc_type x.output) (s.sign s.close_paren x.output_close ++ s.rpc_end x.end),
      ))

  record ServiceTakes (es : List (t.ServiceElement Place)) : Type 0 where
    methods : Cost
    options : Cost
    method_parts : Parts numbers (map (method_locations numbers) (filter_map ast.service_rpc es)) methods
    option_parts : Parts numbers (map (option_statement numbers) (filter_map ast.service_option es)) options
    within : (w : Weights) → methods w + options w ≤ weigh w (s.many s.service_element es)

  service-elements : (es : List (t.ServiceElement Place)) → ServiceTakes es
  service-elements [] = record { methods = free; options = free; method_parts = parts-none free; option_parts = parts-none free; within = λ w. omega arith }
  service-elements (t.service_empty m ∷ es) =
      let r = service-elements es in
      record { methods = r.methods; options = r.options; method_parts = r.method_parts; option_parts = r.option_parts; within = λ w. omega (arith, r.within w) }
  service-elements (t.service_option x ∷ es) =
      let r = service-elements es in
      record {
        methods = r.methods;
        options = λ w. weigh w (s.option x) + r.options w;
        method_parts = r.method_parts;
        option_parts = parts-append (option-takes numbers x) r.option_parts;
        within = λ w. omega (arith, r.within w, weigh-append w (s.option x) (s.many s.service_element es));
      }
  service-elements (t.service_rpc x ∷ es) =
      let r = service-elements es in
      record {
        methods = λ w. weigh w (s.rpc x) + r.methods w;
        options = r.options;
        method_parts = parts-first (rpc-takes x) r.method_parts;
        option_parts = r.option_parts;
        within = λ w. omega (arith, r.within w, weigh-append w (s.rpc x) (s.many s.service_element es));
      }

  pub service-takes : (x : t.Service Place) (path : Path) → Take numbers (service_locations numbers (ast.service x) path) (λ w. weigh w (s.service x))
  service-takes x path =
      let e = service-elements x.elements in
      take-opening x.keyword x.open_at x.close_at (refl, refl, refl, refl)
      (take-bare (refl, refl, refl) (take-append (e.method_parts.numbered path _ 0) (options-take numbers _ (ast.service x).options e.option_parts)))
      (λ w. omega (
        arith,
        e.within w,
        weigh-append w (s.many s.service_element x.elements) (s.sign s.close_brace x.close_at),
        behind-append w x.open_at (s.many s.service_element x.elements) (s.sign s.close_brace x.close_at),
      ))
