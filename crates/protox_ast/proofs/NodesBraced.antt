-- The aggregates of a file are those that the walk over its tree collects.
use Rattle.std.proofs.Common.{◌≡◌, ℕ, suc, List, [], ◌∷◌, ◌++◌, map, Option, Some, None, refl, ◌∙◌}
use Rattle.std.proofs.lemmas.Grind.{flat_map-append}
use Rattle.std.specs.List.{flat_map}
use Rattle.protox_ast.specs.inner.AggregateWalk as a
use Rattle.protox_ast.specs.inner.AggregateWalk.{Braces}
use Rattle.protox_ast.specs.Fronts.{braces_of, aggregates}
use Rattle.protox_ast.specs.Nodes.{Node, AReservedName, AChecked, AValue, list_nodes, reserved_nodes, enum_element_nodes, rpc_element_nodes, rpc_end_nodes, service_element_nodes, body_nodes, elements_nodes, element_nodes, field_nodes, oneof_nodes, extend_nodes, statement_nodes, syntax_nodes}
use Rattle.protox_ast.specs.Tree as t

-- The braces of these nodes.
abbrev braces : {M : Type 0} → List (Node M) → Braces M
braces xs = flat_map braces_of xs

brace-both : {M : Type 0} (xs ys : List (Node M)) (us vs : Braces M) → braces xs ≡ us → braces ys ≡ vs → braces (xs ++ ys) ≡ us ++ vs
brace-both xs ys us vs f g = flat_map-append braces_of xs ys ∙ (λ i. f i ++ g i)

brace-many : {M A : Type 0} (f : A → List (Node M)) (g : A → Braces M) → ((x : A) → braces (f x) ≡ g x) → (xs : List A) → braces (flat_map f xs) ≡ flat_map g xs
brace-many f g h [] = refl
brace-many f g h (x ∷ xs) = brace-both (f x) (flat_map f xs) (g x) (flat_map g xs) (h x) (brace-many f g h xs)

module _ {M : Type 0} where
  value-braced : (x : t.Value M) → braces (AValue x ∷ []) ≡ a.of_value x
  value-braced (t.constant sign x) = refl
  value-braced (t.strings x) = refl
  value-braced (t.aggregate o inside c) = refl

  bodies-braced : (xs : List (M × t.Body M)) → braces (map (λ y. AValue y.1.value) xs) ≡ flat_map (λ y. a.of_body y.1) xs
  bodies-braced [] = refl
  bodies-braced (x ∷ xs) = brace-both (AValue x.1.value ∷ []) (map (λ y. AValue y.1.value) xs) (a.of_body x.1) (flat_map (λ y. a.of_body y.1) xs) (value-braced x.1.value) (bodies-braced xs)

  list-braced : (o : Option (t.OptionList M)) → braces (list_nodes o) ≡ a.of_list o
  list-braced None = refl
  list-braced (Some x) =
      brace-both (AValue x.first.value ∷ []) (map (λ y. AValue y.1.value) x.others) (a.of_body x.first) (flat_map (λ y. a.of_body y.1) x.others) (value-braced x.first.value) (bodies-braced x.others)

  names-bare : (xs : List (M × t.Strings M)) → braces (map (λ y. AChecked (AReservedName y.1)) xs) ≡ []
  names-bare [] = refl
  names-bare (x ∷ xs) = names-bare xs

  reserved-bare : (x : t.ReservedKind M) → braces (reserved_nodes x) ≡ []
  reserved-bare (t.ranges x) = refl
  reserved-bare (t.names x) = names-bare x.others

  enum_element-braced : (x : t.EnumElement M) → braces (enum_element_nodes x) ≡ a.of_enum_element x
  enum_element-braced (t.enum_empty m) = refl
  enum_element-braced (t.enum_option x) = value-braced x.body.value
  enum_element-braced (t.enum_reserved x) = reserved-bare x.kind
  enum_element-braced (t.enum_value x) = list-braced x.options

  enum-braced : (x : t.Enum M) → braces (flat_map enum_element_nodes x.elements) ≡ a.of_enum x
  enum-braced x = brace-many enum_element_nodes a.of_enum_element enum_element-braced x.elements

  rpc_element-braced : (x : t.RpcElement M) → braces (rpc_element_nodes x) ≡ a.of_rpc_element x
  rpc_element-braced (t.rpc_empty m) = refl
  rpc_element-braced (t.rpc_option x) = value-braced x.body.value

  rpc_end-braced : (x : t.RpcEnd M) → braces (rpc_end_nodes x) ≡ a.of_rpc_end x
  rpc_end-braced (t.rpc_semicolon m) = refl
  rpc_end-braced (t.rpc_braces o xs c) = brace-many rpc_element_nodes a.of_rpc_element rpc_element-braced xs

  service_element-braced : (x : t.ServiceElement M) → braces (service_element_nodes x) ≡ a.of_service_element x
  service_element-braced (t.service_empty m) = refl
  service_element-braced (t.service_option x) = value-braced x.body.value
  service_element-braced (t.service_rpc x) = rpc_end-braced x.end

  mutual
    body-braced : (level : ℕ) (m : M) (x : t.Mbody M) → braces (body_nodes level m x) ≡ a.of_mbody x
    body-braced level m (t.mbody_of o es c) = elements-braced (suc level) es

    elements-braced : (level : ℕ) (x : t.Elements M) → braces (elements_nodes level x) ≡ a.of_elements x
    elements-braced level t.no_elements = refl
    elements-braced level (t.elements e es) = brace-both (element_nodes level e) (elements_nodes level es) (a.of_element e) (a.of_elements es) (element-braced level e) (elements-braced level es)

    element-braced : (level : ℕ) (x : t.Element M) → braces (element_nodes level x) ≡ a.of_element x
    element-braced level (t.empty m) = refl
    element-braced level (t.field x) = field-braced level x
    element-braced level (t.oneof (t.oneof_of m n o es c)) = oneof-braced level es
    element-braced level (t.enum x) = enum-braced x
    element-braced level (t.message (t.message_of m n b)) = body-braced level m b
    element-braced level (t.extend (t.extend_of m n o es c)) = extend-braced level es
    element-braced level (t.option x) = value-braced x.body.value
    element-braced level (t.reserved x) = reserved-bare x.kind
    element-braced level (t.extensions x) = list-braced x.options

    field-braced : (level : ℕ) (x : t.Field M) → braces (field_nodes level x) ≡ a.of_field x
    field-braced level (t.field_of l (t.normal x)) = list-braced x.options
    field-braced level (t.field_of l (t.map x)) = list-braced x.options
    field-braced level (t.field_of l (t.group (t.group_of m n e i o b))) = brace-both (list_nodes o) (body_nodes level m b) (a.of_list o) (a.of_mbody b) (list-braced o) (body-braced level m b)

    oneof-braced : (level : ℕ) (x : t.OneofElements M) → braces (oneof_nodes level x) ≡ a.of_oneof_elements x
    oneof-braced level t.no_oneof_elements = refl
    oneof-braced level (t.oneof_elements (t.oneof_empty m) es) = oneof-braced level es
    oneof-braced level (t.oneof_elements (t.oneof_option x) es) = brace-both (AValue x.body.value ∷ []) (oneof_nodes level es) (a.of_option x) (a.of_oneof_elements es) (value-braced x.body.value) (oneof-braced level es)
    oneof-braced level (t.oneof_elements (t.oneof_field x) es) = brace-both (field_nodes level x) (oneof_nodes level es) (a.of_field x) (a.of_oneof_elements es) (field-braced level x) (oneof-braced level es)

    extend-braced : (level : ℕ) (x : t.ExtendElements M) → braces (extend_nodes level x) ≡ a.of_extend_elements x
    extend-braced level t.no_extend_elements = refl
    extend-braced level (t.extend_elements (t.extend_empty m) es) = extend-braced level es
    extend-braced level (t.extend_elements (t.extend_field x) es) = brace-both (field_nodes level x) (extend_nodes level es) (a.of_field x) (a.of_extend_elements es) (field-braced level x) (extend-braced level es)

  statement-braced : (x : t.Statement M) → braces (statement_nodes x) ≡ a.of_statement x
  statement-braced (t.an_empty m) = refl
  statement-braced (t.an_import x) = refl
  statement-braced (t.a_package x) = refl
  statement-braced (t.an_option x) = value-braced x.body.value
  statement-braced (t.an_extend (t.extend_of m n o es c)) = extend-braced 1 es
  statement-braced (t.a_message (t.message_of m n b)) = body-braced 1 m b
  statement-braced (t.an_enum x) = enum-braced x
  statement-braced (t.a_service x) = brace-many service_element_nodes a.of_service_element service_element-braced x.elements

  syntax-bare : (o : Option (t.Syntax M)) → braces (syntax_nodes o) ≡ []
  syntax-bare None = refl
  syntax-bare (Some x) = refl

  pub nodes-braced : (f : t.File M) → aggregates f ≡ a.walked_aggregates f
  nodes-braced f = brace-both (syntax_nodes f.syntax) (flat_map statement_nodes f.statements) [] (a.walked_aggregates f) (syntax-bare f.syntax) (brace-many statement_nodes a.of_statement statement-braced f.statements)
