-- The checked nodes of a file are those that the walk over its tree collects.
use Rattle.std.proofs.Common.{◌≡◌, ℕ, suc, List, [], ◌∷◌, ◌++◌, map, Option, Some, None, refl, ap, ◌∙◌, append_assoc}
use Rattle.std.proofs.lemmas.Grind.{flat_map-append}
use Rattle.std.specs.List.{flat_map}
use Rattle.protox_ast.specs.CheckedNodes.{CheckedNode, AReservedName, AGroupName, checked_of, packages_in, package_nodes, checked_nodes}
use Rattle.protox_ast.specs.inner.CheckWalk as c
use Rattle.protox_ast.specs.Nodes.{Node, AChecked, AValue, list_nodes, reserved_nodes, enum_element_nodes, rpc_element_nodes, rpc_end_nodes, service_element_nodes, body_nodes, elements_nodes, element_nodes, field_nodes, oneof_nodes, extend_nodes, statement_nodes, syntax_nodes}
use Rattle.protox_ast.specs.Tree as t

-- What is checked of these nodes.
abbrev checks : {M : Type 0} → List (Node M) → List (CheckedNode M)
checks xs = flat_map checked_of xs

check-both : {M : Type 0} (xs ys : List (Node M)) (us vs : List (CheckedNode M)) → checks xs ≡ us → checks ys ≡ vs → checks (xs ++ ys) ≡ us ++ vs
check-both xs ys us vs f g = flat_map-append checked_of xs ys ∙ (λ i. f i ++ g i)

check-many : {M A : Type 0} (f : A → List (Node M)) (g : A → List (CheckedNode M)) → ((x : A) → checks (f x) ≡ g x) → (xs : List A) → checks (flat_map f xs) ≡ flat_map g xs
check-many f g h [] = refl
check-many f g h (x ∷ xs) = check-both (f x) (flat_map f xs) (g x) (flat_map g xs) (h x) (check-many f g h xs)

-- If nothing is checked in each of them, nothing is checked in all of them.
check-none : {M A : Type 0} (f : A → List (Node M)) → ((x : A) → checks (f x) ≡ []) → (xs : List A) → checks (flat_map f xs) ≡ []
check-none f h [] = refl
check-none f h (x ∷ xs) = check-both (f x) (flat_map f xs) [] [] (h x) (check-none f h xs)

module _ {M : Type 0} where
  bodies-none : (xs : List (M × t.Body M)) → checks (map (λ y. AValue y.1.value) xs) ≡ []
  bodies-none [] = refl
  bodies-none (x ∷ xs) = bodies-none xs

  list-none : (o : Option (t.OptionList M)) → checks (list_nodes o) ≡ []
  list-none None = refl
  list-none (Some x) = bodies-none x.others

  names-checked : (xs : List (M × t.Strings M)) → checks (map (λ y. AChecked (AReservedName y.1)) xs) ≡ map (λ y. AReservedName y.1) xs
  names-checked [] = refl
  names-checked (x ∷ xs) = ap (λ u. AReservedName x.1 ∷ u) (names-checked xs)

  reserved-checked : (x : t.ReservedKind M) → checks (reserved_nodes x) ≡ c.reserved_nodes x
  reserved-checked (t.ranges x) = refl
  reserved-checked (t.names x) = ap (λ u. AReservedName x.first ∷ u) (names-checked x.others)

  enum_element-checked : (x : t.EnumElement M) → checks (enum_element_nodes x) ≡ c.enum_element_nodes x
  enum_element-checked (t.enum_empty m) = refl
  enum_element-checked (t.enum_option x) = refl
  enum_element-checked (t.enum_reserved x) = reserved-checked x.kind
  enum_element-checked (t.enum_value x) = list-none x.options

  enum-checked : (x : t.Enum M) → checks (flat_map enum_element_nodes x.elements) ≡ c.enum_nodes x
  enum-checked x = check-many enum_element_nodes c.enum_element_nodes enum_element-checked x.elements

  rpc_element-none : (x : t.RpcElement M) → checks (rpc_element_nodes x) ≡ []
  rpc_element-none (t.rpc_empty m) = refl
  rpc_element-none (t.rpc_option x) = refl

  rpc_end-none : (x : t.RpcEnd M) → checks (rpc_end_nodes x) ≡ []
  rpc_end-none (t.rpc_semicolon m) = refl
  rpc_end-none (t.rpc_braces o xs e) = check-none rpc_element_nodes rpc_element-none xs

  service_element-none : (x : t.ServiceElement M) → checks (service_element_nodes x) ≡ []
  service_element-none (t.service_empty m) = refl
  service_element-none (t.service_option x) = refl
  service_element-none (t.service_rpc x) = rpc_end-none x.end

  mutual
    body-checked : (level : ℕ) (m : M) (x : t.Mbody M) → checks (body_nodes level m x) ≡ c.body_nodes level m x
    body-checked level m (t.mbody_of o es e) = ap (λ u. c.deep_nodes level m o ++ u) (elements-checked (suc level) es)

    elements-checked : (level : ℕ) (x : t.Elements M) → checks (elements_nodes level x) ≡ c.elements_nodes level x
    elements-checked level t.no_elements = refl
    elements-checked level (t.elements e es) =
        check-both (element_nodes level e) (elements_nodes level es) (c.element_nodes level e) (c.elements_nodes level es) (element-checked level e) (elements-checked level es)

    element-checked : (level : ℕ) (x : t.Element M) → checks (element_nodes level x) ≡ c.element_nodes level x
    element-checked level (t.empty m) = refl
    element-checked level (t.field x) = field-checked level x
    element-checked level (t.oneof (t.oneof_of m n o es e)) = oneof-checked level es
    element-checked level (t.enum x) = enum-checked x
    element-checked level (t.message (t.message_of m n b)) = body-checked level m b
    element-checked level (t.extend (t.extend_of m n o es e)) = extend-checked level es
    element-checked level (t.option x) = refl
    element-checked level (t.reserved x) = reserved-checked x.kind
    element-checked level (t.extensions x) = list-none x.options

    field-checked : (level : ℕ) (x : t.Field M) → checks (field_nodes level x) ≡ c.field_nodes level x
    field-checked level (t.field_of l (t.normal x)) = list-none x.options
    field-checked level (t.field_of l (t.map x)) = list-none x.options
    field-checked level (t.field_of l (t.group (t.group_of m n e i o b))) =
        ap (λ u. AGroupName n ∷ u) (check-both (list_nodes o) (body_nodes level m b) [] (c.body_nodes level m b) (list-none o) (body-checked level m b))

    oneof-checked : (level : ℕ) (x : t.OneofElements M) → checks (oneof_nodes level x) ≡ c.oneof_elements_nodes level x
    oneof-checked level t.no_oneof_elements = refl
    oneof-checked level (t.oneof_elements (t.oneof_empty m) es) = oneof-checked level es
    oneof-checked level (t.oneof_elements (t.oneof_option x) es) = check-both (AValue x.body.value ∷ []) (oneof_nodes level es) [] (c.oneof_elements_nodes level es) refl (oneof-checked level es)
    oneof-checked level (t.oneof_elements (t.oneof_field x) es) =
        check-both (field_nodes level x) (oneof_nodes level es) (c.field_nodes level x) (c.oneof_elements_nodes level es) (field-checked level x) (oneof-checked level es)

    extend-checked : (level : ℕ) (x : t.ExtendElements M) → checks (extend_nodes level x) ≡ c.extend_elements_nodes level x
    extend-checked level t.no_extend_elements = refl
    extend-checked level (t.extend_elements (t.extend_empty m) es) = extend-checked level es
    extend-checked level (t.extend_elements (t.extend_field x) es) =
        check-both (field_nodes level x) (extend_nodes level es) (c.field_nodes level x) (c.extend_elements_nodes level es) (field-checked level x) (extend-checked level es)

  statement-checked : (x : t.Statement M) → checks (statement_nodes x) ≡ c.statement_nodes x
  statement-checked (t.an_empty m) = refl
  statement-checked (t.an_import x) = refl
  statement-checked (t.a_package x) = refl
  statement-checked (t.an_option x) = refl
  statement-checked (t.an_extend (t.extend_of m n o es e)) = extend-checked 1 es
  statement-checked (t.a_message (t.message_of m n b)) = body-checked 1 m b
  statement-checked (t.an_enum x) = enum-checked x
  statement-checked (t.a_service x) = check-none service_element_nodes service_element-none x.elements

  syntax-checked : (o : Option (t.Syntax M)) → checks (syntax_nodes o) ≡ c.syntax_nodes o
  syntax-checked None = refl
  syntax-checked (Some x) = refl

  pub nodes-checked : (f : t.File M) → checked_nodes f ≡ c.walked_nodes f
  nodes-checked f =
      let ps : List (CheckedNode M) = package_nodes (packages_in f.statements) in
      let all = check-both (syntax_nodes f.syntax) (flat_map statement_nodes f.statements) (c.syntax_nodes f.syntax) (flat_map c.statement_nodes f.statements) (syntax-checked f.syntax)
      (check-many statement_nodes c.statement_nodes statement-checked f.statements) in
      ap (λ u. u ++ ps) all ∙ append_assoc (c.syntax_nodes f.syntax) (flat_map c.statement_nodes f.statements) ps
