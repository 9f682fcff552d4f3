-- The depth of a file is that which the walk over its tree computes.
use Rattle.std.proofs.Common.{◌≡◌, ◌<◌, ◌+◌, ◌⊎◌, ℕ, suc, List, [], ◌∷◌, ◌++◌, map, Option, Some, None, refl, ap, subst, sym, ◌∙◌, inl, inr, arith}
use Rattle.std.specs.Prelude.{max}
use Rattle.std.specs.List.{flat_map}
use Rattle.protox_ast.specs.Nodes.{level_of, deepest, depth}
use Rattle.protox_ast.specs.DepthWalk as d
use Rattle.protox_ast.specs.Nodes.{Node, AReservedName, AChecked, AValue, list_nodes, reserved_nodes, enum_element_nodes, rpc_element_nodes, rpc_end_nodes, service_element_nodes, body_nodes, elements_nodes, element_nodes, field_nodes, oneof_nodes, extend_nodes, statement_nodes, syntax_nodes}
use Rattle.protox_ast.specs.Tree as t

max-three : (m n o : ℕ) → max m (max n o) ≡ max (max m n) o
max-three m n o = omega arith

deepest-append : {M : Type 0} (xs ys : List (Node M)) → deepest (xs ++ ys) ≡ max (deepest xs) (deepest ys)
deepest-append [] ys = omega arith
deepest-append (x ∷ xs) ys = ap (λ u. max (level_of x) u) (deepest-append xs ys) ∙ max-three (level_of x) (deepest xs) (deepest ys)

-- The highest level, if the outermost body has this level and bodies are nested this deep. Without
-- bodies it is 0.
abbrev Highest : ℕ → ℕ → ℕ → Type 0
Highest level deep most = ((deep ≡ 0) × (most ≡ 0)) ⊎ ((0 < deep) × (suc most ≡ level + deep))

highest-both : (level m n x y : ℕ) → Highest level m x → Highest level n y → Highest level (max m n) (max x y)
highest-both level m n x y (inl f) (inl g) = inl (omega (arith, f.0, g.0), omega (arith, f.1, g.1))
highest-both level m n x y (inl f) (inr g) = inr (omega (arith, g.0), omega (arith, f.0, f.1, g.1))
highest-both level m n x y (inr f) (inl g) = inr (omega (arith, f.0), omega (arith, f.1, g.0, g.1))
highest-both level m n x y (inr f) (inr g) = inr (omega (arith, f.0), omega (arith, f.1, g.1))

-- A body at a level, and what stands in it at the next level.
highest-in : (level m x : ℕ) → Highest (suc level) m x → Highest level (suc m) (max level x)
highest-in level m x (inl f) = inr (omega arith, omega (arith, f.0, f.1))
highest-in level m x (inr f) = inr (omega arith, omega (arith, f.0, f.1))

highest-same : (m x : ℕ) → Highest 1 m x → x ≡ m
highest-same m x (inl f) = omega (arith, f.0, f.1)
highest-same m x (inr f) = omega (arith, f.1)

-- How deep bodies are nested among these nodes.
abbrev Deep : {M : Type 0} → ℕ → List (Node M) → ℕ → Type 0
Deep level xs n = Highest level n (deepest xs)

deep-none : {M : Type 0} (level : ℕ) (xs : List (Node M)) → deepest xs ≡ 0 → Deep level xs 0
deep-none level xs e = inl (refl, e)

deep-both : {M : Type 0} (level : ℕ) (xs ys : List (Node M)) (m n : ℕ) → Deep level xs m → Deep level ys n → Deep level (xs ++ ys) (max m n)
deep-both level xs ys m n f g = subst (λ u. Highest level (max m n) u) (sym (deepest-append xs ys)) (highest-both level m n (deepest xs) (deepest ys) f g)

-- After a node that is no body.
highest-past : (level n x : ℕ) → Highest level n x → Highest level n (max 0 x)
highest-past level n x h = subst (λ u. Highest level n u) (omega arith) h

-- After several of them.
deep-behind : {M : Type 0} (level : ℕ) (xs ys : List (Node M)) (n : ℕ) → deepest xs ≡ 0 → Deep level ys n → Deep level (xs ++ ys) n
deep-behind level xs ys n e f = subst (λ u. Highest level n u) (omega (arith, e, deepest-append xs ys)) f

flat-many : {M A : Type 0} (f : A → List (Node M)) → ((x : A) → deepest (f x) ≡ 0) → (xs : List A) → deepest (flat_map f xs) ≡ 0
flat-many f h [] = refl
flat-many f h (x ∷ xs) = omega (arith, deepest-append (f x) (flat_map f xs), h x, flat-many f h xs)

module _ {M : Type 0} where
  -- ---- without bodies

  bodies-flat : (xs : List (M × t.Body M)) → deepest (map (λ y. AValue y.1.value) xs) ≡ 0
  bodies-flat [] = refl
  bodies-flat (x ∷ xs) = omega (arith, bodies-flat xs)

  list-flat : (o : Option (t.OptionList M)) → deepest (list_nodes o) ≡ 0
  list-flat None = refl
  list-flat (Some x) = omega (arith, bodies-flat x.others)

  names-flat : (xs : List (M × t.Strings M)) → deepest (map (λ y. AChecked (AReservedName y.1)) xs) ≡ 0
  names-flat [] = refl
  names-flat (x ∷ xs) = omega (arith, names-flat xs)

  reserved-flat : (x : t.ReservedKind M) → deepest (reserved_nodes x) ≡ 0
  reserved-flat (t.ranges x) = refl
  reserved-flat (t.names x) = omega (arith, names-flat x.others)

  enum_element-flat : (x : t.EnumElement M) → deepest (enum_element_nodes x) ≡ 0
  enum_element-flat (t.enum_empty m) = refl
  enum_element-flat (t.enum_option x) = omega arith
  enum_element-flat (t.enum_reserved x) = reserved-flat x.kind
  enum_element-flat (t.enum_value x) = omega (arith, list-flat x.options)

  enum-flat : (x : t.Enum M) → deepest (flat_map enum_element_nodes x.elements) ≡ 0
  enum-flat x = flat-many enum_element_nodes enum_element-flat x.elements

  rpc_element-flat : (x : t.RpcElement M) → deepest (rpc_element_nodes x) ≡ 0
  rpc_element-flat (t.rpc_empty m) = refl
  rpc_element-flat (t.rpc_option x) = omega arith

  rpc_end-flat : (x : t.RpcEnd M) → deepest (rpc_end_nodes x) ≡ 0
  rpc_end-flat (t.rpc_semicolon m) = refl
  rpc_end-flat (t.rpc_braces o xs c) = flat-many rpc_element_nodes rpc_element-flat xs

  service_element-flat : (x : t.ServiceElement M) → deepest (service_element_nodes x) ≡ 0
  service_element-flat (t.service_empty m) = refl
  service_element-flat (t.service_option x) = omega arith
  service_element-flat (t.service_rpc x) = omega (arith, rpc_end-flat x.end)

  -- ---- bodies

  mutual
    body-deep : (level : ℕ) (m : M) (x : t.Mbody M) → Deep level (body_nodes level m x) (suc (d.mbody_depth x))
    body-deep level m (t.mbody_of o es c) = highest-in level (d.elements_depth es) (deepest (elements_nodes (suc level) es)) (elements-deep (suc level) es)

    elements-deep : (level : ℕ) (x : t.Elements M) → Deep level (elements_nodes level x) (d.elements_depth x)
    elements-deep level t.no_elements = inl (refl, refl)
    elements-deep level (t.elements e es) = deep-both level (element_nodes level e) (elements_nodes level es) (d.element_depth e) (d.elements_depth es) (element-deep level e) (elements-deep level es)

    element-deep : (level : ℕ) (x : t.Element M) → Deep level (element_nodes level x) (d.element_depth x)
    element-deep level (t.empty m) = inl (refl, refl)
    element-deep level (t.field (t.field_of l x)) = highest-past level (d.kind_depth x) (deepest (field_nodes level (t.field_of l x))) (field-deep level l x)
    element-deep level (t.oneof (t.oneof_of m n o es c)) = oneof-deep level es
    element-deep level (t.enum x) = deep-none level (flat_map enum_element_nodes x.elements) (enum-flat x)
    element-deep level (t.message (t.message_of m n b)) = body-deep level m b
    element-deep level (t.extend (t.extend_of m n o es c)) = extend-deep level es
    element-deep level (t.option x) = deep-none level (AValue x.body.value ∷ []) (omega arith)
    element-deep level (t.reserved x) = deep-none level (reserved_nodes x.kind) (reserved-flat x.kind)
    element-deep level (t.extensions x) = deep-none level (list_nodes x.options) (list-flat x.options)

    field-deep : (level : ℕ) (l : Option (t.Label M)) (x : t.FieldKind M) → Deep level (field_nodes level (t.field_of l x)) (d.kind_depth x)
    field-deep level l (t.normal x) = highest-past level 0 (deepest (list_nodes x.options)) (deep-none level (list_nodes x.options) (list-flat x.options))
    field-deep level l (t.map x) = highest-past level 0 (deepest (list_nodes x.options)) (deep-none level (list_nodes x.options) (list-flat x.options))
    field-deep level l (t.group (t.group_of m n e i o b)) =
        highest-past level (suc (d.mbody_depth b)) (deepest (list_nodes o ++ body_nodes level m b)) (deep-behind level (list_nodes o) (body_nodes level m b) (suc (d.mbody_depth b)) (list-flat o) (body-deep level m b))

    oneof-deep : (level : ℕ) (x : t.OneofElements M) → Deep level (oneof_nodes level x) (d.oneof_elements_depth x)
    oneof-deep level t.no_oneof_elements = inl (refl, refl)
    oneof-deep level (t.oneof_elements (t.oneof_empty m) es) = deep-both level [] (oneof_nodes level es) 0 (d.oneof_elements_depth es) (inl (refl, refl)) (oneof-deep level es)
    oneof-deep level (t.oneof_elements (t.oneof_option x) es) = deep-both level (AValue x.body.value ∷ []) (oneof_nodes level es) 0 (d.oneof_elements_depth es) (deep-none level (AValue x.body.value ∷ []) (omega arith)) (oneof-deep level es)
    oneof-deep level (t.oneof_elements (t.oneof_field (t.field_of l x)) es) =
        highest-past level (max (d.kind_depth x) (d.oneof_elements_depth es)) (deepest (field_nodes level (t.field_of l x) ++ oneof_nodes level es))
        (deep-both level (field_nodes level (t.field_of l x)) (oneof_nodes level es) (d.kind_depth x) (d.oneof_elements_depth es) (field-deep level l x) (oneof-deep level es))

    extend-deep : (level : ℕ) (x : t.ExtendElements M) → Deep level (extend_nodes level x) (d.extend_elements_depth x)
    extend-deep level t.no_extend_elements = inl (refl, refl)
    extend-deep level (t.extend_elements (t.extend_empty m) es) = deep-both level [] (extend_nodes level es) 0 (d.extend_elements_depth es) (inl (refl, refl)) (extend-deep level es)
    extend-deep level (t.extend_elements (t.extend_field (t.field_of l x)) es) =
        highest-past level (max (d.kind_depth x) (d.extend_elements_depth es)) (deepest (field_nodes level (t.field_of l x) ++ extend_nodes level es))
        (deep-both level (field_nodes level (t.field_of l x)) (extend_nodes level es) (d.kind_depth x) (d.extend_elements_depth es) (field-deep level l x) (extend-deep level es))

  statement-deep : (x : t.Statement M) → Deep 1 (statement_nodes x) (d.statement_depth x)
  statement-deep (t.an_empty m) = inl (refl, refl)
  statement-deep (t.an_import x) = deep-none 1 (statement_nodes (t.an_import x)) (omega arith)
  statement-deep (t.a_package x) = inl (refl, refl)
  statement-deep (t.an_option x) = deep-none 1 (AValue x.body.value ∷ []) (omega arith)
  statement-deep (t.an_extend (t.extend_of m n o es c)) = extend-deep 1 es
  statement-deep (t.a_message (t.message_of m n b)) = body-deep 1 m b
  statement-deep (t.an_enum x) = deep-none 1 (flat_map enum_element_nodes x.elements) (enum-flat x)
  statement-deep (t.a_service x) = deep-none 1 (flat_map service_element_nodes x.elements) (flat-many service_element_nodes service_element-flat x.elements)

  statements-deep : (xs : List (t.Statement M)) → Deep 1 (flat_map statement_nodes xs) (d.statements_depth xs)
  statements-deep [] = inl (refl, refl)
  statements-deep (x ∷ xs) = deep-both 1 (statement_nodes x) (flat_map statement_nodes xs) (d.statement_depth x) (d.statements_depth xs) (statement-deep x) (statements-deep xs)

  syntax-flat : (o : Option (t.Syntax M)) → deepest (syntax_nodes o) ≡ 0
  syntax-flat None = refl
  syntax-flat (Some x) = omega arith

  pub nodes-deep : (f : t.File M) → depth f ≡ d.walked_depth f
  nodes-deep f =
      highest-same (d.walked_depth f) (depth f) (deep-behind 1 (syntax_nodes f.syntax) (flat_map statement_nodes f.statements) (d.walked_depth f) (syntax-flat f.syntax) (statements-deep f.statements))
