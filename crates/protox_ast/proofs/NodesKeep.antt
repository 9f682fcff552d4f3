-- The nodes of a file keep the keyword rules exactly when the walk over its tree finds them kept.
use Rattle.std.proofs.Common.{◌↔◌, ℕ, suc, List, [], ◌∷◌, ◌++◌, map, Option, Some, None}
use Rattle.std.specs.List.{flat_map}
use Rattle.protox_ast.specs.KeywordWalk as k
use Rattle.protox_ast.specs.KeywordWalk.{Given}
use Rattle.protox_ast.specs.Keywords.{Each, KeepsRule, KeepsKeywords}
use Rattle.protox_ast.specs.Nodes.{Node, AReservedName, AChecked, ANormal, AMap, AnEvalue, AValue, list_nodes, reserved_nodes, enum_element_nodes, rpc_element_nodes, rpc_end_nodes, service_element_nodes, body_nodes, elements_nodes, element_nodes, field_nodes, oneof_nodes, extend_nodes, statement_nodes, syntax_nodes}
use Rattle.protox_ast.specs.Tree as t

-- These nodes keep their rules exactly when Q holds.
abbrev Keep : {M : Type 0} → List (Node M) → Type 0 → Type 0
Keep xs Q = Each KeepsRule xs ↔ Q

alike : {A : Type 0} → A ↔ A
alike = (λ h. h, λ h. h)

module _ {M : Type 0} (ys : List (Node M)) where
  split : (xs : List (Node M)) → Each KeepsRule (xs ++ ys) → Each KeepsRule xs × Each KeepsRule ys
  split [] h = (tt, h)
  split (x ∷ xs) h = let s = split xs h.1 in ((h.0, s.0), s.1)

  meet : (xs : List (Node M)) → Each KeepsRule xs → Each KeepsRule ys → Each KeepsRule (xs ++ ys)
  meet [] h i = i
  meet (x ∷ xs) h i = (h.0, meet xs h.1 i)

keep-both : {M : Type 0} (xs ys : List (Node M)) (P Q : Type 0) → Keep xs P → Keep ys Q → Keep (xs ++ ys) (P × Q)
keep-both xs ys P Q f g = (λ h. let s = split ys xs h in (f.0 s.0, g.0 s.1), λ h. meet ys xs (f.1 h.0) (g.1 h.1))

keep-many : {M A : Type 0} (f : A → List (Node M)) (Q : A → Type 0) → ((x : A) → Keep (f x) (Q x)) → (xs : List A) → Keep (flat_map f xs) (Each Q xs)
keep-many f Q h [] = alike
keep-many f Q h (x ∷ xs) = keep-both (f x) (flat_map f xs) (Q x) (Each Q xs) (h x) (keep-many f Q h xs)

module _ {M : Type 0} where
  value-keeps : (x : t.Value M) → KeepsRule (AValue x) ↔ k.KeepsValue x
  value-keeps (t.constant sign x) = alike
  value-keeps (t.strings x) = alike
  value-keeps (t.aggregate o inside c) = alike

  option-keeps : (x : t.OptionStatement M) → Keep (AValue x.body.value ∷ []) (k.KeepsOption x)
  option-keeps x = let v = value-keeps x.body.value in (λ h. v.0 h.0, λ h. (v.1 h, tt))

  bodies-keep : (xs : List (M × t.Body M)) → Keep (map (λ y. AValue y.1.value) xs) (Each (λ y. k.KeepsBody y.1) xs)
  bodies-keep [] = alike
  bodies-keep (x ∷ xs) = let v = value-keeps x.1.value in let r = bodies-keep xs in (λ h. (v.0 h.0, r.0 h.1), λ h. (v.1 h.0, r.1 h.1))

  list-keeps : (o : Option (t.OptionList M)) → Keep (list_nodes o) (Given k.KeepsList o)
  list-keeps None = alike
  list-keeps (Some x) = let v = value-keeps x.first.value in let r = bodies-keep x.others in (λ h. (v.0 h.0, r.0 h.1), λ h. (v.1 h.0, r.1 h.1))

  names-keep : (xs : List (M × t.Strings M)) → Keep (map (λ y. AChecked (AReservedName y.1)) xs) (Unit {0})
  names-keep [] = alike
  names-keep (x ∷ xs) = let r = names-keep xs in (λ h. tt, λ h. (tt, r.1 h))

  reserved-keeps : (x : t.ReservedKind M) → Keep (reserved_nodes x) (Unit {0})
  reserved-keeps (t.ranges x) = alike
  reserved-keeps (t.names x) = let r = names-keep x.others in (λ h. tt, λ h. (tt, r.1 h))

  -- a node of its own, and its options
  with-options : (x : Node M) (o : Option (t.OptionList M)) → Keep (x ∷ list_nodes o) (KeepsRule x × Given k.KeepsList o)
  with-options x o = let r = list-keeps o in (λ h. (h.0, r.0 h.1), λ h. (h.0, r.1 h.1))

  enum_element-keeps : (x : t.EnumElement M) → Keep (enum_element_nodes x) (k.KeepsEnumElement x)
  enum_element-keeps (t.enum_empty m) = alike
  enum_element-keeps (t.enum_option x) = option-keeps x
  enum_element-keeps (t.enum_reserved x) = reserved-keeps x.kind
  enum_element-keeps (t.enum_value x) = with-options (AnEvalue x) x.options

  enum-keeps : (x : t.Enum M) → Keep (flat_map enum_element_nodes x.elements) (k.KeepsEnum x)
  enum-keeps x = keep-many enum_element_nodes k.KeepsEnumElement enum_element-keeps x.elements

  rpc_element-keeps : (x : t.RpcElement M) → Keep (rpc_element_nodes x) (k.KeepsRpcElement x)
  rpc_element-keeps (t.rpc_empty m) = alike
  rpc_element-keeps (t.rpc_option x) = option-keeps x

  rpc_end-keeps : (x : t.RpcEnd M) → Keep (rpc_end_nodes x) (k.KeepsRpcEnd x)
  rpc_end-keeps (t.rpc_semicolon m) = alike
  rpc_end-keeps (t.rpc_braces o xs c) = keep-many rpc_element_nodes k.KeepsRpcElement rpc_element-keeps xs

  service_element-keeps : (x : t.ServiceElement M) → Keep (service_element_nodes x) (k.KeepsServiceElement x)
  service_element-keeps (t.service_empty m) = alike
  service_element-keeps (t.service_option x) = option-keeps x
  service_element-keeps (t.service_rpc x) = let r = rpc_end-keeps x.end in (λ h. (h.0, h.1.0, r.0 h.1.1), λ h. (h.0, (h.1, r.1 h.2)))

  mutual
    body-keeps : (level : ℕ) (m : M) (x : t.Mbody M) → Keep (body_nodes level m x) (k.KeepsMbody x)
    body-keeps level m (t.mbody_of o es c) = let r = elements-keep (suc level) es in (λ h. r.0 h.1, λ h. (tt, r.1 h))

    elements-keep : (level : ℕ) (x : t.Elements M) → Keep (elements_nodes level x) (k.KeepsElements x)
    elements-keep level t.no_elements = alike
    elements-keep level (t.elements e es) = keep-both (element_nodes level e) (elements_nodes level es) (k.KeepsElement e) (k.KeepsElements es) (element-keeps level e) (elements-keep level es)

    element-keeps : (level : ℕ) (x : t.Element M) → Keep (element_nodes level x) (k.KeepsElement x)
    element-keeps level (t.empty m) = alike
    element-keeps level (t.field (t.field_of l x)) = let r = field-keeps level l x in (λ h. (h.0.1, (h.0.0, r.0 h.1)), λ h. ((h.1.0, h.0), r.1 h.1.1))
    element-keeps level (t.oneof (t.oneof_of m n o es c)) = oneof-keeps level es
    element-keeps level (t.enum x) = enum-keeps x
    element-keeps level (t.message (t.message_of m n b)) = body-keeps level m b
    element-keeps level (t.extend (t.extend_of m n o es c)) = extend-keeps level es
    element-keeps level (t.option x) = option-keeps x
    element-keeps level (t.reserved x) = reserved-keeps x.kind
    element-keeps level (t.extensions x) = list-keeps x.options

    field-keeps : (level : ℕ) (l : Option (t.Label M)) (x : t.FieldKind M) → Keep (field_nodes level (t.field_of l x)) (k.KeepsKind x)
    field-keeps level l (t.normal x) = with-options (ANormal x) x.options
    field-keeps level l (t.map x) = with-options (AMap x) x.options
    field-keeps level l (t.group (t.group_of m n e i o b)) =
        let r = keep-both (list_nodes o) (body_nodes level m b) (Given k.KeepsList o) (k.KeepsMbody b) (list-keeps o) (body-keeps level m b) in
        (λ h. r.0 h.1, λ h. (tt, r.1 h))

    oneof-keeps : (level : ℕ) (x : t.OneofElements M) → Keep (oneof_nodes level x) (k.KeepsOneofElements x)
    oneof-keeps level t.no_oneof_elements = alike
    oneof-keeps level (t.oneof_elements (t.oneof_empty m) es) = let r = oneof-keeps level es in (λ h. (tt, r.0 h), λ h. r.1 h.1)
    oneof-keeps level (t.oneof_elements (t.oneof_option x) es) =
        keep-both (AValue x.body.value ∷ []) (oneof_nodes level es) (k.KeepsOption x) (k.KeepsOneofElements es) (option-keeps x) (oneof-keeps level es)
    oneof-keeps level (t.oneof_elements (t.oneof_field (t.field_of l x)) es) =
        let r = keep-both (field_nodes level (t.field_of l x)) (oneof_nodes level es) (k.KeepsKind x) (k.KeepsOneofElements es) (field-keeps level l x) (oneof-keeps level es) in
        (λ h. let s = r.0 h.1 in ((h.0.1, (h.0.0, s.0)), s.1), λ h. ((h.0.1.0, h.0.0), r.1 (h.0.1.1, h.1)))

    extend-keeps : (level : ℕ) (x : t.ExtendElements M) → Keep (extend_nodes level x) (k.KeepsExtendElements x)
    extend-keeps level t.no_extend_elements = alike
    extend-keeps level (t.extend_elements (t.extend_empty m) es) = let r = extend-keeps level es in (λ h. (tt, r.0 h), λ h. r.1 h.1)
    extend-keeps level (t.extend_elements (t.extend_field (t.field_of l x)) es) =
        let r = keep-both (field_nodes level (t.field_of l x)) (extend_nodes level es) (k.KeepsKind x) (k.KeepsExtendElements es) (field-keeps level l x) (extend-keeps level es) in
        (λ h. let s = r.0 h.1 in ((h.0, s.0), s.1), λ h. (h.0.0, r.1 (h.0.1, h.1)))

  statement-keeps : (x : t.Statement M) → Keep (statement_nodes x) (k.KeepsStatement x)
  statement-keeps (t.an_empty m) = alike
  statement-keeps (t.an_import x) = (λ h. tt, λ h. (tt, tt))
  statement-keeps (t.a_package x) = alike
  statement-keeps (t.an_option x) = option-keeps x
  statement-keeps (t.an_extend (t.extend_of m n o es c)) = extend-keeps 1 es
  statement-keeps (t.a_message (t.message_of m n b)) = body-keeps 1 m b
  statement-keeps (t.an_enum x) = enum-keeps x
  statement-keeps (t.a_service x) = keep-many service_element_nodes k.KeepsServiceElement service_element-keeps x.elements

  syntax-keeps : (o : Option (t.Syntax M)) → Keep (syntax_nodes o) (Unit {0})
  syntax-keeps None = alike
  syntax-keeps (Some x) = (λ h. tt, λ h. (tt, tt))

  pub nodes-keep : (f : t.File M) → KeepsKeywords f ↔ k.KeepsFile f
  nodes-keep f =
      let r = keep-both (syntax_nodes f.syntax) (flat_map statement_nodes f.statements) (Unit {0}) (k.KeepsFile f) (syntax-keeps f.syntax) (keep-many statement_nodes k.KeepsStatement statement-keeps f.statements) in
      (λ h. (r.0 h).1, λ h. r.1 (tt, h))
