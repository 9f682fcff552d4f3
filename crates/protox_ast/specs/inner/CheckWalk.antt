-- The checked nodes of each type of the tree, collected type by type. The proofs use
-- these. They are proved to be the checked nodes among the file's nodes.
use Rattle.std.specs.Prelude.{ℕ, suc, ◌==◌, if◌then◌else◌, List, [], ◌∷◌, ◌++◌, map, Option, Some, None}
use Rattle.std.specs.List.{flat_map}
pub use Rattle.protox_ast.specs.CheckedNodes.{packages_in, package_nodes, checked_nodes}
use Rattle.protox_ast.specs.CheckedNodes.{CheckedNode, ASyntax, AnImport, AReservedName, AGroupName, ATooDeep}
use Rattle.protox_ast.specs.Tree as t

abbrev pub deep_nodes : {M : Type 0} → ℕ → M → M → List (CheckedNode M)
deep_nodes level keyword open_at = if level == 32 then ATooDeep keyword open_at ∷ [] else []

abbrev pub reserved_nodes : {M : Type 0} → t.ReservedKind M → List (CheckedNode M)
reserved_nodes (t.ranges x) = []
reserved_nodes (t.names x) = AReservedName x.first ∷ map (λ y. AReservedName y.1) x.others

abbrev pub enum_element_nodes : {M : Type 0} → t.EnumElement M → List (CheckedNode M)
enum_element_nodes (t.enum_reserved x) = reserved_nodes x.kind
enum_element_nodes _ = []

abbrev pub enum_nodes : {M : Type 0} → t.Enum M → List (CheckedNode M)
enum_nodes x = flat_map enum_element_nodes x.elements

-- The nodes at a level. A message or a group that stands in no other has level 1.
abbrev mutual
  pub message_nodes : {M : Type 0} → ℕ → t.Message M → List (CheckedNode M)
  message_nodes level (t.message_of keyword name b) = body_nodes level keyword b

  pub body_nodes : {M : Type 0} → ℕ → M → t.Mbody M → List (CheckedNode M)
  body_nodes level keyword (t.mbody_of open_at es close_at) = deep_nodes level keyword open_at ++ elements_nodes (suc level) es

  pub elements_nodes : {M : Type 0} → ℕ → t.Elements M → List (CheckedNode M)
  elements_nodes level t.no_elements = []
  elements_nodes level (t.elements e es) = element_nodes level e ++ elements_nodes level es

  pub element_nodes : {M : Type 0} → ℕ → t.Element M → List (CheckedNode M)
  element_nodes level (t.empty place) = []
  element_nodes level (t.field x) = field_nodes level x
  element_nodes level (t.oneof x) = oneof_nodes level x
  element_nodes level (t.enum x) = enum_nodes x
  element_nodes level (t.message x) = message_nodes level x
  element_nodes level (t.extend x) = extend_nodes level x
  element_nodes level (t.option x) = []
  element_nodes level (t.reserved x) = reserved_nodes x.kind
  element_nodes level (t.extensions x) = []

  pub field_nodes : {M : Type 0} → ℕ → t.Field M → List (CheckedNode M)
  field_nodes level (t.field_of l kind) = kind_nodes level kind

  pub kind_nodes : {M : Type 0} → ℕ → t.FieldKind M → List (CheckedNode M)
  kind_nodes level (t.normal x) = []
  kind_nodes level (t.map x) = []
  kind_nodes level (t.group x) = group_nodes level x

  pub group_nodes : {M : Type 0} → ℕ → t.Group M → List (CheckedNode M)
  group_nodes level (t.group_of keyword name equals_sign number options b) = AGroupName name ∷ body_nodes level keyword b

  pub oneof_nodes : {M : Type 0} → ℕ → t.Oneof M → List (CheckedNode M)
  oneof_nodes level (t.oneof_of keyword name open_at es close_at) = oneof_elements_nodes level es

  pub oneof_elements_nodes : {M : Type 0} → ℕ → t.OneofElements M → List (CheckedNode M)
  oneof_elements_nodes level t.no_oneof_elements = []
  oneof_elements_nodes level (t.oneof_elements e es) = oneof_element_nodes level e ++ oneof_elements_nodes level es

  pub oneof_element_nodes : {M : Type 0} → ℕ → t.OneofElement M → List (CheckedNode M)
  oneof_element_nodes level (t.oneof_empty place) = []
  oneof_element_nodes level (t.oneof_option x) = []
  oneof_element_nodes level (t.oneof_field x) = field_nodes level x

  pub extend_nodes : {M : Type 0} → ℕ → t.Extend M → List (CheckedNode M)
  extend_nodes level (t.extend_of keyword extendee open_at es close_at) = extend_elements_nodes level es

  pub extend_elements_nodes : {M : Type 0} → ℕ → t.ExtendElements M → List (CheckedNode M)
  extend_elements_nodes level t.no_extend_elements = []
  extend_elements_nodes level (t.extend_elements e es) = extend_element_nodes level e ++ extend_elements_nodes level es

  pub extend_element_nodes : {M : Type 0} → ℕ → t.ExtendElement M → List (CheckedNode M)
  extend_element_nodes level (t.extend_empty place) = []
  extend_element_nodes level (t.extend_field x) = field_nodes level x

abbrev pub statement_nodes : {M : Type 0} → t.Statement M → List (CheckedNode M)
statement_nodes (t.an_empty place) = []
statement_nodes (t.an_import x) = AnImport x.value ∷ []
statement_nodes (t.a_package x) = []
statement_nodes (t.an_option x) = []
statement_nodes (t.an_extend x) = extend_nodes 1 x
statement_nodes (t.a_message x) = message_nodes 1 x
statement_nodes (t.an_enum x) = enum_nodes x
statement_nodes (t.a_service x) = []

abbrev pub syntax_nodes : {M : Type 0} → Option (t.Syntax M) → List (CheckedNode M)
syntax_nodes None = []
syntax_nodes (Some x) = ASyntax x.value ∷ []

-- All checked nodes of a file.
abbrev pub walked_nodes : {M : Type 0} → t.File M → List (CheckedNode M)
walked_nodes f = syntax_nodes f.syntax ++ (flat_map statement_nodes f.statements ++ package_nodes (packages_in f.statements))
