-- How deep messages and groups are nested in each type of the tree. The proofs use
-- these. The depth is proved to be the highest level of the file's nodes.
use Rattle.std.specs.Prelude.{ℕ, suc, List, [], ◌∷◌, max}
pub use Rattle.protox_ast.specs.Nodes.{depth}
use Rattle.protox_ast.specs.Tree as t

abbrev mutual
  pub message_depth : {M : Type 0} → t.Message M → ℕ
  message_depth (t.message_of k n b) = suc (mbody_depth b)

  pub mbody_depth : {M : Type 0} → t.Mbody M → ℕ
  mbody_depth (t.mbody_of o es c) = elements_depth es

  pub elements_depth : {M : Type 0} → t.Elements M → ℕ
  elements_depth t.no_elements = 0
  elements_depth (t.elements e es) = max (element_depth e) (elements_depth es)

  pub element_depth : {M : Type 0} → t.Element M → ℕ
  element_depth (t.empty m) = 0
  element_depth (t.field x) = field_depth x
  element_depth (t.oneof x) = oneof_depth x
  element_depth (t.enum x) = 0
  element_depth (t.message x) = message_depth x
  element_depth (t.extend x) = extend_depth x
  element_depth (t.option x) = 0
  element_depth (t.reserved x) = 0
  element_depth (t.extensions x) = 0

  pub field_depth : {M : Type 0} → t.Field M → ℕ
  field_depth (t.field_of l k) = kind_depth k

  pub kind_depth : {M : Type 0} → t.FieldKind M → ℕ
  kind_depth (t.normal x) = 0
  kind_depth (t.map x) = 0
  kind_depth (t.group x) = group_depth x

  pub group_depth : {M : Type 0} → t.Group M → ℕ
  group_depth (t.group_of k n e i l b) = suc (mbody_depth b)

  pub oneof_depth : {M : Type 0} → t.Oneof M → ℕ
  oneof_depth (t.oneof_of k n o es c) = oneof_elements_depth es

  pub oneof_elements_depth : {M : Type 0} → t.OneofElements M → ℕ
  oneof_elements_depth t.no_oneof_elements = 0
  oneof_elements_depth (t.oneof_elements e es) = max (oneof_element_depth e) (oneof_elements_depth es)

  pub oneof_element_depth : {M : Type 0} → t.OneofElement M → ℕ
  oneof_element_depth (t.oneof_empty m) = 0
  oneof_element_depth (t.oneof_option x) = 0
  oneof_element_depth (t.oneof_field x) = field_depth x

  pub extend_depth : {M : Type 0} → t.Extend M → ℕ
  extend_depth (t.extend_of k n o es c) = extend_elements_depth es

  pub extend_elements_depth : {M : Type 0} → t.ExtendElements M → ℕ
  extend_elements_depth t.no_extend_elements = 0
  extend_elements_depth (t.extend_elements e es) = max (extend_element_depth e) (extend_elements_depth es)

  pub extend_element_depth : {M : Type 0} → t.ExtendElement M → ℕ
  extend_element_depth (t.extend_empty m) = 0
  extend_element_depth (t.extend_field x) = field_depth x

abbrev pub statement_depth : {M : Type 0} → t.Statement M → ℕ
statement_depth (t.an_extend x) = extend_depth x
statement_depth (t.a_message x) = message_depth x
statement_depth _ = 0

abbrev pub statements_depth : {M : Type 0} → List (t.Statement M) → ℕ
statements_depth [] = 0
statements_depth (x ∷ xs) = max (statement_depth x) (statements_depth xs)

-- The depth of a file.
abbrev pub walked_depth : {M : Type 0} → t.File M → ℕ
walked_depth x = statements_depth x.statements
