-- The nodes of a file: the parts of its tree to which a keyword rule, a check or a limit applies.
-- Each has what these need to know, and they stand in the order of the source.
use Rattle.std.specs.Prelude.{ℕ, suc, List, [], ◌∷◌, ◌++◌, map, max, Option, Some, None}
use Rattle.std.specs.List.{flat_map}
use Rattle.protox_ast.specs.Tree as t

-- A node that is checked while the file is read.
pub data CheckedNode (M : Type 0) : Type 0 where
  -- the string of the syntax statement
  ASyntax : t.Strings M → CheckedNode M
  -- the string of an import
  AnImport : t.Strings M → CheckedNode M
  -- a reserved name, as a string
  AReservedName : t.Strings M → CheckedNode M
  -- the name of a group
  AGroupName : t.Word M → CheckedNode M
  -- a package statement after the first, with the first
  APackageAgain : (first again : t.Package M) → CheckedNode M
  -- a message or a group of level 32, by its keyword and its `{`
  ATooDeep : (keyword open_at : M) → CheckedNode M

-- A node of any kind.
pub data Node (M : Type 0) : Type 0 where
  -- a node that is checked
  AChecked : CheckedNode M → Node M
  -- the body of a message or a group: its level, the keyword before it and its `{`
  ABody : (level : ℕ) (keyword open_at : M) → Node M
  -- a field, by what it stands in
  AMessageField AOneofField AnExtendField : t.Field M → Node M
  -- a field by its kind, if it isn't a group
  ANormal : t.Normal M → Node M
  AMap : t.Map M → Node M
  AnEvalue : t.Evalue M → Node M
  -- a type in the parentheses of an rpc
  AnRpcType : t.RpcType M → Node M
  -- the value of an option, in a statement or in a list
  AValue : t.Value M → Node M

-- ---- the nodes of parts that hold no messages

-- The nodes of the syntax statement.
abbrev pub syntax_nodes : {M : Type 0} → Option (t.Syntax M) → List (Node M)
syntax_nodes None = []
syntax_nodes (Some x) = AChecked (ASyntax x.value) ∷ []

-- The nodes of a list of options: the values.
abbrev pub list_nodes : {M : Type 0} → Option (t.OptionList M) → List (Node M)
list_nodes None = []
list_nodes (Some x) = AValue x.first.value ∷ map (λ y. AValue y.1.value) x.others

-- The nodes of a reserved statement: the names.
abbrev pub reserved_nodes : {M : Type 0} → t.ReservedKind M → List (Node M)
reserved_nodes (t.ranges x) = []
reserved_nodes (t.names x) = AChecked (AReservedName x.first) ∷ map (λ y. AChecked (AReservedName y.1)) x.others

-- The nodes of an element of an enum.
abbrev pub enum_element_nodes : {M : Type 0} → t.EnumElement M → List (Node M)
enum_element_nodes (t.enum_empty place) = []
enum_element_nodes (t.enum_option x) = AValue x.body.value ∷ []
enum_element_nodes (t.enum_reserved x) = reserved_nodes x.kind
enum_element_nodes (t.enum_value x) = AnEvalue x ∷ list_nodes x.options

-- The nodes of an element of an rpc: the value of an option.
abbrev pub rpc_element_nodes : {M : Type 0} → t.RpcElement M → List (Node M)
rpc_element_nodes (t.rpc_empty place) = []
rpc_element_nodes (t.rpc_option x) = AValue x.body.value ∷ []

-- The nodes of the end of an rpc.
abbrev pub rpc_end_nodes : {M : Type 0} → t.RpcEnd M → List (Node M)
rpc_end_nodes (t.rpc_semicolon place) = []
rpc_end_nodes (t.rpc_braces open_at xs close_at) = flat_map rpc_element_nodes xs

-- The nodes of an element of a service.
abbrev pub service_element_nodes : {M : Type 0} → t.ServiceElement M → List (Node M)
service_element_nodes (t.service_empty place) = []
service_element_nodes (t.service_option x) = AValue x.body.value ∷ []
service_element_nodes (t.service_rpc x) = AnRpcType x.input ∷ (AnRpcType x.output ∷ rpc_end_nodes x.end)

-- ---- the nodes of messages, and of what holds them or stands in them

-- The nodes at a level. A message or a group that stands in no other has level 1.
abbrev mutual
  pub body_nodes : {M : Type 0} → ℕ → M → t.Mbody M → List (Node M)
  body_nodes level keyword (t.mbody_of open_at es close_at) = ABody level keyword open_at ∷ elements_nodes (suc level) es

  -- The nodes of the elements of a message.
  pub elements_nodes : {M : Type 0} → ℕ → t.Elements M → List (Node M)
  elements_nodes level t.no_elements = []
  elements_nodes level (t.elements e es) = element_nodes level e ++ elements_nodes level es

  -- The nodes of an element of a message.
  pub element_nodes : {M : Type 0} → ℕ → t.Element M → List (Node M)
  element_nodes level (t.empty place) = []
  element_nodes level (t.field x) = AMessageField x ∷ field_nodes level x
  element_nodes level (t.oneof (t.oneof_of keyword name open_at es close_at)) = oneof_nodes level es
  element_nodes level (t.enum x) = flat_map enum_element_nodes x.elements
  element_nodes level (t.message (t.message_of keyword name b)) = body_nodes level keyword b
  element_nodes level (t.extend (t.extend_of keyword extendee open_at es close_at)) = extend_nodes level es
  element_nodes level (t.option x) = AValue x.body.value ∷ []
  element_nodes level (t.reserved x) = reserved_nodes x.kind
  element_nodes level (t.extensions x) = list_nodes x.options

  -- The nodes of a field, without the field itself.
  pub field_nodes : {M : Type 0} → ℕ → t.Field M → List (Node M)
  field_nodes level (t.field_of label (t.normal x)) = ANormal x ∷ list_nodes x.options
  field_nodes level (t.field_of label (t.map x)) = AMap x ∷ list_nodes x.options
  field_nodes level (t.field_of label (t.group (t.group_of keyword name equals_sign number options b))) =
      AChecked (AGroupName name) ∷ (list_nodes options ++ body_nodes level keyword b)

  -- The nodes of the elements of a oneof.
  pub oneof_nodes : {M : Type 0} → ℕ → t.OneofElements M → List (Node M)
  oneof_nodes level t.no_oneof_elements = []
  oneof_nodes level (t.oneof_elements (t.oneof_empty place) es) = oneof_nodes level es
  oneof_nodes level (t.oneof_elements (t.oneof_option x) es) = AValue x.body.value ∷ oneof_nodes level es
  oneof_nodes level (t.oneof_elements (t.oneof_field x) es) = AOneofField x ∷ (field_nodes level x ++ oneof_nodes level es)

  -- The nodes of the elements of an extend.
  pub extend_nodes : {M : Type 0} → ℕ → t.ExtendElements M → List (Node M)
  extend_nodes level t.no_extend_elements = []
  extend_nodes level (t.extend_elements (t.extend_empty place) es) = extend_nodes level es
  extend_nodes level (t.extend_elements (t.extend_field x) es) = AnExtendField x ∷ (field_nodes level x ++ extend_nodes level es)

-- ---- the nodes of files

-- The nodes of a statement of a file.
abbrev pub statement_nodes : {M : Type 0} → t.Statement M → List (Node M)
statement_nodes (t.an_empty place) = []
statement_nodes (t.an_import x) = AChecked (AnImport x.value) ∷ []
statement_nodes (t.a_package x) = []
statement_nodes (t.an_option x) = AValue x.body.value ∷ []
statement_nodes (t.an_extend (t.extend_of keyword extendee open_at es close_at)) = extend_nodes 1 es
statement_nodes (t.a_message (t.message_of keyword name b)) = body_nodes 1 keyword b
statement_nodes (t.an_enum x) = flat_map enum_element_nodes x.elements
statement_nodes (t.a_service x) = flat_map service_element_nodes x.elements

-- All nodes of a file.
abbrev pub nodes : {M : Type 0} → t.File M → List (Node M)
nodes f = syntax_nodes f.syntax ++ flat_map statement_nodes f.statements

-- ---- levels

-- The level of a body. Other nodes have level 0.
abbrev pub level_of : {M : Type 0} → Node M → ℕ
level_of (ABody level keyword open_at) = level
level_of _ = 0

-- The highest level.
abbrev pub deepest : {M : Type 0} → List (Node M) → ℕ
deepest [] = 0
deepest (x ∷ xs) = max (level_of x) (deepest xs)

-- How deep messages and groups are nested: the highest level of one. Extends and oneofs don't
-- count.
abbrev pub depth : {M : Type 0} → t.File M → ℕ
depth f = deepest (nodes f)
