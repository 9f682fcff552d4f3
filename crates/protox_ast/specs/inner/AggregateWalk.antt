-- The aggregates of each type of the tree, collected type by type. The proofs use these.
-- They are proved to be the aggregates among the file's nodes.
use Rattle.std.specs.Prelude.{List, [], ◌∷◌, ◌++◌, Option, Some, None}
use Rattle.std.specs.List.{flat_map}
use Rattle.protox_ast.specs.Tree as t

-- The `{` and the `}` of each aggregate, by their tags.
abbrev pub Braces : Type 0 → Type 0
Braces M = List (M × M)

abbrev pub of_value : {M : Type 0} → t.Value M → Braces M
of_value (t.aggregate open_at inside close_at) = (open_at, close_at) ∷ []
of_value _ = []

abbrev pub of_body : {M : Type 0} → t.Body M → Braces M
of_body x = of_value x.value

abbrev pub of_option : {M : Type 0} → t.OptionStatement M → Braces M
of_option x = of_body x.body

abbrev pub of_list : {M : Type 0} → Option (t.OptionList M) → Braces M
of_list None = []
of_list (Some x) = of_body x.first ++ flat_map (λ y. of_body y.1) x.others

abbrev pub of_extensions : {M : Type 0} → t.Extensions M → Braces M
of_extensions x = of_list x.options

abbrev pub of_enum_element : {M : Type 0} → t.EnumElement M → Braces M
of_enum_element (t.enum_empty place) = []
of_enum_element (t.enum_option x) = of_option x
of_enum_element (t.enum_reserved x) = []
of_enum_element (t.enum_value x) = of_list x.options

abbrev pub of_enum : {M : Type 0} → t.Enum M → Braces M
of_enum x = flat_map of_enum_element x.elements

abbrev pub of_rpc_element : {M : Type 0} → t.RpcElement M → Braces M
of_rpc_element (t.rpc_empty place) = []
of_rpc_element (t.rpc_option x) = of_option x

abbrev pub of_rpc_end : {M : Type 0} → t.RpcEnd M → Braces M
of_rpc_end (t.rpc_semicolon place) = []
of_rpc_end (t.rpc_braces open_at xs close_at) = flat_map of_rpc_element xs

abbrev pub of_service_element : {M : Type 0} → t.ServiceElement M → Braces M
of_service_element (t.service_empty place) = []
of_service_element (t.service_option x) = of_option x
of_service_element (t.service_rpc x) = of_rpc_end x.end

abbrev pub of_service : {M : Type 0} → t.Service M → Braces M
of_service x = flat_map of_service_element x.elements

abbrev mutual
  pub of_message : {M : Type 0} → t.Message M → Braces M
  of_message (t.message_of keyword name b) = of_mbody b

  pub of_mbody : {M : Type 0} → t.Mbody M → Braces M
  of_mbody (t.mbody_of open_at es close_at) = of_elements es

  pub of_elements : {M : Type 0} → t.Elements M → Braces M
  of_elements t.no_elements = []
  of_elements (t.elements e es) = of_element e ++ of_elements es

  pub of_element : {M : Type 0} → t.Element M → Braces M
  of_element (t.empty place) = []
  of_element (t.field x) = of_field x
  of_element (t.oneof x) = of_oneof x
  of_element (t.enum x) = of_enum x
  of_element (t.message x) = of_message x
  of_element (t.extend x) = of_extend x
  of_element (t.option x) = of_option x
  of_element (t.reserved x) = []
  of_element (t.extensions x) = of_extensions x

  pub of_field : {M : Type 0} → t.Field M → Braces M
  of_field (t.field_of l kind) = of_kind kind

  pub of_kind : {M : Type 0} → t.FieldKind M → Braces M
  of_kind (t.normal x) = of_list x.options
  of_kind (t.map x) = of_list x.options
  of_kind (t.group x) = of_group x

  pub of_group : {M : Type 0} → t.Group M → Braces M
  of_group (t.group_of keyword name equals_sign number options b) = of_list options ++ of_mbody b

  pub of_oneof : {M : Type 0} → t.Oneof M → Braces M
  of_oneof (t.oneof_of keyword name open_at es close_at) = of_oneof_elements es

  pub of_oneof_elements : {M : Type 0} → t.OneofElements M → Braces M
  of_oneof_elements t.no_oneof_elements = []
  of_oneof_elements (t.oneof_elements e es) = of_oneof_element e ++ of_oneof_elements es

  pub of_oneof_element : {M : Type 0} → t.OneofElement M → Braces M
  of_oneof_element (t.oneof_empty place) = []
  of_oneof_element (t.oneof_option x) = of_option x
  of_oneof_element (t.oneof_field x) = of_field x

  pub of_extend : {M : Type 0} → t.Extend M → Braces M
  of_extend (t.extend_of keyword extendee open_at es close_at) = of_extend_elements es

  pub of_extend_elements : {M : Type 0} → t.ExtendElements M → Braces M
  of_extend_elements t.no_extend_elements = []
  of_extend_elements (t.extend_elements e es) = of_extend_element e ++ of_extend_elements es

  pub of_extend_element : {M : Type 0} → t.ExtendElement M → Braces M
  of_extend_element (t.extend_empty place) = []
  of_extend_element (t.extend_field x) = of_field x

abbrev pub of_statement : {M : Type 0} → t.Statement M → Braces M
of_statement (t.an_empty place) = []
of_statement (t.an_import x) = []
of_statement (t.a_package x) = []
of_statement (t.an_option x) = of_option x
of_statement (t.an_extend x) = of_extend x
of_statement (t.a_message x) = of_message x
of_statement (t.an_enum x) = of_enum x
of_statement (t.a_service x) = of_service x

-- All aggregates of a file.
abbrev pub walked_aggregates : {M : Type 0} → t.File M → Braces M
walked_aggregates f = flat_map of_statement f.statements
