-- The keyword rules as conditions on each type of the tree. The proofs use these. A file
-- is proved to keep them just when its nodes keep the rules of Keywords.
use Rattle.std.specs.Prelude.{◌≡◌, true, codes, [], ◌∷◌, Option, Some, None}
use Rattle.protox_lexeme.specs.Shapes.{Row}
pub use Rattle.protox_ast.specs.Keywords.{BracesMatch, Each, NameBeginsWithNone, NoneOf, TypeBeginsWithNone, Undotted, UnlabelledBeginsWithNone, Unstreamed, how_many, in_message, is_close_brace, is_open_brace, is_significant, labels, scalars, KeepsKeywords}
use Rattle.protox_ast.specs.Tree as t

-- P holds of the value, if there is one.
abbrev pub Given : {A : Type 0} → (A → Type 0) → Option A → Type 0
Given P None = Unit {0}
Given P (Some x) = P x

-- The type of an unlabelled normal field doesn't begin with `optional`, `required` or `repeated`.
abbrev pub BeginsWithNoLabel : {M : Type 0} → t.Field M → Type 0
BeginsWithNoLabel x = UnlabelledBeginsWithNone labels x

-- The type of a normal field doesn't begin with `map`, `group` or a scalar word, unless it is that
-- scalar word alone.
abbrev pub BeginsWithNoKindOrScalar : {M : Type 0} → t.Normal M → Type 0
BeginsWithNoKindOrScalar x = TypeBeginsWithNone (codes "map" ∷ codes "group" ∷ scalars) x.type

-- In a message body the type of an unlabelled normal field doesn't begin with `oneof`, `enum`,
-- `message`, `extend`, `option`, `reserved` or `extensions`.
abbrev pub BeginsWithNoElement : {M : Type 0} → t.Field M → Type 0
BeginsWithNoElement x = UnlabelledBeginsWithNone in_message x

-- In a oneof body it doesn't begin with `option`. In an extend body it may begin with any other
-- word.
abbrev pub BeginsWithNoOption : {M : Type 0} → t.Field M → Type 0
BeginsWithNoOption x = UnlabelledBeginsWithNone (codes "option" ∷ []) x

-- The key and value types of a map don't begin with a scalar word, unless they are that word alone.
-- They may begin with `map` or `group`.
abbrev pub KeyAndValueBeginWithNoScalar : {M : Type 0} → t.Map M → Type 0
KeyAndValueBeginWithNoScalar x = TypeBeginsWithNone scalars x.key × TypeBeginsWithNone scalars x.value

-- The name of an enum value isn't `option` or `reserved`.
abbrev pub NameIsNoElement : {M : Type 0} → t.Evalue M → Type 0
NameIsNoElement x = NoneOf (codes "option" ∷ codes "reserved" ∷ []) x.name.0

-- A type in an rpc without `stream` before it doesn't begin with `stream`.
abbrev pub BeginsWithNoStream : {M : Type 0} → t.RpcType M → Type 0
BeginsWithNoStream x = Unstreamed x.stream x.name

-- The row is no comment, no newline and nothing invalid.
abbrev pub IsSignificant : {M : Type 0} → Row M → Type 0
IsSignificant r = is_significant r.shape ≡ true

-- The tokens of an aggregate are significant, and their braces match.
abbrev pub KeepsValue : {M : Type 0} → t.Value M → Type 0
KeepsValue (t.aggregate o inside c) = BracesMatch inside × Each IsSignificant inside
KeepsValue _ = Unit {0}

abbrev pub KeepsBody : {M : Type 0} → t.Body M → Type 0
KeepsBody x = KeepsValue x.value

abbrev pub KeepsOption : {M : Type 0} → t.OptionStatement M → Type 0
KeepsOption x = KeepsBody x.body

abbrev pub KeepsList : {M : Type 0} → t.OptionList M → Type 0
KeepsList x = KeepsBody x.first × Each (λ y. KeepsBody y.1) x.others

abbrev pub KeepsNormal : {M : Type 0} → t.Normal M → Type 0
KeepsNormal x = BeginsWithNoKindOrScalar x × Given KeepsList x.options

abbrev pub KeepsMap : {M : Type 0} → t.Map M → Type 0
KeepsMap x = KeyAndValueBeginWithNoScalar x × Given KeepsList x.options

abbrev pub KeepsExtensions : {M : Type 0} → t.Extensions M → Type 0
KeepsExtensions x = Given KeepsList x.options

abbrev pub KeepsEvalue : {M : Type 0} → t.Evalue M → Type 0
KeepsEvalue x = NameIsNoElement x × Given KeepsList x.options

abbrev pub KeepsEnumElement : {M : Type 0} → t.EnumElement M → Type 0
KeepsEnumElement (t.enum_empty m) = Unit {0}
KeepsEnumElement (t.enum_option x) = KeepsOption x
KeepsEnumElement (t.enum_reserved x) = Unit {0}
KeepsEnumElement (t.enum_value x) = KeepsEvalue x

abbrev pub KeepsEnum : {M : Type 0} → t.Enum M → Type 0
KeepsEnum x = Each KeepsEnumElement x.elements

abbrev pub KeepsRpcElement : {M : Type 0} → t.RpcElement M → Type 0
KeepsRpcElement (t.rpc_empty m) = Unit {0}
KeepsRpcElement (t.rpc_option x) = KeepsOption x

abbrev pub KeepsRpcEnd : {M : Type 0} → t.RpcEnd M → Type 0
KeepsRpcEnd (t.rpc_semicolon m) = Unit {0}
KeepsRpcEnd (t.rpc_braces o xs c) = Each KeepsRpcElement xs

abbrev pub KeepsRpc : {M : Type 0} → t.Rpc M → Type 0
KeepsRpc x = BeginsWithNoStream x.input × BeginsWithNoStream x.output × KeepsRpcEnd x.end

abbrev pub KeepsServiceElement : {M : Type 0} → t.ServiceElement M → Type 0
KeepsServiceElement (t.service_empty m) = Unit {0}
KeepsServiceElement (t.service_option x) = KeepsOption x
KeepsServiceElement (t.service_rpc x) = KeepsRpc x

abbrev pub KeepsService : {M : Type 0} → t.Service M → Type 0
KeepsService x = Each KeepsServiceElement x.elements

abbrev mutual
  pub KeepsMessage : {M : Type 0} → t.Message M → Type 0
  KeepsMessage (t.message_of k n b) = KeepsMbody b

  pub KeepsMbody : {M : Type 0} → t.Mbody M → Type 0
  KeepsMbody (t.mbody_of o es c) = KeepsElements es

  pub KeepsElements : {M : Type 0} → t.Elements M → Type 0
  KeepsElements t.no_elements = Unit {0}
  KeepsElements (t.elements e es) = KeepsElement e × KeepsElements es

  pub KeepsElement : {M : Type 0} → t.Element M → Type 0
  KeepsElement (t.empty m) = Unit {0}
  KeepsElement (t.field x) = BeginsWithNoElement x × KeepsField x
  KeepsElement (t.oneof x) = KeepsOneof x
  KeepsElement (t.enum x) = KeepsEnum x
  KeepsElement (t.message x) = KeepsMessage x
  KeepsElement (t.extend x) = KeepsExtend x
  KeepsElement (t.option x) = KeepsOption x
  KeepsElement (t.reserved x) = Unit {0}
  KeepsElement (t.extensions x) = KeepsExtensions x

  pub KeepsField : {M : Type 0} → t.Field M → Type 0
  KeepsField (t.field_of l k) = BeginsWithNoLabel (t.field_of l k) × KeepsKind k

  pub KeepsKind : {M : Type 0} → t.FieldKind M → Type 0
  KeepsKind (t.normal x) = KeepsNormal x
  KeepsKind (t.map x) = KeepsMap x
  KeepsKind (t.group x) = KeepsGroup x

  pub KeepsGroup : {M : Type 0} → t.Group M → Type 0
  KeepsGroup (t.group_of k n e i l b) = Given KeepsList l × KeepsMbody b

  pub KeepsOneof : {M : Type 0} → t.Oneof M → Type 0
  KeepsOneof (t.oneof_of k n o es c) = KeepsOneofElements es

  pub KeepsOneofElements : {M : Type 0} → t.OneofElements M → Type 0
  KeepsOneofElements t.no_oneof_elements = Unit {0}
  KeepsOneofElements (t.oneof_elements e es) = KeepsOneofElement e × KeepsOneofElements es

  pub KeepsOneofElement : {M : Type 0} → t.OneofElement M → Type 0
  KeepsOneofElement (t.oneof_empty m) = Unit {0}
  KeepsOneofElement (t.oneof_option x) = KeepsOption x
  KeepsOneofElement (t.oneof_field x) = BeginsWithNoOption x × KeepsField x

  pub KeepsExtend : {M : Type 0} → t.Extend M → Type 0
  KeepsExtend (t.extend_of k n o es c) = KeepsExtendElements es

  pub KeepsExtendElements : {M : Type 0} → t.ExtendElements M → Type 0
  KeepsExtendElements t.no_extend_elements = Unit {0}
  KeepsExtendElements (t.extend_elements e es) = KeepsExtendElement e × KeepsExtendElements es

  pub KeepsExtendElement : {M : Type 0} → t.ExtendElement M → Type 0
  KeepsExtendElement (t.extend_empty m) = Unit {0}
  KeepsExtendElement (t.extend_field x) = KeepsField x

abbrev pub KeepsStatement : {M : Type 0} → t.Statement M → Type 0
KeepsStatement (t.an_empty m) = Unit {0}
KeepsStatement (t.an_import x) = Unit {0}
KeepsStatement (t.a_package x) = Unit {0}
KeepsStatement (t.an_option x) = KeepsOption x
KeepsStatement (t.an_extend x) = KeepsExtend x
KeepsStatement (t.a_message x) = KeepsMessage x
KeepsStatement (t.an_enum x) = KeepsEnum x
KeepsStatement (t.a_service x) = KeepsService x

-- The file keeps all keyword rules.
abbrev pub KeepsFile : {M : Type 0} → t.File M → Type 0
KeepsFile x = Each KeepsStatement x.statements
