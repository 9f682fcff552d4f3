-- From the plain conditions on a whole tree to those on one level of bodies, and back.
use Rattle.std.proofs.Common.{ℕ, suc, ◌≤◌, List, [], ◌∷◌, arith}
use Rattle.std.specs.Prelude.{max}
use Rattle.protox_ast.specs.Tree as t
use Rattle.protox_ast.specs.KeywordWalk as k
use Rattle.protox_ast.specs.DepthWalk as d
use Rattle.protox_grammar.specs.Bodies as rule

both : (x y n : ℕ) → max x y ≤ n → (x ≤ n) × (y ≤ n)
both x y n h = (omega (arith, h), omega (arith, h))

most : (x y n : ℕ) → x ≤ n → y ≤ n → max x y ≤ n
most x y n p q = omega (arith, p, q)

none-in : (n : ℕ) → 0 ≤ n
none-in n = omega arith

module _ {M : Type 0} (P : t.Mbody M → Type 0) (n : ℕ) (f : (x : t.Mbody M) → k.KeepsMbody x → suc (d.mbody_depth x) ≤ n → P x) where
  pub group-into : (x : t.Group M) → k.KeepsGroup x → d.group_depth x ≤ n → rule.GroupHas P x
  group-into (t.group_of a1 a2 a3 a4 a5 a6) h w = (h.0, f a6 h.1 w)

  pub kind-into : (x : t.FieldKind M) → k.KeepsKind x → d.kind_depth x ≤ n → rule.KindHas P x
  kind-into (t.normal x) h w = h
  kind-into (t.map x) h w = h
  kind-into (t.group x) h w = group-into x h w

  pub field-into : (x : t.Field M) → k.KeepsField x → d.field_depth x ≤ n → rule.FieldHas P x
  field-into (t.field_of l x) h w = (h.0, kind-into x h.1 w)

  pub oneof_element-into : (x : t.OneofElement M) → k.KeepsOneofElement x → d.oneof_element_depth x ≤ n → rule.OneofElementHas P x
  oneof_element-into (t.oneof_empty x) h w = h
  oneof_element-into (t.oneof_option x) h w = h
  oneof_element-into (t.oneof_field x) h w = (h.0, field-into x h.1 w)

  pub oneof_elements-into : (x : t.OneofElements M) → k.KeepsOneofElements x → d.oneof_elements_depth x ≤ n → rule.OneofElementsHas P x
  oneof_elements-into (t.no_oneof_elements) h w = h
  oneof_elements-into (t.oneof_elements e es) h w = let w = both (d.oneof_element_depth e) (d.oneof_elements_depth es) n w in (oneof_element-into e h.0 w.0, oneof_elements-into es h.1 w.1)

  pub oneof-into : (x : t.Oneof M) → k.KeepsOneof x → d.oneof_depth x ≤ n → rule.OneofHas P x
  oneof-into (t.oneof_of k n o x c) h w = oneof_elements-into x h w

  pub extend_element-into : (x : t.ExtendElement M) → k.KeepsExtendElement x → d.extend_element_depth x ≤ n → rule.ExtendElementHas P x
  extend_element-into (t.extend_empty x) h w = h
  extend_element-into (t.extend_field x) h w = field-into x h w

  pub extend_elements-into : (x : t.ExtendElements M) → k.KeepsExtendElements x → d.extend_elements_depth x ≤ n → rule.ExtendElementsHas P x
  extend_elements-into (t.no_extend_elements) h w = h
  extend_elements-into (t.extend_elements e es) h w = let w = both (d.extend_element_depth e) (d.extend_elements_depth es) n w in (extend_element-into e h.0 w.0, extend_elements-into es h.1 w.1)

  pub extend-into : (x : t.Extend M) → k.KeepsExtend x → d.extend_depth x ≤ n → rule.ExtendHas P x
  extend-into (t.extend_of k n o x c) h w = extend_elements-into x h w

  pub message-into : (x : t.Message M) → k.KeepsMessage x → d.message_depth x ≤ n → rule.MessageHas P x
  message-into (t.message_of k n x) h w = f x h w

  pub element-into : (x : t.Element M) → k.KeepsElement x → d.element_depth x ≤ n → rule.ElementHas P x
  element-into (t.empty x) h w = h
  element-into (t.field x) h w = (h.0, field-into x h.1 w)
  element-into (t.oneof x) h w = oneof-into x h w
  element-into (t.enum x) h w = h
  element-into (t.message x) h w = message-into x h w
  element-into (t.extend x) h w = extend-into x h w
  element-into (t.option x) h w = h
  element-into (t.reserved x) h w = h
  element-into (t.extensions x) h w = h

  pub elements-into : (x : t.Elements M) → k.KeepsElements x → d.elements_depth x ≤ n → rule.ElementsHas P x
  elements-into (t.no_elements) h w = h
  elements-into (t.elements e es) h w = let w = both (d.element_depth e) (d.elements_depth es) n w in (element-into e h.0 w.0, elements-into es h.1 w.1)

  pub mbody-into : (x : t.Mbody M) → k.KeepsMbody x → d.mbody_depth x ≤ n → rule.MbodyHas P x
  mbody-into (t.mbody_of o x c) h w = elements-into x h w

  pub statement-into : (x : t.Statement M) → k.KeepsStatement x → d.statement_depth x ≤ n → rule.StatementHas P x
  statement-into (t.an_empty x) h w = h
  statement-into (t.an_import x) h w = h
  statement-into (t.a_package x) h w = h
  statement-into (t.an_option x) h w = h
  statement-into (t.an_extend x) h w = extend-into x h w
  statement-into (t.a_message x) h w = message-into x h w
  statement-into (t.an_enum x) h w = h
  statement-into (t.a_service x) h w = h

  pub statements-into : (xs : List (t.Statement M)) → k.Each k.KeepsStatement xs → d.statements_depth xs ≤ n → k.Each (rule.StatementHas P) xs
  statements-into [] h w = tt
  statements-into (e ∷ es) h w = let w = both (d.statement_depth e) (d.statements_depth es) n w in (statement-into e h.0 w.0, statements-into es h.1 w.1)

module _ {M : Type 0} (P : t.Mbody M → Type 0) (f : (x : t.Mbody M) → P x → k.KeepsMbody x) where
  pub group-keeps : (x : t.Group M) → rule.GroupHas P x → k.KeepsGroup x
  group-keeps (t.group_of a1 a2 a3 a4 a5 a6) h = (h.0, f a6 h.1)

  pub kind-keeps : (x : t.FieldKind M) → rule.KindHas P x → k.KeepsKind x
  kind-keeps (t.normal x) h = h
  kind-keeps (t.map x) h = h
  kind-keeps (t.group x) h = group-keeps x h

  pub field-keeps : (x : t.Field M) → rule.FieldHas P x → k.KeepsField x
  field-keeps (t.field_of l x) h = (h.0, kind-keeps x h.1)

  pub oneof_element-keeps : (x : t.OneofElement M) → rule.OneofElementHas P x → k.KeepsOneofElement x
  oneof_element-keeps (t.oneof_empty x) h = h
  oneof_element-keeps (t.oneof_option x) h = h
  oneof_element-keeps (t.oneof_field x) h = (h.0, field-keeps x h.1)

  pub oneof_elements-keeps : (x : t.OneofElements M) → rule.OneofElementsHas P x → k.KeepsOneofElements x
  oneof_elements-keeps (t.no_oneof_elements) h = h
  oneof_elements-keeps (t.oneof_elements e es) h = (oneof_element-keeps e h.0, oneof_elements-keeps es h.1)

  pub oneof-keeps : (x : t.Oneof M) → rule.OneofHas P x → k.KeepsOneof x
  oneof-keeps (t.oneof_of k n o x c) h = oneof_elements-keeps x h

  pub extend_element-keeps : (x : t.ExtendElement M) → rule.ExtendElementHas P x → k.KeepsExtendElement x
  extend_element-keeps (t.extend_empty x) h = h
  extend_element-keeps (t.extend_field x) h = field-keeps x h

  pub extend_elements-keeps : (x : t.ExtendElements M) → rule.ExtendElementsHas P x → k.KeepsExtendElements x
  extend_elements-keeps (t.no_extend_elements) h = h
  extend_elements-keeps (t.extend_elements e es) h = (extend_element-keeps e h.0, extend_elements-keeps es h.1)

  pub extend-keeps : (x : t.Extend M) → rule.ExtendHas P x → k.KeepsExtend x
  extend-keeps (t.extend_of k n o x c) h = extend_elements-keeps x h

  pub message-keeps : (x : t.Message M) → rule.MessageHas P x → k.KeepsMessage x
  message-keeps (t.message_of k n x) h = f x h

  pub element-keeps : (x : t.Element M) → rule.ElementHas P x → k.KeepsElement x
  element-keeps (t.empty x) h = h
  element-keeps (t.field x) h = (h.0, field-keeps x h.1)
  element-keeps (t.oneof x) h = oneof-keeps x h
  element-keeps (t.enum x) h = h
  element-keeps (t.message x) h = message-keeps x h
  element-keeps (t.extend x) h = extend-keeps x h
  element-keeps (t.option x) h = h
  element-keeps (t.reserved x) h = h
  element-keeps (t.extensions x) h = h

  pub elements-keeps : (x : t.Elements M) → rule.ElementsHas P x → k.KeepsElements x
  elements-keeps (t.no_elements) h = h
  elements-keeps (t.elements e es) h = (element-keeps e h.0, elements-keeps es h.1)

  pub mbody-keeps : (x : t.Mbody M) → rule.MbodyHas P x → k.KeepsMbody x
  mbody-keeps (t.mbody_of o x c) h = elements-keeps x h

  pub statement-keeps : (x : t.Statement M) → rule.StatementHas P x → k.KeepsStatement x
  statement-keeps (t.an_empty x) h = h
  statement-keeps (t.an_import x) h = h
  statement-keeps (t.a_package x) h = h
  statement-keeps (t.an_option x) h = h
  statement-keeps (t.an_extend x) h = extend-keeps x h
  statement-keeps (t.a_message x) h = message-keeps x h
  statement-keeps (t.an_enum x) h = h
  statement-keeps (t.a_service x) h = h

  pub statements-keeps : (xs : List (t.Statement M)) → k.Each (rule.StatementHas P) xs → k.Each k.KeepsStatement xs
  statements-keeps [] h = tt
  statements-keeps (e ∷ es) h = (statement-keeps e h.0, statements-keeps es h.1)

module _ {M : Type 0} (P : t.Mbody M → Type 0) (n : ℕ) (f : (x : t.Mbody M) → P x → suc (d.mbody_depth x) ≤ n) where
  pub group-deep : (x : t.Group M) → rule.GroupHas P x → d.group_depth x ≤ n
  group-deep (t.group_of a1 a2 a3 a4 a5 a6) h = f a6 h.1

  pub kind-deep : (x : t.FieldKind M) → rule.KindHas P x → d.kind_depth x ≤ n
  kind-deep (t.normal x) h = none-in n
  kind-deep (t.map x) h = none-in n
  kind-deep (t.group x) h = group-deep x h

  pub field-deep : (x : t.Field M) → rule.FieldHas P x → d.field_depth x ≤ n
  field-deep (t.field_of l x) h = kind-deep x h.1

  pub oneof_element-deep : (x : t.OneofElement M) → rule.OneofElementHas P x → d.oneof_element_depth x ≤ n
  oneof_element-deep (t.oneof_empty x) h = none-in n
  oneof_element-deep (t.oneof_option x) h = none-in n
  oneof_element-deep (t.oneof_field x) h = field-deep x h.1

  pub oneof_elements-deep : (x : t.OneofElements M) → rule.OneofElementsHas P x → d.oneof_elements_depth x ≤ n
  oneof_elements-deep (t.no_oneof_elements) h = none-in n
  oneof_elements-deep (t.oneof_elements e es) h = most (d.oneof_element_depth e) (d.oneof_elements_depth es) n (oneof_element-deep e h.0) (oneof_elements-deep es h.1)

  pub oneof-deep : (x : t.Oneof M) → rule.OneofHas P x → d.oneof_depth x ≤ n
  oneof-deep (t.oneof_of k n o x c) h = oneof_elements-deep x h

  pub extend_element-deep : (x : t.ExtendElement M) → rule.ExtendElementHas P x → d.extend_element_depth x ≤ n
  extend_element-deep (t.extend_empty x) h = none-in n
  extend_element-deep (t.extend_field x) h = field-deep x h

  pub extend_elements-deep : (x : t.ExtendElements M) → rule.ExtendElementsHas P x → d.extend_elements_depth x ≤ n
  extend_elements-deep (t.no_extend_elements) h = none-in n
  extend_elements-deep (t.extend_elements e es) h = most (d.extend_element_depth e) (d.extend_elements_depth es) n (extend_element-deep e h.0) (extend_elements-deep es h.1)

  pub extend-deep : (x : t.Extend M) → rule.ExtendHas P x → d.extend_depth x ≤ n
  extend-deep (t.extend_of k n o x c) h = extend_elements-deep x h

  pub message-deep : (x : t.Message M) → rule.MessageHas P x → d.message_depth x ≤ n
  message-deep (t.message_of k n x) h = f x h

  pub element-deep : (x : t.Element M) → rule.ElementHas P x → d.element_depth x ≤ n
  element-deep (t.empty x) h = none-in n
  element-deep (t.field x) h = field-deep x h.1
  element-deep (t.oneof x) h = oneof-deep x h
  element-deep (t.enum x) h = none-in n
  element-deep (t.message x) h = message-deep x h
  element-deep (t.extend x) h = extend-deep x h
  element-deep (t.option x) h = none-in n
  element-deep (t.reserved x) h = none-in n
  element-deep (t.extensions x) h = none-in n

  pub elements-deep : (x : t.Elements M) → rule.ElementsHas P x → d.elements_depth x ≤ n
  elements-deep (t.no_elements) h = none-in n
  elements-deep (t.elements e es) h = most (d.element_depth e) (d.elements_depth es) n (element-deep e h.0) (elements-deep es h.1)

  pub mbody-deep : (x : t.Mbody M) → rule.MbodyHas P x → d.mbody_depth x ≤ n
  mbody-deep (t.mbody_of o x c) h = elements-deep x h

  pub statement-deep : (x : t.Statement M) → rule.StatementHas P x → d.statement_depth x ≤ n
  statement-deep (t.an_empty x) h = none-in n
  statement-deep (t.an_import x) h = none-in n
  statement-deep (t.a_package x) h = none-in n
  statement-deep (t.an_option x) h = none-in n
  statement-deep (t.an_extend x) h = extend-deep x h
  statement-deep (t.a_message x) h = message-deep x h
  statement-deep (t.an_enum x) h = none-in n
  statement-deep (t.a_service x) h = none-in n

  pub statements-deep : (xs : List (t.Statement M)) → k.Each (rule.StatementHas P) xs → d.statements_depth xs ≤ n
  statements-deep [] h = none-in n
  statements-deep (e ∷ es) h = most (d.statement_depth e) (d.statements_depth es) n (statement-deep e h.0) (statements-deep es h.1)
