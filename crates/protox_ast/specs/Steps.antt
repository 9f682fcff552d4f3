-- A function of whole trees, given by one step for each level. A step computes the result of a
-- level from the results of the levels in it.
use Rattle.protox_ast.specs.declared.ast.Message.{Message}
use Rattle.protox_ast.specs.declared.ast.MessageBody.{MessageBody}
use Rattle.protox_ast.specs.declared.ast.MessageItem.{MessageItem}
use Rattle.protox_ast.specs.declared.ast.Field.{Field}
use Rattle.protox_ast.specs.declared.ast.FieldKind.{FieldKind}
use Rattle.protox_ast.specs.declared.ast.FieldKind.TheOpen.{Message-F, MessageBody-F, MessageItem-F, Field-F, FieldKind-F, Oneof-F, Extend-F}
use Rattle.protox_ast.specs.declared.ast.FieldKind.TheFolds.{fold-Message, fold-MessageBody, fold-MessageItem, fold-Field, fold-FieldKind, fold-Oneof, fold-Extend}
use Rattle.protox_ast.specs.declared.ast.Oneof.{Oneof}
use Rattle.protox_ast.specs.declared.ast.Extend.{Extend}

-- One step for each kind of level. `Message-F K .. O` is a message whose inner parts are replaced
-- by their results: its body by a B, the items of the body by an I each, the field of an item by an
-- F, and so on.
pub record Steps (K I E F M B O : Type 0) : Type 0 where
  pub kind : FieldKind-F K I E F M B O → K
  pub item : MessageItem-F K I E F M B O → I
  pub extend : Extend-F K I E F M B O → E
  pub field : Field-F K I E F M B O → F
  pub message : Message-F K I E F M B O → M
  pub body : MessageBody-F K I E F M B O → B
  pub oneof : Oneof-F K I E F M B O → O

module _ {K I E F M B O : Type 0} (s : Steps K I E F M B O) where
  -- The result of the kind of a field.
  abbrev pub of_kind : FieldKind → K
  of_kind = fold-FieldKind K I E F M B O s.kind s.item s.extend s.field s.message s.body s.oneof

  -- The result of an item of a message.
  abbrev pub of_item : MessageItem → I
  of_item = fold-MessageItem K I E F M B O s.kind s.item s.extend s.field s.message s.body s.oneof

  -- The result of an extend.
  abbrev pub of_extend : Extend → E
  of_extend = fold-Extend K I E F M B O s.kind s.item s.extend s.field s.message s.body s.oneof

  -- The result of a field.
  abbrev pub of_field : Field → F
  of_field = fold-Field K I E F M B O s.kind s.item s.extend s.field s.message s.body s.oneof

  -- The result of a message.
  abbrev pub of_message : Message → M
  of_message = fold-Message K I E F M B O s.kind s.item s.extend s.field s.message s.body s.oneof

  -- The result of the body of a message.
  abbrev pub of_body : MessageBody → B
  of_body = fold-MessageBody K I E F M B O s.kind s.item s.extend s.field s.message s.body s.oneof

  -- The result of a oneof.
  abbrev pub of_oneof : Oneof → O
  of_oneof = fold-Oneof K I E F M B O s.kind s.item s.extend s.field s.message s.body s.oneof
