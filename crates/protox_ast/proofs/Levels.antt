-- The result of one level of a tree, given the results of the levels in it.
use Rattle.std.specs.Prelude.{◌≡◌, map}
use Rattle.std.proofs.Common.{ap, sym, ◌∙◌}
use Rattle.protox_fault.specs.Faults.{Span}
use Rattle.protox_ast.specs.declared.ast.Enum.{Enum}
use Rattle.protox_ast.specs.declared.ast.Ty.{Ty}
use Rattle.protox_ast.specs.declared.ast.Message.{Message, out-Message}
use Rattle.protox_ast.specs.declared.ast.MessageBody.{MessageBody, out-MessageBody}
use Rattle.protox_ast.specs.declared.ast.MessageItem.TheVariants as item
use Rattle.protox_ast.specs.declared.ast.Field.{Field, out-Field}
use Rattle.protox_ast.specs.declared.ast.FieldKind.TheVariants as kind
use Rattle.protox_ast.specs.declared.ast.FieldKind.TheOpen.{MessageItem-F, FieldKind-F}
use Rattle.protox_ast.specs.declared.ast.FieldKind.TheFolds.{fold_out-MessageBody, fold_out-Field, fold_out-Oneof, fold_out-Message, fold_out-Extend, fold-roll-MessageItem, fold-roll-FieldKind}
use Rattle.protox_ast.specs.declared.ast.Oneof.{Oneof, out-Oneof}
use Rattle.protox_ast.specs.declared.ast.Extend.{Extend, out-Extend}
use Rattle.protox_ast.specs.Steps.{Steps, of_kind, of_item, of_extend, of_field, of_message, of_body, of_oneof}

module _ {K I E F M B O : Type 0} (s : Steps K I E F M B O) where
  pub body-gives : (x : MessageBody) → (of_body s) x ≡ s.body (record { items = map (of_item s) (out-MessageBody x).items; extensions = (out-MessageBody x).extensions; options = (out-MessageBody x).options; reserved = (out-MessageBody x).reserved })
  body-gives = fold_out-MessageBody K I E F M B O s.kind s.item s.extend s.field s.message s.body s.oneof

  pub oneof-gives : (x : Oneof) → (of_oneof s) x ≡ s.oneof (record { name = (out-Oneof x).name; options = (out-Oneof x).options; fields = map (of_field s) (out-Oneof x).fields; comments = (out-Oneof x).comments; span = (out-Oneof x).span })
  oneof-gives = fold_out-Oneof K I E F M B O s.kind s.item s.extend s.field s.message s.body s.oneof

  pub extend-gives : (x : Extend) → (of_extend s) x ≡ s.extend (record { extendee = (out-Extend x).extendee; fields = map (of_field s) (out-Extend x).fields; comments = (out-Extend x).comments; span = (out-Extend x).span })
  extend-gives = fold_out-Extend K I E F M B O s.kind s.item s.extend s.field s.message s.body s.oneof

  pub message-gives : (x : Message) → (of_message s) x ≡ s.message (record { name = (out-Message x).name; body = (of_body s) (out-Message x).body; comments = (out-Message x).comments; span = (out-Message x).span })
  message-gives = fold_out-Message K I E F M B O s.kind s.item s.extend s.field s.message s.body s.oneof

  pub field-gives : (x : Field) → (of_field s) x ≡ s.field (record { label = (out-Field x).label; name = (out-Field x).name; kind = (of_kind s) (out-Field x).kind; number = (out-Field x).number; options = (out-Field x).options; comments = (out-Field x).comments; span = (out-Field x).span })
  field-gives = fold_out-Field K I E F M B O s.kind s.item s.extend s.field s.message s.body s.oneof

  pub item-field : (x : Field) → (of_item s) (item.Field x) ≡ s.item (MessageItem-F.Field ((of_field s) x))
  item-field x = ap (of_item s) (sym (item.rolls-Field x)) ∙ fold-roll-MessageItem K I E F M B O s.kind s.item s.extend s.field s.message s.body s.oneof (MessageItem-F.Field x)

  pub item-enum : (x : Enum) → (of_item s) (item.Enum x) ≡ s.item (MessageItem-F.Enum x)
  item-enum x = ap (of_item s) (sym (item.rolls-Enum x)) ∙ fold-roll-MessageItem K I E F M B O s.kind s.item s.extend s.field s.message s.body s.oneof (MessageItem-F.Enum x)

  pub item-message : (x : Message) → (of_item s) (item.Message x) ≡ s.item (MessageItem-F.Message ((of_message s) x))
  item-message x = ap (of_item s) (sym (item.rolls-Message x)) ∙ fold-roll-MessageItem K I E F M B O s.kind s.item s.extend s.field s.message s.body s.oneof (MessageItem-F.Message x)

  pub item-extend : (x : Extend) → (of_item s) (item.Extend x) ≡ s.item (MessageItem-F.Extend ((of_extend s) x))
  item-extend x = ap (of_item s) (sym (item.rolls-Extend x)) ∙ fold-roll-MessageItem K I E F M B O s.kind s.item s.extend s.field s.message s.body s.oneof (MessageItem-F.Extend x)

  pub item-oneof : (x : Oneof) → (of_item s) (item.Oneof x) ≡ s.item (MessageItem-F.Oneof ((of_oneof s) x))
  item-oneof x = ap (of_item s) (sym (item.rolls-Oneof x)) ∙ fold-roll-MessageItem K I E F M B O s.kind s.item s.extend s.field s.message s.body s.oneof (MessageItem-F.Oneof x)

  pub kind-normal : (type : Ty) (type_span : Span) → (of_kind s) (kind.Normal type type_span) ≡ s.kind (FieldKind-F.Normal type type_span)
  kind-normal type type_span = ap (of_kind s) (sym (kind.rolls-Normal type type_span)) ∙ fold-roll-FieldKind K I E F M B O s.kind s.item s.extend s.field s.message s.body s.oneof (FieldKind-F.Normal type type_span)

  pub kind-group : (type_span : Span) (x : MessageBody) → (of_kind s) (kind.Group type_span x) ≡ s.kind (FieldKind-F.Group type_span ((of_body s) x))
  kind-group type_span x = ap (of_kind s) (sym (kind.rolls-Group type_span x)) ∙ fold-roll-FieldKind K I E F M B O s.kind s.item s.extend s.field s.message s.body s.oneof (FieldKind-F.Group type_span x)

  pub kind-map : (type_span : Span) (key : Ty) (key_span : Span) (value : Ty) (value_span : Span) → (of_kind s) (kind.Map type_span key key_span value value_span) ≡ s.kind (FieldKind-F.Map type_span key key_span value value_span)
  kind-map type_span key key_span value value_span = ap (of_kind s) (sym (kind.rolls-Map type_span key key_span value value_span)) ∙ fold-roll-FieldKind K I E F M B O s.kind s.item s.extend s.field s.message s.body s.oneof (FieldKind-F.Map type_span key key_span value value_span)
