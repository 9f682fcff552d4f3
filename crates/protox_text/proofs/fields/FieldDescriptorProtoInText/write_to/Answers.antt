use Rattle.std.proofs.Common.{ap}
use Rattle.protox_text.specs.TextFormat.{field_fields}
use Rattle.protox_text.proofs.Written.{message, then, lent}
use Rattle.protox_text.proofs.fields.FieldDescriptorProtoInText.write_to.Goals as goal

pub returns : goal.returns
returns g c =
    message _ (field_fields c.args.self.now) _ _ _ _ _ _ _ (ap (λ l. l.depth) c.inner-inner.ensures) c.in_ok-write_open.ensures
    (then _ _ _ _ _ (lent _ _ _ _ _ _ _ (ap (λ f. f.name) c.self.view_is) c.in_ok-write_any.ensures)
    (then _ _ _ _ _ (lent _ _ _ _ _ _ _ c.extendee.ensures c.in_ok-write_lent.ensures)
    (then _ _ _ _ _ (lent _ _ _ _ _ _ _ (ap (λ f. f.number) c.self.view_is) c.in_ok-write_any-2.ensures)
    (then _ _ _ _ _ c.in_ok-write_field_type.ensures
    c.in_ok-write_field_end.ensures))))
    c.write_close.ensures
