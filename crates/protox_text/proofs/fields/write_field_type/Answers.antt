use Rattle.std.proofs.Common.{ap}
use Rattle.protox_text.proofs.Written.{last, lent, lent-last}
use Rattle.protox_text.proofs.fields.write_field_type.Goals as goal

pub returns : goal.returns
returns g c =
    last _ _ _ _ _ _ (lent _ _ _ _ _ _ _ (ap (λ f. f.label) c.field.view_is) c.in_ok-write_label.ensures)
    (last _ _ _ _ _ _ (lent _ _ _ _ _ _ _ (ap (λ f. f.field_type) c.field.view_is) c.in_ok-write_type.ensures)
    (lent-last _ _ _ _ _ _ _ _ (ap (λ f. f.type_name) c.field.view_is) c.write_any.ensures))
