use Rattle.protox_text.proofs.Written.{last, lent, lent-last}
use Rattle.protox_text.proofs.fields.write_field_end.Goals as goal

pub returns : goal.returns
returns g c =
    last _ _ _ _ _ _ (lent _ _ _ _ _ _ _ c.default_value.ensures c.in_ok-write_lent.ensures)
    (last _ _ _ _ _ _ (lent _ _ _ _ _ _ _ c.options.ensures c.in_ok-write_lent-2.ensures)
    (last _ _ _ _ _ _ (lent _ _ _ _ _ _ _ c.oneof_index.ensures c.in_ok-write_any.ensures)
    (last _ _ _ _ _ _ (lent _ _ _ _ _ _ _ c.json_name.ensures c.in_ok-write_lent-3.ensures)
    (lent-last _ _ _ _ _ _ _ _ c.proto3_optional.ensures c.write_any-2.ensures))))
