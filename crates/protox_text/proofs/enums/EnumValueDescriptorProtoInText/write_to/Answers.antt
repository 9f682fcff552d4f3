use Rattle.std.proofs.Common.{ap}
use Rattle.protox_text.specs.TextFormat.{enum_value_fields}
use Rattle.protox_text.proofs.Written.{message, then}
use Rattle.protox_text.proofs.enums.EnumValueDescriptorProtoInText.write_to.Goals as goal

pub returns : goal.returns
returns g c =
    message _ (enum_value_fields c.args.self.now) _ _ _ _ _ _ _ (ap (λ l. l.depth) c.inner-inner.ensures) c.in_ok-write_open.ensures
    (then _ _ _ _ _ c.in_ok-write_any.ensures
    (then _ _ _ _ _ c.in_ok-write_any-2.ensures
    c.in_ok-write_any-3.ensures))
    c.write_close.ensures
