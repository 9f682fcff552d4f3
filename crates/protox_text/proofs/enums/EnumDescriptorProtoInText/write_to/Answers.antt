use Rattle.std.proofs.Common.{ap}
use Rattle.protox_text.specs.TextFormat.{enum_fields}
use Rattle.protox_text.proofs.Written.{message, then}
use Rattle.protox_text.proofs.enums.EnumDescriptorProtoInText.write_to.Goals as goal

pub returns : goal.returns
returns g c =
    message _ (enum_fields c.args.self.now) _ _ _ _ _ _ _ (ap (λ l. l.depth) c.inner-inner.ensures) c.in_ok-write_open.ensures
    (then _ _ _ _ _ c.in_ok-write_any.ensures
    (then _ _ _ _ _ c.in_ok-write_items.ensures
    (then _ _ _ _ _ c.in_ok-write_any-2.ensures
    (then _ _ _ _ _ c.in_ok-write_items-2.ensures
    c.in_ok-write_items-3.ensures))))
    c.write_close.ensures
