use Rattle.std.proofs.Common.{ap}
use Rattle.protox_text.specs.TextFormat.{service_fields}
use Rattle.protox_text.proofs.Written.{message, then}
use Rattle.protox_text.proofs.services.ServiceDescriptorProtoInText.write_to.Goals as goal

pub returns : goal.returns
returns g c =
    message _ (service_fields c.args.self.now) _ _ _ _ _ _ _ (ap (λ l. l.depth) c.inner-inner.ensures) c.in_ok-write_open.ensures
    (then _ _ _ _ _ c.in_ok-write_any.ensures
    (then _ _ _ _ _ c.in_ok-write_items.ensures
    c.in_ok-write_any-2.ensures))
    c.write_close.ensures
