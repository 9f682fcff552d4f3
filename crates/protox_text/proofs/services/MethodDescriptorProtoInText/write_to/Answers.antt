use Rattle.std.proofs.Common.{ap}
use Rattle.protox_text.specs.TextFormat.{method_fields}
use Rattle.protox_text.proofs.Written.{message, then}
use Rattle.protox_text.proofs.services.MethodDescriptorProtoInText.write_to.Goals as goal

pub returns : goal.returns
returns g c =
    message _ (method_fields c.args.self.now) _ _ _ _ _ _ _ (ap (λ l. l.depth) c.inner-inner.ensures) c.in_ok-write_open.ensures
    (then _ _ _ _ _ c.in_ok-write_any.ensures
    (then _ _ _ _ _ c.in_ok-write_any-2.ensures
    (then _ _ _ _ _ c.in_ok-write_any-3.ensures
    (then _ _ _ _ _ c.in_ok-write_any-4.ensures
    (then _ _ _ _ _ c.in_ok-write_any-5.ensures
    c.in_ok-write_any-6.ensures)))))
    c.write_close.ensures
