use Rattle.std.proofs.Common.{ap}
use Rattle.protox_text.specs.TextFormat.{source_info_fields}
use Rattle.protox_text.proofs.Written.{message}
use Rattle.protox_text.proofs.source_info.SourceCodeInfoInText.write_to.Goals as goal

pub returns : goal.returns
returns g c =
    message _ (source_info_fields c.args.self.now) _ _ _ _ _ _ _ (ap (λ l. l.depth) c.inner-inner.ensures) c.in_ok-write_open.ensures
    c.in_ok-write_items.ensures
    c.write_close.ensures
