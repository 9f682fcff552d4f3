use Rattle.std.proofs.Common.{ap}
use Rattle.protox_text.specs.TextFormat.{listed_text}
use Rattle.protox_text.proofs.Written.{message}
use Rattle.protox_text.proofs.options.write_options.Goals as goal

pub returns : goal.returns
returns g c =
    message _ (listed_text c.args.options.now) _ _ _ _ _ _ _ (ap (λ l. l.depth) c.inner-inner.ensures) c.in_ok-write_open.ensures
    c.in_ok-write_listed.ensures
    c.write_close.ensures
