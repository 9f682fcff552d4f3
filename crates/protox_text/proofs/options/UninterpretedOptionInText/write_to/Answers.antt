use Rattle.std.proofs.Common.{ap}
use Rattle.protox_text.specs.TextFormat.{option_fields}
use Rattle.protox_text.proofs.Written.{message, then}
use Rattle.protox_text.proofs.options.UninterpretedOptionInText.write_to.Goals as goal

pub returns : goal.returns
returns g c =
    message _ (option_fields c.args.self.now) _ _ _ _ _ _ _ (ap (λ l. l.depth) c.inner-inner.ensures) c.in_ok-write_open.ensures
    (then _ _ _ _ _ c.in_ok-write_items.ensures
    c.in_ok-write_option_value.ensures)
    c.write_close.ensures
