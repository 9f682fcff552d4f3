use Rattle.protox_text.proofs.Written.{last}
use Rattle.protox_text.proofs.options.write_option_value.Goals as goal

pub returns : goal.returns
returns g c =
    last _ _ _ _ _ _ c.in_ok-write_any.ensures
    (last _ _ _ _ _ _ c.in_ok-write_any-2.ensures
    (last _ _ _ _ _ _ c.in_ok-write_any-3.ensures
    (last _ _ _ _ _ _ c.in_ok-write_double.ensures
    (last _ _ _ _ _ _ c.in_ok-write_any-4.ensures
    c.write_any-5.ensures))))
