use Rattle.protox_text.proofs.Written.{last}
use Rattle.protox_text.proofs.messages.write_end.Goals as goal

pub returns : goal.returns
returns g c =
    last _ _ _ _ _ _ c.in_ok-write_any.ensures
    (last _ _ _ _ _ _ c.in_ok-write_items.ensures
    (last _ _ _ _ _ _ c.in_ok-write_items-2.ensures
    c.write_items-3.ensures))
