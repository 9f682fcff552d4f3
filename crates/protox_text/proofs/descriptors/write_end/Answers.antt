use Rattle.protox_text.proofs.Written.{last, lent}
use Rattle.protox_text.proofs.descriptors.write_end.Goals as goal

pub returns : goal.returns
returns g c =
    last _ _ _ _ _ _ c.in_ok-write_any.ensures
    (last _ _ _ _ _ _ (lent _ _ _ _ _ _ _ c.asked-info.ensures c.in_ok-write_lent.ensures)
    (last _ _ _ _ _ _ c.in_ok-write_items.ensures
    (last _ _ _ _ _ _ c.in_ok-write_items-2.ensures
    c.write_any-2.ensures)))
