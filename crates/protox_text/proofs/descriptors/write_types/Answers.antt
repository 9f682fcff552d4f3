use Rattle.protox_text.proofs.Written.{last}
use Rattle.protox_text.proofs.descriptors.write_types.Goals as goal

pub returns : goal.returns
returns g c =
    last _ _ _ _ _ _ c.in_ok-write_items.ensures
    (last _ _ _ _ _ _ c.in_ok-write_items-2.ensures
    (last _ _ _ _ _ _ c.in_ok-write_items-3.ensures
    c.write_items-4.ensures))
