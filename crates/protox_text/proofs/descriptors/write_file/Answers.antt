use Rattle.protox_text.proofs.Written.{last}
use Rattle.protox_text.proofs.descriptors.write_file.Goals as goal

pub returns : goal.returns
returns g c =
    last _ _ _ _ _ _ c.in_ok-write_any.ensures
    (last _ _ _ _ _ _ c.in_ok-write_any-2.ensures
    (last _ _ _ _ _ _ c.in_ok-write_items.ensures
    (last _ _ _ _ _ _ c.in_ok-write_types.ensures
    c.write_end.ensures)))
