use Rattle.protox_descriptor.proofs.Written.{written_twice}
use Rattle.protox_descriptor.proofs.values.text.filled.Goals as goal

pub returns : goal.returns
returns c = written_twice _ _ _ _ _ _ c.copy_from_slice.ensures.after c.copy_from_slice-2.ensures.after
