use Rattle.protox_link_bytes.proofs.Keeping.{kept_sorted}
use Rattle.protox_link_bytes.proofs.linking.linked.Goals as goal

pub returns-in-Ok-clause-sorted : goal.returns-in-Ok-clause-sorted
returns-in-Ok-clause-sorted c = kept_sorted c.args.files.items c.in-Ok.set.files.items c.requires.sorted c.in-Ok.ensures.kept
