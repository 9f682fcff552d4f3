use Rattle.std.proofs.Common.{append_assoc}
use Rattle.protox_brace_text.proofs.text.found_text.Goals as goal

pub returns : goal.returns
returns c = simp append_assoc c.format.ensures.ok
