use Rattle.std.proofs.Common.{append_assoc}
use Rattle.protox_option_checks.proofs.text.closed_enum_words.Goals as goal

pub returns : goal.returns
returns c = simp append_assoc c.format.ensures.ok
