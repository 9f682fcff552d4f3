use Rattle.protox_reading.proofs.Taken.{taken_at_most_once}
use Rattle.protox_reading.proofs.laws.one_taken.Goals as goal

pub returns : goal.returns
returns c = taken_at_most_once
