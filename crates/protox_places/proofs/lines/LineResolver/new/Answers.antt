use Rattle.std.proofs.Common.{arith}
use Rattle.protox_places.proofs.LineFacts.{starts-rise}
use Rattle.protox_places.proofs.lines.LineResolver.new.Goals as goal

pub invariant_of-result : goal.invariant_of-result
invariant_of-result c = rw c.in_ok-starts.ensures (starts-rise 0 0 c.as_bytes.result.now (omega arith))
