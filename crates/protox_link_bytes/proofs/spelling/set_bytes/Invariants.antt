use Rattle.std.proofs.Common.{◌≡◌, take}
use Rattle.protox_link_bytes.specs.Spelled.{bytes_of, in_order}
use Rattle.protox_link_bytes.proofs.spelling.set_bytes.Given as goal

abbrev pub invariant-loop-number : goal.invariant-loop-number
invariant-loop-number l = l.bytes.items ≡ bytes_of (in_order l.files (take l.number-index l.order))
