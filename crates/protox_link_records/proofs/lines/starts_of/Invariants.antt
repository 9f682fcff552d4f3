use Rattle.std.proofs.Common.{◌≡◌, take}
use Rattle.protox_places.specs.Lines.{starts}
use Rattle.protox_link_records.proofs.lines.starts_of.Given as goal

abbrev pub invariant-loop-byte : goal.invariant-loop-byte
invariant-loop-byte l = (l.seen ≡ l.byte-index) × (l.found.items ≡ starts 0 (take l.byte-index l.source))
