use Rattle.std.proofs.Common.{◌≡◌, ◌+◌, ◌++◌, map, length}
use Rattle.protox_places.specs.Lines.{starts}
use Rattle.protox_places.proofs.Newlines.{Below}
use Rattle.protox_places.proofs.lines.starts_of.Given as goal

abbrev pub invariant-loop-newline : goal.invariant-loop-newline
invariant-loop-newline l = record {
  found : l.found.items ++ map (λ at. at + 1) l.newline-iterator ≡ starts 0 l.source;
  below : Below (length l.source) l.newline-iterator;
}
