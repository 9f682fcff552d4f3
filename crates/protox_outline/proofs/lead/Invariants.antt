use denote.Shadow.{shadow}
use denote.Text.{Utf8}
use Rattle.std.proofs.Common.{◌≡◌, ◌%◌, length}
use Rattle.std.specs.Slice.Iter.{chunks_rest, chunks_size}
use Rattle.protox_outline.proofs.lead.Given as goal

-- the kind is text; of the path an even count of numbers has been read
abbrev pub invariant-loop-pair : goal.invariant-loop-pair
invariant-loop-pair l = record {
  kind : shadow (Utf8 l.kind);
  pairs : chunks_size l.pair-iterator ≡ 2;
  even : length l.path % 2 ≡ length (chunks_rest l.pair-iterator) % 2;
}
