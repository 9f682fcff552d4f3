use Rattle.std.proofs.Common.{◌≡◌, ◌≤◌, take}
use Rattle.protox_places.specs.Lines.{newlines, behind_last}
use Rattle.protox_places.proofs.faults.count_lines.Given as goal

abbrev pub invariant-loop-byte : goal.invariant-loop-byte
invariant-loop-byte l =
    (l.lines ≡ newlines (take l.byte-index l.front)) × (l.start ≡ behind_last 0 0 (take l.byte-index l.front)) × (l.seen ≡ l.byte-index)
    × (l.lines ≤ l.byte-index) × (l.start ≤ l.byte-index)
