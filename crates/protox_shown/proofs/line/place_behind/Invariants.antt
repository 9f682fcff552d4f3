use Rattle.std.proofs.Common.{◌≡◌, ◌≤◌, ◌+◌, take}
use Rattle.protox_shown.specs.Line.{line_number, column_number}
use Rattle.protox_shown.proofs.line.place_behind.Given as goal

abbrev pub invariant-loop-byte : goal.invariant-loop-byte
invariant-loop-byte l =
    (l.line ≡ line_number (take l.byte-index l.front)) × (l.column ≡ column_number (take l.byte-index l.front))
    × (l.line ≤ l.byte-index + 1) × (l.column ≤ l.byte-index + 1)
