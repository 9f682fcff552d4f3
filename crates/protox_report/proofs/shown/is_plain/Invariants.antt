use Rattle.std.proofs.Common.{◌≡◌, true, drop}
use Rattle.protox_report.proofs.Plain.{Printable}
use Rattle.protox_report.proofs.shown.is_plain.Given as goal

abbrev pub invariant-loop-byte : goal.invariant-loop-byte
invariant-loop-byte l = l.plain ≡ true → Printable (drop l.byte-index l.byte-items) → Printable l.byte-items
