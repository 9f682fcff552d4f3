use Rattle.std.proofs.Common.{◌≡◌, []}
use Rattle.protox_link.proofs.Doing.{AreDoneTo}
use Rattle.protox_link.specs.Known.{IsKnownOf}
use Rattle.protox_link_checks.specs.Ranges.{AreRangesOf}
use Rattle.protox_symbols.specs.Things.{table_of}
use Rattle.protox_link.proofs.files.do_files.Given as goal

abbrev pub invariant-loop-number : goal.invariant-loop-number
invariant-loop-number l =
    IsKnownOf l.fn.files l.known → AreRangesOf l.fn.files (table_of l.fn.files) l.ranges → l.fn.faults.items ≡ [] → AreDoneTo l.fn.files l.number l.files l.faults.items
