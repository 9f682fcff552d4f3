use Rattle.std.proofs.Common.{◌≡◌, take}
use Rattle.protox_link_records.specs.LinkRecords.{texts}
use Rattle.protox_link_records.proofs.lines.lines_of.Given as goal

abbrev pub invariant-loop-file : goal.invariant-loop-file
invariant-loop-file l = l.lines.items ≡ texts (take l.file-index l.sources)
