use Rattle.protox_link_records.specs.LinkRecords.{texts}
use Rattle.protox_option_records.proofs.Reading.{Completes}
use Rattle.protox_option_records.proofs.files.read_options.Given as goal

abbrev pub invariant-loop-number : goal.invariant-loop-number
invariant-loop-number l = Completes (texts l.sources) l.files l.number l.read.files.items l.read.records.items
