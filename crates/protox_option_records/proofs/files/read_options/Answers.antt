use Rattle.std.proofs.Common.{arith}
use Rattle.protox_link_records.specs.LinkRecords.{texts}
use Rattle.protox_option_records.proofs.NoneTold.{none_of_files}
use Rattle.protox_option_records.proofs.Reading.{all_read, all_right, interpreted_of, one_read}
use Rattle.protox_set_options.proofs.Lemmas.{all_read_back}
use Rattle.protox_option_records.proofs.files.read_options.Goals as goal

pub loop-number-preserved : goal.loop-number-preserved
loop-number-preserved c =
    let told = c.in_ok-read_file.ensures c.requires.known in
    one_read (texts c.args.sources.now) c.args.files.now c.loop-number.number c.index-files-number.result c.loop-number.read.files.items c.read_file.new.to.files.items
    told.0 c.loop-number.read.records.items told.1 c.read_file.new.to.records.items (omega arith) c.index-files-number.is told.2 told.3 told.4 c.loop-number.invariant

pub returns-clause-read : goal.returns-clause-read
returns-clause-read c =
    all_read (texts c.args.sources.now) c.args.files.now c.loop-number.number c.loop-number.read.files.items c.loop-number.read.records.items (omega arith) c.loop-number.invariant

pub returns-clause-reads_back : goal.returns-clause-reads_back
returns-clause-reads_back c =
    let all = all_read (texts c.args.sources.now) c.args.files.now c.loop-number.number c.loop-number.read.files.items c.loop-number.read.records.items (omega arith) c.loop-number.invariant in
    all_read_back c.args.files.now 0 c.args.files.now c.loop-number.read.files.items
    (interpreted_of (texts c.args.sources.now) c.args.files.now 0 c.args.files.now c.loop-number.read.files.items c.loop-number.read.records.items all)

pub returns-clause-none : goal.returns-clause-none
returns-clause-none c none =
    all_right (texts c.args.sources.now) c.args.files.now 0 c.args.files.now c.loop-number.read.files.items c.loop-number.read.records.items
    (all_read (texts c.args.sources.now) c.args.files.now c.loop-number.number c.loop-number.read.files.items c.loop-number.read.records.items (omega arith) c.loop-number.invariant) none

pub returns-clause-only : goal.returns-clause-only
returns-clause-only c answers are none =
    none_of_files (texts c.args.sources.now) c.args.files.now 0 c.args.files.now c.loop-number.read.files.items answers c.loop-number.read.records.items
    (all_read (texts c.args.sources.now) c.args.files.now c.loop-number.number c.loop-number.read.files.items c.loop-number.read.records.items (omega arith) c.loop-number.invariant)
    are none
