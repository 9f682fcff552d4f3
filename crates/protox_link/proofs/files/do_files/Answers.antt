use Rattle.std.proofs.Common.{◌≤◌, arith, length, subst, sym}
use Rattle.protox_descriptor.specs.declared.descriptor.FileDescriptorProto.{FileDescriptorProto}
use Rattle.protox_link.proofs.Doing.{all_done, one_done}
use Rattle.protox_link.specs.Files.{IsDone}
use Rattle.protox_link.proofs.files.do_files.Goals as goal

pub loop-number-preserved : goal.loop-number-preserved
loop-number-preserved c known ranges none =
    let file = c.index-files-number.result in
    one_done c.args.files.now c.loop-number.number c.loop-number.files file c.do_file.new.file c.loop-number.faults.items c.do_file.new.faults.items (omega arith) c.index-files-number.is
    (c.loop-number.invariant known ranges none)
    (subst (λ (read : FileDescriptorProto). IsDone c.args.files.now c.loop-number.number read c.do_file.new.file c.loop-number.faults.items c.do_file.new.faults.items) (sym c.index-files-number.is)
    (c.in_ok-do_file.ensures c.args.files.now known ranges))

pub returns : goal.returns
returns c known ranges none =
    let end : length c.loop-number.files ≤ c.loop-number.number = omega arith in
    all_done c.args.files.now c.loop-number.number c.loop-number.files c.loop-number.faults.items end (c.loop-number.invariant known ranges none)
