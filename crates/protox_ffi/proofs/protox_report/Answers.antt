use Rattle.std.proofs.Common.{refl}
use Rattle.protox_ffi.specs.Answers.{without}
use Rattle.protox_ffi.specs.Outcomes.{HasNoReport, IsReport}
use Rattle.protox_ffi.proofs.Answering.{answered}
use Rattle.protox_ffi.proofs.protox_report.Goals as goal

pub returns-in-Ok : goal.returns-in-Ok
returns-in-Ok c =
    answered (IsReport c.args.name.now c.args.source.now) (HasNoReport c.args.name.now c.args.source.now) 1 c.args.out.now c.deliver.new.out c.deliver.new.len c.deliver.result
    c.in-Ok.bytes.items c.as_slice.result.now c.in-Ok.ensures c.as_slice.ensures.value c.deliver.ensures

pub returns-in-Err : goal.returns-in-Err
returns-in-Err c = without c.in-Err.reason c.in-Err.ensures refl refl c.status.ensures
