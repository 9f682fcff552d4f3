use Rattle.std.proofs.Common.{refl, subst, sym, ◌∙◌}
use Rattle.protox_ffi.specs.Answers.{nothing}
use Rattle.protox_ffi.specs.Linked.{AreRecords, HasNoAnswer, IsAnswer, IsFound, IsSet, IsSetFound, given}
use Rattle.protox_ffi.proofs.Linking.{answered_by, done_not_refused, missing_not_refused, not_refused}
use Rattle.protox_ffi.proofs.protox_link.Goals as goal

pub returns-in-Ok-Set-clause-answered : goal.returns-in-Ok-Set-clause-answered
returns-in-Ok-Set-clause-answered c =
    answered_by (IsAnswer (given c.args.files.now)) (HasNoAnswer (given c.args.files.now)) 0 c.args.out.now c.deliver.new.out c.deliver.new.len c.deliver.result
    c.in-Ok-Set.bytes.items c.as_slice.result.now
    (IsSet c.in-Ok-Set.bytes.items (subst (IsFound (given c.args.files.now)) c.in-Ok-Set.field-0-is c.in-Ok-Set.ensures.found)) c.as_slice.ensures.value c.deliver.ensures

pub returns-in-Ok-Records-clause-answered : goal.returns-in-Ok-Records-clause-answered
returns-in-Ok-Records-clause-answered c =
    answered_by (IsAnswer (given c.args.files.now)) (HasNoAnswer (given c.args.files.now)) 1 c.args.out.now c.deliver-in-Ok-Records.new.out c.deliver-in-Ok-Records.new.len c.deliver-in-Ok-Records.result
    c.in-Ok-Records.bytes.items c.as_slice-in-Ok-Records.result.now
    (AreRecords c.in-Ok-Records.bytes.items (subst (IsFound (given c.args.files.now)) c.in-Ok-Records.field-0-is c.in-Ok-Records.ensures.found)) c.as_slice-in-Ok-Records.ensures.value c.deliver-in-Ok-Records.ensures

pub returns-in-Err-clause-answered : goal.returns-in-Err-clause-answered
returns-in-Err-clause-answered c = nothing c.in-Err.reason c.in-Err.ensures.found refl refl c.status.ensures

pub returns-in-Ok-Set-clause-only : goal.returns-in-Ok-Set-clause-only
returns-in-Ok-Set-clause-only c = λ can. not_refused _ 0 _ _ _ _ done_not_refused c.deliver.ensures

pub returns-in-Ok-Records-clause-only : goal.returns-in-Ok-Records-clause-only
returns-in-Ok-Records-clause-only c = λ can. absurd (subst IsSetFound c.in-Ok-Records.field-0-is (c.in-Ok-Records.ensures.only can))

pub returns-in-Err-clause-only : goal.returns-in-Err-clause-only
returns-in-Err-clause-only c = λ can is. missing_not_refused (given c.args.files.now) c.in-Err.reason c.in-Err.ensures.found (sym c.status.ensures ∙ is)
