use Rattle.std.proofs.Common.{subst, sym}
use Rattle.std.proofs.lemmas.Result.{IfOk-weaker}
use Rattle.protox_brace_text.specs.Texts.{IsTold, OfToken}
use Rattle.protox_brace_text.proofs.text.brace_text.Goals as goal

pub returns-in-Err-Fault : goal.returns-in-Err-Fault
returns-in-Err-Fault c =
    IfOk-weaker c.from_str.result _ _
    (λ told is. subst (IsTold c.args.here c.args.text.now c.args.kind.now) (sym is)
    (OfToken c.in-Err-Fault.field-0-0 (rw c.in-Err-Fault.field-0-is at c.in-Err-Fault.ensures.first)))
    c.from_str.ensures.ok
