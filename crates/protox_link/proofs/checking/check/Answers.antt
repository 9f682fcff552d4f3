use Rattle.std.proofs.Common.{inl, subst}
use Rattle.std.proofs.lemmas.Result.{IfOk-weaker}
use Rattle.protox_link.specs.Link.{AreWrong, IsCircleAlone, TellsCircles}
use Rattle.protox_link.specs.Prepared.{IsPreparedFor}
use Rattle.protox_link.proofs.checking.check.Goals as goal

pub returns-in-Circle-clause-wrong : goal.returns-in-Circle-clause-wrong
returns-in-Circle-clause-wrong c =
    IfOk-weaker c.told_circle.result (λ faults. IsCircleAlone c.args.files.now faults.items) (λ faults. AreWrong c.args.files.now faults.items) (λ faults alone. inl alone)
    (c.told_circle.ensures.circle c.args.files.now (subst (IsPreparedFor c.args.files.now) c.in-Circle.is c.in_ok-known.ensures))

pub returns-in-Circle-clause-circles : goal.returns-in-Circle-clause-circles
returns-in-Circle-clause-circles c =
    let files = c.args.files.now in
    IfOk-weaker c.told_circle.result (λ faults. IsCircleAlone files faults.items) (λ faults. TellsCircles files faults.items) (λ faults alone. inl alone)
    (c.told_circle.ensures.circle files (subst (IsPreparedFor files) c.in-Circle.is c.in_ok-known.ensures))
