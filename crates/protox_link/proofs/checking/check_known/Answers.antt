use Rattle.std.proofs.Common.{◌≡◌, [], inl, length, subst}
use Rattle.std.proofs.lemmas.Result.{IfOk-weaker}
use Rattle.protox_imports.specs.Answer.{IsAnswer}
use Rattle.protox_imports.specs.Imports.{Imports}
use Rattle.protox_link.proofs.Seeing.{no_circle_told}
use Rattle.protox_link.specs.Link.{AreWrong, IsCircleAlone, NothingIsWrong, TellsCircles}
use Rattle.protox_link.proofs.checking.check_known.Goals as goal

pub returns-clause-wrong : goal.returns-clause-wrong
returns-clause-wrong c =
    let files = c.args.files.now in
    IfOk-weaker c.told_circle.result (λ faults. IsCircleAlone files faults.items) (λ faults. AreWrong files faults.items) (λ faults alone. inl alone)
    (c.told_circle.ensures.circle files (subst (IsAnswer (Imports files) (length files)) c.in-Cycle.is (c.in_ok-order_of.ensures files c.requires.rows)))

pub returns-clause-right : goal.returns-clause-right
returns-clause-right c =
    let files = c.args.files.now in
    IfOk-weaker c.told_circle.result (λ faults. IsCircleAlone files faults.items) (λ faults. faults.items ≡ [] → NothingIsWrong files)
    (λ faults alone none. absurd (no_circle_told files faults.items alone none))
    (c.told_circle.ensures.circle files (subst (IsAnswer (Imports files) (length files)) c.in-Cycle.is (c.in_ok-order_of.ensures files c.requires.rows)))

pub returns-clause-circles : goal.returns-clause-circles
returns-clause-circles c =
    let files = c.args.files.now in
    IfOk-weaker c.told_circle.result (λ faults. IsCircleAlone files faults.items) (λ faults. TellsCircles files faults.items) (λ faults alone. inl alone)
    (c.told_circle.ensures.circle files (subst (IsAnswer (Imports files) (length files)) c.in-Cycle.is (c.in_ok-order_of.ensures files c.requires.rows)))
