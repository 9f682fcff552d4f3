use Rattle.std.proofs.Common.{List, All, subst, ◌∙◌, take_all}
use Rattle.std.proofs.lemmas.List.Elements.{All-more}
use Rattle.protoparse_run.specs.Outcomes.{IsAccepted}
use Rattle.protoparse_words.specs.declared.Task.{Task}
use Rattle.protoparse_run.proofs.handle_all.Goals as goal

pub loop-task-preserved : goal.loop-task-preserved
loop-task-preserved g c = λ refused failed.
    let P : Task → Type 0 = IsAccepted g.H.Host.holds c.args.host.now in
    let before = c.loop-task.invariant (c.add.ensures.refused refused) (c.add.ensures.failed failed) in
    let right = rw (c.add.ensures.accepted refused failed) at c.in_ok-handle_file.ensures in
    All-more P c.as_slice-tasks.result.now c.loop-task.task-index c.task-item.result c.loop-task-test.true before (subst P c.task-item.is right)

pub returns-clause-accepted : goal.returns-clause-accepted
returns-clause-accepted g c = λ zero.
    let clean = c.status-status.ensures.clean zero in
    let P : List Task → Type 0 = λ tasks. All (IsAccepted g.H.Host.holds c.args.host.now) tasks in
    subst P (take_all c.loop-task.task-index c.as_slice-tasks.result.now c.loop-task-test.false ∙ c.as_slice-tasks.ensures.value) (c.loop-task.invariant clean.0 clean.1)
