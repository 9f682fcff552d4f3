use Rattle.std.proofs.Common.{length}
use Rattle.std.proofs.lemmas.Result.{IfOk-weaker}
use Rattle.protox_imports.specs.Imports.{Imports}
use Rattle.protox_imports.specs.Rows.{ImportsIn}
use Rattle.protox_imports.specs.Answer.{IsAnswer}
use Rattle.protox_imports.proofs.NamesAgree.{answer_agrees}
use Rattle.protox_imports.proofs.sorted.Order.of.Goals as goal

pub returns-clause-answer : goal.returns-clause-answer
returns-clause-answer c =
    let set = c.args.files.now in
    let rows = c.in_ok-imports.imports.files in
    IfOk-weaker c.in_order.result (IsAnswer (ImportsIn rows) (length rows))
    (IsAnswer (Imports set) (length set))
    (λ order h. answer_agrees set rows order c.in_ok-imports.ensures.agree h)
    c.in_order.ensures.answer
