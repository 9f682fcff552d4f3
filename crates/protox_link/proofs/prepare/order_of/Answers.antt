use Rattle.std.proofs.Common.{length, subst, sym}
use Rattle.std.proofs.lemmas.Result.{IfOk-weaker}
use Rattle.protox_imports.proofs.Lemmas.{answer_agrees, rows_agree}
use Rattle.protox_imports.specs.Agree.{Agree}
use Rattle.protox_imports.specs.Answer.{IsAnswer}
use Rattle.protox_imports.specs.Imports.{Imports}
use Rattle.protox_imports.specs.Rows.{ImportsIn}
use Rattle.protox_link.proofs.prepare.order_of.Goals as goal

pub returns : goal.returns
returns c files is =
    let rows = c.args.imports.now.files in
    IfOk-weaker c.in_order.result (IsAnswer (ImportsIn rows) (length rows)) (IsAnswer (Imports files) (length files))
    (λ order answer. answer_agrees files rows order (subst (Agree files) (sym is) (rows_agree files)) answer)
    c.in_order.ensures.answer
