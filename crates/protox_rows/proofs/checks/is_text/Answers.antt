use Rattle.std.proofs.Common.{sym}
use Rattle.protox_ast.proofs.Lemmas.{text-ok}
use Rattle.protox_rows.proofs.checks.is_text.Goals as goal

pub returns-in-Ok : goal.returns-in-Ok
returns-in-Ok c = sym (text-ok c.args.bytes.now c.in-Ok.ensures.cases.1)
