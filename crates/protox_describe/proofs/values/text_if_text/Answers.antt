use Rattle.std.proofs.Common.{ap, sym, ◌∙◌, Some, None}
use Rattle.std.specs.Prelude.{if◌then◌else◌}
use Rattle.protox_ast.proofs.Lemmas.{text-ok}
use Rattle.protox_describe.proofs.values.text_if_text.Goals as goal

pub returns-in_ok-copy-in-Ok : goal.returns-in_ok-copy-in-Ok
returns-in_ok-copy-in-Ok c =
    let bytes = c.args.bytes.now in
    ap Some (c.in_ok-copy-in-Ok.ensures.value ∙ c.in-Ok.ensures.cases.0) ∙ sym (ap (λ t. if t then Some bytes else None) (text-ok bytes c.in-Ok.ensures.cases.1))
