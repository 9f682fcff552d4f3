use Rattle.std.proofs.Common.{◌∙◌, ◌++◌, List, ℕ, ap, subst, sym}
use Rattle.std.proofs.lemmas.Result.{IfOk-weaker}
use Rattle.std.specs.Prelude.{codes, string_bytes}
use Rattle.protox_brace_text.specs.Texts.{IsTold}
use Rattle.protox_option_records.specs.OptionRecords.{InBraces, IsTextOf, OutsideBraces}
use Rattle.protox_option_records.proofs.text.told_text.Goals as goal

pub returns-then-is_in_braces : goal.returns-then-is_in_braces
returns-then-is_in_braces c =
    let here = c.args.here in
    let statement = c.args.statement.now in
    let kind = c.args.kind.now in
    let told = string_bytes c.in_ok-told.told in
    let told_is = subst (λ (text : List ℕ). IsTold here text kind told) c.in_braces.ensures c.in_ok-told.ensures in
    IfOk-weaker c.format.result _ _
    (λ made is. subst (IsTextOf here statement kind) (sym (is ∙ ap (λ front. front ++ (codes ": " ++ told)) c.in_ok-text.ensures))
    (InBraces told (sym c.is_in_braces.ensures ∙ c.if-is_in_braces.true) told_is))
    c.format.ensures.ok

pub returns : goal.returns
returns c =
    subst (IsTextOf c.args.here c.args.statement.now c.args.kind.now) (sym c.in_ok-text.ensures)
    (OutsideBraces (sym c.is_in_braces.ensures ∙ c.if-is_in_braces.false))
