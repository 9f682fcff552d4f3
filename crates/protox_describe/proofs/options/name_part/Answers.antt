use Rattle.std.proofs.Common.{true, false, ap, sym, ◌∙◌}
use Rattle.protox_ast.specs.Options.{name_part}
use Rattle.protox_describe.proofs.options.name_part.Goals as goal

pub returns-in_ok-name_part-in-Ident : goal.returns-in_ok-name_part-in-Ident
returns-in_ok-name_part-in-Ident c =
    let text = c.in_ok-name_part-in-Ident.ensures.value ∙ c.as_str.ensures in
    (λ i. record { name_part = text i; is_extension = false }) ∙ ap name_part (sym c.in-Ident.is)

pub returns-in_ok-name_part-in-Extension : goal.returns-in_ok-name_part-in-Extension
returns-in_ok-name_part-in-Extension c =
    (λ i. record { name_part = c.in_ok-name_part-in-Extension.ensures i; is_extension = true })
    ∙ ap name_part (sym c.in-Extension.is)
