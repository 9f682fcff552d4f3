use Rattle.std.proofs.Common.{sym, ◌∙◌}
use Rattle.protox_ast.proofs.EqualTrees.{same-File}
use Rattle.protox_ast.proofs.laws.files_are_equal_by_fields.Goals as goal

pub returns : goal.returns
returns c =
    let told = (same-File c.args.a.now).decides c.args.b.now in
    (λ h. told.0 (sym c.eq.ensures ∙ h), λ h. c.eq.ensures ∙ told.1 h)
