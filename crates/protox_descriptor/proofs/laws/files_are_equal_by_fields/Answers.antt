use Rattle.std.proofs.Common.{sym, ◌∙◌}
use Rattle.protox_descriptor.proofs.Equal.{same-FileDescriptorProto}
use Rattle.protox_descriptor.proofs.laws.files_are_equal_by_fields.Goals as goal

pub returns : goal.returns
returns c =
    let told = (same-FileDescriptorProto c.args.a.now).decides c.args.b.now in
    (λ h. told.0 (sym c.eq.ensures ∙ h), λ h. c.eq.ensures ∙ told.1 h)
