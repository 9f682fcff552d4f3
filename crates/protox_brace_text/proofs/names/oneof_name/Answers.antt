use Rattle.std.proofs.Common.{ap, ◌∙◌}
use Rattle.std.specs.Option.{option_copied}
use Rattle.protox_brace_text.specs.Texts.{holder_of, name_of_oneof, oneof_in}
use Rattle.protox_brace_text.proofs.names.oneof_name.Goals as goal

pub returns : goal.returns
returns c =
    let holder = c.holder_of-holder.ensures c.args.number (c.as_str.ensures.value ∙ c.in_ok-full_name.ensures) in
    c.name_of_oneof.ensures
    ∙ ap name_of_oneof
    (c.oneof_in.ensures ∙ ap (λ h. oneof_in h (option_copied c.field_numbered-field.result)) holder
    ∙ ap (oneof_in (holder_of c.args.here c.args.number)) c.field_numbered-field.ensures)
