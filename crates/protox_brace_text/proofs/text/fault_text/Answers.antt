use Rattle.std.proofs.Common.{ap, option_map, string_bytes, sym, ◌∙◌}
use Rattle.std.proofs.lemmas.Option.{slice_get-map}
use Rattle.protox_brace_text.specs.Steps.{found_at, last_name, next_pieces}
use Rattle.protox_brace_text.proofs.Telling.{step_told}
use Rattle.protox_brace_text.proofs.text.fault_text.Goals as goal
use Rattle.protox_text_format.specs.Spelling.{seen}

pub returns : goal.returns
returns c =
    let items = c.args.items.now in
    step_told c.args.here string_bytes c.item_text.result c.args.fault.kind _ _ _ _ _ _
    (ap (option_map seen) c.item_at-item.ensures ∙ sym (slice_get-map seen items c.args.fault.step))
    (c.as_str.ensures.value ∙ c.in_ok-found.ensures
    ∙ ap (λ p. found_at p 0) (c.next_pieces.ensures ∙ ap (next_pieces c.args.pieces.now) c.before-front.ensures))
    (c.as_str-2.ensures.value ∙ c.in_ok-field.ensures ∙ ap last_name c.before-front.ensures)
    c.item_text.ensures
