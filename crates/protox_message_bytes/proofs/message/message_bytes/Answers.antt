use Rattle.std.proofs.Common.{ap, ◌∙◌}
use Rattle.std.specs.Prelude.{reverse}
use Rattle.std.proofs.lemmas.Result.{IfOk-weaker}
use Rattle.protox_message_bytes.specs.Bytes as words
use Rattle.protox_message_bytes.specs.Parts.{NoMore}
use Rattle.protox_message_bytes.specs.inner.Frames.{State}
use Rattle.protox_message_bytes.proofs.Steps.{all_told}
use Rattle.protox_message_bytes.proofs.message.message_bytes.Goals as goal

pub returns-clause-bytes : goal.returns-clause-bytes
returns-clause-bytes c = λ parts are.
    let held = ap (λ (s : State). s.fields) c.in_ok-take_all.ensures.told
    ∙ all_told parts c.args.entries.now c.new.result.items (reverse c.new-2.result.items) are c.new.ensures.items (ap reverse c.new-2.ensures.items) in
    IfOk-weaker c.in_order.result _ _ (λ bytes is. is ∙ ap words.in_order held) c.in_order.ensures.bytes

pub returns-clause-free : goal.returns-clause-free
returns-clause-free c = λ none.
    c.in_order.ensures.free
    (ap (λ (s : State). s.fields) c.in_ok-take_all.ensures.told
    ∙ all_told NoMore c.args.entries.now c.new.result.items (reverse c.new-2.result.items) none c.new.ensures.items (ap reverse c.new-2.ensures.items))
