use Rattle.std.proofs.Common.{◌≡◌, ℕ, List, OnOk, subst}
use Rattle.protox_encode_linked.proofs.Levels.{message-onto}
use Rattle.protox_encode_linked.proofs.messages.DescriptorProtoLinked.+prepend_at.Goals as goal

pub returns-clause-bytes : goal.returns-clause-bytes
returns-clause-bytes t c =
    let middle = c.in_ok-prepend_message_middle.ensures in
    let each = c.in_ok-prepend_each_at.ensures in
    subst (λ (bytes : List ℕ). OnOk c.prepend_message_front.result (c.prepend_message_front.new.out ≡ bytes))
    (message-onto c.args.set.now _ _ _ c.args.self.now _ _ _ middle.back each.back middle.bytes each.bytes) c.prepend_message_front.ensures.bytes
