use Rattle.std.proofs.Common.{◌≡◌, ℕ, List, OnOk, subst}
use Rattle.protox_encode.proofs.Levels.{message-onto}
use Rattle.protox_encode.proofs.messages.DescriptorProtoMessage.+prepend_to.Goals as goal

pub returns : goal.returns
returns t c =
    subst (λ (bytes : List ℕ). OnOk c.prepend_message_front.result (c.prepend_message_front.new.out ≡ bytes))
    (message-onto c.args.self.now _ _ _ c.in_ok-prepend_message_middle.ensures c.in_ok-prepend_each.ensures) c.prepend_message_front.ensures
