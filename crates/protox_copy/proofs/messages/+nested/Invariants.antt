use Rattle.std.proofs.Common.{◌≡◌, take}
use Rattle.protox_copy.proofs.messages.+nested.Given as goal

abbrev pub invariant-copy_messages-loop-message : goal.invariant-copy_messages-loop-message
invariant-copy_messages-loop-message l = l.made ≡ take l.message-index l.messages
