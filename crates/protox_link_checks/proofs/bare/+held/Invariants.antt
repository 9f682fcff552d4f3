use Rattle.std.proofs.Common.{All, take}
use Rattle.protox_link_checks.specs.inner.Bare.{ExtendsNothing}
use Rattle.protox_link_checks.proofs.bare.+held.Given as goal

abbrev pub invariant-loop-message : goal.invariant-loop-message
invariant-loop-message l = All ExtendsNothing (take l.message-index l.messages)
