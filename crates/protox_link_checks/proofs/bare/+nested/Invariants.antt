use Rattle.std.proofs.Common.{All, take}
use Rattle.protox_link_checks.specs.inner.Bare.{HasNoRanges}
use Rattle.protox_link_checks.proofs.bare.+nested.Given as goal

abbrev pub invariant-loop-message : goal.invariant-loop-message
invariant-loop-message l = All HasNoRanges (take l.message-index l.messages)
