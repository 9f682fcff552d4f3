use Rattle.std.proofs.Common.{false, refl}
use Rattle.protox_descriptor.proofs.Pascal.{pascal_pushed}
use Rattle.protox_descriptor.proofs.case.to_pascal_case.Goals as goal

pub loop-letter-preserved-then-raised : goal.loop-letter-preserved-then-raised
loop-letter-preserved-then-raised c =
    pascal_pushed c.loop-letter.raised false c.in-Some.letter _ _ _ _ _ _ c.loop-letter.invariant c.in-Some.ensures.steps.0
    c.if-letter-eq95.false (rw c.if-raised.true c.to_ascii_uppercase.ensures.value) refl c.in_ok-push.ensures.bytes

pub loop-letter-preserved : goal.loop-letter-preserved
loop-letter-preserved c =
    pascal_pushed c.loop-letter.raised c.loop-letter.raised c.in-Some.letter _ _ _ _ _ _ c.loop-letter.invariant c.in-Some.ensures.steps.0
    c.if-letter-eq95.false (rw c.if-raised.false refl) c.if-raised.false c.in_ok-push-2.ensures.bytes
