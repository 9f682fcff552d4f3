use Rattle.std.proofs.Common.{subst}
use Rattle.protox_link_bytes.specs.Outcomes.{IsWant}
use Rattle.protox_link_options.proofs.linking.link_with_options.Goals as goal

pub returns-in-Ok-clause-only : goal.returns-in-Ok-clause-only
returns-in-Ok-clause-only c can =
    let right = can.right c.in-Ok.set c.in-Ok.ensures.set in
    c.read_and_spell.ensures.only right.0 right.1

pub returns-in-Err-Refused-clause-only : goal.returns-in-Err-Refused-clause-only
returns-in-Err-Refused-clause-only c can = subst IsWant c.in-Err-Refused.field-0-is (c.in-Err-Refused.ensures.only can.linkable)
