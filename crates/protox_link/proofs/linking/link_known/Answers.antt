use Rattle.std.proofs.Common.{length, subst}
use Rattle.protox_imports.specs.Answer.{IsAnswer}
use Rattle.protox_imports.specs.Imports.{Imports}
use Rattle.protox_link.proofs.linking.link_known.Goals as goal

pub link_ready-requires-clause-order : goal.link_ready-requires-clause-order
link_ready-requires-clause-order c =
    let files = c.args.files.items in
    subst (IsAnswer (Imports files) (length files)) c.in-Ok-Sorted.field-0-is (c.in-Ok-Sorted.ensures files c.requires.rows)

pub returns-in-Ok-Cycle-clause-refused : goal.returns-in-Ok-Cycle-clause-refused
returns-in-Ok-Cycle-clause-refused c =
    let files = c.args.files.items in
    c.refused_circle.ensures.refused files
    (subst (IsAnswer (Imports files) (length files)) c.in-Ok-Cycle.field-0-is (c.in-Ok-Cycle.ensures files c.requires.rows))

pub returns-in-Ok-Cycle-clause-stands : goal.returns-in-Ok-Cycle-clause-stands
returns-in-Ok-Cycle-clause-stands c =
    let files = c.args.files.items in
    c.refused_circle.ensures.stands files
    (subst (IsAnswer (Imports files) (length files)) c.in-Ok-Cycle.field-0-is (c.in-Ok-Cycle.ensures files c.requires.rows))

pub returns-in-Ok-Cycle-clause-circles : goal.returns-in-Ok-Cycle-clause-circles
returns-in-Ok-Cycle-clause-circles c =
    let files = c.args.files.items in
    c.refused_circle.ensures.circles files
    (subst (IsAnswer (Imports files) (length files)) c.in-Ok-Cycle.field-0-is (c.in-Ok-Cycle.ensures files c.requires.rows))
