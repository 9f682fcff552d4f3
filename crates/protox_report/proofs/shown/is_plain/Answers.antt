use Rattle.std.proofs.Common.{subst}
use Rattle.protox_report.proofs.Plain.{Printable, shown-itself, a-column-each, all-printable}
use Rattle.protox_report.proofs.shown.is_plain.Goals as goal

pub returns-clause-shown : goal.returns-clause-shown
returns-clause-shown c e = shown-itself c.args.text.now (subst Printable c.as_bytes-byte-items.ensures.value (all-printable _ c.loop-byte.byte-index (c.loop-byte.invariant e) c.loop-byte-test.false))

pub returns-clause-columns : goal.returns-clause-columns
returns-clause-columns c e = a-column-each c.args.text.now (subst Printable c.as_bytes-byte-items.ensures.value (all-printable _ c.loop-byte.byte-index (c.loop-byte.invariant e) c.loop-byte-test.false))
