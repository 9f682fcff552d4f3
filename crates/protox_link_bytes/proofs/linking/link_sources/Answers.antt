use Rattle.std.proofs.Common.{inl, subst}
use Rattle.protox_link_bytes.proofs.Refusing.{not_refused, not_refused_if}
use Rattle.protox_link_bytes.specs.Given.{given}
use Rattle.protox_link_bytes.specs.Parsed.{IsParsedOf}
use Rattle.protox_link_bytes.proofs.linking.link_sources.Goals as goal

pub returns-in-Ok-Files-clause-only : goal.returns-in-Ok-Files-clause-only
returns-in-Ok-Files-clause-only c can = not_refused_if (given c.args.files.now) c.linked.result can c.linked.ensures.without

pub returns-in-Ok-Refused-clause-only : goal.returns-in-Ok-Refused-clause-only
returns-in-Ok-Refused-clause-only c can = not_refused (given c.args.files.now) c.in-Ok-Refused.records.items can (inl (subst (IsParsedOf (given c.args.files.now)) c.in-Ok-Refused.field-0-is c.in-Ok-Refused.ensures))
