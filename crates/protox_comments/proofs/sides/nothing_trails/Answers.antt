use Rattle.std.proofs.Common.{sym, ◌∙◌}
use Rattle.protox_comments.specs.inner.Attributing.{shape_lent}
use Rattle.protox_comments.proofs.Attributing.{trails-not-alone, trails-not-twice, trails-not-lines}
use Rattle.protox_comments.proofs.sides.nothing_trails.Goals as goal

pub returns-then-gap-eq1 : goal.returns-then-gap-eq1
returns-then-gap-eq1 c e = trails-not-alone c.args.gap.now (shape_lent c.args.next) (c.is_newline_at.ensures c.if-not-is_newline_at.false) c.if-gap-eq1.true

pub returns-then-is_newline_at : goal.returns-then-is_newline_at
returns-then-is_newline_at c e = trails-not-twice c.args.gap.now (shape_lent c.args.next) (c.is_newline_at.ensures c.if-not-is_newline_at.false) (c.is_newline_at-2.ensures c.if-is_newline_at.true)

pub returns-then-may_lead : goal.returns-then-may_lead
returns-then-may_lead c e = trails-not-lines c.args.gap.now (shape_lent c.args.next) (c.is_newline_at.ensures c.if-not-is_newline_at.false) (c.are_lines.ensures e) (sym c.may_lead.ensures ∙ c.if-may_lead.true)
