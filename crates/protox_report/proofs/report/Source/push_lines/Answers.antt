use Rattle.std.specs.String.{string_bytes}
use Rattle.protox_report.specs.Reports.{excerpt_line, excerpt_marks}
use Rattle.protox_report.proofs.Chains.{chain2}
use Rattle.protox_report.proofs.report.Source.push_lines.Goals as goal

pub returns : goal.returns
returns c =
    chain2 (string_bytes c.args.out.now) (excerpt_line c.args.number.now c.args.shown.now) (excerpt_marks c.args.self.now.paint c.args.number.now c.args.shown.now c.args.label.now)
    c.in_ok-push_line.ensures c.in_ok-push_marks.ensures
