use Rattle.std.proofs.Common.{codes}
use Rattle.std.specs.String.{string_bytes}
use Rattle.protox_report.specs.Reports.{behind_blank, below, below_dots, carets}
use Rattle.protox_report.specs.Shown.{under}
use Rattle.protox_report.proofs.Chains.{chain9}
use Rattle.protox_report.proofs.report.Source.push_marks.Goals as goal

pub returns : goal.returns
returns c =
    chain9 (string_bytes c.args.out.now) (below c.args.number.now) (codes " | ") (below_dots c.args.shown.now.cut_before) (under 32 c.args.shown.now.before.now) (c.args.self.now.paint.mark.now) (carets c.args.shown.now.marked.now) (behind_blank c.args.label.now) (c.args.self.now.paint.end.now) (codes "\n")
    c.in_ok-push_below.ensures c.in_ok-push_str.ensures.bytes c.in_ok-push_below_dots.ensures c.in_ok-push_under.ensures c.in_ok-push_str-2.ensures.bytes c.in_ok-push_carets.ensures c.in_ok-push_label.ensures c.in_ok-push_str-3.ensures.bytes c.in_ok-push_str-4.ensures.bytes
