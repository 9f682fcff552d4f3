use Rattle.std.proofs.Common.{codes}
use Rattle.std.specs.String.{string_bytes}
use Rattle.protox_report.specs.Reports.{dots, numbered}
use Rattle.protox_report.specs.Shown.{shown}
use Rattle.protox_report.proofs.Chains.{chain8}
use Rattle.protox_report.proofs.report.push_line.Goals as goal

pub returns : goal.returns
returns c =
    chain8 (string_bytes c.args.out.now) (numbered c.args.number.now) (codes " | ") (dots c.args.shown.now.cut_before) (shown c.args.shown.now.before.now) (shown c.args.shown.now.marked.now) (shown c.args.shown.now.behind.now) (dots c.args.shown.now.cut_behind) (codes "\n")
    c.in_ok-push_number.ensures c.in_ok-push_str.ensures.bytes c.in_ok-push_dots.ensures c.in_ok-push_shown.ensures c.in_ok-push_shown-2.ensures c.in_ok-push_shown-3.ensures c.in_ok-push_dots-2.ensures c.in_ok-push_str-2.ensures.bytes
