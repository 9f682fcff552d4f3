use Rattle.std.proofs.Common.{codes}
use Rattle.std.specs.String.{string_bytes}
use Rattle.protox_report.specs.Reports.{position_at}
use Rattle.protox_report.specs.Shown.{shown}
use Rattle.protox_report.proofs.Chains.{chain7}
use Rattle.protox_report.proofs.report.Source.push_title_at.Goals as goal

pub returns : goal.returns
returns c =
    chain7 (string_bytes c.args.out.now) (c.args.self.now.paint.place.now) (shown c.args.self.now.name.now) (position_at c.args.self.now.text.now c.args.offset) (c.args.self.now.paint.end.now) (codes " ") (shown c.args.text.now) (codes "\n")
    c.in_ok-push_str.ensures.bytes c.in_ok-push_shown.ensures c.in_ok-push_position_at.ensures c.in_ok-push_str-2.ensures.bytes c.in_ok-push_str-3.ensures.bytes c.in_ok-push_shown-2.ensures c.in_ok-push_str-4.ensures.bytes
