use Rattle.std.proofs.Common.{codes}
use Rattle.std.specs.String.{string_bytes}
use Rattle.protox_fault.specs.FaultTexts.{text_of}
use Rattle.protox_report.specs.Reports.{position_text}
use Rattle.protox_report.specs.Shown.{shown}
use Rattle.protox_report.proofs.Chains.{chain7}
use Rattle.protox_report.proofs.report.Source.push_title.Goals as goal

pub returns : goal.returns
returns c =
    chain7 (string_bytes c.args.out.now) (c.args.self.now.paint.place.now) (shown c.args.self.now.name.now) (position_text c.args.self.now.text.now c.args.fault.now) (c.args.self.now.paint.end.now) (codes " ") (shown (text_of c.args.fault.now)) (codes "\n")
    c.in_ok-push_str.ensures.bytes c.in_ok-push_shown.ensures c.in_ok-push_position.ensures c.in_ok-push_str-2.ensures.bytes c.in_ok-push_str-3.ensures.bytes c.in_ok-push_text.ensures c.in_ok-push_str-4.ensures.bytes
