use Rattle.std.proofs.Common.{codes, replicate}
use Rattle.std.specs.String.{string_bytes}
use Rattle.protox_report.specs.Shown.{shown}
use Rattle.protox_report.proofs.Chains.{chain4}
use Rattle.protox_report.proofs.report.push_help_line.Goals as goal

pub returns : goal.returns
returns c =
    chain4 (string_bytes c.args.out.now) (replicate 5 32) (codes " = help: ") (shown c.args.help.now) (codes "\n")
    c.in_ok-push_times.ensures c.in_ok-push_str.ensures.bytes c.in_ok-push_shown.ensures c.in_ok-push_str-2.ensures.bytes
