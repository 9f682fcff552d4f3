use Rattle.std.proofs.Common.{◌≤◌, ◌-◌, length}
use Rattle.protox_report.proofs.report.Source.line_start.Given as goal

abbrev pub invariant-search : goal.invariant-search
invariant-search l = (l.low ≤ l.high) × (l.high ≤ length l.self.text.now)

abbrev pub decreases-search : goal.decreases-search
decreases-search l = l.high - l.low
