use Rattle.std.proofs.Common.{ℕ, List, ap, ◌∙◌}
use Rattle.protox_report.specs.Reports.{excerpt_lines}
use Rattle.protox_report.proofs.report.Source.push_excerpt.Goals as goal

pub returns : goal.returns
returns c =
    record {
      text = excerpt_lines c.args.self.now.paint c.as_str.result.now c.excerpt_of-shown.result c.args.label.now;
      behind = c.in_ok-push_lines.ensures;
      shows = record {
        e = c.excerpt_of-shown.result;
        shows = c.excerpt_of-shown.ensures;
        lines = ap (λ (number : List ℕ). excerpt_lines c.args.self.now.paint number c.excerpt_of-shown.result c.args.label.now) (c.as_str.ensures.value ∙ c.in_ok-number.ensures);
      };
    }
