use Rattle.std.proofs.Common.{ℕ, List, [], subst}
use Rattle.std.specs.String.{string_bytes}
use Rattle.protox_report.specs.Reports.{Tells}
use Rattle.protox_report.proofs.report.Source.push_text.Goals as goal

pub returns : goal.returns
returns c =
    record {
      excerpt =
          let P : List ℕ → Type 0 = λ text. Tells c.args.self.now.text.now c.args.self.now.paint c.args.span.now [] text (string_bytes c.push_excerpt.new.out) in
          subst P c.in_ok-push_title_at.ensures c.in_ok-push_excerpt.ensures;
    }
