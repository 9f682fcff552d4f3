use Rattle.std.proofs.Common.{ℕ, List, subst}
use Rattle.std.specs.String.{string_bytes}
use Rattle.protox_report.specs.Reports.{AreTold}
use Rattle.protox_report.proofs.report.Source.push_parts.Goals as goal

pub returns : goal.returns
returns c =
    record {
      told = string_bytes c.push_excerpts.new.out;
      excerpts =
          let P : List ℕ → Type 0 = λ text. AreTold c.args.self.now.text.now c.args.self.now.paint c.args.fault.now text (string_bytes c.push_excerpts.new.out) in
          subst P c.in_ok-push_title.ensures c.in_ok-push_excerpts.ensures;
      helped = c.in_ok-push_help_of.ensures;
    }
