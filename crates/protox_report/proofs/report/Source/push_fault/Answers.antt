use Rattle.std.proofs.Common.{ℕ, List, OnOk, subst, sym}
use Rattle.std.specs.String.{string_bytes}
use Rattle.protox_report.specs.Reports.{IsReported}
use Rattle.protox_report.proofs.report.Source.push_fault.Goals as goal

pub returns : goal.returns
returns c =
    let s = c.args.self.now in
    let P : List ℕ → List ℕ → Type 0 = λ old new. OnOk c.push_parts-done.result (IsReported s.name.now s.text.now s.paint c.args.fault.now old new) in
    let begun = subst (λ old. P old (string_bytes c.push_parts-done.new.out)) c.make_room-grew.ensures.bytes c.push_parts-done.ensures in
    subst (P (string_bytes c.args.out.now)) (sym c.give_back.ensures.bytes) begun
