use Rattle.std.proofs.Common.{◌++◌, ℕ, List, ap, sym, subst, ◌∙◌}
use Rattle.protox_fault.specs.declared.error.ParseErrorKind.{ParseErrorKind}
use Rattle.protox_link_bytes.proofs.Sources.{refused}
use Rattle.protox_link_bytes.specs.Parsed.{AreSyntaxRecords, IsParsedOf}
use Rattle.protox_link_records.specs.LinkRecords.{syntax_records}
use Rattle.protox_link_bytes.proofs.parsing.with_refusal.Goals as goal
use Rattle.protox_link_bytes.proofs.parsing.with_refusal.Goals.{in-Files, in-Refused}

pub returns : goal.returns
returns c before source count so_far is =
    let old = c.match-parsed.told.items in
    let n = c.args.number in
    let e = c.in_ok-push_syntax_records.ensures ∙ ap (λ (text : List ℕ). old ++ syntax_records n text c.errors.result.now) c.source.ensures
    ∙ ap (λ (faults : List ParseErrorKind). old ++ syntax_records n c.args.error.now.source faults) c.errors.ensures.value in
    elim c.match-parsed.branch [
      | in-Files w ↦
          refused before old c.push_syntax_records.new.out.items n source c.args.error.now count
          (subst (AreSyntaxRecords before) (sym (ap (λ told. told.items) w.told-is ∙ w.new-told.ensures.items)) (subst (IsParsedOf before) w.in-Files.is so_far).told) is e
      | in-Refused w ↦
          refused before old c.push_syntax_records.new.out.items n source c.args.error.now count
          (subst (AreSyntaxRecords before) (sym (ap (λ told. told.items) w.told-is)) (subst (IsParsedOf before) w.in-Refused.is so_far).told) is e
    ]
