use Rattle.std.proofs.Common.{ℕ, List, [], sym, subst, ◌∙◌}
use Rattle.protox_link_records.specs.LinkRecords.{AreTold, NoFault}
use Rattle.protox_link_records.proofs.records.link_records.Goals as goal

pub returns : goal.returns
returns c =
    subst (λ (texts : List (List ℕ)). AreTold texts c.args.files.now c.args.faults.now c.push_all.new.out.items) (c.as_slice.ensures.value ∙ c.in_ok-lines.ensures)
    (c.in_ok-push_all.ensures (subst (λ (bytes : List ℕ). AreTold c.as_slice.result.now c.args.files.now [] bytes) (sym c.new-out.ensures.items) NoFault))
