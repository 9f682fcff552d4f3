use Rattle.std.proofs.Common.{◌≡◌, ◌<◌, ◌≤◌, ◌++◌, ℕ, List, length, arith, ap, sym, subst, ◌∙◌}
use Rattle.std.proofs.lemmas.List.{take_all}
use Rattle.std.proofs.lemmas.List.Elements.{All-get_or}
use Rattle.protox_link.specs.Seen.{IsSeenBy}
use Rattle.protox_link_fault.specs.declared.LinkFault.{LinkFault}
use Rattle.protox_link_records.proofs.Telling.{told_next}
use Rattle.protox_link_records.specs.LinkRecords.{AreTold}
use Rattle.protox_link_records.proofs.told.push_faults.Goals as goal

pub loop-fault-preserved : goal.loop-fault-preserved
loop-fault-preserved c before so_far =
    let fault = c.fault-item.result in
    let lt : c.loop-fault.fault-index < length c.args.faults.now = omega arith in
    let same : fault.file ≡ c.args.number =
    ap (λ (f : LinkFault). f.file) c.fault-item.is ∙ All-get_or (λ (f : LinkFault). f.file ≡ c.args.number) c.args.faults.now c.loop-fault.fault-index fault lt c.requires.same in
    told_next c.args.lines.now c.args.files.now before c.args.faults.now c.loop-fault.fault-index fault c.loop-fault.out.items c.push_fault.new.out.items
    c.args.view.now.sees.now c.args.view.now.packages lt c.fault-item.is
    (subst (λ (n : ℕ). IsSeenBy c.args.files.now n c.args.view.now.sees.now c.args.view.now.packages) (sym same) c.requires.seen)
    c.in_ok-push_fault.ensures (c.loop-fault.invariant before so_far)

pub returns : goal.returns
returns c before so_far =
    let end : length c.args.faults.now ≤ c.loop-fault.fault-index = omega arith in
    subst (λ (faults : List LinkFault). AreTold c.args.lines.now c.args.files.now (before ++ faults) c.loop-fault.out.items) (take_all c.loop-fault.fault-index c.args.faults.now end)
    (c.loop-fault.invariant before so_far)
