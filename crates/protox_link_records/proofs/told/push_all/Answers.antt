use Rattle.std.proofs.Common.{◌≡◌, ◌-◌, ◌++◌, List, ap, arith, drop, length, length-drop, sym, subst, take, ◌∙◌}
use Rattle.std.proofs.Math.Seq.{take-add}
use Rattle.std.proofs.lemmas.List.{take_all}
use Rattle.protox_link_fault.specs.declared.LinkFault.{LinkFault}
use Rattle.protox_link_records.specs.LinkRecords.{AreTold}
use Rattle.protox_link_records.proofs.told.push_all.Goals as goal

pub loop-at-preserved : goal.loop-at-preserved
loop-at-preserved c =
    let faults = c.args.faults.now in
    let at = c.loop-at.at in
    let count = c.run_length-count.result in
    let rest : take (length faults - at) (drop at faults) ≡ drop at faults = take_all (length faults - at) (drop at faults) (omega (arith, length-drop at faults)) in (
      λ first. subst (λ (told : List LinkFault). AreTold c.args.lines.now c.args.files.now told c.push_faults_of_file.new.out.items)
          (ap (λ (left : List LinkFault). take at faults ++ take count left) rest ∙ sym (take-add at count faults))
          (c.in_ok-push_faults_of_file.ensures (take at faults) (c.loop-at.invariant.0 first)),
      omega (arith, c.run_length-count.ensures.within, ap length rest, length-drop at faults, c.loop-at.invariant.1),
    )
