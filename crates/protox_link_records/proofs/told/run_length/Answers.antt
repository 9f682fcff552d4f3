use Rattle.std.proofs.Common.{◌≡◌, arith, subst}
use Rattle.std.proofs.lemmas.List.Elements.{All-more}
use Rattle.protox_link_fault.specs.declared.LinkFault.{LinkFault}
use Rattle.protox_link_records.proofs.told.run_length.Goals as goal

pub loop-index-preserved : goal.loop-index-preserved
loop-index-preserved c =
    All-more (λ (f : LinkFault). f.file ≡ c.args.number) c.args.faults.now c.loop-index.index c.index-faults-index.result (omega arith) c.loop-index.invariant
    (subst (λ (f : LinkFault). f.file ≡ c.args.number) c.index-faults-index.is c.if-fault-number.false)
