use Rattle.std.proofs.Common.{List, [], ◌∷◌, ◌++◌, ◌∙◌, ap}
use Rattle.protox_link.proofs.Paths.{cycle_stands, one_stands}
use Rattle.protox_link.proofs.circle.told_circle.Goals as goal
use Rattle.protox_link_fault.specs.declared.LinkFault.{LinkFault}

pub returns-clause-stands : goal.returns-clause-stands
returns-clause-stands c files cycle =
    one_stands files c.in_ok-fault.fault c.push.new.self.items
    (c.in_ok-push.ensures.items ∙ ap (λ (items : List LinkFault). items ++ c.in_ok-fault.fault ∷ []) c.new-faults.ensures.items)
    (cycle_stands files c.args.circle.items c.in_ok-fault.fault cycle c.in_ok-fault.ensures.file c.in_ok-fault.ensures.path)
