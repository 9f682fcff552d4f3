use Rattle.std.proofs.Common.{◌≡◌, List, [], subst}
use Rattle.protox_link.proofs.Closing.{are_closed_all}
use Rattle.protox_link.proofs.Keeping.{are_kept}
use Rattle.protox_link.proofs.Paths.{files_stand}
use Rattle.protox_link.proofs.Standing.{no_items}
use Rattle.protox_link.proofs.linking.link_ready.Goals as goal
use Rattle.protox_link.specs.Files.{AreFaults}
use Rattle.protox_link_fault.specs.declared.LinkFault.{LinkFault}

pub returns-clause-closed : goal.returns-clause-closed
returns-clause-closed c =
    let done = c.in-Ok.ensures c.requires.known in
    let none : c.in-Ok.faults.items ≡ [] = no_items c.in-Ok.faults.len c.in-Ok.faults.items c.if-not-is_empty.ensures c.in-Ok.faults.ok.0 in
    are_closed_all c.args.files.items c.finish.new.files.items
    (subst (λ (faults : List LinkFault). AreFaults c.args.files.items 0 c.args.files.items faults) none done.told)
    (done.linked none)

pub returns-clause-kept : goal.returns-clause-kept
returns-clause-kept c =
    let none : c.in-Ok.faults.items ≡ [] = no_items c.in-Ok.faults.len c.in-Ok.faults.items c.if-not-is_empty.ensures c.in-Ok.faults.ok.0 in
    are_kept c.args.files.items c.args.files.items 0 c.finish.new.files.items ((c.in-Ok.ensures c.requires.known).linked none)

pub returns-then-not-is_empty-clause-stands : goal.returns-then-not-is_empty-clause-stands
returns-then-not-is_empty-clause-stands c = files_stand c.args.files.items c.in-Ok.faults.items (c.in-Ok.ensures c.requires.known).told
