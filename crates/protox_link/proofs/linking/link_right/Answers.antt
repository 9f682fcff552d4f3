use Rattle.protox_link.proofs.Closing.{are_closed_all}
use Rattle.protox_link.proofs.Keeping.{are_kept}
use Rattle.protox_link.proofs.linking.link_right.Goals as goal

pub returns-in-Ok-link_each-clause-closed : goal.returns-in-Ok-link_each-clause-closed
returns-in-Ok-link_each-clause-closed c =
    are_closed_all c.args.files.items c.link_each.new.files.items c.requires.right.none c.in-Ok-link_each.ensures

pub returns-in-Ok-link_each-clause-kept : goal.returns-in-Ok-link_each-clause-kept
returns-in-Ok-link_each-clause-kept c =
    are_kept c.args.files.items c.args.files.items 0 c.link_each.new.files.items c.in-Ok-link_each.ensures
