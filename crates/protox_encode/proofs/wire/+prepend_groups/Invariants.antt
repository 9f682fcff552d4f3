use Rattle.protox_encode.proofs.wire.+prepend_groups.Given as goal

abbrev pub decreases-prepend_groups : goal.decreases-prepend_groups
decreases-prepend_groups l = l.n
