use Rattle.std.proofs.Common.{rules}
use Rattle.std.proofs.lemmas.List.Sorted.{IsPartitionPoint-from_clause}
use Rattle.protox_moved.specs.declared.Move.{Move}
use Rattle.protox_moved.specs.inner.Sorting.{is_before}
use Rattle.protox_moved.proofs.Finding.{start-parted}
use Rattle.protox_moved.proofs.lookups.search_count.Goals as goal

pub returns-clause-before : goal.returns-clause-before
returns-clause-before c =
    let point = IsPartitionPoint-from_clause
    (λ (m : Move). is_before m.from c.args.path.now)
    _ _ c.partition_point.ensures.partitioned
    (start-parted c.args.moves.now c.args.path.now c.requires)
    (λ a r q k. search rules) in
    point.0

pub returns-clause-from : goal.returns-clause-from
returns-clause-from c =
    let point = IsPartitionPoint-from_clause
    (λ (m : Move). is_before m.from c.args.path.now)
    _ _ c.partition_point.ensures.partitioned
    (start-parted c.args.moves.now c.args.path.now c.requires)
    (λ a r q k. search rules) in
    point.1
