use Rattle.std.proofs.Common.{ltb, arith, rules}
use Rattle.std.proofs.lemmas.List.Sorted.{IsPartitionPoint-from_clause, IsPartitionedBy-ltb}
use Rattle.protox_spans.proofs.Counting.{count_at}
use Rattle.protox_spans.proofs.block.count_below.Goals as goal

pub returns : goal.returns
returns c =
    let parted = IsPartitionedBy-ltb (λ x. x) _ c.args.bound c.requires in
    let point = IsPartitionPoint-from_clause (λ x. ltb x c.args.bound) _ _ c.partition_point.ensures.partitioned parted (λ a r q k. search rules) in
    count_at (λ x. ltb x c.args.bound) _ _ c.partition_point.ensures.bound
    (λ k d h. point.0 k d (omega arith) h) (λ k d g h. point.1 k d g h)
