use Rattle.std.proofs.Common.{get_or, rules}
use Rattle.std.proofs.lemmas.List.Sorted.{IsPartitionPoint-from_clause}
use Rattle.std.specs.Cmp.Lexicographic.{slice_cmp}
use Rattle.std.specs.Ordering.{int_cmp, is_le}
use Rattle.protox_descriptor.specs.declared.descriptor.source_code_info.Location.{Location}
use Rattle.protox_places.proofs.SortedPaths.{greater, not-behind, up-to-parted}
use Rattle.protox_places.proofs.find.count_up_to.Goals as goal

pub returns-clause-up_to : goal.returns-clause-up_to
returns-clause-up_to c =
    let locations = c.args.locations.now in
    let path = c.args.path.now in
    let point = IsPartitionPoint-from_clause
    (λ (l : Location). is_le (slice_cmp int_cmp l.path path))
    _ _ c.partition_point.ensures.partitioned
    (up-to-parted locations path c.requires)
    (λ a r q k. search rules) in
    λ k d l h. not-behind (get_or locations k d).path path (point.0 k d l h)

pub returns-clause-behind : goal.returns-clause-behind
returns-clause-behind c =
    let locations = c.args.locations.now in
    let path = c.args.path.now in
    let point = IsPartitionPoint-from_clause
    (λ (l : Location). is_le (slice_cmp int_cmp l.path path))
    _ _ c.partition_point.ensures.partitioned
    (up-to-parted locations path c.requires)
    (λ a r q k. search rules) in
    λ k d l h. greater (get_or locations k d).path path (point.1 k d l h)
