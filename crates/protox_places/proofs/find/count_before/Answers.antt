use Rattle.std.proofs.Common.{rules, sym, ◌∙◌}
use Rattle.std.proofs.lemmas.Bool.{false≢true}
use Rattle.std.proofs.lemmas.List.Sorted.{IsPartitionPoint-from_clause}
use Rattle.std.specs.Cmp.Lexicographic.{slice_cmp}
use Rattle.std.specs.Ordering.{int_cmp, is_lt}
use Rattle.protox_descriptor.specs.declared.descriptor.source_code_info.Location.{Location}
use Rattle.protox_places.proofs.SortedPaths.{before-parted}
use Rattle.protox_places.proofs.find.count_before.Goals as goal

pub returns-clause-before : goal.returns-clause-before
returns-clause-before c =
    let locations = c.args.locations.now in
    let path = c.args.path.now in
    let point = IsPartitionPoint-from_clause
    (λ (l : Location). is_lt (slice_cmp int_cmp l.path path))
    _ _ c.partition_point.ensures.partitioned
    (before-parted locations path c.requires)
    (λ a r q k. search rules) in
    point.0

pub returns-clause-from : goal.returns-clause-from
returns-clause-from c =
    let locations = c.args.locations.now in
    let path = c.args.path.now in
    let point = IsPartitionPoint-from_clause
    (λ (l : Location). is_lt (slice_cmp int_cmp l.path path))
    _ _ c.partition_point.ensures.partitioned
    (before-parted locations path c.requires)
    (λ a r q k. search rules) in
    λ k d l h e. false≢true (sym (point.1 k d l h) ∙ e)
