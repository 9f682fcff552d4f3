use Rattle.std.proofs.Common.{List, arith, rules, subst}
use Rattle.std.specs.List.Sorted.{IsStableBy}
use Rattle.std.proofs.lemmas.List.Sorted.{answers_always}
use Rattle.std.proofs.lemmas.Result.{on_ok_weaker}
use Rattle.protox_descriptor.specs.declared.descriptor.source_code_info.Location.{Location}
use Rattle.protox_moved.proofs.Neighbours.{stable_through}
use Rattle.protox_moved.proofs.SameMoves.{written_back}
use Rattle.protox_moved.proofs.SortedList.{before, only-sorted, order}
use Rattle.protox_moved.proofs.steps.sort_locations.Goals as goal

pub returns : goal.returns
returns c =
    let old = c.args.locations.now.items in
    let straight = c.straighten.new.locations in
    let back = written_back c.args.locations.now.len straight old (omega arith) (omega arith) in
    let first : IsStableBy before old straight =
    subst (λ (xs : List Location). IsStableBy before xs straight) c.as_mut_slice.ensures.value c.straighten.ensures.stable in
    let stable = c.sort_by.ensures.stable before order (answers_always _ _ _ (λ f a r next called. search rules)) in
    let second : IsStableBy before straight c.sort_by.new.self.items =
    subst (λ (xs : List Location). IsStableBy before xs c.sort_by.new.self.items) back stable in
    on_ok_weaker c.sort_by.result
    (λ sorted. only-sorted _ _ (sorted before order (answers_always _ _ _ (λ f a r next called. search rules)))
    (stable_through old straight c.sort_by.new.self.items first second))
    c.sort_by.ensures.sorted
