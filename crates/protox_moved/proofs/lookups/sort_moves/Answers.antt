use Rattle.std.proofs.Common.{rules, sym}
use Rattle.std.proofs.lemmas.List.Sorted.{answers_always, list_any-IsPermutation}
use Rattle.std.proofs.lemmas.Result.{on_ok_weaker}
use Rattle.protox_moved.specs.declared.Move.{Move}
use Rattle.protox_moved.specs.Moved.{is_below}
use Rattle.protox_moved.proofs.Finding.{are_by_start, earlier, new_path_kept}
use Rattle.protox_moved.proofs.Paths.{order_by}
use Rattle.protox_moved.proofs.lookups.sort_moves.Goals as goal

pub returns-clause-sorted : goal.returns-clause-sorted
returns-clause-sorted c =
    on_ok_weaker c.sort_by.result
    (λ sorted. are_by_start _ (sorted earlier (order_by (λ (m : Move). m.from)) (answers_always _ _ _ (λ f a r next called. search rules))))
    c.sort_by.ensures.sorted

pub returns-clause-paths : goal.returns-clause-paths
returns-clause-paths c =
    new_path_kept _ _ (c.sort_by.ensures.stable earlier (order_by (λ (m : Move). m.from)) (answers_always _ _ _ (λ f a r next called. search rules)))

pub returns-clause-parts : goal.returns-clause-parts
returns-clause-parts c path =
    sym (list_any-IsPermutation (λ (m : Move). is_below m.from path) _ _ c.sort_by.ensures.permutation)
