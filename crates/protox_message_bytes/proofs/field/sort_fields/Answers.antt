use Rattle.std.proofs.Common.{rules}
use Rattle.std.proofs.lemmas.List.Sorted.{answers_always}
use Rattle.std.proofs.lemmas.Result.{on_ok_weaker}
use Rattle.protox_message_bytes.proofs.ByNumber.{before, compared, order, sorted_by_number}
use Rattle.protox_message_bytes.proofs.field.sort_fields.Goals as goal

pub returns-clause-order : goal.returns-clause-order
returns-clause-order c =
    let stable = c.sort_by.ensures.stable before order (answers_always _ _ _ (λ f a r next called. search (rules, compared))) in
    on_ok_weaker c.sort_by.result
    (λ sorted. sorted_by_number _ _ (sorted before order (answers_always _ _ _ (λ f a r next called. search (rules, compared)))) stable)
    c.sort_by.ensures.sorted
