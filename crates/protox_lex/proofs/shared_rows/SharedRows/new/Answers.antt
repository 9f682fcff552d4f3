use Rattle.std.proofs.Common.{ℕ, length, ap, ◌∙◌}
use Rattle.std.proofs.lemmas.List.{length-replicate}
use Rattle.protox_lex.proofs.Sharing.{nothing_shared, only_none}
use Rattle.protox_lex.proofs.shared_rows.SharedRows.new.Goals as goal

pub invariant_of-result : goal.invariant_of-result
invariant_of-result c =
    let slots = ap length (c.in_ok-vec-2.ensures.items_if_clones_equal (λ y same. same)) ∙ length-replicate {A = ℕ} 1024 0 in
    nothing_shared _ _ _ _ c.with_room.ensures c.new.ensures (c.in_ok-vec.ensures.items_if_clones_equal (only_none _ (λ n same. same))) slots
