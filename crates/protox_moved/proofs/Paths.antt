-- The order of paths: paths that tie are the same.
use Rattle.std.proofs.Common.{◌≡◌, true, false, List, refl, sym, ap, subst, ◌∙◌, Ordering, Less, Equal, Greater}
use Rattle.std.specs.Prelude.{ℤ}
use Rattle.std.specs.Cmp.{both_ways, IsStrictWeakOrder, IsTotalOrder}
use Rattle.std.specs.Cmp.Lexicographic.{pointwise, slice_cmp}
use Rattle.std.specs.Cmp.Rules.{signed_items}
use Rattle.std.specs.List.Sorted.{ties}
use Rattle.std.specs.Ordering.{int_cmp, int_eq, is_gt, is_lt, ordering_reverse}
use Rattle.std.proofs.lemmas.Bool.{false≢true}
use Rattle.std.proofs.lemmas.Cmp.{int_cmp_total, lists_total}
use Rattle.std.proofs.lemmas.List.Sorted.{ranks_by}
use Rattle.protox_places.proofs.Lemmas.{not-before-nor-behind}
use Rattle.protox_moved.specs.inner.Sorting.{is_before}
use Rattle.protox_moved.proofs.Ties.{self_tie, ties_parts}

abbrev total : IsTotalOrder (slice_cmp int_cmp)
total = lists_total int_cmp_total

-- the order by a path that an element has
pub order_by : {X : Type 0} (path : X → List ℤ) → IsStrictWeakOrder (λ x y. is_before (path x) (path y))
order_by path = ranks_by total path

turned : (o : Ordering) → is_gt (ordering_reverse o) ≡ is_lt o
turned Less = refl
turned Equal = refl
turned Greater = refl

-- paths of which neither comes before the other
pub same_path : (p q : List ℤ) → is_before p q ≡ false → is_before q p ≡ false → p ≡ q
same_path p q a b = not-before-nor-behind p q (λ c. false≢true (sym a ∙ c))
    (ap is_gt (total.antisymm p q) ∙ turned (slice_cmp int_cmp q p) ∙ b)

-- the test whether two paths are the same, and the one whether they tie
pub same_is_tie : (p q : List ℤ) → pointwise int_eq q p ≡ ties is_before p q
same_is_tie p q = both_ways (pointwise int_eq q p) (ties is_before p q)
    (λ e. subst (λ r. ties is_before p r ≡ true) (sym ((signed_items q p).0 e))
    (self_tie is_before (order_by (λ r. r)) p))
    (λ e. let parts = ties_parts is_before p q e in
    (signed_items q p).1 (sym (same_path p q parts.0 parts.1)))
