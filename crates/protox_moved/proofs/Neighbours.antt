-- Two neighbours change places, of which the second has the smaller path. Those of one path stay in
-- their order.
use Rattle.std.proofs.Common.{◌≡◌, ℕ, zero, suc, ◌<◌, true, cond, List, [], ◌∷◌, length, get_or, refl, sym, ap, subst, ◌∙◌, arith}
use Rattle.std.proofs.Math.ListN.{set}
use Rattle.std.proofs.lemmas.Bool.{false≢true}
use Rattle.std.specs.List.{filter}
use Rattle.std.specs.List.Sorted.{IsStableBy, ties}
use Rattle.protox_descriptor.specs.declared.descriptor.source_code_info.Location.{Location}
use Rattle.protox_moved.specs.inner.Sorting.{comes_before}
use Rattle.protox_moved.proofs.SortedList.{order, swapped}
use Rattle.protox_moved.proofs.Ties.{ties_parts}

-- no third one has the path of both
apart : (x y z : Location) → comes_before y x ≡ true → ties comes_before z y ≡ true → ties comes_before z x ≡ true → ⊥
apart x y z less a b =
    false≢true (sym (order.chain y z x (ties_parts comes_before z y a).1 (ties_parts comes_before z x b).0) ∙ less)

any_default : (xs : List Location) (i : ℕ) (d e : Location) → i < length xs → get_or xs i d ≡ get_or xs i e
any_default [] i d e within = absurd (omega arith)
any_default (x ∷ xs) zero d e within = refl
any_default (x ∷ xs) (suc i) d e within = any_default xs i d e (omega arith)

pub flipped : (xs : List Location) (i : ℕ) (d : Location) → suc i < length xs
    → comes_before (get_or xs (suc i) d) (get_or xs i d) ≡ true
    → IsStableBy comes_before xs (set (set xs i (get_or xs (suc i) d)) (suc i) (get_or xs i d))
flipped [] i d within less z = absurd (omega arith)
flipped (x ∷ []) i d within less z = absurd (omega arith)
flipped (x ∷ y ∷ zs) zero d within less z =
    swapped y x (filter (ties comes_before z) zs) (ties comes_before z y) (ties comes_before z x) (apart x y z less)
flipped (x ∷ y ∷ zs) (suc i) d within less z =
    ap (λ rest. cond (ties comes_before z x) (x ∷ rest) rest) (flipped (y ∷ zs) i d (omega arith) less z)

pub stable_through : (xs ys zs : List Location) → IsStableBy comes_before xs ys → IsStableBy comes_before ys zs → IsStableBy comes_before xs zs
stable_through xs ys zs first second z = second z ∙ first z

-- the same of the elements at two indices
pub flipped_at : (xs ys : List Location) (i j : ℕ) (one other : Location) → suc i ≡ j → j < length xs
    → one ≡ get_or xs j one → other ≡ get_or xs i other → comes_before one other ≡ true
    → ((d : Location) → ys ≡ set (set xs i (get_or xs j d)) j (get_or xs i d))
    → IsStableBy comes_before xs ys
flipped_at xs ys i j one other next within at_j at_i less is =
    let first : get_or xs j one ≡ one = sym at_j in
    let second : get_or xs i one ≡ other = any_default xs i one other (omega arith) ∙ sym at_i in
    let smaller : comes_before (get_or xs j one) (get_or xs i one) ≡ true =
    ap (λ l. comes_before l (get_or xs i one)) first ∙ ap (comes_before one) second ∙ less in
    subst
    (λ n. n < length xs → comes_before (get_or xs n one) (get_or xs i one) ≡ true
    → ys ≡ set (set xs i (get_or xs n one)) n (get_or xs i one) → IsStableBy comes_before xs ys)
    next
    (λ below less same. subst (IsStableBy comes_before xs) (sym same) (flipped xs i one below less))
    within smaller (is one)
