-- Steps through a tree of paths, and one step more.
use Rattle.std.proofs.Common.{◌≡◌, ◌⊎◌, inl, inr, ◌≤◌, ◌+◌, ℕ, zero, suc, true, false, cond, List, [], ◌∷◌, ◌++◌, length, Option, Some, None, IfSome, is_some, refl, sym, ap, subst, ◌∙◌, arith, length-append, fold}
use Rattle.std.specs.BTreeMap.{is_at}
use Rattle.std.specs.Cmp.{Equal-is}
use Rattle.std.specs.Option.{unwrap_or}
use Rattle.std.specs.Ordering.{nat_cmp}
use Rattle.std.specs.declared.cmp.Ordering.TheVariants.{Equal}
use Rattle.std.proofs.lemmas.Bool.{cases_Bool, false≢true}
use Rattle.std.proofs.lemmas.Bool.Decides.{nat_tests}
use Rattle.std.proofs.lemmas.List.{append-nil, append_assoc}
use Rattle.std.proofs.lemmas.List.Sums.{fold-append}
use Rattle.std.proofs.lemmas.Map.Lookups.{exact_pairs, exact_unsigned}
use Rattle.std.proofs.lemmas.Option.{none-some, same_Some}
use Rattle.protox_set_paths.specs.Paths.{is_set, path_of}
use Rattle.protox_set_paths.specs.inner.Steps.{IsTree, path_behind, paths_of, step_cmp}
use Rattle.protox_set_paths.proofs.Places.{before_or_last, by_last, get_last, goes_on, has_path, never_true, not_empty, path_kept, same_ends, set_by, set_there}

-- ---- the paths of steps

as_many_on : (steps : List (ℕ × ℕ)) (paths : List (List ℕ))
    → length (fold (λ before step. before ++ path_behind before step ∷ []) paths steps) ≡ length paths + length steps
as_many_on [] paths = omega arith
as_many_on (step ∷ steps) paths =
    omega (arith, as_many_on steps (paths ++ path_behind paths step ∷ []), length-append paths (path_behind paths step ∷ []))

pub as_many : (steps : List (ℕ × ℕ)) → length (paths_of steps) ≡ length steps
as_many steps = omega (arith, as_many_on steps [])

pub one_step_more : (steps : List (ℕ × ℕ)) (step : ℕ × ℕ) (path : List ℕ) → path_of (paths_of steps) step.0 ≡ Some path
    → paths_of (steps ++ step ∷ []) ≡ paths_of steps ++ (path ++ step.1 ∷ []) ∷ []
one_step_more steps step path at =
    fold-append (λ before step. before ++ path_behind before step ∷ []) [] steps (step ∷ [])
    ∙ ap (λ found. paths_of steps ++ (unwrap_or found [] ++ step.1 ∷ []) ∷ []) at

-- ---- the order of the steps

is_step : (step other : ℕ × ℕ) → is_at (step_cmp step) other ≡ true → step ≡ other
is_step step other h = exact_pairs nat_cmp nat_cmp exact_unsigned exact_unsigned step other ((Equal-is (step_cmp step other)).0 h)

nat_cmp_same : (n : ℕ) → nat_cmp n n ≡ Equal
nat_cmp_same n = grind (arith, nat_tests)

step_itself : (step : ℕ × ℕ) → is_at (step_cmp step) step ≡ true
step_itself step = rw (nat_cmp_same step.0) (rw (nat_cmp_same step.1) refl)

-- ---- in a tree

module _ (next : ℕ × ℕ → Option ℕ) (paths : List (List ℕ)) (tree : IsTree next paths) where
  -- the empty path has no other place
  only_first : (n : ℕ) → path_of paths n ≡ Some [] → n ≡ 0
  only_first zero at = refl
  only_first (suc k) at = absurd (tree.none_empty k at)

  -- no path has two places
  pub one_place : (path : List ℕ) (m n : ℕ) → path_of paths m ≡ Some path → path_of paths n ≡ Some path → m ≡ n
  one_place = by_last (λ path. (m n : ℕ) → path_of paths m ≡ Some path → path_of paths n ≡ Some path → m ≡ n)
      (λ m n at at'. only_first m at ∙ sym (only_first n at'))
      (λ path number same m n at at'.
      let (from, front, step) = tree.reached m path number at in
      let (from', front', step') = tree.reached n path number at' in
      same_Some m n (sym step ∙ ap (λ f. next (f, number)) (same from from' front front') ∙ step'))

  -- each front of a path has a place
  pub front_reached : (front rest : List ℕ) (n : ℕ) → path_of paths n ≡ Some (front ++ rest) → (from : ℕ) × (path_of paths from ≡ Some front)
  front_reached front = by_last (λ rest. (n : ℕ) → path_of paths n ≡ Some (front ++ rest) → (from : ℕ) × (path_of paths from ≡ Some front))
      (λ n at. (n, at ∙ ap (λ p. Some p) (append-nil front)))
      (λ rest number reach n at.
      let (from, before, step) = tree.reached n (front ++ rest) number (at ∙ ap (λ p. Some p) (sym (append_assoc front rest (number ∷ [])))) in
      reach from before)

  -- where a step leads
  pub leads_to : (place number to : ℕ) (path : List ℕ) → next (place, number) ≡ Some to → path_of paths place ≡ Some path
      → path_of paths to ≡ Some (path ++ number ∷ [])
  leads_to place number to path step at =
      let (front, from, there) = tree.leads place number to step in
      there ∙ ap (λ p. Some (p ++ number ∷ [])) (same_Some front path (sym from ∙ at))

  -- what no step leads to isn't set
  pub leads_nowhere : (place number : ℕ) (path : List ℕ) → next (place, number) ≡ None → path_of paths place ≡ Some path
      → is_set paths (path ++ number ∷ []) ≡ false
  leads_nowhere place number path none at = never_true (is_set paths (path ++ number ∷ [])) (λ set.
      let (k, whole, there, begun) = set_by paths (path ++ number ∷ []) set in
      let (rest, is) = goes_on (path ++ number ∷ []) whole begun in
      let (to, reached) = front_reached (path ++ number ∷ []) rest (suc k) (there ∙ ap (λ p. Some p) is) in
      let (from, before, step) = tree.reached to path number reached in
      none-some to (sym none ∙ ap (λ f. next (f, number)) (one_place path place from at before) ∙ step))

  -- what a search for a step says of the paths as they are seen
  module _ (seen : List (List ℕ)) (view : paths ≡ seen) where
    pub step_found : (place number : ℕ) (found : Option ℕ) → next (place, number) ≡ found
        → IfSome found (λ to. (path : List ℕ) → path_of seen place ≡ Some path → path_of seen to ≡ Some (path ++ number ∷ []))
    step_found place number None is = tt
    step_found place number (Some to) is = λ path at.
        sym (ap (λ l. path_of l to) view) ∙ leads_to place number to path is (ap (λ l. path_of l place) view ∙ at)

    pub step_set : (place number : ℕ) (found : Option ℕ) → next (place, number) ≡ found
        → (path : List ℕ) → path_of seen place ≡ Some path → is_some found ≡ is_set seen (path ++ number ∷ [])
    step_set place number None is path at =
        sym (sym (ap (λ l. is_set l (path ++ number ∷ [])) view) ∙ leads_nowhere place number path is (ap (λ l. path_of l place) view ∙ at))
    step_set place number (Some to) is path at =
        sym (set_there seen to path number (step_found place number (Some to) is path at))

    pub step_elsewhere : (place number : ℕ) (found : Option ℕ) → next (place, number) ≡ found → path_of seen place ≡ None → found ≡ None
    step_elsewhere place number None is past = refl
    step_elsewhere place number (Some to) is past =
        let (path, from, there) = tree.leads place number to is in
        absurd (none-some path (sym past ∙ sym (ap (λ l. path_of l place) view) ∙ from))

  -- ---- one step more

  module _ (place number : ℕ) (path : List ℕ) (at : path_of paths place ≡ Some path) (fresh : next (place, number) ≡ None) where
    module _ (next' : ℕ × ℕ → Option ℕ)
        (after : (q : ℕ × ℕ) → next' q ≡ cond (is_at (step_cmp (place, number)) q) (Some (suc (length paths))) (next q)) where
      step_kept : (q : ℕ × ℕ) (to : ℕ) → next q ≡ Some to → next' q ≡ Some to
      step_kept q to h = elim (cases_Bool (is_at (step_cmp (place, number)) q)) [
        | inl same ↦ absurd (none-some to (sym fresh ∙ ap next (is_step (place, number) q same) ∙ h))
        | inr other ↦ after q ∙ ap (λ b. cond b (Some (suc (length paths))) (next q)) other ∙ h
      ]

      step_before : (q : ℕ × ℕ) (to : ℕ) → next' q ≡ Some to
          → (next q ≡ Some to) ⊎ (((place, number) ≡ q) × (suc (length paths) ≡ to))
      step_before q to h = elim (cases_Bool (is_at (step_cmp (place, number)) q)) [
        | inl same ↦ inr (
          is_step (place, number) q same,
          same_Some (suc (length paths)) to (sym (after q ∙ ap (λ b. cond b (Some (suc (length paths))) (next q)) same) ∙ h),
        )
        | inr other ↦ inl (sym (after q ∙ ap (λ b. cond b (Some (suc (length paths))) (next q)) other) ∙ h)
      ]

      new_step : next' (place, number) ≡ Some (suc (length paths))
      new_step = after (place, number) ∙ ap (λ b. cond b (Some (suc (length paths))) (next (place, number))) (step_itself (place, number))

      abbrev more : List (List ℕ)
      more = paths ++ (path ++ number ∷ []) ∷ []

      reached_more : (to : ℕ) (front : List ℕ) (last : ℕ) → path_of more to ≡ Some (front ++ last ∷ [])
          → (from : ℕ) × (path_of more from ≡ Some front) × (next' (from, last) ≡ Some to)
      reached_more zero front last h = absurd (not_empty front last (same_Some [] (front ++ last ∷ []) h))
      reached_more (suc k) front last h = elim (before_or_last paths (path ++ number ∷ []) k (front ++ last ∷ []) h) [
        | inl before ↦
            let (from, there, step) = tree.reached (suc k) front last before in
            (from, path_kept paths ((path ++ number ∷ []) ∷ []) from front there, step_kept (from, last) (suc k) step)
        | inr new ↦
            let (fronts, lasts) = same_ends path front number last new.1 in (
              place,
              path_kept paths ((path ++ number ∷ []) ∷ []) place path at ∙ ap (λ p. Some p) fronts,
              ap (λ n. next' (place, n)) (sym lasts) ∙ new_step ∙ ap (λ n. Some (suc n)) (sym new.0),
            )
      ]

      pub tree_more : IsTree next' more
      tree_more = record {
        leads = λ from last to h. elim (step_before (from, last) to h) [
          | inl before ↦
              let (front, at', there) = tree.leads from last to before in
              (front, path_kept paths ((path ++ number ∷ []) ∷ []) from front at', path_kept paths ((path ++ number ∷ []) ∷ []) to (front ++ last ∷ []) there)
          | inr new ↦
              let places : place ≡ from = ap (λ s. s.0) new.0 in
              let numbers : number ≡ last = ap (λ s. s.1) new.0 in (
                path,
                ap (path_of more) (sym places) ∙ path_kept paths ((path ++ number ∷ []) ∷ []) place path at,
                ap (path_of more) (sym new.1) ∙ get_last paths (path ++ number ∷ []) ∙ ap (λ n. Some (path ++ n ∷ [])) numbers,
              )
        ];
        reached = reached_more;
        none_empty = λ k h. elim (before_or_last paths (path ++ number ∷ []) k [] h) [
          | inl before ↦ tree.none_empty k before
          | inr new ↦ not_empty path number (sym new.1)
        ];
      }

-- ---- a tree of steps, and one step more

module _ (steps : List (ℕ × ℕ)) (seen : List (List ℕ)) (view : paths_of steps ≡ seen) (place number : ℕ)
    (steps' : List (ℕ × ℕ)) (pushed : steps' ≡ steps ++ (place, number) ∷ []) where
  pub seen_more : (path : List ℕ) → path_of seen place ≡ Some path → paths_of steps' ≡ seen ++ (path ++ number ∷ []) ∷ []
  seen_more path at =
      ap paths_of pushed ∙ one_step_more steps (place, number) path (ap (λ l. path_of l place) view ∙ at)
      ∙ ap (λ l. l ++ (path ++ number ∷ []) ∷ []) view

  module _ (next : ℕ × ℕ → Option ℕ) (tree : IsTree next (paths_of steps)) (within : place ≤ length seen)
      (missing : (path : List ℕ) → path_of seen place ≡ Some path → false ≡ is_set seen (path ++ number ∷ [])) where
    fresh : (path : List ℕ) → path_of (paths_of steps) place ≡ Some path → (found : Option ℕ) → next (place, number) ≡ found → found ≡ None
    fresh path at None is = refl
    fresh path at (Some to) is =
        let there = leads_to next (paths_of steps) tree place number to path is at in
        absurd (false≢true (missing path (sym (ap (λ l. path_of l place) view) ∙ at) ∙ ap (λ l. is_set l (path ++ number ∷ [])) (sym view)
        ∙ set_there (paths_of steps) to path number there))

    pub still_tree : (next' : ℕ × ℕ → Option ℕ) (to : ℕ) → to ≡ length seen + 1
        → ((q : ℕ × ℕ) → next' q ≡ cond (is_at (step_cmp (place, number)) q) (Some to) (next q))
        → IsTree next' (paths_of steps')
    still_tree next' to is after =
        let (path, at) = has_path seen place within in
        let here : path_of (paths_of steps) place ≡ Some path = ap (λ l. path_of l place) view ∙ at in
        let last : to ≡ suc (length (paths_of steps)) = omega (arith, ap length view, is) in
        subst (IsTree next') (sym (ap paths_of pushed ∙ one_step_more steps (place, number) path here))
        (tree_more next (paths_of steps) tree place number path here (fresh path here (next (place, number)) refl) next'
        (λ q. after q ∙ ap (λ n. cond (is_at (step_cmp (place, number)) q) (Some n) (next q)) last))
