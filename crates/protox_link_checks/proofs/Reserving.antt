-- Reserved names: sets of them, and the faults of names that have them.
use Rattle.std.proofs.Common.{◌≡◌, ◌||◌, ◌==◌, ℕ, ◌+◌, Bool, true, false, cond, List, [], ◌∷◌, ◌++◌, OnOk, Result, length, bytes_eq, refl, sym, ap, ◌∙◌, append-nil, append_assoc, arith}
use Rattle.std.specs.Prelude.{ℤ}
use Rattle.std.specs.BTreeMap.{is_at}
use Rattle.std.specs.BTreeSet.{BTreeSet, insert_key}
use Rattle.std.specs.Borrow.{Bor}
use Rattle.std.specs.Cmp.Lexicographic.{slice_cmp}
use Rattle.std.specs.List.{list_any}
use Rattle.std.specs.Ordering.{is_eq, match_ordering, nat_cmp}
use Rattle.std.specs.declared.cmp.Ordering.{Ordering}
use Rattle.std.specs.declared.cmp.Ordering.TheVariants.{Less, Equal, Greater}
use Rattle.std.proofs.lemmas.Bool.Decides.{Decides-eqb}
use Rattle.std.proofs.lemmas.Map.Text.{is_eq-slice_cmp}
use Rattle.std.proofs.lemmas.Result.{on_ok_weaker}
use Rattle.std.proofs.lemmas.Slice.Eq.{bytes_eq-Decides}
use Rattle.protox_link_fault.specs.declared.LinkFault.{LinkFault}
use Rattle.protox_link_checks.specs.Reserved.{again_faults, is_among, name_faults, reserved_fault, reserved_faults}
use Rattle.protox_link_checks.specs.inner.Sets.{has}
use Rattle.protox_walk.specs.Declarations.{Path}

-- ---- sets

or_twice : (a b : Bool) → (a || (a || b)) ≡ (a || b)
or_twice true b = refl
or_twice false b = refl

or_swapped : (a b c : Bool) → (a || (b || c)) ≡ (b || (a || c))
or_swapped true true c = refl
or_swapped true false c = refl
or_swapped false b c = refl

or_turned : (a b : Bool) → (a || b) ≡ (b || a)
or_turned true true = refl
or_turned true false = refl
or_turned false true = refl
or_turned false false = refl

module _ (q : List ℕ) where
  abbrev at : Bor (List ℕ) → Bool
  at = is_at (λ key. slice_cmp nat_cmp q key.now)

  same_at : (key other : Bor (List ℕ)) → slice_cmp nat_cmp key.now other.now ≡ Equal → at key ≡ at other
  same_at key other same =
      ap (λ (name : List ℕ). is_eq (slice_cmp nat_cmp q name)) ((bytes_eq-Decides key.now other.now).0 (sym (is_eq-slice_cmp key.now other.now) ∙ ap is_eq same))

  placed : (key x : Bor (List ℕ)) (xs : List (Bor (List ℕ))) (order : Ordering) → slice_cmp nat_cmp key.now x.now ≡ order
      → list_any at (insert_key (λ x y. slice_cmp nat_cmp x.now y.now) xs key) ≡ (at key || list_any at xs)
      → list_any at (match_ordering order (key ∷ x ∷ xs) (x ∷ xs) (x ∷ insert_key (λ x y. slice_cmp nat_cmp x.now y.now) xs key)) ≡ (at key || (at x || list_any at xs))
  placed key x xs Less is rest = refl
  placed key x xs Equal is rest =
      sym (or_twice (at x) (list_any at xs)) ∙ ap (λ b. b || (at x || list_any at xs)) (sym (same_at key x is))
  placed key x xs Greater is rest =
      ap (λ b. at x || b) rest ∙ or_swapped (at x) (at key) (list_any at xs)

  -- a set with one name more
  inserted : (key : Bor (List ℕ)) (keys : List (Bor (List ℕ))) → list_any at (insert_key (λ x y. slice_cmp nat_cmp x.now y.now) keys key) ≡ (at key || list_any at keys)
  inserted key [] = refl
  inserted key (x ∷ xs) = placed key x xs (slice_cmp nat_cmp key.now x.now) refl (inserted key xs)

  pub name_added : (key : Bor (List ℕ)) (keys new : List (Bor (List ℕ))) → new ≡ insert_key (λ x y. slice_cmp nat_cmp x.now y.now) keys key → list_any at new ≡ (list_any at keys || bytes_eq q key.now)
  name_added key keys new is =
      ap (list_any at) is ∙ inserted key keys ∙ or_turned (at key) (list_any at keys) ∙ ap (λ b. list_any at keys || b) (is_eq-slice_cmp q key.now)

-- ---- tests

module _ (file : ℕ) (path : Path) (tag : ℤ) where
  -- By tests that agree the same is told.
  pub same_test : (test other : List ℕ → Bool) (n : ℕ) (names : List (List ℕ)) → ((name : List ℕ) → test name ≡ other name) → reserved_faults file path tag test n names ≡ reserved_faults file path tag other n names
  same_test test other n [] same = refl
  same_test test other n (name ∷ more) same =
      ap (λ b. cond b (reserved_fault file path tag n ∷ []) [] ++ reserved_faults file path tag test (n + 1) more) (same name)
      ∙ ap (λ (rest : List LinkFault). cond (other name) (reserved_fault file path tag n ∷ []) [] ++ rest) (same_test test other (n + 1) more same)

  -- By a test that no name passes nothing is told.
  pub none_reserved : (n : ℕ) (names : List (List ℕ)) → reserved_faults file path tag (is_among []) n names ≡ []
  none_reserved n [] = refl
  none_reserved n (name ∷ more) = none_reserved (n + 1) more

  -- Where nothing is reserved, nothing is told.
  pub nothing_reserved : (reserved names : List (List ℕ)) (faults : List LinkFault) → (length reserved == 0) ≡ true → faults ≡ faults ++ name_faults file path tag reserved names
  nothing_reserved [] names faults none = sym (append-nil faults) ∙ ap (λ (told : List LinkFault). faults ++ told) (sym (none_reserved 0 names))
  nothing_reserved (first ∷ more) names faults none = absurd (omega (arith, (Decides-eqb (length (first ∷ more)) 0).0 none))

  -- First those that are reserved again are told, and then those that have a reserved name.
  pub names_told : {T E : Type 0} (r : Result T E) (reserved names : List (List ℕ)) (set : BTreeSet (Bor (List ℕ))) (before between after : List LinkFault)
      → ((q : List ℕ) → has set q ≡ is_among reserved q)
      → between ≡ before ++ again_faults file path [] 0 reserved
      → OnOk r (after ≡ between ++ reserved_faults file path tag (has set) 0 names)
      → OnOk r (after ≡ before ++ name_faults file path tag reserved names)
  names_told r reserved names set before between after same again =
      on_ok_weaker r (λ own. own
      ∙ ap (λ (faults : List LinkFault). faults ++ reserved_faults file path tag (has set) 0 names) again
      ∙ append_assoc before (again_faults file path [] 0 reserved) (reserved_faults file path tag (has set) 0 names)
      ∙ ap (λ (told : List LinkFault). before ++ (again_faults file path [] 0 reserved ++ told)) (same_test (has set) (is_among reserved) 0 names same))
