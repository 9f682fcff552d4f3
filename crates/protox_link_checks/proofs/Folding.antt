-- Faults of declarations, one behind another.
use Rattle.std.proofs.Common.{◌≡◌, ℕ, ◌+◌, ◌<◌, ◌≤◌, List, OnOk, [], take, Result, ◌∷◌, ◌++◌, drop, get_or, length, sym, ap, ◌∙◌, append-nil, append_assoc}
use Rattle.std.specs.Prelude.{ℤ}
use Rattle.std.specs.List.{flat_map}
use Rattle.std.proofs.lemmas.Grind.{flat_map-append}
use Rattle.std.proofs.lemmas.List.{drop_all, drop_more, flat_map_more, take_all, take_more}
use Rattle.std.proofs.lemmas.Result.{on_ok_weaker}
use Rattle.protox_walk.specs.Declarations.{At, Path, all_in, nth, numbered}
use Rattle.protox_walk.specs.Parts.{Declared}

module _ {F : Type 0} (wrong : Declared → List F) where
  -- what a sibling declares, and then those behind it
  pub sibling_checked : {A : Type 0} (declares : A → List ℕ → At) (scope : List ℕ) (path place : Path) (tag : ℤ) (siblings : List A) (i : ℕ) (x : A) (before after : List F)
      → i < length siblings → x ≡ get_or siblings i x → place ≡ nth path tag i
      → after ≡ before ++ flat_map wrong (declares x scope place)
      → after ++ flat_map wrong (numbered path tag (i + 1) (all_in declares scope (drop (i + 1) siblings))) ≡ before ++ flat_map wrong (numbered path tag i (all_in declares scope (drop i siblings)))
  sibling_checked {A = A} declares scope path place tag siblings i x before after below is at added =
      let rest = numbered path tag (i + 1) (all_in declares scope (drop (i + 1) siblings)) in
      ap (λ (faults : List F). faults ++ flat_map wrong rest) (added ∙ ap (λ (p : Path). before ++ flat_map wrong (declares x scope p)) at)
      ∙ append_assoc before (flat_map wrong (declares x scope (nth path tag i))) (flat_map wrong rest)
      ∙ ap (λ (faults : List F). before ++ faults) (sym (flat_map-append wrong (declares x scope (nth path tag i)) rest))
      ∙ ap (λ (left : List A). before ++ flat_map wrong (numbered path tag i (all_in declares scope left))) (sym (drop_more siblings i x below ∙ ap (λ (y : A). y ∷ drop (i + 1) siblings) (sym is)))

  -- Behind the last sibling there is none.
  pub siblings_checked : {A : Type 0} (declares : A → List ℕ → At) (scope : List ℕ) (path : Path) (tag : ℤ) (siblings : List A) (i : ℕ) (faults : List F)
      → length siblings ≤ i → faults ++ flat_map wrong (numbered path tag i (all_in declares scope (drop i siblings))) ≡ faults
  siblings_checked {A = A} declares scope path tag siblings i faults end =
      ap (λ (left : List A). faults ++ flat_map wrong (numbered path tag i (all_in declares scope left))) (drop_all i siblings end) ∙ append-nil faults

  -- ---- what calls that may fail add

  -- first these, and then those
  pub then_checked : {T E : Type 0} (r : Result T E) (before between after : List F) (xs ys : List Declared) → between ≡ before ++ flat_map wrong xs
      → OnOk r (after ≡ between ++ flat_map wrong ys) → OnOk r (after ≡ before ++ flat_map wrong (xs ++ ys))
  then_checked r before between after xs ys is =
      on_ok_weaker r (λ rest. rest ∙ ap (λ faults. faults ++ flat_map wrong ys) is ∙ append_assoc before (flat_map wrong xs) (flat_map wrong ys) ∙ ap (λ faults. before ++ faults) (sym (flat_map-append wrong xs ys)))

-- ---- lists of what is told of each element

-- what is told of one more
pub one_more_told : {X F : Type 0} (told : X → List F) (start before after : List F) (xs : List X) (i : ℕ) (x : X)
    → i < length xs → x ≡ get_or xs i x → before ≡ start ++ flat_map told (take i xs) → after ≡ before ++ told x
    → after ≡ start ++ flat_map told (take (i + 1) xs)
one_more_told {X = X} {F = F} told start before after xs i x below is so_far added =
    added
    ∙ ap (λ (fs : List F). fs ++ told x) so_far
    ∙ flat_map_more told start (take i xs) x
    ∙ ap (λ (y : X). start ++ flat_map told (take i xs ++ y ∷ [])) is
    ∙ ap (λ (ys : List X). start ++ flat_map told ys) (sym (take_more xs i x below))

pub all_told : {X F : Type 0} (told : X → List F) (start after : List F) (xs : List X) (i : ℕ) → length xs ≤ i
    → after ≡ start ++ flat_map told (take i xs) → after ≡ start ++ flat_map told xs
all_told {X = X} told start after xs i end so_far = so_far ∙ ap (λ (ys : List X). start ++ flat_map told ys) (take_all i xs end)
