-- Folds over declarations, one part behind another, and over like siblings.
use Rattle.std.proofs.Common.{◌≡◌, ℕ, ◌+◌, ◌<◌, ◌≤◌, List, OnOk, Result, [], ◌∷◌, ◌++◌, ap, append-nil, append_assoc, drop, get_or, length, refl, subst, sym, ◌∙◌}
use Rattle.std.proofs.lemmas.List.{drop_all, drop_more}
use Rattle.std.proofs.lemmas.Result.{on_ok_weaker}
use Rattle.std.specs.List.{FoldsTo}
use Rattle.std.specs.Prelude.{ℤ}
use Rattle.protox_walk.specs.Declarations.{At, Path, all_in, nth, numbered}
use Rattle.protox_walk.specs.Parts.{Declared}

-- a fold behind another
pub folds-append : {V X : Type 0} (gives : V → X → V → Type 0) (a : V) (xs : List X) (b : V) (ys : List X) (c : V) → FoldsTo gives a xs b → FoldsTo gives b ys c
    → FoldsTo gives a (xs ++ ys) c
folds-append {V = V} gives a [] b ys c p q = subst (λ (v : V). FoldsTo gives v ys c) (sym p) q
folds-append gives a (x ∷ xs) b ys c p q = (p.0, p.1, folds-append gives p.0 xs b ys c p.2 q)

-- the same, where the last part is visited by a call that may fail
pub folds-last : {V X T E : Type 0} (gives : V → X → V → Type 0) (a : V) (xs : List X) (b : V) (ys : List X) (c : V) (r : Result T E) → FoldsTo gives a xs b
    → OnOk r (FoldsTo gives b ys c) → OnOk r (FoldsTo gives a (xs ++ ys) c)
folds-last gives a xs b ys c r front = on_ok_weaker r (folds-append gives a xs b ys c front)

pub ruleset folds = (folds-last)

-- the declarations of a sibling, and of those behind it
pub folds-sibling : {V A : Type 0} (gives : V → Declared → V → Type 0) (declares : A → List ℕ → At) (scope within : List ℕ) (path place : Path) (tag : ℤ) (siblings : List A)
    (i : ℕ) (x : A) (mid new end : V)
    → i < length siblings → x ≡ get_or siblings i x → within ≡ scope → place ≡ nth path tag i
    → FoldsTo gives mid (declares x within place) new
    → FoldsTo gives new (numbered path tag (i + 1) (all_in declares scope (drop (i + 1) siblings))) end
    → FoldsTo gives mid (numbered path tag i (all_in declares scope (drop i siblings))) end
folds-sibling {A = A} gives declares scope within path place tag siblings i x mid new end below is in_scope at here rest =
    subst (λ (left : List A). FoldsTo gives mid (numbered path tag i (all_in declares scope left)) end)
    (sym (drop_more siblings i x below ∙ ap (λ (y : A). y ∷ drop (i + 1) siblings) (sym is)))
    (folds-append gives mid (declares x scope (nth path tag i)) new _ end
    (subst (λ (p : Path). FoldsTo gives mid (declares x scope p) new) at (subst (λ (s : List ℕ). FoldsTo gives mid (declares x s place) new) in_scope here)) rest)

-- Behind the last sibling there is none.
pub folds-done : {V A : Type 0} (gives : V → Declared → V → Type 0) (declares : A → List ℕ → At) (scope : List ℕ) (path : Path) (tag : ℤ) (siblings : List A) (i : ℕ) (v : V)
    → length siblings ≤ i → FoldsTo gives v (numbered path tag i (all_in declares scope (drop i siblings))) v
folds-done gives declares scope path tag siblings i v end = rw (drop_all i siblings end) refl

-- what is appended at each step of a fold, over all steps
pub folds-appended : {V X : Type 0} (kept : V → List X) (a : V) (xs : List X) (b : V) → FoldsTo (λ old x new. kept new ≡ kept old ++ x ∷ []) a xs b → kept b ≡ kept a ++ xs
folds-appended kept a [] b p = ap kept (sym p) ∙ sym (append-nil (kept a))
folds-appended {X = X} kept a (x ∷ xs) b p =
    folds-appended kept p.0 xs b p.2 ∙ ap (λ (l : List X). l ++ xs) p.1 ∙ append_assoc (kept a) (x ∷ []) xs
