-- The first file of each number.
use Rattle.std.proofs.Common.{◌≡◌, ℕ, ◌+◌, ◌<◌, ◌≤◌, ◌==◌, ◌||◌, Bool, true, false, cond, List, [], ◌∷◌, ◌++◌, length, get_or, set, take, Option, Some, None, refl, sym, ap, ◌∙◌, inl, inr}
use Rattle.std.specs.List.{find}
use Rattle.std.specs.Option.{option_or}
use Rattle.std.proofs.lemmas.Bool.Decides.{eqb_tells}
use Rattle.std.proofs.lemmas.Grind.{get_or-set_at}
use Rattle.std.proofs.lemmas.List.{get_or-set_other, get_or_default, take_more}
use Rattle.std.proofs.lemmas.List.Folds.{find-append}

pub or_none : (x : Option ℕ) → option_or x None ≡ x
or_none None = refl
or_none (Some f) = refl

-- The file is noted for one number, where none is yet.
pub one_first : (first : List (Option ℕ)) (q file n : ℕ) (old : Option ℕ) → q < length first → get_or first q old ≡ old
    → get_or (set first q (option_or old (Some file))) n None ≡ option_or (get_or first n None) (cond (n == q) (Some file) None)
one_first first q file n old below is = elim (eqb_tells n q) [
  | inl (equal, same) ↦
      get_or-set_at first q n (option_or old (Some file)) None same below
      ∙ ap (λ o. option_or o (Some file)) (sym is ∙ get_or_default first q old None below ∙ ap (λ m. get_or first m None) (sym same))
      ∙ ap (λ e. option_or (get_or first n None) (cond e (Some file) None)) (sym equal)
  | inr (unequal, other) ↦
      get_or-set_other first q n (option_or old (Some file)) None other
      ∙ sym (or_none (get_or first n None))
      ∙ ap (λ e. option_or (get_or first n None) (cond e (Some file) None)) (sym unequal)
]

-- The way goes on outwards.
pub first_outwards : (x y : Option ℕ) (file : ℕ) (e w way : Bool) (all : Option ℕ) → y ≡ option_or x (cond e (Some file) None) → way ≡ (e || w)
    → option_or x (cond way (Some file) None) ≡ all → option_or y (cond w (Some file) None) ≡ all
first_outwards x y file e w way all one goes before =
    ap (λ o. option_or o (cond w (Some file) None)) one ∙ both x e w ∙ ap (λ b. option_or x (cond b (Some file) None)) (sym goes) ∙ before
  where
    both : (o : Option ℕ) (b c : Bool) → option_or (option_or o (cond b (Some file) None)) (cond c (Some file) None) ≡ option_or o (cond (b || c) (Some file) None)
    both (Some f) b c = refl
    both None true c = refl
    both None false c = refl

pub first_left : (x : Option ℕ) (file : ℕ) (way : Bool) (all : Option ℕ) → way ≡ false → option_or x (cond way (Some file) None) ≡ all → x ≡ all
first_left x file way all none before = sym (or_none x) ∙ ap (λ b. option_or x (cond b (Some file) None)) (sym none) ∙ before

-- ---- in an order

-- what is found in one element more
pub found_more : (p : ℕ → Bool) (order : List ℕ) (i x : ℕ) → i < length order → x ≡ get_or order i x
    → find p (take (i + 1) order) ≡ option_or (find p (take i order)) (cond (p x) (Some x) None)
found_more p order i x below is =
    ap (find p) (take_more order i x below ∙ ap (λ y. take i order ++ y ∷ []) (sym is)) ∙ find-append p (take i order) (x ∷ [])
