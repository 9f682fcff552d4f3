-- Marks for the files of numbers.
use Rattle.std.proofs.Common.{◌≡◌, ◌<◌, ◌==◌, ◌||◌, ℕ, Bool, true, false, List, [], ◌∷◌, length, get_or, set, fold, Option, Some, None, refl, sym, ap, ◌∙◌, inl, inr, arith}
use Rattle.std.specs.List.{list_any}
use Rattle.std.specs.Option.{option_map_or}
use Rattle.std.proofs.lemmas.Bool.Decides.{eqb_tells}
use Rattle.std.proofs.lemmas.Grind.{get_or-set_at}
use Rattle.std.proofs.lemmas.List.{get_or-set_other, length-set}
use Rattle.protox_usage.specs.Searched.{with_mark}

or_false : (b : Bool) → b ≡ (b || false)
or_false true = refl
or_false false = refl

or_true : (b : Bool) → true ≡ (b || true)
or_true true = refl
or_true false = refl

or_assoc : (a b c : Bool) → ((a || b) || c) ≡ (a || (b || c))
or_assoc true b c = refl
or_assoc false b c = refl

-- ---- one mark

marked : (marks : List Bool) (o : Option ℕ) (n : ℕ) → n < length marks
    → get_or (with_mark marks o) n false ≡ (get_or marks n false || option_map_or (λ f. f == n) o false)
marked marks None n below = or_false (get_or marks n false)
marked marks (Some f) n below = elim (eqb_tells f n) [
  | inl (equal, same) ↦
      ap (λ m. get_or (set marks f true) m false) (sym same) ∙ get_or-set_at marks f f true false refl (omega (arith, below, same))
      ∙ or_true (get_or marks n false) ∙ ap (λ e. get_or marks n false || e) (sym equal)
  | inr (unequal, other) ↦
      get_or-set_other marks f n true false (λ same. other (sym same)) ∙ or_false (get_or marks n false) ∙ ap (λ e. get_or marks n false || e) (sym unequal)
]

marked_length : (marks : List Bool) (o : Option ℕ) → length (with_mark marks o) ≡ length marks
marked_length marks None = refl
marked_length marks (Some f) = length-set marks f true

-- ---- all marks

-- a file is marked if it was, or if it is that of one of the numbers
pub noted_marks : (file : ℕ → Option ℕ) (marks : List Bool) (numbers : List ℕ) (n : ℕ) → n < length marks
    → get_or (fold (λ ms m. with_mark ms (file m)) marks numbers) n false ≡ (get_or marks n false || list_any (λ m. option_map_or (λ f. f == n) (file m) false) numbers)
noted_marks file marks [] n below = or_false (get_or marks n false)
noted_marks file marks (m ∷ numbers) n below =
    noted_marks file (with_mark marks (file m)) numbers n (omega (arith, below, marked_length marks (file m)))
    ∙ ap (λ b. b || list_any (λ k. option_map_or (λ f. f == n) (file k) false) numbers) (marked marks (file m) n below)
    ∙ or_assoc (get_or marks n false) (option_map_or (λ f. f == n) (file m) false) (list_any (λ k. option_map_or (λ f. f == n) (file k) false) numbers)
