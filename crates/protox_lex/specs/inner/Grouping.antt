-- Several lists that are stored one after another in a single list.
use Rattle.std.specs.Prelude.{◌≡◌, ℕ, zero, suc, Bool, true, ◌≤◌, List, [], ◌∷◌, drop, slice_range, refl}
use Rattle.std.specs.Coded.{Coded, code_by, coded×, coded_list}

-- The lists that have ended, and the list that has begun.
pub record Grouped (T : Type 0) : Type 0 where
  pub ended : List (List T)
  pub begun : List T

-- Such a group is coded as the pair of both.
abbrev pub grouped_code : {T : Type 0} → Coded T → Coded (Grouped T)
grouped_code {T} code =
    code_by (List (List T) × List T) (coded× (coded_list (coded_list code)) (coded_list code)) (λ g. (g.ended, g.begun)) (λ p. record { ended = p.0; begun = p.1 }) (λ _. refl)

-- The lists that end at these places. The first begins at `from`.
abbrev pub split : {T : Type 0} → ℕ → List T → List ℕ → List (List T)
split from items [] = []
split from items (end ∷ ends) = slice_range items from end ∷ split end items ends

-- The place where the last list ends.
abbrev pub last_end : ℕ → List ℕ → ℕ
last_end from [] = from
last_end from (end ∷ ends) = last_end end ends

-- No list ends before it begins, and none ends after the last item.
abbrev pub EndWithin : ℕ → ℕ → List ℕ → Type 0
EndWithin from size [] = from ≤ size
EndWithin from size (end ∷ ends) = (from ≤ end) × EndWithin end size ends

-- The items, cut into lists that end at these places.
abbrev pub grouped : {T : Type 0} → List T → List ℕ → Grouped T
grouped items ends = record { ended = split 0 items ends; begun = drop (last_end 0 ends) items }

-- These lists, with n empty ones in front.
abbrev pub empty_and : {T : Type 0} → ℕ → List (List T) → List (List T)
empty_and zero xss = xss
empty_and (suc n) xss = [] ∷ empty_and n xss

-- The group, with n empty lists in front.
abbrev pub behind_empty : {T : Type 0} → ℕ → Grouped T → Grouped T
behind_empty n g = record g { ended = empty_and n g.ended }

-- While lists are only counted, the group behind them is new: nothing was added, not even an end.
abbrev pub IsCounted : {T : Type 0} → Bool → Grouped T → Type 0
IsCounted counts g = counts ≡ true → g ≡ record { ended = []; begun = [] }
