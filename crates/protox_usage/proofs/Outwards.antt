-- The way outwards from a scope, and what a search meets on it.
use Rattle.std.proofs.Common.{◌≡◌, ◌+◌, ℕ, true, false, Bor, List, [], ◌∷◌, ◌++◌, append-nil, fold, length, Option, None, Some, ap, sym, ◌∙◌}
use Rattle.std.proofs.lemmas.Bool.{false≢true, true≢false}
use Rattle.std.proofs.lemmas.Grind.{fold-append}
use Rattle.protox_names.specs.Names.{scopes}
use Rattle.protox_scopes.specs.declared.step.Step.{Step}
use Rattle.protox_scopes.specs.declared.step.Step.TheVariants.{Ends, GoesOn}
use Rattle.protox_usage.specs.Met.{if_goes_on}
use Rattle.protox_usage.specs.Searched.{ends}

-- how far it is to the nameless scope, at most
abbrev pub way : Option (Bor (List ℕ)) → ℕ
way None = 0
way (Some scope) = length scope.now + 1

-- the scope, and those around it
abbrev pub around : Option (Bor (List ℕ)) → List (List ℕ)
around None = []
around (Some scope) = scope.now ∷ scopes scope.now

-- A search that goes on meets what is met in the scope, and then what is met further outwards.
pub goes_on : {S : Type 0} (f : S → ℕ → S) (s t : S) (here more : List ℕ) (step : Step ℕ) → ends step ≡ false → t ≡ fold f s here
    → fold f s (here ++ if_goes_on step more) ≡ fold f t more
goes_on f s t here more (Ends found) is so = absurd (true≢false is)
goes_on {S = S} f s t here more GoesOn is so = fold-append f s here more ∙ ap (λ (u : S). fold f u more) (sym so)

-- One that ends meets no more.
pub ended : {S : Type 0} (f : S → ℕ → S) (s t : S) (here more : List ℕ) (step : Step ℕ) → ends step ≡ true → t ≡ fold f s here
    → fold f s (here ++ if_goes_on step more) ≡ t
ended f s t here more (Ends found) is so = ap (fold f s) (append-nil here) ∙ sym so
ended f s t here more GoesOn is so = absurd (false≢true is)
