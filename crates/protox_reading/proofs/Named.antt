-- What a statement gives to the last field of its name is said where the name leads.
use Rattle.std.proofs.Common.{◌≡◌, ℕ, Bool, true, false, List, [], ◌∷◌, ◌++◌, refl, sym, ◌∙◌, append-nil, Option, None}
use Rattle.std.specs.Prelude.{◌==◌, if◌then◌else◌}
use Rattle.std.specs.Option.{option_map_or}
use Rattle.protox_interpret.specs.Statements.{numbers_of}
use Rattle.protox_message_bytes.specs.Parts.{Parts}
use Rattle.protox_reading.specs.Fields.{Payload}
use Rattle.protox_reading.specs.Laws.{NamedValues}
use Rattle.protox_reading.specs.Statements.{behind, within}
use Rattle.protox_reading.specs.Values.{values_at}
use Rattle.protox_setting_bytes.specs.declared.step.Step.{Step}

module _ (given : Parts) where
  abbrev rest_said : Option (List ℕ) → List Payload
  rest_said rest = option_map_or (λ rest. values_at rest given) rest []

  nothing_left : (front : List ℕ) → rest_said (behind front []) ≡ []
  nothing_left [] = refl
  nothing_left (n ∷ front) = refl

  pub values_named : (outer : List Step) (path : List ℕ) → values_at path (within outer given) ≡ rest_said (behind (numbers_of outer) path)
  values_named [] path = refl
  values_named (step ∷ more) [] = refl
  values_named (step ∷ more) (n ∷ []) = go (step.number == n)
    where
      go : (b : Bool) → [] ≡ rest_said (if b then behind (numbers_of more) [] else None)
      go true = sym (nothing_left (numbers_of more))
      go false = refl
  values_named (step ∷ more) (n ∷ next ∷ path) = go (step.number == n) (values_named more (next ∷ path))
    where
      go : (b : Bool) → values_at (next ∷ path) (within more given) ≡ rest_said (behind (numbers_of more) (next ∷ path))
          → (if b then values_at (next ∷ path) (within more given) else []) ++ [] ≡ rest_said (if b then behind (numbers_of more) (next ∷ path) else None)
      go true e = append-nil (values_at (next ∷ path) (within more given)) ∙ e
      go false e = refl

pub named_values : NamedValues
named_values outer given path = values_named given outer path
