-- What the search for a name comes upon, on its way to what the name stands for.
use Rattle.std.specs.Prelude.{ℕ, not, ◌&&◌, List, [], ◌∷◌, ◌++◌, drop, Option, Some, None, if◌then◌else◌}
use Rattle.protox_names.specs.Names.{front, is_absolute, is_one_part, scopes, within}
use Rattle.protox_scopes.specs.Scopes.{holds_names, step}
use Rattle.protox_scopes.specs.declared.kind.Kind.{Kind}
use Rattle.protox_scopes.specs.declared.kind.Wanted.{Wanted}
use Rattle.protox_scopes.specs.declared.step.Step.{Step}
use Rattle.protox_scopes.specs.declared.step.Step.TheVariants.{Ends, GoesOn}
use Rattle.protox_usage.specs.Lookups.{Lookup}

abbrev pub if_found : Option ℕ → List ℕ
if_found None = []
if_found (Some n) = n ∷ []

-- what is met further outwards, where the search goes on
abbrev pub if_goes_on : Step ℕ → List ℕ → List ℕ
if_goes_on (Ends found) more = []
if_goes_on GoesOn more = more

-- Each number has a kind, and `seen` tells which number a full name has, if it has one.
module _ (kind : ℕ → Kind) (seen : List ℕ → Option ℕ) where
  -- what has the whole name in the scope, if the name has more parts, and what has the first part
  -- there holds names
  abbrev pub met_within : List ℕ → List ℕ → ℕ → List ℕ
  met_within name scope first =
      if not (is_one_part name) && holds_names (kind first) then if_found (seen (within scope name)) else []

  -- what is met in a scope, where this has the first part of the name there
  abbrev pub met_from : List ℕ → List ℕ → Option ℕ → List ℕ
  met_from name scope None = []
  met_from name scope (Some first) = first ∷ met_within name scope first

  abbrev pub met_in : List ℕ → List ℕ → List ℕ
  met_in name scope = met_from name scope (seen (within scope (front name)))

  -- Scope by scope outwards, up to the first one in which the search ends, as `step` says. If it
  -- ends in none of them, what has the whole name as a full name is met.
  abbrev pub met_outwards : Wanted → List ℕ → List (List ℕ) → List ℕ
  met_outwards wanted name [] = if_found (seen name)
  met_outwards wanted name (scope ∷ outer) =
      met_in name scope ++ if_goes_on (step kind seen wanted name scope) (met_outwards wanted name outer)

  -- Behind a leading dot stands a full name. Any other name is searched in the scopes around its
  -- user.
  abbrev pub met : Lookup → List ℕ
  met lookup =
      if is_absolute lookup.name then if_found (seen (drop 1 lookup.name))
      else met_outwards lookup.wanted lookup.name (scopes lookup.user)
