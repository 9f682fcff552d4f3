-- Protobuf's scoping rule: what a name stands for where something uses it.
use Rattle.std.specs.Prelude.{◌≡◌, ℕ, Bool, true, false, List, [], ◌∷◌, drop, map, MatchOption, Option, Some, None, if◌then◌else◌}
use Rattle.protox_names.specs.Names.{front, is_absolute, is_one_part, scopes, within}
use Rattle.protox_scopes.specs.declared.kind.Kind.{Kind}
use Rattle.protox_scopes.specs.declared.kind.Kind.TheVariants.{Message, Enum, Service, Package, Member}
use Rattle.protox_scopes.specs.declared.kind.Wanted.{Wanted}
use Rattle.protox_scopes.specs.declared.kind.Wanted.TheVariants.{AType, Anything}
use Rattle.protox_scopes.specs.declared.step.Step.{Step}
use Rattle.protox_scopes.specs.declared.step.Step.TheVariants.{Ends, GoesOn}

-- a message or an enum
abbrev pub is_type : Kind → Bool
is_type Message = true
is_type Enum = true
is_type Service = false
is_type Package = false
is_type Member = false

-- The rest of a name is looked for in it. An enum counts, though its values stand beside it.
abbrev pub holds_names : Kind → Bool
holds_names Message = true
holds_names Enum = true
holds_names Service = true
holds_names Package = true
holds_names Member = false

abbrev pub fits : Wanted → Kind → Bool
fits AType kind = is_type kind
fits Anything kind = true

-- The scope that a scope stands in, or none if that is the nameless one.
abbrev pub IsOuter : (ℕ → List ℕ) → ℕ → Option ℕ → Type 0
IsOuter name_of scope outer =
    MatchOption outer (scopes (name_of scope) ≡ []) (λ o. scopes (name_of scope) ≡ name_of o ∷ scopes (name_of o))

-- the end of the first search that ends, or the last resort
abbrev pub first_end : {Thing : Type 0} → List (Step Thing) → Option Thing → Option Thing
first_end [] last = last
first_end (Ends found ∷ more) last = found
first_end (GoesOn ∷ more) last = first_end more last

-- Each thing has a kind, and `seen` tells what a full name stands for, if it stands for anything.
module _ {Thing : Type 0} (kind : Thing → Kind) (seen : List ℕ → Option Thing) where
  -- where something, or nothing, was found under the first part of a name in a scope
  abbrev pub step_from : Wanted → List ℕ → List ℕ → Option Thing → Step Thing
  step_from wanted name scope None = GoesOn
  step_from wanted name scope (Some thing) =
      if is_one_part name then (if fits wanted (kind thing) then Ends (Some thing) else GoesOn)
      else if holds_names (kind thing) then Ends (seen (within scope name)) else GoesOn

  -- A search in one scope looks for the first part of the name alone. Of a name with more parts,
  -- the search ends at what holds names, also if the whole name isn't found in it.
  abbrev pub step : Wanted → List ℕ → List ℕ → Step Thing
  step wanted name scope = step_from wanted name scope (seen (within scope (front name)))

  -- What a name stands for where something of the full name `user` uses it. This is the loop of
  -- protoc's `LookupSymbol`: it takes the last part off the user's name before each step, so the
  -- first scope is the one that the user stands in, and not the user itself. In the nameless scope
  -- the whole name is looked for at once, and whatever has it is what the name stands for.
  abbrev pub resolve : Wanted → List ℕ → List ℕ → Option Thing
  resolve wanted name user =
      if is_absolute name then seen (drop 1 name)
      else first_end (map (step wanted name) (scopes user)) (seen name)
