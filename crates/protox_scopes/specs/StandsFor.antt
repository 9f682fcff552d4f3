-- The language guide's sentence: the innermost scope where the first part of a name is found
-- decides what the name stands for.
use Rattle.std.specs.Prelude.{◌≡◌, ℕ, Bool, true, false, List, ◌∷◌, ◌++◌, drop, All, Option, Some, if◌then◌else◌}
use Rattle.protox_names.specs.Names.{front, is_absolute, is_one_part, scopes, within}
use Rattle.protox_scopes.specs.declared.kind.Kind.{Kind}
use Rattle.protox_scopes.specs.declared.kind.Wanted.{Wanted}
use Rattle.protox_scopes.specs.Scopes.{fits, holds_names}

module _ {Thing : Type 0} (kind : Thing → Kind) (seen : List ℕ → Option Thing) where
  -- The first part of a name can mean the thing: it is what is wanted, or, if more parts follow, it
  -- holds names.
  abbrev pub can_mean : Wanted → List ℕ → Thing → Bool
  can_mean wanted name thing =
      if is_one_part name then fits wanted (kind thing) else holds_names (kind thing)

  -- In this scope the first part of the name is found, as something that it can mean.
  abbrev pub HasFirstPart : Wanted → List ℕ → List ℕ → Type 0
  HasFirstPart wanted name scope =
      (thing : Thing) × (seen (within scope (front name)) ≡ Some thing) × (can_mean wanted name thing ≡ true)

  -- No scope of the list has the first part.
  abbrev pub NoneHasFirstPart : Wanted → List ℕ → List (List ℕ) → Type 0
  NoneHasFirstPart wanted name around = All (λ scope. HasFirstPart wanted name scope → ⊥) around

  -- It is the first scope of the list that has the first part.
  pub record IsInnermost (wanted : Wanted) (name : List ℕ) (around : List (List ℕ)) (scope : List ℕ) : Type 0 where
    pub inner : List (List ℕ)
    pub outer : List (List ℕ)
    pub order : around ≡ inner ++ scope ∷ outer
    pub passed : NoneHasFirstPart wanted name inner
    pub has : HasFirstPart wanted name scope

  -- The name stands for the thing, where something of the full name `user` uses it.
  pub data StandsFor (wanted : Wanted) (name user : List ℕ) (thing : Thing) : Type 0 where
    -- Behind a leading dot stands a full name.
    FullName : is_absolute name ≡ true → seen (drop 1 name) ≡ Some thing → StandsFor wanted name user thing
    -- It is called so in the innermost scope around the user that has the first part of the name.
    InScope : is_absolute name ≡ false → (scope : List ℕ) → IsInnermost wanted name (scopes user) scope → seen (within scope name) ≡ Some thing → StandsFor wanted name user thing
    -- No scope around the user has the first part, and this is the full name.
    AtTop : is_absolute name ≡ false → NoneHasFirstPart wanted name (scopes user) → seen name ≡ Some thing → StandsFor wanted name user thing
