-- What a name stands for doesn't depend on what things are numbered by.
use Rattle.std.proofs.Common.{◌≡◌, ℕ, Bool, true, false, cond, List, [], ◌∷◌, map, drop, Option, Some, None, option_map, refl, ap, ◌∙◌}
use Rattle.protox_names.specs.Names.{front, is_absolute, is_one_part, scopes, within}
use Rattle.protox_scopes.specs.declared.kind.Kind.{Kind}
use Rattle.protox_scopes.specs.declared.kind.Wanted.{Wanted}
use Rattle.protox_scopes.specs.declared.step.Step.{Step}
use Rattle.protox_scopes.specs.declared.step.Step.TheVariants.{Ends, GoesOn}
use Rattle.protox_scopes.specs.Laws.{NumbersDontMatter}
use Rattle.protox_scopes.specs.Scopes.{first_end, fits, holds_names, resolve, step, step_from}

module _ {Thing Other : Type 0} (other : Thing → Other) (kind : Thing → Kind) (kind' : Other → Kind) (seen : List ℕ → Option Thing) (same : (thing : Thing) → kind' (other thing) ≡ kind thing) (wanted : Wanted) (name : List ℕ) where
  abbrev others : List ℕ → Option Other
  others full_name = option_map other (seen full_name)

  abbrev moved : Step Thing → Step Other
  moved (Ends found) = Ends (option_map other found)
  moved GoesOn = GoesOn

  moved_by : (alone fit holds : Bool) (thing : Thing) (found : Option Thing) → cond alone (cond fit (Ends (Some (other thing))) GoesOn) (cond holds (Ends (option_map other found)) GoesOn) ≡ moved (cond alone (cond fit (Ends (Some thing)) GoesOn) (cond holds (Ends found) GoesOn))
  moved_by true true holds thing found = refl
  moved_by true false holds thing found = refl
  moved_by false fit true thing found = refl
  moved_by false fit false thing found = refl

  moved_from : (scope : List ℕ) (found : Option Thing) → step_from kind' others wanted name scope (option_map other found) ≡ moved (step_from kind seen wanted name scope found)
  moved_from scope None = refl
  moved_from scope (Some thing) =
      ap (λ k. cond (is_one_part name) (cond (fits wanted k) (Ends (Some (other thing))) GoesOn) (cond (holds_names k) (Ends (others (within scope name))) GoesOn)) (same thing)
      ∙ moved_by (is_one_part name) (fits wanted (kind thing)) (holds_names (kind thing)) thing (seen (within scope name))

  moved_step : (scope : List ℕ) → step kind' others wanted name scope ≡ moved (step kind seen wanted name scope)
  moved_step scope = moved_from scope (seen (within scope (front name)))

  moved_end : (first : Step Thing) (more : List (Step Thing)) (more' : List (Step Other)) (last : Option Thing) → first_end more' (option_map other last) ≡ option_map other (first_end more last) → first_end (moved first ∷ more') (option_map other last) ≡ option_map other (first_end (first ∷ more) last)
  moved_end (Ends found) more more' last h = refl
  moved_end GoesOn more more' last h = h

  moved_all : (around : List (List ℕ)) (last : Option Thing) → first_end (map (step kind' others wanted name) around) (option_map other last) ≡ option_map other (first_end (map (step kind seen wanted name) around) last)
  moved_all [] last = refl
  moved_all (scope ∷ around) last =
      ap (λ s. first_end (s ∷ map (step kind' others wanted name) around) (option_map other last)) (moved_step scope)
      ∙ moved_end (step kind seen wanted name scope) (map (step kind seen wanted name) around) (map (step kind' others wanted name) around) last (moved_all around last)

  moved_choice : (absolute : Bool) (user : List ℕ) → cond absolute (others (drop 1 name)) (first_end (map (step kind' others wanted name) (scopes user)) (others name)) ≡ option_map other (cond absolute (seen (drop 1 name)) (first_end (map (step kind seen wanted name) (scopes user)) (seen name)))
  moved_choice true user = refl
  moved_choice false user = moved_all (scopes user) (seen name)

  pub resolve_moved : (user : List ℕ) → resolve kind' others wanted name user ≡ option_map other (resolve kind seen wanted name user)
  resolve_moved user = moved_choice (is_absolute name) user

pub numbers_dont_matter : NumbersDontMatter
numbers_dont_matter number kind kind' seen same wanted name user = resolve_moved number kind kind' seen same wanted name user
