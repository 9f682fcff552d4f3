-- A search that goes outwards from scope to scope of a tree.
use Rattle.std.proofs.Common.{◌≡◌, ◌<◌, ◌+◌, ℕ, true, false, List, [], ◌∷◌, length, map, Option, Some, None, sym, ap, subst, ◌∙◌, arith}
use Rattle.std.proofs.lemmas.List.Elements.{All-head, All-same}
use Rattle.protox_names.specs.Names.{is_absolute, is_one_part, scopes, within}
use Rattle.protox_names.specs.Tree.{name_of_place}
use Rattle.protox_names.proofs.Lemmas.{scopes_are_shorter, scopes_at_dot, scopes_of_one_part}
use Rattle.protox_scopes.specs.declared.kind.Kind.{Kind}
use Rattle.protox_scopes.specs.declared.kind.Wanted.{Wanted}
use Rattle.protox_scopes.specs.declared.step.Step.TheVariants.{Ends}
use Rattle.protox_scopes.specs.Scopes.{IsOuter, first_end, resolve}
use Rattle.protox_scopes.proofs.Meaning.{at, nameless_is_last, of_relative, outwards}

-- a scope that has a number, and the scopes around it
abbrev pub scopes_from : (ℕ → List ℕ) → Option ℕ → List (List ℕ)
scopes_from name_of None = []
scopes_from name_of (Some scope) = name_of scope ∷ scopes (name_of scope)

-- how far it is to the nameless scope, at most
abbrev pub way_from : (ℕ → List ℕ) → Option ℕ → ℕ
way_from name_of None = 0
way_from name_of (Some scope) = length (name_of scope) + 1

nearer : (name_of : ℕ → List ℕ) (scope : ℕ) (outer : Option ℕ) → IsOuter name_of scope outer → way_from name_of outer < way_from name_of (Some scope)
nearer name_of scope None h = omega arith
nearer name_of scope (Some o) h =
    let IsBelow : List ℕ → Type 0 = λ around. length around < length (name_of scope) in
    let below : length (name_of o) < length (name_of scope) = All-head IsBelow (name_of o) (scopes (name_of o)) (All-same IsBelow (name_of o ∷ scopes (name_of o)) (scopes (name_of scope)) (sym h) (scopes_are_shorter (name_of scope))) in
    omega arith

-- the way outwards gets shorter
pub nearer_from : (name_of : ℕ → List ℕ) (place : Option ℕ) (scope : ℕ) (outer : Option ℕ) → place ≡ Some scope → IsOuter name_of scope outer → way_from name_of outer < way_from name_of place
nearer_from name_of place scope outer is h =
    subst (λ p. way_from name_of outer < way_from name_of p) (sym is) (nearer name_of scope outer h)

module _ {Thing : Type 0} (kind : Thing → Kind) (seen : List ℕ → Option Thing) (wanted : Wanted) (name : List ℕ) (name_of : ℕ → List ℕ) where
  -- what a scope and all scopes around it give
  abbrev pub all_from : Option ℕ → Option Thing
  all_from scope = outwards kind seen wanted name (scopes_from name_of scope) (seen name)

  user_in : (scope user : List ℕ) → is_one_part user ≡ true → outwards kind seen wanted name (scope ∷ scopes scope) (seen name) ≡ outwards kind seen wanted name (scopes (within scope user)) (seen name)
  user_in [] user alone =
      nameless_is_last kind seen wanted name
      ∙ sym (ap (λ l. outwards kind seen wanted name l (seen name)) (scopes_of_one_part user alone))
  user_in (byte ∷ scope) user alone =
      sym (ap (λ l. outwards kind seen wanted name l (seen name)) (scopes_at_dot (byte ∷ scope) user alone))

  around_user : (start : Option ℕ) (user : List ℕ) → is_one_part user ≡ true → all_from start ≡ outwards kind seen wanted name (scopes (within (name_of_place name_of start) user)) (seen name)
  around_user None user alone = sym (ap (λ l. outwards kind seen wanted name l (seen name)) (scopes_of_one_part user alone))
  around_user (Some scope) user alone = user_in (name_of scope) user alone

  -- what all scopes give is what the name stands for
  pub by_user : (start : Option ℕ) (found : Option Thing) → is_absolute name ≡ false → found ≡ all_from start → (user : List ℕ) → is_one_part user ≡ true → found ≡ resolve kind seen wanted name (within (name_of_place name_of start) user)
  by_user start found relative is user alone =
      is ∙ around_user start user alone ∙ sym (of_relative kind seen wanted name (within (name_of_place name_of start) user) relative)

  -- the scope at a place ends the search
  pub stopped : (start place : Option ℕ) (scope : ℕ) (found : Option Thing) → place ≡ Some scope → Ends found ≡ at kind seen wanted name (name_of scope) → all_from place ≡ all_from start → found ≡ all_from start
  stopped start place scope found is ends so_far =
      ap (λ s. first_end (s ∷ map (at kind seen wanted name) (scopes (name_of scope))) (seen name)) ends
      ∙ sym (ap all_from is) ∙ so_far

  -- no scope is left at a place
  pub at_top : (start place : Option ℕ) (found : Option Thing) → place ≡ None → found ≡ seen name → all_from place ≡ all_from start → found ≡ all_from start
  at_top start place found is last so_far = last ∙ sym (ap all_from is) ∙ so_far
