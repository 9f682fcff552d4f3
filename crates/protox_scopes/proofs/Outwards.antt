-- A search that goes outwards, scope by scope.
use Rattle.std.proofs.Common.{◌≡◌, ◌≢◌, ◌==◌, ℕ, Bool, true, false, List, [], ◌∷◌, map, Option, refl, sym, ap, ◌∙◌}
use Rattle.std.proofs.lemmas.Bool.Decides.{Decides-eqb}
use Rattle.protox_names.specs.Names.{is_absolute, scopes}
use Rattle.protox_scopes.specs.declared.kind.Kind.{Kind}
use Rattle.protox_scopes.specs.declared.kind.Wanted.{Wanted}
use Rattle.protox_scopes.specs.declared.step.Step.TheVariants.{Ends}
use Rattle.protox_scopes.specs.Scopes.{first_end, resolve}
use Rattle.protox_scopes.proofs.Meaning.{at, of_relative, outwards}

no_dot_first : (byte : ℕ) (rest : List ℕ) (dot : Bool) → (byte == 46) ≡ dot → byte ∷ rest ≢ 46 ∷ rest → dot ≡ false
no_dot_first byte rest true is other = absurd (other (ap (λ b. b ∷ rest) ((Decides-eqb byte 46).0 is)))
no_dot_first byte rest false is other = refl

-- a name that no dot begins is not absolute
pub relative : (name : List ℕ) → ((rest : List ℕ) → name ≢ 46 ∷ rest) → is_absolute name ≡ false
relative [] other = refl
relative (byte ∷ rest) other = no_dot_first byte rest (byte == 46) refl (other rest)

module _ {Thing : Type 0} (kind : Thing → Kind) (seen : List ℕ → Option Thing) (wanted : Wanted) (name : List ℕ) where
  -- what all scopes around the user give
  abbrev pub all_of : List ℕ → Option Thing
  all_of user = outwards kind seen wanted name (scopes user) (seen name)

  -- the innermost scope ends the search
  pub ended : (user scope outer : List ℕ) (found : Option Thing) → is_absolute name ≡ false → scopes scope ≡ outer ∷ scopes outer → Ends found ≡ at kind seen wanted name outer → all_of scope ≡ all_of user → found ≡ resolve kind seen wanted name user
  ended user scope outer found relative around ends so_far =
      ap (λ s. first_end (s ∷ map (at kind seen wanted name) (scopes outer)) (seen name)) ends
      ∙ sym (ap (λ l. outwards kind seen wanted name l (seen name)) around) ∙ so_far
      ∙ sym (of_relative kind seen wanted name user relative)

  -- no scope is left
  pub at_top : (user scope : List ℕ) (found : Option Thing) → is_absolute name ≡ false → scopes scope ≡ [] → found ≡ seen name → all_of scope ≡ all_of user → found ≡ resolve kind seen wanted name user
  at_top user scope found relative none is so_far =
      is ∙ sym (ap (λ l. outwards kind seen wanted name l (seen name)) none) ∙ so_far
      ∙ sym (of_relative kind seen wanted name user relative)
