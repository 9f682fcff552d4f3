-- Whether a full name is that of a name in a scope.
use Rattle.std.proofs.Common.{◌≡◌, ◌≢◌, ◌↔◌, ◌==◌, ℕ, Bool, false, IsTrue, List, [], ◌∷◌, ◌++◌, length, bytes_eq, refl, sym, ap, ◌∙◌}
use Rattle.std.proofs.lemmas.Bool.{false≢true}
use Rattle.std.proofs.lemmas.List.{append_cancel_left}
use Rattle.std.proofs.lemmas.Slice.Eq.{bytes_eq-Decides}
use Rattle.protox_names.specs.Names.{within}
use Rattle.protox_names.proofs.Joining.{dropped_dot}

in_named : (scope name : List ℕ) → false ≡ (length scope == 0) → within scope name ≡ scope ++ 46 ∷ name
in_named [] name some = absurd (false≢true some)
in_named (byte ∷ scope) name some = refl

module _ (full scope name : List ℕ) (some : false ≡ (length scope == 0)) where
  abbrev pub Says : Bool → Type 0
  Says answer = IsTrue answer ↔ (full ≡ within scope name)

  refused : (full ≡ scope ++ 46 ∷ name → ⊥) → Says false
  refused differs = (λ h. absurd (false≢true h), λ h. absurd (differs (h ∙ in_named scope name some)))

  -- it doesn't begin with the scope
  pub in_other_scope : ((rest : List ℕ) → full ≢ scope ++ rest) → Says false
  in_other_scope none = refused (none (46 ∷ name))

  behind : (rest : List ℕ) → full ≡ scope ++ rest → full ≡ scope ++ 46 ∷ name → rest ≡ 46 ∷ name
  behind rest is h = append_cancel_left scope rest (46 ∷ name) (sym is ∙ h)

  -- no dot stands behind the scope
  pub without_dot : (rest : List ℕ) → full ≡ scope ++ rest → ((last : List ℕ) → rest ≢ 46 ∷ last) → Says false
  without_dot rest is none = refused (λ h. none name (behind rest is h))

  -- the test of what stands behind the dot
  pub by_last : (rest last : List ℕ) (answer : Bool) → full ≡ scope ++ rest → rest ≡ 46 ∷ last → answer ≡ bytes_eq last name → Says answer
  by_last rest last answer is dot test = (
    λ h. is ∙ ap (λ l. scope ++ l) (dot ∙ ap (λ l. 46 ∷ l) ((bytes_eq-Decides last name).0 (sym test ∙ h))) ∙ sym (in_named scope name some),
    λ h. test ∙ (bytes_eq-Decides last name).1 (dropped_dot last name (sym dot ∙ behind rest is (h ∙ in_named scope name some))),
  )
