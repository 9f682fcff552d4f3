-- Names without a dot in front.
use Rattle.std.proofs.Common.{◌≡◌, ◌≢◌, ℕ, Bool, true, false, List, [], ◌∷◌, refl, ap}
use Rattle.std.specs.Prelude.{◌==◌, if◌then◌else◌}
use Rattle.std.proofs.lemmas.Bool.{eqb-true}
use Rattle.protox_option_text.specs.Texts.{without_dot}

pub undotted : (name : List ℕ) → ((rest : List ℕ) → name ≢ 46 ∷ rest) → name ≡ without_dot name
undotted [] others = refl
undotted (byte ∷ more) others = go (byte == 46) refl where
  go : (is : Bool) → (byte == 46) ≡ is → byte ∷ more ≡ (if is then more else byte ∷ more)
  go true e = absurd (others more (ap (λ n. n ∷ more) (eqb-true byte 46 e)))
  go false e = refl
