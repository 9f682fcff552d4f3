-- The search for a location, with one number less of the path at a time.
use Rattle.std.proofs.Common.{ℕ, ℤ, ◌≡◌, suc, List, Option, take, Some, None, ap, sym, subst}
use Rattle.protox_descriptor.specs.declared.descriptor.source_code_info.Location.{Location}
use Rattle.protox_link_records.specs.LinkPlaces.{nearest}
use Rattle.protox_places.specs.First.{first_at}

pub nearest-none : (path : List ℤ) (locations : List Location) (m n : ℕ) → m ≡ suc n → first_at (take m path) locations ≡ None
    → nearest path m locations ≡ nearest path n locations
nearest-none path locations m n e none =
    subst (λ (k : ℕ). first_at (take k path) locations ≡ None → nearest path k locations ≡ nearest path n locations) (sym e)
    (λ h. ap (λ (found : Option Location). elim found as (λ _. Option Location) [ None ↦ nearest path n locations | Some location ↦ Some location ]) h) none
