-- The scope in which something stands.
use Rattle.std.proofs.Common.{◌≡◌, ℕ, List, Option, Some, None, sym, ap}
use Rattle.protox_aggregate.specs.Names.{innermost}
use Rattle.protox_names.specs.Names.{scopes}
use Rattle.protox_names.specs.Tree.{name_of_place}
use Rattle.protox_scopes.specs.Scopes.{IsOuter}

-- what `outer` says
pub outer_is : (name_of : ℕ → List ℕ) (n : ℕ) (outer : Option ℕ) → IsOuter name_of n outer → name_of_place name_of outer ≡ innermost (scopes (name_of n))
outer_is name_of n None h = sym (ap innermost h)
outer_is name_of n (Some o) h = sym (ap innermost h)
