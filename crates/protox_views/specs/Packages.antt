-- Packages that a file sees.
use Rattle.std.specs.Prelude.{ℕ, Bool, false, ◌&&◌, ◌||◌, List, ◌∷◌, Option, Some, None}
use Rattle.std.specs.List.{list_any}
use Rattle.std.specs.Str.{bytes_eq}
use Rattle.protox_name_tree.specs.Tree.{Names, name_at}
use Rattle.protox_names.specs.Names.{scopes}

-- The package is this one, or around it.
abbrev pub is_front : List ℕ → List ℕ → Bool
is_front name whole = bytes_eq whole name || list_any (λ scope. bytes_eq scope name) (scopes whole)

-- The number is that of the package, or of one around it. With no package it isn't.
abbrev pub is_on_the_way : Names → ℕ → Option ℕ → Bool
is_on_the_way names n None = false
is_on_the_way names n (Some whole) = is_front (name_at names n) (name_at names whole)

-- The number is that of a package of a file that is seen, or of a package around it. `packages`
-- has the number of the package of each file, and `sees` tells which files are seen.
abbrev pub is_package_seen : Names → List (Option ℕ) → List Bool → ℕ → Bool
is_package_seen names (whole ∷ packages) (seen ∷ sees) n = (seen && is_on_the_way names n whole) || is_package_seen names packages sees n
is_package_seen names _ _ n = false
