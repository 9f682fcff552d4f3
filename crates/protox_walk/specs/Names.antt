-- The full name of the declaration with a path.
use Rattle.std.specs.Prelude.{ℕ, List, Option, option_map}
use Rattle.std.specs.Cmp.Lexicographic.{pointwise}
use Rattle.std.specs.List.{find}
use Rattle.std.specs.Ordering.{int_eq}
use Rattle.protox_walk.specs.Declarations.{Path}
use Rattle.protox_walk.specs.Parts.{Declared}

-- the full name of the declaration with this path, if there is one
abbrev pub name_at : Path → List Declared → Option (List ℕ)
name_at path declarations = option_map (λ d. d.full_name) (find (λ d. pointwise int_eq d.path path) declarations)
