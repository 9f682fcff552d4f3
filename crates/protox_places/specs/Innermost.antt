-- Which of the locations that hold a place is the innermost one.
use Rattle.std.specs.Prelude.{◌≡◌, ℤ, true, List, ◌∷◌, ◌++◌}
use Rattle.std.specs.Option.{option_cmp}
use Rattle.std.specs.declared.cmp.Ordering.{Ordering}
use Rattle.std.specs.Ordering.{is_le, is_lt, ordering_then}
use Rattle.protox_ast.specs.Basics.{Each}
use Rattle.protox_descriptor.specs.Spans.{start_of, end_of, place_cmp, is_within}
use Rattle.protox_descriptor.specs.declared.descriptor.source_code_info.Location.{Location}

-- The location's span holds the place, a line and a column.
abbrev pub Holds : ℤ × ℤ → Location → Type 0
Holds place l = is_within place (start_of l.span) (end_of l.span) ≡ true

-- Of two locations the nearer one comes first: the one that starts later; if both start together,
-- the one that ends earlier.
abbrev pub nearness : Location → Location → Ordering
nearness l m = ordering_then
    (option_cmp place_cmp (start_of m.span) (start_of l.span))
    (option_cmp place_cmp (end_of l.span) (end_of m.span))

-- The location holds the place. No other one that holds it is nearer. Those that are as near are
-- before it in the list.
pub record IsInnermost (place : ℤ × ℤ) (locations : List Location) (l : Location) : Type 0 where
  pub front : List Location
  pub back : List Location
  pub split : locations ≡ front ++ l ∷ back
  pub held : Holds place l
  pub before : Each (λ o. Holds place o → is_le (nearness l o) ≡ true) front
  pub behind : Each (λ o. Holds place o → is_lt (nearness l o) ≡ true) back
