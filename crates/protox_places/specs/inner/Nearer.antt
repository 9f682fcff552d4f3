-- The search for the innermost location, step by step.
use Rattle.std.specs.Prelude.{ℤ, List, [], ◌∷◌, Option, Some, None, if◌then◌else◌}
use Rattle.std.specs.Ordering.{is_le}
use Rattle.protox_descriptor.specs.Spans.{start_of, end_of, is_within}
use Rattle.protox_descriptor.specs.declared.descriptor.source_code_info.Location.{Location}
use Rattle.protox_places.specs.Innermost.{nearness}

-- the nearer one of the nearest so far and of one more that holds the place
abbrev pub nearer : Option Location → Location → Option Location
nearer None l = Some l
nearer (Some best) l = if is_le (nearness l best) then Some l else Some best

-- the nearest so far, after one more location
abbrev pub next_best : ℤ × ℤ → Option Location → Location → Option Location
next_best place best l = if is_within place (start_of l.span) (end_of l.span) then nearer best l else best

-- the nearest so far, after more locations
abbrev pub best_of : ℤ × ℤ → Option Location → List Location → Option Location
best_of place best [] = best
best_of place best (l ∷ more) = best_of place (next_best place best l) more
