-- The first location with a path, and its comments.
use Rattle.std.specs.Prelude.{ℕ, ℤ, List, [], Option, Some, None, Bool}
use Rattle.std.specs.List.{find}
use Rattle.std.specs.Cmp.Lexicographic.{pointwise}
use Rattle.std.specs.Ordering.{int_eq}
use Rattle.protox_descriptor.specs.declared.descriptor.source_code_info.Location.{Location}

-- The location has the path.
abbrev pub is_at : List ℤ → Location → Bool
is_at path l = pointwise int_eq l.path path

-- the first location with this path, if there is one
abbrev pub first_at : List ℤ → List Location → Option Location
first_at path locations = find (is_at path) locations

-- the comment right before the declaration; None if there is no location
abbrev pub leading_of : Option Location → Option (List ℕ)
leading_of None = None
leading_of (Some l) = l.leading_comments

-- the comment right behind it
abbrev pub trailing_of : Option Location → Option (List ℕ)
trailing_of None = None
trailing_of (Some l) = l.trailing_comments

-- the comments further before it
abbrev pub detached_of : Option Location → List (List ℕ)
detached_of None = []
detached_of (Some l) = l.leading_detached_comments
