-- How the parts of a pool stand for its locations.
use Rattle.std.specs.Prelude.{◌≡◌, ℕ, zero, suc, ◌+◌, ℤ, ◌≤◌, List, [], ◌∷◌, ◌++◌, length, Option, None, slice_get, slice_range}
use Rattle.protox_descriptor.specs.Location.{Location}
use Rattle.protox_pool.specs.Pool.{location}
use Rattle.protox_pool.specs.declared.comments.LocationComments.{LocationComments}
use Rattle.protox_pool.specs.declared.ends.Ends.{Ends}

-- where the numbers of the location at an index begin, if those of the first begin at `start`
abbrev pub start_at : ℕ → List Ends → ℕ → ℕ
start_at start ends zero = start
start_at start [] (suc index) = start
start_at start (end ∷ ends) (suc index) = start_at end.span ends index

-- the comments with a number, counted from 1; none at zero
abbrev pub comments_at : List LocationComments → ℕ → Option LocationComments
comments_at comments zero = None
comments_at comments (suc index) = slice_get comments index

-- the location whose numbers begin at `start`
abbrev pub location_from : List ℤ → List LocationComments → ℕ → Ends → Location
location_from numbers comments start end =
    location (slice_range numbers start end.path) (slice_range numbers end.path end.span)
    (comments_at comments end.comments)

-- the locations, of which the first has its numbers from `start` on
abbrev pub locations_from : List ℤ → List LocationComments → ℕ → List Ends → List Location
locations_from numbers comments start [] = []
locations_from numbers comments start (end ∷ ends) =
    location_from numbers comments start end ∷ locations_from numbers comments end.span ends

-- The numbers of the locations stand behind one another, up to the end `last`. There are `count`
-- comments, and no location has others.
abbrev pub AreEnds : ℕ → ℕ → ℕ → List Ends → Type 0
AreEnds count last start [] = start ≡ last
AreEnds count last start (end ∷ ends) =
    (start ≤ end.path) × (end.path ≤ end.span) × (end.comments ≤ count) × AreEnds count last end.span ends

-- One more location has its numbers behind the others.
pub record Adds (path span : List ℤ) (comments : ℕ) (numbers : List ℤ) (ends : List Ends)
    (numbers_then : List ℤ) (ends_then : List Ends) : Type 0 where
  pub more : numbers_then ≡ numbers ++ path ++ span
  pub end : ends_then ≡ ends ++ record {
    path = length (numbers ++ path);
    span = length (numbers ++ path ++ span);
    comments = comments;
  } ∷ []

-- the number of comments that stand so many further behind; none have the number zero
abbrev pub moved_number : ℕ → ℕ → ℕ
moved_number more zero = zero
moved_number more (suc index) = suc index + more

-- the ends of a location that stands so many numbers and comments further behind
abbrev pub moved : ℕ → ℕ → Ends → Ends
moved numbers more end = record {
  path = end.path + numbers;
  span = end.span + numbers;
  comments = moved_number more end.comments;
}
