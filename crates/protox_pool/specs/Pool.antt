-- What contracts say of locations in a pool.
use Rattle.std.specs.Prelude.{ℤ, List, [], Option, Some, None}
use Rattle.protox_descriptor.specs.Location.{Location}
use Rattle.protox_pool.specs.declared.comments.LocationComments.{LocationComments}

-- the location with a path, a span and comments, if it has some
abbrev pub location : List ℤ → List ℤ → Option LocationComments → Location
location path span None = record {
  path = path;
  span = span;
  leading_comments = None;
  trailing_comments = None;
  leading_detached_comments = [];
}
location path span (Some comments) = record {
  path = path;
  span = span;
  leading_comments = comments.leading;
  trailing_comments = comments.trailing;
  leading_detached_comments = comments.detached;
}
