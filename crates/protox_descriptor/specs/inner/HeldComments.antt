-- The comments of a location. A location without comments holds no room for them.
use Rattle.std.specs.Prelude.{ℕ, List, [], Option, Some, None}
use Rattle.std.specs.declared.boxed.Box.{Box}
use Rattle.std.specs.declared.alloc.Global.{Global}
use Rattle.protox_descriptor.specs.Location.{Location}
use Rattle.protox_descriptor.specs.declared.descriptor.source_code_info.LocationComments.{LocationComments}
use Rattle.protox_descriptor.specs.declared.descriptor.source_code_info.Location.TheInside.{Inside}

-- The comments as a location holds them: none, or a box of them.
abbrev pub Comments : Type 0
Comments = Option (Box LocationComments Global)

-- The leading comment, if there is one.
abbrev pub leading : Comments → Option (List ℕ)
leading None = None
leading (Some comments) = comments.value.leading

-- The trailing comment, if there is one.
abbrev pub trailing : Comments → Option (List ℕ)
trailing None = None
trailing (Some comments) = comments.value.trailing

-- The detached comments, in order.
abbrev pub detached : Comments → List (List ℕ)
detached None = []
detached (Some comments) = comments.value.detached

-- A location as contracts see it.
abbrev pub location_of : Inside → Location
location_of l = record {
  path = l.path;
  span = l.span;
  leading_comments = leading l.comments;
  trailing_comments = trailing l.comments;
  leading_detached_comments = detached l.comments;
}
