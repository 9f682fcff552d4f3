-- The comments of a declaration. A declaration without comments holds no room for them.
use Rattle.std.specs.Prelude.{ℕ, List, [], Option, Some, None}
use Rattle.std.specs.declared.boxed.Box.{Box}
use Rattle.std.specs.declared.alloc.Global.{Global}
use Rattle.protox_ast.specs.Comments.{Comments}
use Rattle.protox_ast.specs.declared.ast.HeldComments.{HeldComments}
use Rattle.protox_ast.specs.declared.ast.Comments.TheInside.{Inside}

-- The detached comments, in order.
abbrev detached : Option (Box HeldComments Global) → List (List ℕ)
detached None = []
detached (Some held) = held.value.detached

-- The leading comment, if there is one.
abbrev leading : Option (Box HeldComments Global) → Option (List ℕ)
leading None = None
leading (Some held) = held.value.leading

-- The trailing comment, if there is one.
abbrev trailing : Option (Box HeldComments Global) → Option (List ℕ)
trailing None = None
trailing (Some held) = held.value.trailing

-- The comments as contracts see them.
abbrev pub comments_of : Inside → Comments
comments_of c = record {
  leading_detached_comments = detached c.held;
  leading_comment = leading c.held;
  trailing_comment = trailing c.held;
}
