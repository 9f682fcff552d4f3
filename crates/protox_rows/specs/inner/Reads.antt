-- What the steps of the code read, beside names and strings.
use Rattle.std.specs.Prelude.{[], ◌∷◌, Bool, true, None}
use Rattle.protox_lexeme.specs.Shapes.{Shape, Rows}
pub use Rattle.protox_grammar.proofs.Lemmas.{mapped_from, push}
use Rattle.protox_ast.specs.Ast.{comments}
use Rattle.protox_ast.specs.Places.{Place}
use Rattle.protox_ast.specs.declared.ast.Comments.{Comments}

-- Every token passes.
abbrev pub anything : Shape → Bool
anything s = true

-- The comments of a declaration that begins with the first of these rows. `last` is the place where
-- it ends or opens its body.
abbrev pub declared : Rows Place → Place → Comments
declared [] last = record { leading_detached_comments = []; leading_comment = None; trailing_comment = last.trailing }
declared (r ∷ rs) last = comments r.at last
