-- The comments of a gap, read one at a time.
use Rattle.std.specs.Prelude.{◌≡◌, ⊤, [], ℕ, Bool, true, false, if◌then◌else◌, List, ◌∷◌, ◌++◌, Option, Some, None}
use Rattle.std.specs.Borrow.{Bor}
use Rattle.std.specs.Option.{option_or}
use Rattle.protox_comments.specs.declared.comments.Block.{Block}
use Rattle.protox_comments.specs.declared.comments.GapComments.{GapComments}
use Rattle.protox_lexeme.specs.declared.token.Token.{Token}
use Rattle.protox_comments.specs.CommentState.{CommentState, flushed, open_text}
use Rattle.protox_lexeme.specs.Gaps.{Item, block, items, among, Attribution, may_lead}
use Rattle.protox_lexeme.specs.Shapes.{Shape, LineComment, Newline}
use Rattle.protox_lexeme.specs.Tokens.{shape_of}

-- The attribution that the code answers.
abbrev pub attribution_of : GapComments → Attribution
attribution_of g = record { trailing = g.trailing; detached = g.detached; leading = g.leading }

-- The shape of a borrowed token, if there is one.
abbrev pub shape_lent : Option (Bor Token) → Option Shape
shape_lent None = None
shape_lent (Some t) = Some (shape_of t.now)

-- Whether the gap begins with a newline.
abbrev pub begins_newline : List Shape → Bool
begins_newline (Newline ∷ gap) = true
begins_newline gap = false

-- The gap holds newlines and nothing else.
abbrev pub Newlines : List Shape → Type 0
Newlines [] = ⊤
Newlines (shape ∷ gap) = (shape ≡ Newline) × Newlines gap

-- The gap holds line comments and nothing else.
abbrev pub Lines : List Shape → Type 0
Lines [] = ⊤
Lines (LineComment text ∷ gap) = Lines gap
Lines (other ∷ gap) = ⊥

-- The items still to come, with the open block in front.
abbrev pub pending : Option Block → List Shape → List Item
pending None gap = items gap
pending (Some b) gap = if b.of_lines then items (LineComment b.text ∷ gap) else block b.text ∷ items gap

-- The comments so far, put in front of an attribution. They keep the trailing comment only if the
-- attribution has none.
abbrev pub behind : List (List ℕ) → Option (List ℕ) → Attribution → Attribution
behind detached trailing a = record { trailing = option_or a.trailing trailing; detached = detached ++ a.detached; leading = a.leading }

-- The attribution of the comments so far and of these items.
abbrev pub outcome_of : List (List ℕ) → Option (List ℕ) → Bool → List Item → Option Shape → Attribution
outcome_of detached trailing may_trail its next = behind detached trailing (among may_trail its next)

-- The attribution of a state, the rest of the gap and the next token.
abbrev pub outcome : CommentState → List Shape → Option Shape → Attribution
outcome s gap next = outcome_of s.detached s.trailing s.may_trail (pending s.open_block gap) next

-- The attribution of a state at the end of the gap.
abbrev pub ended : CommentState → Option Shape → Attribution
ended s next =
    let t = if may_lead next then s else flushed s in
    record { trailing = t.trailing; detached = t.detached; leading = open_text t.open_block }
