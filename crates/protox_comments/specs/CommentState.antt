-- What contracts see of `Comments`.
use Rattle.std.specs.Prelude.{ℕ, Bool, true, false, if◌then◌else◌, List, [], ◌∷◌, ◌++◌, Option, Some, None}
use Rattle.protox_comments.specs.declared.comments.Block.{Block}
use Rattle.protox_comments.specs.declared.comments.Comments.TheInside.{Inside}

-- The detached comments, the open block, the comment that trails the declaration before, and
-- whether the next block may trail.
pub record CommentState : Type 0 where
  pub detached : List (List ℕ)
  pub open_block : Option Block
  pub trailing : Option (List ℕ)
  pub may_trail : Bool

-- The state of a `Comments`.
abbrev pub state_seen : Inside → CommentState
state_seen c = record { detached = c.detached.items; open_block = c.open_block; trailing = c.trailing; may_trail = c.may_trail }

-- The state without a comment.
abbrev pub empty : Bool → CommentState
empty may_trail = record { detached = []; open_block = None; trailing = None; may_trail = may_trail }

-- A finished block. It trails, if it may; else it is the last detached comment.
abbrev pub placed : List ℕ → CommentState → CommentState
placed text s = if s.may_trail then record s { open_block = None; trailing = Some text; may_trail = false } else record s { open_block = None; detached = s.detached ++ text ∷ [] }

-- The open block is finished, if there is one. From then on nothing may trail.
abbrev pub flushed : CommentState → CommentState
flushed s = go s.open_block where
  go : Option Block → CommentState
  go None = record s { may_trail = false }
  go (Some b) = placed b.text s

-- The open block is finished, if there is one.
abbrev pub closed : CommentState → CommentState
closed s = go s.open_block where
  go : Option Block → CommentState
  go None = s
  go (Some b) = placed b.text s

-- A block with this text. `of_lines` says whether it is of line comments.
abbrev pub block : List ℕ → Bool → Block
block text of_lines = record { text = text; of_lines = of_lines }

-- A block comment. It finishes the open block.
abbrev pub with_block : List ℕ → CommentState → CommentState
with_block text s = record (closed s) { open_block = Some (block text false) }

-- A line comment. It joins an open block of line comments, and finishes any other open block.
abbrev pub with_line : List ℕ → CommentState → CommentState
with_line text s = go s.open_block where
  go : Option Block → CommentState
  go None = record s { open_block = Some (block text true) }
  go (Some b) = if b.of_lines then record s { open_block = Some (block (b.text ++ text) true) } else record (placed b.text s) { open_block = Some (block text true) }

-- The text of the open block, if there is one.
abbrev pub open_text : Option Block → Option (List ℕ)
open_text None = None
open_text (Some b) = Some b.text
