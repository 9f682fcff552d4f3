-- The comments of a gap, and the declarations to which they belong.
use Rattle.std.specs.Prelude.{◌≡◌, ℕ, Bool, true, false, not, ◌||◌, ◌==◌, if◌then◌else◌, List, [], ◌∷◌, ◌++◌, drop, slice_get, Option, Some, None}
use Rattle.std.specs.List.{list_all}
use Rattle.protox_lexeme.specs.Table.{is_gap}
use Rattle.protox_lexeme.specs.Shapes.{Shape, Mark, LineComment, BlockComment, Newline}

-- The list holds only comments and newlines.
abbrev pub IsGap : List Shape → Type 0
IsGap gap = list_all is_gap gap ≡ true

-- Each of the lists is a gap.
abbrev pub HoldGaps : List (List Shape) → Type 0
HoldGaps gaps = (k : ℕ) (gap : List Shape) → slice_get gaps k ≡ Some gap → IsGap gap

-- ---- items

-- A block is a run of line comments, or one block comment with the newline right after it, if there
-- is one. A blank is any other newline.
pub data Item : Type 0 where
  block : List ℕ → Item
  blank : Item

-- Whether the gap begins with a line comment.
abbrev pub begins_line : List Shape → Bool
begins_line (LineComment text ∷ gap) = true
begins_line gap = false

-- Adds a line comment at the front of its block.
abbrev pub joined : List ℕ → List Item → List Item
joined text (block more ∷ items) = block (text ++ more) ∷ items
joined text items = block text ∷ items

-- The items of a gap, in order.
abbrev pub items : List Shape → List Item
items [] = []
items (LineComment text ∷ gap) = if begins_line gap then joined text (items gap) else block text ∷ items gap
items (BlockComment text ∷ (Newline ∷ gap)) = block text ∷ items gap
items (BlockComment text ∷ gap) = block text ∷ items gap
items (Newline ∷ gap) = blank ∷ items gap
items (other ∷ gap) = items gap

-- The texts of the blocks.
abbrev pub blocks : List Item → List (List ℕ)
blocks [] = []
blocks (block text ∷ items) = text ∷ blocks items
blocks (blank ∷ items) = blocks items

-- The first item, if it is a block.
abbrev pub first_block : List Item → Option (List ℕ)
first_block (block text ∷ items) = Some text
first_block items = None

-- The last item, if it is a block.
abbrev pub last_block : List Item → Option (List ℕ)
last_block [] = None
last_block (block text ∷ []) = Some text
last_block (blank ∷ []) = None
last_block (item ∷ items) = last_block items

-- All items but the last.
abbrev pub all_but_last : List Item → List Item
all_but_last [] = []
all_but_last (item ∷ []) = []
all_but_last (item ∷ items) = item ∷ all_but_last items

-- ---- to which declaration a comment belongs

-- The comments of a gap: the one that trails the declaration before, the detached ones, and the one
-- that leads the declaration after.
pub record Attribution : Type 0 where
  pub trailing : Option (List ℕ)
  pub detached : List (List ℕ)
  pub leading : Option (List ℕ)

-- No comments.
abbrev pub nothing : Attribution
nothing = record { trailing = None; detached = []; leading = None }

-- Whether a comment may lead this token. None leads `}`, `]`, `)` or the end of the source.
abbrev pub may_lead : Option Shape → Bool
may_lead (Some (Mark b)) = not ((b == 125 || b == 93) || b == 41)
may_lead (Some other) = true
may_lead None = false

-- The block that leads the next token: the last item, if it may.
abbrev pub led_by : List Item → Option Shape → Option (List ℕ)
led_by items next = if may_lead next then last_block items else None

-- The items without the block that leads.
abbrev pub unless_leading : List Item → Option (List ℕ) → List Item
unless_leading items None = items
unless_leading items (Some leading) = all_but_last items

-- The block that trails: the first item, if it may.
abbrev pub trailed_by : Bool → List Item → Option (List ℕ)
trailed_by may_trail items = if may_trail then first_block items else None

-- The items without the block that trails.
abbrev pub unless_trailing : List Item → Option (List ℕ) → List Item
unless_trailing items None = items
unless_trailing items (Some trailing) = drop 1 items

-- The last item leads the next token, if it may. The first item trails what stands before, if it
-- may and does not lead. All other blocks are detached.
abbrev pub among : Bool → List Item → Option Shape → Attribution
among may_trail items next =
    let leading = led_by items next in
    let others = unless_leading items leading in
    let trailing = trailed_by may_trail others in
    record { trailing = trailing; detached = blocks (unless_trailing others trailing); leading = leading }

-- The comments of a gap, before this token or the end of the source. `true` says that the gap
-- stands at the start of the file.
-- * At the start of the file nothing trails.
-- * If the gap begins with a line comment, that one alone trails.
-- * If it begins with a newline, that is dropped, and the first of the other items may trail.
-- * If it begins with a block comment and a newline, the block comment may trail.
-- * If no newline follows the block comment, all comments of the gap are dropped.
abbrev pub attribution : List Shape → Bool → Option Shape → Attribution
attribution gap true next = among false (items gap) next
attribution (LineComment text ∷ gap) false next = record (among false (items gap) next) { trailing = Some text }
attribution (Newline ∷ gap) false next = among true (items gap) next
attribution (BlockComment text ∷ (Newline ∷ gap)) false next = among true (items (BlockComment text ∷ (Newline ∷ gap))) next
attribution gap false next = nothing
