-- Reading, step by step. A step takes a row, or notes something: a node to be checked,
-- or how the rows after it are to be read.
use Rattle.std.specs.Prelude.{ℕ, zero, suc, ◌-◌, Bool, true, false, ◌||◌, List, [], ◌∷◌, ◌++◌, length, take, if◌then◌else◌, Option, Some, None, Result, Ok, Err}
use Rattle.protox_lexeme.specs.Shapes.{Shape, Row, Rows}
use Rattle.protox_ast.specs.Tree as t
use Rattle.protox_ast.specs.CheckedNodes.{CheckedNode}
use Rattle.protox_grammar.specs.Reader.{Reader, Refusal, Unexpected, Deep, head_in}

-- What is noted, right after the last row that it is about.
pub data Event (M : Type 0) : Type 0 where
  -- a node that is checked: a run of strings, or the name of a group
  ANode : CheckedNode M → Event M
  -- a package statement
  APackage : t.Package M → Event M
  -- the keyword of a message or a group
  AKeyword : M → Event M
  -- the `{` of a body that is too deep: nothing after it is read
  ADeepBody : M → Event M
  -- the `{` of a body inside one that is too deep
  ADeeperBody : M → Event M
  -- the braces of an aggregate
  AnOpenBrace : M → Event M
  ACloseBrace : M → Event M

-- One step: a row is taken, or an event is noted.
pub data Step (M : Type 0) : Type 0 where
  Token : Row M → Step M
  Note : Event M → Step M

-- Steps, in order.
abbrev pub Steps : Type 0 → Type 0
Steps M = List (Step M)

-- The rows that the steps take.
abbrev pub tokens : {M : Type 0} → Steps M → Rows M
tokens [] = []
tokens (Token r ∷ l) = r ∷ tokens l
tokens (Note e ∷ l) = tokens l

-- Whether the event is a body that is too deep.
abbrev pub is_too_deep : {M : Type 0} → Event M → Bool
is_too_deep (ADeepBody m) = true
is_too_deep (ADeeperBody m) = true
is_too_deep _ = false

-- Whether the steps note a body that is too deep.
abbrev pub has_deep : {M : Type 0} → Steps M → Bool
has_deep [] = false
has_deep (Token r ∷ l) = has_deep l
has_deep (Note e ∷ l) = is_too_deep e || has_deep l

-- The steps that take the first n rows, with all notes before the next row. Nothing follows a body
-- that is too deep.
abbrev pub until : {M : Type 0} → ℕ → Steps M → Steps M
until n [] = []
until n (Note e ∷ l) = Note e ∷ (if is_too_deep e then [] else until n l)
until zero (Token r ∷ l) = []
until (suc n) (Token r ∷ l) = Token r ∷ until n l

-- ---- the steps of trees

-- Rows that are taken without a note.
abbrev pub plainly : {M : Type 0} → Rows M → Steps M
plainly [] = []
plainly (r ∷ rs) = Token r ∷ plainly rs

-- The steps of each tree of a list, one after another.
abbrev pub steps_of_many : {M A : Type 0} → (A → Steps M) → List A → Steps M
steps_of_many f [] = []
steps_of_many f (t ∷ ts) = f t ++ steps_of_many f ts

-- The steps of a tree that may be absent.
abbrev pub steps_of_option : {M A : Type 0} → (A → Steps M) → Option A → Steps M
steps_of_option f None = []
steps_of_option f (Some t) = f t

-- ---- the steps of readers

-- The steps after something was read. None if reading failed.
abbrev pub then_steps : {M A : Type 0} → Result (A × Rows M) Refusal → (A × Rows M → Steps M) → Steps M
then_steps (Ok x) k = k x
then_steps (Err e) k = []

-- The rows that a reader takes before it ends.
abbrev pub rows_before : {M A : Type 0} → Rows M → Result (A × Rows M) Refusal → Rows M
rows_before xs (Ok x) = take (length xs - length x.1) xs
rows_before xs (Err (Unexpected n)) = take (length xs - n) xs
rows_before xs (Err (Deep n)) = take (length xs - n) xs

-- The steps of a reader without notes.
abbrev pub plain_trace : {M A : Type 0} → Reader M A → Rows M → Steps M
plain_trace read xs = plainly (rows_before xs (read xs))

-- The steps of reading again and again, as long as the next token passes the test. The number
-- bounds the turns, as for the reader.
unfoldable pub star_trace : {M A : Type 0} → (Shape → Bool) → Reader M A → (Rows M → Steps M) → ℕ → Rows M → Steps M
star_trace p read trace zero xs = []
star_trace p read trace (suc n) xs = if head_in p xs then (trace xs ++ then_steps (read xs) (λ x. star_trace p read trace n x.1)) else []
