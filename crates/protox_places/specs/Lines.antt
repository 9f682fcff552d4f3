-- Line and column of an offset in a source, both from 0; columns count bytes.
use Rattle.std.specs.Prelude.{ℕ, ◌+◌, ◌-◌, ◌<◌, ◌≤◌, ◌==◌, nat_le, if◌then◌else◌, List, [], ◌∷◌, take, length, slice_index, ⊤, ℤ, pos}
use Rattle.protox_fault.specs.Faults.{Span}

-- how many newlines the text has
abbrev pub newlines : List ℕ → ℕ
newlines [] = 0
newlines (byte ∷ rest) = if byte == 10 then newlines rest + 1 else newlines rest

-- The offset behind the last newline of a text that starts at i; `start` if it has none.
abbrev pub behind_last : ℕ → ℕ → List ℕ → ℕ
behind_last start i [] = start
behind_last start i (byte ∷ rest) = if byte == 10 then behind_last (i + 1) (i + 1) rest else behind_last start (i + 1) rest

-- the line of an offset: how many newlines are before it
abbrev pub line : List ℕ → ℕ → ℕ
line source offset = newlines (take offset source)

-- the column of an offset: how many bytes stand between it and the start of its line
abbrev pub column : List ℕ → ℕ → ℕ
column source offset = offset - behind_last 0 0 (take offset source)

-- Line and column of the span's start, then those of its end. The end's line is left out if it is
-- the same.
abbrev pub span_numbers : List ℕ → Span → List ℤ
span_numbers source span =
    if line source span.start == line source span.end
    then pos (line source span.start) ∷ pos (column source span.start) ∷ pos (column source span.end) ∷ []
    else pos (line source span.start) ∷ pos (column source span.start) ∷ pos (line source span.end) ∷ pos (column source span.end) ∷ []

-- The offsets behind the newlines of a text that starts at i. These are the starts of all lines but
-- the first.
abbrev pub starts : ℕ → List ℕ → List ℕ
starts i [] = []
starts i (byte ∷ rest) = if byte == 10 then (i + 1) ∷ starts (i + 1) rest else starts (i + 1) rest

-- Machinery: the same numbers, computed from the starts of the lines.

-- Each number is above the one before, and the first is above `low`.
abbrev pub Rises : ℕ → List ℕ → Type 0
Rises low [] = ⊤
Rises low (x ∷ xs) = (low < x) × Rises x xs

-- Exactly k of the ascending numbers are at most the offset.
pub record Found (xs : List ℕ) (offset k : ℕ) : Type 0 where
  pub within : k ≤ length xs
  pub below : (j : ℕ) → j < k → slice_index xs j ≤ offset
  pub above : (j : ℕ) → k ≤ j → j < length xs → offset < slice_index xs j

-- how many of the numbers are at most the offset
abbrev pub count_le : ℕ → List ℕ → ℕ
count_le offset [] = 0
count_le offset (x ∷ xs) = if nat_le x offset then count_le offset xs + 1 else count_le offset xs

-- The last number before the first one that is above the offset; `last` if there is none.
abbrev pub last_le : ℕ → ℕ → List ℕ → ℕ
last_le last offset [] = last
last_le last offset (x ∷ xs) = if nat_le x offset then last_le x offset xs else last

-- line and column of a span's start and end, from the starts of the lines
abbrev pub numbers_at : List ℕ → Span → List ℤ
numbers_at starts span =
    if count_le span.start starts == count_le span.end starts
    then pos (count_le span.start starts) ∷ pos (span.start - last_le 0 span.start starts) ∷ pos (span.end - last_le 0 span.end starts) ∷ []
    else pos (count_le span.start starts) ∷ pos (span.start - last_le 0 span.start starts) ∷ pos (count_le span.end starts) ∷ pos (span.end - last_le 0 span.end starts) ∷ []
