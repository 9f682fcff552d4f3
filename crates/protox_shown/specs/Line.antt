-- The line that shows a fault to a reader.
use Rattle.std.specs.Prelude.{ℕ, ◌+◌, ◌==◌, if◌then◌else◌, length, take, List, [], ◌∷◌, ◌++◌, Option, Some, None}
use Rattle.std.specs.Fmt.{decimal}
use Rattle.protox_fault.specs.Faults.{Span, span_of}
use Rattle.protox_fault.specs.declared.error.ParseErrorKind.{ParseErrorKind}
use Rattle.protox_shown.specs.Shown.{shown, shown_fault}

-- How many newlines the bytes hold.
abbrev pub newlines : List ℕ → ℕ
newlines [] = 0
newlines (b ∷ bs) = if b == 10 then newlines bs + 1 else newlines bs

-- The bytes after the last newline, or all bytes if there is none.
abbrev pub last_line : List ℕ → List ℕ
last_line [] = []
last_line (b ∷ bs) = if newlines bs == 0 then (if b == 10 then bs else b ∷ bs) else last_line bs

-- The number of the line after these bytes, counted from 1.
abbrev pub line_number : List ℕ → ℕ
line_number front = newlines front + 1

-- The number of the column after these bytes, in bytes counted from 1.
abbrev pub column_number : List ℕ → ℕ
column_number front = length (last_line front) + 1

-- `file:line:column: text`, or the text alone if the fault has no place.
abbrev pub placed_line : List ℕ → List ℕ → ParseErrorKind → Option Span → List ℕ
placed_line file source fault None = shown_fault fault
placed_line file source fault (Some span) =
    shown file ++ (58 ∷ (decimal (line_number (take span.start source)) ++ (58 ∷ (decimal (column_number (take span.start source)) ++ (58 ∷ (32 ∷ shown_fault fault))))))

-- The line that shows a fault of a source.
abbrev pub fault_line : List ℕ → List ℕ → ParseErrorKind → List ℕ
fault_line file source fault = placed_line file source fault (span_of fault)
