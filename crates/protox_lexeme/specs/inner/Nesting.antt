-- The `/*` and `*/` of a block comment, read one at a time.
use Rattle.std.specs.Prelude.{ℕ, zero, suc, List, [], ◌∷◌, ◌++◌, codes, Option, Some, None}
use Rattle.protox_fault.specs.declared.error.ParseErrorKind.{ParseErrorKind}
use Rattle.protox_fault.specs.declared.error.ParseErrorKind.TheVariants.{UnexpectedEof}
use Rattle.protox_lexeme.specs.declared.block_comment.Mark as code
use Rattle.protox_lexeme.specs.declared.block_comment.Mark.TheVariants as variant
use Rattle.protox_lexeme.specs.BlockComments.{Mark, opens, closes, nested_fault}

-- The end and the faults of a comment that nothing closes. It ends at the last `*/`, with the
-- faults before that. Without any `*/` it has no end, and the fault says so.
abbrev pub run_out : Option ℕ → List ParseErrorKind → List ParseErrorKind → Option ℕ × List ParseErrorKind
run_out None settled since = (None, (settled ++ since) ++ UnexpectedEof (codes "comment terminator") ∷ [])
run_out (Some at) settled since = (Some at, settled)

-- Where the comment ends, and its faults, if these `/*` and `*/` are still to come and `inner`
-- levels are open within it.
abbrev pub run : ℕ → List Mark → ℕ → Option ℕ → List ParseErrorKind → List ParseErrorKind → Option ℕ × List ParseErrorKind
run start [] inner last settled since = run_out last settled since
run start (opens at ∷ ms) inner last settled since = run start ms (suc inner) last settled (since ++ nested_fault start at ∷ [])
run start (closes at ∷ ms) zero last settled since = (Some at, settled ++ since)
run start (closes at ∷ ms) (suc inner) last settled since = run start ms inner (Some at) (settled ++ since) []

-- What the code reads at a place, in front of what follows; then how many bytes that are.
abbrev pub in_front : Option code.Mark → ℕ → List Mark → List Mark
in_front (Some variant.Opens) at ms = opens at ∷ ms
in_front (Some variant.Closes) at ms = closes at ∷ ms
in_front None at ms = ms

-- Two bytes for a `/*` or `*/`, else one.
abbrev pub read_len : Option code.Mark → ℕ
read_len (Some m) = 2
read_len None = 1
