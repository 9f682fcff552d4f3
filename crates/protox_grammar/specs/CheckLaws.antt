-- The laws of the notes that are taken while the tokens of a source are read. Each check that is
-- noted is true, and none is passed over. The notes of braces tell whether a place is inside an
-- aggregate. Truth is defined by the files that begin as the source does, as in protox_ast's Fronts
-- and Truth.
use Rattle.std.specs.Prelude.{◌≡◌, ◌≤◌, ◌⊎◌, ℕ, Bool, true, false, List, length, None, Any}
use Rattle.protox_fault.specs.Faults.{Span}
use Rattle.protox_lexeme.specs.Lexemes.{Lexeme}
use Rattle.protox_lexeme.specs.Shapes.{Rows}
use Rattle.protox_lexeme.specs.Table.{rows_of}
use Rattle.protox_fault.specs.declared.error.ParseErrorKind.{ParseErrorKind}
use Rattle.protox_fault.specs.declared.error.ParseErrorKind.TheVariants.{MessageNestingTooDeep}
use Rattle.protox_ast.specs.CheckedNodes.{CheckedNode}
use Rattle.protox_ast.specs.Checks.{WrongCheckedNode}
use Rattle.protox_ast.specs.Fronts.{Inside}
use Rattle.protox_ast.specs.Spells.{numbered, shapes}
use Rattle.protox_ast.specs.Truth.{IsTrueOf, IsWrongBefore, IsWrongBehind, token_span}
use Rattle.protox_grammar.specs.Steps.{Steps, tokens, until, has_deep}
use Rattle.protox_grammar.specs.Noted.{noted_nodes, open_behind, trace}

-- How deep messages and groups may be nested.
abbrev pub levels : ℕ
levels = 31

-- The tokens of a source, each tagged with its number.
abbrev pub tokens_of : List Lexeme → Rows ℕ
tokens_of lexemes = numbered 0 (shapes (rows_of lexemes))

-- The steps of reading the first n tokens. The reader may look at the next token, but doesn't take
-- it.
abbrev pub steps_by : List Lexeme → ℕ → Steps ℕ
steps_by lexemes n = until n (trace levels (tokens_of lexemes))

-- The checked nodes that are noted by then.
abbrev pub noted_by : List Lexeme → ℕ → List (CheckedNode ℕ)
noted_by lexemes n = noted_nodes None 0 (steps_by lexemes n)

-- Whether a body of level 32 was opened by then. Reading ends there.
abbrev pub is_too_deep_by : List Lexeme → ℕ → Bool
is_too_deep_by lexemes n = has_deep (steps_by lexemes n)

-- The fault is one of a node that is noted by then.
abbrev pub IsNotedBy : List Lexeme → ℕ → ParseErrorKind → Type 0
IsNotedBy lexemes n wrong = Any (λ node. WrongCheckedNode (token_span (rows_of lexemes)) node wrong) (noted_by lexemes n)

-- ---- checks

-- A node that is noted by then is a node of some file that begins with the first k tokens, for a k
-- of at most n. It has the same fault there.
abbrev pub NotedIsTrue : Type 0
NotedIsTrue = (lexemes : List Lexeme) (n : ℕ) (wrong : ParseErrorKind) → IsNotedBy lexemes n wrong → (k : ℕ) × (k ≤ n) × IsWrongBehind lexemes k wrong

-- So the fault is true of the source.
abbrev pub NotedIsTrueOf : Type 0
NotedIsTrueOf = (lexemes : List Lexeme) (n : ℕ) (wrong : ParseErrorKind) → IsNotedBy lexemes n wrong → IsTrueOf lexemes wrong

-- Some file begins with the first n tokens, and a node that ends with the last of them has a fault.
-- Then a node with this end and this fault is noted by then; or reading has ended before, at a body
-- that is too deep.
abbrev pub NoneIsPassedOver : Type 0
NoneIsPassedOver = (lexemes : List Lexeme) (n : ℕ) (wrong : ParseErrorKind)
    → IsWrongBehind lexemes n wrong
    → Any (IsWrongBefore lexemes n wrong) (noted_by lexemes n) ⊎ (is_too_deep_by lexemes n ≡ true)

-- If reading has ended at such a body, it is noted that something is too deep.
abbrev pub TooDeepIsNoted : Type 0
TooDeepIsNoted = (lexemes : List Lexeme) (n : ℕ) → is_too_deep_by lexemes n ≡ true → (span : Span) × IsNotedBy lexemes n (MessageNestingTooDeep span)

-- The steps of reading all tokens are all steps of reading. So what holds of the first n tokens
-- holds of the whole source.
abbrev pub AllIsNoted : Type 0
AllIsNoted = (lexemes : List Lexeme) (n : ℕ) → length (rows_of lexemes) ≤ n → steps_by lexemes n ≡ trace levels (tokens_of lexemes)

-- ---- aggregates

-- If some file may be inside an aggregate after the first n tokens, an aggregate is open there; or
-- reading has ended at a body that is too deep.
abbrev pub InsideIsOpen : Type 0
InsideIsOpen = (lexemes : List Lexeme) (n : ℕ)
    → is_too_deep_by lexemes n ≡ false
    → Inside lexemes n
    → open_behind false (steps_by lexemes n) ≡ true

-- If an aggregate is open after the first n tokens, and all of them were taken, some file may be
-- inside it there; or reading has ended at a body that is too deep.
abbrev pub OpenIsInside : Type 0
OpenIsInside = (lexemes : List Lexeme) (n : ℕ)
    → is_too_deep_by lexemes n ≡ false
    → length (tokens (steps_by lexemes n)) ≡ n
    → open_behind false (steps_by lexemes n) ≡ true
    → Inside lexemes n
