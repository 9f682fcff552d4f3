-- The words that the code says where it stops reading: what it expected there.
use Rattle.std.specs.Prelude.{◌≡◌, ℕ, zero, suc, length, Bool, if◌then◌else◌, Option, Some, None, Result, Ok, Err}
use Rattle.protox_fault.specs.Faults.{Span}
use Rattle.protox_lexeme.specs.Shapes.{Shape, Mark, Rows}
use Rattle.protox_ast.specs.Ast.{span_if_any}
use Rattle.protox_ast.specs.Places.{Place}
use Rattle.protox_ast.specs.Spelling as s
use Rattle.protox_grammar.specs.Class.{Set, only, in_set}
use Rattle.protox_grammar.specs.Reader.{Reader, Refusal, fixed, head_in, mapped, optional}
use Rattle.protox_grammar.specs.Rules as r
use Rattle.protox_grammar.specs.Token as token
use Rattle.protox_rows.specs.declared.expected.Expected.{Expected}
use Rattle.protox_rows.specs.declared.expected.Expected.TheVariants as expected
use Rattle.protox_rows.specs.declared.refused.Refused.{Refused}
use Rattle.protox_rows.specs.declared.refused.Refused.TheVariants.{OutOfMemory, At, TooDeep}
use Rattle.protox_rows.specs.inner.Names as names
use Rattle.protox_rows.specs.inner.Strings as runs

-- ---- what a function says

-- The function fails with these words, if a row doesn't fit.
abbrev pub SaysOf : Refused → Expected → Type 0
SaysOf OutOfMemory words = Unit {0}
SaysOf (At left said) words = said ≡ words
SaysOf (TooDeep left) words = Unit {0}

-- The function fails with these words, if it fails since a row doesn't fit.
abbrev pub Says : {X : Type 0} → Result X Refused → Expected → Type 0
Says (Ok x) words = Unit {0}
Says (Err e) words = SaysOf e words

-- ---- the words of readers

-- What a reader expects where it stops among these rows.
abbrev pub Words : Type 0
Words = Rows Place → Expected

-- These words, wherever it stops.
abbrev pub always : Expected → Words
always e xs = e

-- The words of what is read next, or these if the first part wasn't read.
abbrev pub behind : {A : Type 0} → Expected → (A → Words) → Result (A × Rows Place) Refusal → Expected
behind e more (Ok x) = more x.0 x.1
behind e more (Err d) = e

-- The words of one reader, and behind it those of another.
abbrev pub and_then : {A : Type 0} → Reader Place A → Words → (A → Words) → Words
and_then a first more xs = behind (first xs) more (a xs)

-- The words of the first reader if the next token is in the set, else those of the second.
abbrev pub choose : Set → Words → Words → Words
choose P first second xs = if head_in (in_set P) xs then first xs else second xs

-- The words of a reader that reads again and again; the number bounds the turns.
unfoldable pub words_at : {A : Type 0} → (Shape → Bool) → Reader Place A → Words → ℕ → Words
words_at p a first zero xs = first xs
words_at p a first (suc n) xs = if head_in p xs then behind (first xs) (λ x. words_at p a first n) (a xs) else first xs

-- The words of a reader that reads as often as the next token passes the test.
unfoldable pub times : {A : Type 0} → (Shape → Bool) → Reader Place A → Words → Words
times p a first xs = words_at p a first (suc (length xs)) xs

-- ---- the words of names and numbers

-- "." ident
unfoldable pub more_part : Words
more_part = and_then (fixed (Mark s.dot)) (always expected.Dot) (λ m. always expected.Ident)

-- ident ("." ident)*
unfoldable pub fullident : Expected → Words
fullident e = and_then (names.ident).code (always e) (λ first. times (in_set (only token.dot)) (names.more_part).code more_part)

-- What is expected first in a name. After a dot it can only be an identifier.
abbrev pub first_part : Option Span → Expected → Expected
first_part (Some dot) e = expected.Ident
first_part None e = e

-- "."? fullident
unfoldable pub typename : Expected → Words
typename e = and_then (mapped span_if_any (optional (in_set (only token.dot)) (fixed (Mark s.dot)))) (always expected.Dot) (λ dot. fullident (first_part dot e))

-- "-"? integer
unfoldable pub int : Words
int = and_then (mapped span_if_any (optional (in_set (only token.minus)) (fixed (Mark s.minus)))) (always expected.Minus) (λ minus. always expected.Int)

-- one of the scalar words | typename
unfoldable pub field_type : Expected → Words
field_type e = choose r.scalar_set (always expected.Type) (typename e)

-- string+
unfoldable pub strings : Expected → Words
strings e = and_then (runs.string).code (always e) (λ first. times (in_set (only token.a_string)) (runs.string).code (always expected.StringLiteral))
