-- Small sources with their lexemes, and files that begin with their tokens.
use Rattle.std.proofs.Common.{◌≡◌, ◌≤◌, ℕ, suc, ◌+◌, zero, true, List, [], ◌∷◌, ◌++◌, take, length, None, Result, Ok, Err, codes, arith}
use Rattle.protox_fault.specs.Faults.{Span, span_from}
use Rattle.protox_lexeme.specs.Lexemes.{Lexeme}
use Rattle.protox_lexeme.specs.Shapes.{Shape, Str, LineComment, Mark, Invalid, Row}
use Rattle.protox_lexeme.specs.Table.{rows_of}
use Rattle.protox_fault.specs.declared.error.ParseErrorKind.{ParseErrorKind}
use Rattle.protox_fault.specs.declared.error.ParseErrorKind.TheVariants as fault
use Rattle.protox_ast.specs.Fronts.{shapes, numbered, GoesOn}
use Rattle.protox_ast.specs.Spelling as s
use Rattle.protox_ast.specs.Tree as t
use Rattle.protox_grammar.specs.Reader.{Refusal}
use Rattle.protox_grammar.specs.Reads.{read}
use Rattle.protox_grammar.proofs.Main as main
use Rattle.protox_grammar.proofs.Numbers.{shapes-length}
pub use Rattle.protox_grammar.proofs.samples.Build.{word, number, text}

-- A lexeme at its place, without a fault.
abbrev pub at : Shape → ℕ → ℕ → Lexeme
at shape start stop = record { start = start; stop = stop; shape = shape; borrowed = true; faults = [] }

abbrev pub row : ℕ → ℕ → Shape → Row Span
row start end shape = record { shape = shape; at = span_from start end }

abbrev pub faulty : Lexeme → List ParseErrorKind → Lexeme
faulty x faults = record x { faults = faults }

-- ---- files that begin with some tokens

abbrev or_empty : Result (t.File ℕ) Refusal → t.File ℕ
or_empty (Ok f) = f
or_empty (Err e) = record { syntax = None; statements = [] }

-- The file of these tokens, each tagged with its number.
abbrev pub made : List Shape → t.File ℕ
made ss = or_empty (read 40 (numbered 0 ss))

-- the first n tokens of these lexemes, and others
abbrev pub joined : List Lexeme → ℕ → List Shape → List Shape
joined xs n more = take n (shapes (rows_of xs)) ++ more

-- these tokens are read
abbrev pub IsMade : List Shape → Type 0
IsMade ss = read 40 (numbered 0 ss) ≡ Ok (made ss)

pub goes-on : (xs : List Lexeme) (n : ℕ) (more : List Shape) → n ≤ length (rows_of xs) → IsMade (joined xs n more) → GoesOn (shapes (rows_of xs)) n (made (joined xs n more))
goes-on xs n more l e = record { more = more; there = omega (arith, l, shapes-length (rows_of xs)); spells = ((main.accepts_iff 0 40 (numbered 0 (joined xs n more)) (made (joined xs n more))).0 e).0 }

-- ---- sources

-- é;
abbrev pub accent : List Lexeme
accent = at Invalid 0 2 ∷ at (Mark s.semicolon) 2 3 ∷ []

-- # x
abbrev pub hash : Lexeme
hash = faulty (at (LineComment (codes " x")) 0 3) (fault.HashCommentOutsideTextFormat (span_from 0 3) ∷ [])

-- option o = {
abbrev pub option_front : List Lexeme
option_front = at (word "option") 0 6 ∷ at (word "o") 7 8 ∷ at (Mark s.equals) 9 10 ∷ at (Mark s.open_brace) 11 12 ∷ []

-- # c
abbrev pub inner_hash : Lexeme
inner_hash = faulty (at (LineComment (codes " c")) 13 16) (fault.HashCommentOutsideTextFormat (span_from 13 16) ∷ [])

-- message {}
abbrev pub nameless : List Lexeme
nameless = at (word "message") 0 7 ∷ at (Mark s.open_brace) 8 9 ∷ at (Mark s.close_brace) 9 10 ∷ []

-- message M {
abbrev pub unclosed : List Lexeme
unclosed = at (word "message") 0 7 ∷ at (word "M") 8 9 ∷ at (Mark s.open_brace) 10 11 ∷ []

-- syntax = 'x'
abbrev pub unknown : List Lexeme
unknown = at (word "syntax") 0 6 ∷ at (Mark s.equals) 7 8 ∷ at (text "x") 9 12 ∷ []

-- syntax = "pro" "to3"
abbrev pub pieces : List Lexeme
pieces = at (word "syntax") 0 6 ∷ at (Mark s.equals) 7 8 ∷ at (text "pro") 9 14 ∷ at (text "to3") 15 20 ∷ []

-- syntax = "pro" "to4"
abbrev pub unknown_run : List Lexeme
unknown_run = at (word "syntax") 0 6 ∷ at (Mark s.equals) 7 8 ∷ at (text "pro") 9 14 ∷ at (text "to4") 15 20 ∷ []

-- import '\xFF'
abbrev pub no_text : List Lexeme
no_text = at (word "import") 0 6 ∷ at (Str (255 ∷ [])) 7 13 ∷ []

-- import '..' message
abbrev pub parent : List Lexeme
parent = at (word "import") 0 6 ∷ at (text "..") 7 11 ∷ at (word "message") 12 19 ∷ []

-- package a; package b;
abbrev pub packages : List Lexeme
packages = at (word "package") 0 7 ∷ at (word "a") 8 9 ∷ at (Mark s.semicolon) 9 10 ∷ at (word "package") 11 18 ∷ at (word "b") 19 20 ∷ at (Mark s.semicolon) 20 21 ∷ []

-- message M { optional group ab = 1 { } }
abbrev pub small_group : List Lexeme
small_group =
    at (word "message") 0 7 ∷ at (word "M") 8 9 ∷ at (Mark s.open_brace) 10 11 ∷ at (word "optional") 12 20 ∷ at (word "group") 21 26 ∷ at (word "ab") 27 29
    ∷ at (Mark s.equals) 30 31 ∷ at (number 1) 32 33 ∷ at (Mark s.open_brace) 34 35 ∷ at (Mark s.close_brace) 36 37 ∷ at (Mark s.close_brace) 38 39 ∷ []

-- How a file goes on after the name of a group in a message.
abbrev pub group_end : List Shape
group_end = Mark s.equals ∷ number 1 ∷ Mark s.open_brace ∷ Mark s.close_brace ∷ Mark s.close_brace ∷ []

-- message M { reserved '0foo'; }
abbrev pub digit_first : List Lexeme
digit_first =
    at (word "message") 0 7 ∷ at (word "M") 8 9 ∷ at (Mark s.open_brace) 10 11 ∷ at (word "reserved") 12 20 ∷ at (text "0foo") 21 27
    ∷ at (Mark s.semicolon) 27 28 ∷ at (Mark s.close_brace) 29 30 ∷ []

-- `message M { ` so many times, from a place on
abbrev pub nested : ℕ → ℕ → List Lexeme
nested zero start = []
nested (suc n) start = at (word "message") start (start + 7) ∷ at (word "M") (start + 8) (start + 9) ∷ at (Mark s.open_brace) (start + 10) (start + 11) ∷ nested n (start + 12)

-- so many closing braces
abbrev pub closed : ℕ → List Shape
closed zero = []
closed (suc n) = Mark s.close_brace ∷ closed n
