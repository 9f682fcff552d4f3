-- Block comments.
use Rattle.std.specs.Prelude.{ℕ, zero, suc, ◌+◌, ◌-◌, Bool, true, false, ◌&&◌, ◌==◌, if◌then◌else◌, List, [], ◌∷◌, ◌++◌, length, take, drop, slice_index, encode_utf8_all, codes, Option, Some, None}
use Rattle.std.specs.Option.{option_map, option_or}
use Rattle.std.specs.List.{prefix_len}
use Rattle.std.specs.Char.{is_whitespace}
use Rattle.std.specs.Str.{chars}
use Rattle.protox_fault.specs.declared.error.ParseErrorKind.{ParseErrorKind}
use Rattle.protox_fault.specs.declared.error.ParseErrorKind.TheVariants.{NestedBlockComment, UnexpectedEof}
use Rattle.protox_fault.specs.Faults.{span_from}
use Rattle.protox_lexeme.specs.Lexicon.{is_blank, is_not_newline}

-- ---- `/*` and `*/`

-- A `/*` or `*/` within a comment, and where it stands. `/*` opens a level, and `*/` closes one.
pub data Mark : Type 0 where
  opens : ℕ → Mark
  closes : ℕ → Mark

-- The `/*` and `*/` of a text, read from left to right. `at` is the place of its first byte. No
-- byte belongs to two of them.
abbrev pub marks : ℕ → List ℕ → List Mark
marks at [] = []
marks at (b ∷ []) = []
marks at (b ∷ (c ∷ text)) =
    if b == 47 && c == 42 then opens at ∷ marks (at + 2) text
    else if b == 42 && c == 47 then closes at ∷ marks (at + 2) text
    else marks (at + 1) (c ∷ text)

-- Where a comment ends: the place of the last `*/`, and the `/*` and `*/` before it.
pub record Ending : Type 0 where
  pub before : List Mark
  pub at : ℕ

-- The end of a comment, with one more mark before it.
abbrev pub behind : Mark → Ending → Ending
behind m e = record { before = m ∷ e.before; at = e.at }

-- The `*/` that closes the comment, if `inner` levels are open within it. None if nothing closes
-- it.
abbrev pub closed : List Mark → ℕ → Option Ending
closed [] inner = None
closed (opens at ∷ ms) inner = option_map (behind (opens at)) (closed ms (suc inner))
closed (closes at ∷ ms) zero = Some (record { before = []; at = at })
closed (closes at ∷ ms) (suc inner) = option_map (behind (closes at)) (closed ms inner)

-- The last `*/`. None if there is no `*/`.
abbrev pub last_closed : List Mark → Option Ending
last_closed [] = None
last_closed (opens at ∷ ms) = option_map (behind (opens at)) (last_closed ms)
last_closed (closes at ∷ ms) = option_or (option_map (behind (closes at)) (last_closed ms)) (Some (record { before = []; at = at }))

-- A comment ends at the `*/` that closes it. If none does, it ends at the last `*/`.
abbrev pub ending : List Mark → Option Ending
ending ms = option_or (closed ms 0) (last_closed ms)

-- The `/*` and `*/` of the comment's text, after its opening `/*`.
abbrev pub marks_of : List ℕ → List Mark
marks_of text = marks 2 (drop 2 text)

-- ---- where it ends, and its faults

-- The length of a comment in bytes. Blanks after its last `*/` belong to it. Without a `*/` it goes
-- on to the end of the text.
abbrev pub len_to : List ℕ → Option Ending → ℕ
len_to text None = length text
len_to text (Some e) = e.at + 2 + prefix_len is_blank (drop (e.at + 2) text)

-- The fault of a `/*` within a comment.
abbrev pub nested_fault : ℕ → ℕ → ParseErrorKind
nested_fault start at = NestedBlockComment (span_from (start + at) (start + (at + 2)))

-- The faults of each `/*` in the list.
abbrev pub nested_faults : ℕ → List Mark → List ParseErrorKind
nested_faults start [] = []
nested_faults start (opens at ∷ ms) = nested_fault start at ∷ nested_faults start ms
nested_faults start (closes at ∷ ms) = nested_faults start ms

-- The faults of a comment. If it has no end, one more fault says so.
abbrev pub faults_to : ℕ → List Mark → Option Ending → List ParseErrorKind
faults_to start ms None = nested_faults start ms ++ UnexpectedEof (codes "comment terminator") ∷ []
faults_to start ms (Some e) = nested_faults start e.before

-- ---- its text

-- The characters without the margins of lines: after a newline white space is dropped, further
-- newlines too, and then one `*`. (The `*` of the closing `*/` is not among the characters.)
-- `fresh` says that only white space stands after a newline so far.
abbrev pub without_margins : Bool → List ℕ → List ℕ
without_margins fresh [] = []
without_margins false (c ∷ cs) = c ∷ without_margins (c == 10) cs
without_margins true (c ∷ cs) =
    if is_whitespace c then without_margins true cs
    else if c == 42 then without_margins false cs
    else c ∷ without_margins false cs

-- The characters, with each `\r\n` as `\n`.
abbrev pub without_returns : List ℕ → List ℕ
without_returns [] = []
without_returns (c ∷ cs) = if c == 13 && slice_index cs 0 == 10 then without_returns cs else c ∷ without_returns cs

-- The text of a comment that has this content between `/*` and `*/`.
unfoldable pub comment_text : List ℕ → List ℕ
comment_text content = encode_utf8_all (without_returns (without_margins false (chars content)))

-- Whether the content has no newline.
abbrev pub is_one_line : List ℕ → Bool
is_one_line content = prefix_len is_not_newline content == length content

-- The content between `/*` and `*/`. A comment with a fault has none.
abbrev pub content_to : List ParseErrorKind → List ℕ → Option Ending → List ℕ
content_to [] text (Some e) = take (e.at - 2) (drop 2 text)
content_to faults text end = []
