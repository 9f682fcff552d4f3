-- Lexemes, and how a text is cut into them.
use Rattle.std.specs.Prelude.{◌≡◌, ℕ, zero, suc, ◌+◌, ◌-◌, ◌^◌, ◌<◌, Bool, true, false, not, ◌&&◌, ◌||◌, ◌==◌, nat_lt, nat_le, if◌then◌else◌, ◌⊎◌, List, [], ◌∷◌, ◌++◌, length, take, drop, slice_index, codes, Option, Some, None}
use Rattle.std.specs.List.{prefix_len}
use Rattle.std.specs.Char.{is_ascii_alphabetic, is_ascii_digit, len_utf8}
use Rattle.std.specs.Str.{chars}
use Rattle.std.specs.Str.Parse.{digits_value}
use Rattle.protox_lexeme.specs.declared.scan.Kind.{Kind}
use Rattle.protox_lexeme.specs.declared.scan.Kind.TheVariants as kind
use Rattle.protox_lexeme.specs.Pattern.{Fits, IsLongest}
use Rattle.protox_lexeme.specs.Lexicon.{pattern, is_blank, is_letter, is_x, is_f}
use Rattle.protox_lexeme.specs.Scanning.{scan}
use Rattle.protox_fault.specs.declared.error.ParseErrorKind.{ParseErrorKind}
use Rattle.protox_fault.specs.declared.error.ParseErrorKind.TheVariants.{IntegerOutOfRange, NoSpaceBetweenIntAndIdent, FloatSuffixOutsideTextFormat, HashCommentOutsideTextFormat}
use Rattle.protox_fault.specs.Faults.{span_from, faults_in}
use Rattle.protox_lexeme.specs.Shapes.{Shape, Ident, Int, Float, Str, Mark, LineComment, BlockComment, Newline, Invalid}
use Rattle.protox_lexeme.specs.BlockComments.{marks_of, ending, len_to, faults_to, content_to, comment_text, is_one_line}
use Rattle.protox_lexeme.specs.Strings.{pieces, value_of, len_of, is_one_run, faults_of}

-- A lexeme, from byte `start` up to `stop`. `borrowed` says that its value owns no memory: it is a
-- piece of the source, or there is none. The faults are those that it has outside aggregates.
pub record Lexeme : Type 0 where
  pub start : ℕ
  pub stop : ℕ
  pub shape : Shape
  pub borrowed : Bool
  pub faults : List ParseErrorKind

-- The lexeme with only those faults that count in this mode.
abbrev pub in_mode : Bool → Lexeme → Lexeme
in_mode text_format x = record x { faults = faults_in text_format x.faults }

-- ---- integers

-- The length of what stands before the digits of an integer: two for `0x`, one for the `0` of an
-- octal number.
abbrev pub prefix_of : List ℕ → ℕ
prefix_of word = if not (slice_index word 0 == 48) || length word == 1 then 0 else if is_x (slice_index word 1) then 2 else 1

-- The radix of the digits.
abbrev pub radix_of : List ℕ → ℕ
radix_of word = if prefix_of word == 2 then 16 else if prefix_of word == 1 then 8 else 10

-- The value of the integer.
abbrev pub integer_value : List ℕ → ℕ
integer_value word = digits_value (radix_of word) (drop (prefix_of word) word)

-- Whether the value of the integer is below 2 ^ 64.
abbrev pub value_fits : List ℕ → Bool
value_fits word = nat_lt (integer_value word) (2 ^ 64)

-- The fault of a letter or `_` right after an integer of n bytes. After the integer `0` it is none.
abbrev pub space_faults : ℕ → List ℕ → ℕ → List ParseErrorKind
space_faults at text n =
    if not (prefix_of (take n text) == 0 && slice_index text 0 == 48) && is_letter (slice_index text n)
    then NoSpaceBetweenIntAndIdent (span_from (at + prefix_of (take n text)) (at + (n + 1 + prefix_len is_ascii_alphabetic (drop (n + 1) text)))) ∷ []
    else []

-- The fault of an integer whose value is not below 2 ^ 64.
abbrev pub range_faults : ℕ → List ℕ → List ParseErrorKind
range_faults at word = if value_fits word then [] else IntegerOutOfRange (span_from (at + prefix_of word) (at + length word)) ∷ []

-- An integer of n bytes. If it is too large, its value is 0.
abbrev pub integer : ℕ → List ℕ → ℕ → Lexeme
integer at text n = record {
  start = at;
  stop = at + n;
  shape = Int (if value_fits (take n text) then integer_value (take n text) else 0);
  borrowed = true;
  faults = space_faults at text n ++ range_faults at (take n text);
}

-- ---- floats

-- Whether the float ends in `f` or `F`.
abbrev pub has_suffix : List ℕ → Bool
has_suffix word = is_f (slice_index word (length word - 1))

-- The float without its suffix.
abbrev pub body_of : List ℕ → List ℕ
body_of word = if has_suffix word then take (length word - 1) word else word

-- Whether the float has neither a point nor an exponent.
abbrev pub is_whole : List ℕ → Bool
is_whole word = prefix_len is_ascii_digit (body_of word) == length (body_of word)

-- The text of the float: without its suffix, and with `.0` added to mere digits.
abbrev pub float_text : List ℕ → List ℕ
float_text word = if is_whole word then body_of word ++ codes ".0" else body_of word

-- The fault of a float with a suffix.
abbrev pub suffix_faults : ℕ → List ℕ → List ParseErrorKind
suffix_faults at word = if has_suffix word then FloatSuffixOutsideTextFormat (span_from at (at + length word)) ∷ [] else []

-- A float of n bytes.
abbrev pub float : ℕ → List ℕ → ℕ → Lexeme
float at text n = record {
  start = at;
  stop = at + n;
  shape = Float (float_text (take n text));
  borrowed = not (is_whole (take n text));
  faults = suffix_faults at (take n text);
}

-- ---- strings

-- A string, up to its closing quote, a newline or the end of the text.
abbrev pub string : ℕ → List ℕ → Lexeme
string at text = let ps = pieces (slice_index text 0) (drop 1 text) in record {
  start = at;
  stop = at + 1 + len_of ps;
  shape = Str (value_of ps);
  borrowed = is_one_run false ps;
  faults = faults_of None (at + 1) ps;
}

-- ---- line comments

-- What follows the `//` or `#`.
abbrev pub line_body : List ℕ → List ℕ
line_body word = drop (if slice_index word 0 == 35 then 1 else 2) word

-- Whether the comment ends in a carriage return and a newline.
abbrev pub ends_crlf : List ℕ → Bool
ends_crlf body = nat_le 2 (length body) && (slice_index body (length body - 2) == 13 && slice_index body (length body - 1) == 10)

-- The text of the comment, with `\n` for a `\r\n` at its end.
abbrev pub line_text : List ℕ → List ℕ
line_text body = if ends_crlf body then take (length body - 2) body ++ 10 ∷ [] else body

-- The fault of a comment that begins with `#`.
abbrev pub hash_faults : ℕ → List ℕ → List ParseErrorKind
hash_faults at word = if slice_index word 0 == 35 then HashCommentOutsideTextFormat (span_from at (at + length word)) ∷ [] else []

-- A line comment of n bytes.
abbrev pub line_comment : ℕ → List ℕ → ℕ → Lexeme
line_comment at text n = record {
  start = at;
  stop = at + n;
  shape = LineComment (line_text (line_body (take n text)));
  borrowed = not (ends_crlf (line_body (take n text)));
  faults = hash_faults at (take n text);
}

-- ---- block comments

-- A block comment. If it has a fault, its text is empty.
abbrev pub block_comment : ℕ → List ℕ → Lexeme
block_comment at text =
    let end = ending (marks_of text) in
    let faults = faults_to at (marks_of text) end in
    let content = content_to faults text end in
    record {
      start = at;
      stop = at + len_to text end;
      shape = BlockComment (comment_text content);
      borrowed = is_one_line content;
      faults = faults;
    }

-- ---- lexemes

-- A lexeme of n bytes without a fault, which owns no memory.
abbrev pub plain : Shape → ℕ → ℕ → Lexeme
plain shape at n = record { start = at; stop = at + n; shape = shape; borrowed = true; faults = [] }

-- The lexeme of a kind at a place, if the first n bytes of the text from there on match.
abbrev pub lexeme : Kind → ℕ → List ℕ → ℕ → Lexeme
lexeme kind.Identifier at text n = plain (Ident (take n text)) at n
lexeme kind.Integer at text n = integer at text n
lexeme kind.Float at text n = float at text n
lexeme kind.String at text n = string at text
lexeme kind.Mark at text n = plain (Mark (slice_index text 0)) at n
lexeme kind.LineComment at text n = line_comment at text n
lexeme kind.BlockComment at text n = block_comment at text
lexeme kind.Newline at text n = plain Newline at n

-- An invalid lexeme of one character.
abbrev pub invalid : ℕ → List ℕ → Lexeme
invalid at text = plain Invalid at (len_utf8 (slice_index (chars text) 0))

-- The lexeme at a place is the longest match of a pattern. If no pattern matches, it is one invalid
-- character.
abbrev pub IsLexeme : ℕ → List ℕ → Lexeme → Type 0
IsLexeme at text x =
    ((k : Kind) × (n : ℕ) × IsLongest pattern k text n × (x ≡ lexeme k at text n))
    ⊎ (((k : Kind) (n : ℕ) → Fits (pattern k) text n → ⊥) × (x ≡ invalid at text))

-- The number of blanks at the front of the text.
abbrev pub blanks : List ℕ → ℕ
blanks text = prefix_len is_blank text

-- The text from a place on consists of these lexemes, with blanks between them.
abbrev pub IsCut : ℕ → List ℕ → List Lexeme → Type 0
IsCut at text [] = blanks text ≡ length text
IsCut at text (x ∷ xs) = (blanks text < length text) × IsLexeme (at + blanks text) (drop (blanks text) text) x × IsCut x.stop (drop (x.stop - at) text) xs

-- ---- the cut as a function

-- The lexeme of a match, or one invalid character without a match.
abbrev pub lexeme_or : ℕ → List ℕ → Option (Kind × ℕ) → Lexeme
lexeme_or at text None = invalid at text
lexeme_or at text (Some p) = lexeme p.0 at text p.1

-- The lexeme at a place, by the longest match that the scan finds.
unfoldable pub first_lexeme : ℕ → List ℕ → Lexeme
first_lexeme at text = lexeme_or at text (scan text)

-- The lexemes from a place on, at most `count` of them.
unfoldable pub cut_from : ℕ → ℕ → List ℕ → List Lexeme
cut_from zero at text = []
cut_from (suc count) at text =
    if nat_lt (blanks text) (length text)
    then (let x = first_lexeme (at + blanks text) (drop (blanks text) text) in x ∷ cut_from count x.stop (drop (x.stop - at) text))
    else []

-- The lexemes of a text, whose first byte stands at the place.
unfoldable pub cut : ℕ → List ℕ → List Lexeme
cut at text = cut_from (length text) at text
