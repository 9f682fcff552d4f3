-- How the lexer finds the longest match: the kind at the front of a text, and its length in bytes.
use Rattle.std.specs.Prelude.{ℕ, ◌+◌, ◌&&◌, ◌==◌, nat_lt, if◌then◌else◌, List, drop, slice_index, Option, Some, None}
use Rattle.std.specs.List.{prefix_len}
use Rattle.std.specs.Char.{is_ascii_digit, is_ascii_hexdigit}
use Rattle.protox_lexeme.specs.declared.scan.Kind.{Kind}
use Rattle.protox_lexeme.specs.declared.scan.Kind.TheVariants.{Identifier, Integer, Float, String, Mark, LineComment, BlockComment, Newline}
use Rattle.protox_lexeme.specs.Lexicon.{is_letter, is_word, is_octal, is_e, is_sign, is_f, is_x, is_quote, is_mark, is_not_newline}

-- The first byte.
abbrev pub first : List ℕ → ℕ
first text = slice_index text 0

-- The length of the digits at the front.
abbrev pub digits_len : List ℕ → ℕ
digits_len text = prefix_len is_ascii_digit text

-- The length of a sign at the front: 1, or 0 without one.
abbrev pub sign_len : List ℕ → ℕ
sign_len text = if is_sign (first text) then 1 else 0

-- The length of digits at the front, with a sign if there is one. 0 without digits.
unfoldable pub signed_len : List ℕ → ℕ
signed_len text =
    let digits = digits_len (drop (sign_len text) text) in
    if nat_lt 0 digits then sign_len text + digits else 0

-- The length of an exponent at the front, or 0.
unfoldable pub exponent_len : List ℕ → ℕ
exponent_len text = if is_e (first text) && nat_lt 0 (signed_len (drop 1 text)) then 1 + signed_len (drop 1 text) else 0

-- The length of an `f` or `F` at the front: 1, or 0 without one.
unfoldable pub suffix_len : List ℕ → ℕ
suffix_len text = if is_f (first text) then 1 else 0

-- The length of an exponent and a suffix at the front. Each may be missing.
unfoldable pub tail_len : List ℕ → ℕ
tail_len text = exponent_len text + suffix_len (drop (exponent_len text) text)

-- The length of digits, exponent and suffix at the front: what follows a point.
unfoldable pub fraction_len : List ℕ → ℕ
fraction_len text = digits_len text + tail_len (drop (digits_len text) text)

-- A number that begins with 0 and has no point and no exponent.
unfoldable pub zero_number : List ℕ → Kind × ℕ
zero_number text =
    if is_x (slice_index text 1) && is_ascii_hexdigit (slice_index text 2) then (Integer, 2 + prefix_len is_ascii_hexdigit (drop 2 text))
    else if is_f (slice_index text 1) then (Float, 2)
    else (Integer, 1 + prefix_len is_octal (drop 1 text))

-- A number that begins with a digit.
unfoldable pub number : List ℕ → Kind × ℕ
number text =
    let whole = digits_len text in
    if slice_index text whole == 46 then (Float, whole + 1 + fraction_len (drop (whole + 1) text))
    else if nat_lt 0 (exponent_len (drop whole text)) then (Float, whole + tail_len (drop whole text))
    else if first text == 48 then zero_number text
    else if is_f (slice_index text whole) then (Float, whole + 1)
    else (Integer, whole)

-- The length of the line at the front, with its newline.
abbrev pub line_len : List ℕ → ℕ
line_len text = prefix_len is_not_newline text + (if slice_index text (prefix_len is_not_newline text) == 10 then 1 else 0)

-- The kind of the longest match at the front, and its length in bytes. None if nothing matches. A
-- string or a block comment is matched up to its opening alone.
unfoldable pub scan : List ℕ → Option (Kind × ℕ)
scan text =
    let b = first text in
    if is_letter b then Some (Identifier, prefix_len is_word text)
    else if is_ascii_digit b then Some (number text)
    else if b == 46 && is_ascii_digit (slice_index text 1) then Some (Float, 1 + fraction_len (drop 1 text))
    else if is_quote b then Some (String, 1)
    else if b == 35 then Some (LineComment, 1 + line_len (drop 1 text))
    else if b == 47 && slice_index text 1 == 47 then Some (LineComment, 2 + line_len (drop 2 text))
    else if b == 47 && slice_index text 1 == 42 then Some (BlockComment, 2)
    else if is_mark b then Some (Mark, 1)
    else if b == 10 then Some (Newline, 1)
    else None
