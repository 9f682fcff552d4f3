-- A lexeme ends within its text, and what follows it is valid UTF-8.
use Rattle.std.proofs.Common.{◌≡◌, ℕ, zero, suc, ◌+◌, ◌-◌, ◌<◌, ◌≤◌, Bool, true, false, eqb, ltb, leb, inl, inr, List, [], ◌∷◌, length, take, drop, get_or, refl, sym, ap, ◌∙◌, subst, length-drop, length-take, get_or-drop, add_assoc, arith, le_refl, le_trans, Option, Some, None}
use Rattle.std.proofs.lemmas.Bool.{cases_Bool, true≢false, false≢true, eqb-true, ltb-true, leb-true}
use Rattle.std.proofs.lemmas.Bool.Decides.{nat_tests}
use Rattle.std.proofs.lemmas.List.Sums.{prefix_len-le-length}
use Rattle.std.proofs.lemmas.Str.{IsUtf8-drop, chars_past_char}
use Rattle.std.specs.List.{prefix_len}
use Rattle.std.specs.Char.{is_ascii_hexdigit, len_utf8}
use Rattle.std.specs.Str.{IsUtf8, IsCharBoundary, chars}
use Rattle.std.specs.Str.Parse.{digits_value}
use Rattle.std.specs.Prelude.{encode_utf8_all, min}
use Rattle.protox_lexeme.specs.declared.scan.Kind.{Kind}
use Rattle.protox_lexeme.specs.declared.scan.Kind.TheVariants.{Identifier, Integer, Float, String, Mark, LineComment, BlockComment, Newline}
use Rattle.protox_lexeme.specs.BlockComments.{marks_of, ending, len_to}
use Rattle.protox_lexeme.specs.Lexemes.{Lexeme, lexeme, string, block_comment, invalid, IsLexeme}
use Rattle.protox_lexeme.specs.Lexicon.{pattern, is_x, is_octal, is_quote}
use Rattle.protox_lexeme.specs.Pattern.{Fits, IsLongest}
use Rattle.protox_lexeme.specs.Strings as spec
use Rattle.protox_lexeme.proofs.Boundaries.{longest_utf8, last_boundary, char_boundary}
use Rattle.protox_lexeme.proofs.Cut.{fits_some}
use Rattle.protox_lexeme.proofs.Fitting.{first_passes, fits_within}
use Rattle.protox_lexeme.proofs.BlockExtent.{len_bounds, len_utf8_after}
use Rattle.protox_lexeme.proofs.Literal.{piece_some}

-- ---- pieces of a string

byte_len : (v n : ℕ) → spec.piece_len (spec.byte_piece v n) ≡ n
byte_len v n = elim (cases_Bool (leb v 255)) [ inl e ↦ rw e refl | inr e ↦ rw e refl ]

char_len : (v n : ℕ) → spec.piece_len (spec.char_piece v n) ≡ n
char_len v n = elim (cases_Bool (spec.is_scalar v)) [ inl e ↦ rw e refl | inr e ↦ rw e refl ]

simple_len : (r : Option ℕ) → spec.piece_len (spec.simple_piece r) ≤ 2
simple_len None = omega arith
simple_len (Some b) = omega arith

-- h hexadecimal digits follow the first two bytes.
hex_room : (text : List ℕ) (n : ℕ) → 1 ≤ n → n ≤ spec.hex_len text → 2 + n ≤ length text
hex_room text n some all =
    let digits = prefix_len-le-length is_ascii_hexdigit (drop 2 text) in omega (arith, length-drop 2 text)

hex_within : (text : List ℕ) → 1 ≤ length text → spec.piece_len (spec.hex_escape text) ≤ length text
unfolding spec.hex_escape
hex_within text some =
    let h = spec.hex_len text in
    elim (cases_Bool (ltb 0 h)) [
      | inl e ↦
          let less = ltb-true 0 h e in
          rw (e, byte_len (digits_value 16 (take (min 2 h) (drop 2 text))) (2 + min 2 h)) (hex_room text (min 2 h) (omega arith) (omega arith))
      | inr e ↦ rw e some
    ]

octal_within : (text : List ℕ) → 1 ≤ length text → spec.piece_len (spec.octal_escape text) ≤ length text
unfolding spec.octal_escape
octal_within text some =
    let o = spec.octal_len text in
    let digits = prefix_len-le-length is_octal (drop 1 text) in
    rw (byte_len (digits_value 8 (take (min 3 o) (drop 1 text))) (1 + min 3 o)) (omega (arith, length-drop 1 text))

char_within : (n : ℕ) (text : List ℕ) → 1 ≤ n → 1 ≤ length text → spec.piece_len (spec.char_escape n text) ≤ length text
unfolding spec.char_escape
char_within n text positive some =
    elim (cases_Bool (leb n (spec.hex_len text))) [
      | inl e ↦ rw (e, char_len (digits_value 16 (take n (drop 2 text))) (2 + n)) (hex_room text n positive (leb-true n (spec.hex_len text) e))
      | inr e ↦ rw e some
    ]

alone_within : (b : ℕ) → spec.piece_len (spec.escape (b ∷ [])) ≤ 1
unfolding spec.escape
alone_within b = le_refl 1

two_within : (text : List ℕ) → 2 ≤ length text → spec.piece_len (spec.escape text) ≤ length text
unfolding spec.escape
two_within text two =
    let c = get_or text 1 0 in
    let some : 1 ≤ length text = omega arith in
    elim (cases_Bool (is_x c)) [
      | inl e ↦ rw e (hex_within text some)
      | inr x ↦ elim (cases_Bool (eqb c 117)) [
        | inl e ↦ rw (x, e) (char_within 4 text (omega arith) some)
        | inr u ↦ elim (cases_Bool (eqb c 85)) [
          | inl e ↦ rw (x, u, e) (char_within 8 text (omega arith) some)
          | inr v ↦ elim (cases_Bool (is_octal c)) [
            | inl e ↦ rw (x, u, v, e) (octal_within text some)
            | inr o ↦ rw (x, u, v, o) (le_trans (simple_len (spec.simple_escape c)) two)
          ]
        ]
      ]
    ]

escape_within : (text : List ℕ) → 1 ≤ length text → spec.piece_len (spec.escape text) ≤ length text
escape_within [] some = absurd (omega arith)
escape_within (b ∷ []) some = alone_within b
escape_within (b ∷ (d ∷ text)) some = two_within (b ∷ (d ∷ text)) (omega arith)

-- A piece ends within the text. The last piece is an ASCII byte.
record Ends (text : List ℕ) (p : spec.Piece) : Type 0 where
  within : spec.piece_len p ≤ length text
  last : spec.is_last p ≡ true → (spec.piece_len p ≡ 1) × (get_or text 0 0 < 128)

not_last : (text : List ℕ) (p : spec.Piece) → spec.is_last p ≡ false → spec.piece_len p ≤ length text → Ends text p
not_last text p e h = record { within = h; last = λ l. absurd (true≢false (sym l ∙ e)) }

byte_goes_on : (v n : ℕ) → spec.is_last (spec.byte_piece v n) ≡ false
byte_goes_on v n = elim (cases_Bool (leb v 255)) [ inl e ↦ rw e refl | inr e ↦ rw e refl ]

char_goes_on : (v n : ℕ) → spec.is_last (spec.char_piece v n) ≡ false
char_goes_on v n = elim (cases_Bool (spec.is_scalar v)) [ inl e ↦ rw e refl | inr e ↦ rw e refl ]

hex_goes_on : (text : List ℕ) → spec.is_last (spec.hex_escape text) ≡ false
unfolding spec.hex_escape
hex_goes_on text =
    let h = spec.hex_len text in
    elim (cases_Bool (ltb 0 h)) [
      | inl e ↦ rw e (byte_goes_on (digits_value 16 (take (min 2 h) (drop 2 text))) (2 + min 2 h))
      | inr e ↦ rw e refl
    ]

octal_goes_on : (text : List ℕ) → spec.is_last (spec.octal_escape text) ≡ false
unfolding spec.octal_escape
octal_goes_on text = let o = spec.octal_len text in byte_goes_on (digits_value 8 (take (min 3 o) (drop 1 text))) (1 + min 3 o)

code_goes_on : (n : ℕ) (text : List ℕ) → spec.is_last (spec.char_escape n text) ≡ false
unfolding spec.char_escape
code_goes_on n text =
    elim (cases_Bool (leb n (spec.hex_len text))) [
      | inl e ↦ rw e (char_goes_on (digits_value 16 (take n (drop 2 text))) (2 + n))
      | inr e ↦ rw e refl
    ]

simple_goes_on : (r : Option ℕ) → spec.is_last (spec.simple_piece r) ≡ false
simple_goes_on None = refl
simple_goes_on (Some b) = refl

escape_goes_on : (text : List ℕ) → spec.is_last (spec.escape text) ≡ false
unfolding spec.escape
escape_goes_on text =
    let c = get_or text 1 0 in
    elim (cases_Bool (is_x c)) [
      | inl e ↦ rw e (hex_goes_on text)
      | inr x ↦ elim (cases_Bool (eqb c 117)) [
        | inl e ↦ rw (x, e) (code_goes_on 4 text)
        | inr u ↦ elim (cases_Bool (eqb c 85)) [
          | inl e ↦ rw (x, u, e) (code_goes_on 8 text)
          | inr v ↦ elim (cases_Bool (is_octal c)) [
            | inl e ↦ rw (x, u, v, e) (octal_goes_on text)
            | inr o ↦ rw (x, u, v, o) (simple_goes_on (spec.simple_escape c))
          ]
        ]
      ]
    ]

run_within : (p : ℕ → Bool) (text : List ℕ) → length (take (prefix_len p text) text) ≤ length text
run_within p text = omega (arith, length-take (prefix_len p text) text)

piece_ends : (quote : ℕ) (text : List ℕ) → quote < 128 → 1 ≤ length text → Ends text (spec.piece quote text)
unfolding spec.piece
piece_ends quote text ascii some =
    let b = get_or text 0 0 in
    let P : spec.Piece → Type 0 = λ p. Ends text p in
    elim (cases_Bool (spec.is_plain b)) [
      | inl e ↦ rw e (not_last text (spec.run (take (prefix_len spec.is_plain text) text)) refl (run_within spec.is_plain text))
      | inr p ↦ elim (cases_Bool (eqb b quote)) [
        | inl e ↦ let same = eqb-true b quote e in rw (p, e) (record { within = some; last = λ l. (refl, omega arith) })
        | inr q ↦ elim (cases_Bool (is_quote b)) [
          | inl e ↦ rw (p, q, e) (not_last text (spec.adds (b ∷ []) 1) refl some)
          | inr o ↦ elim (cases_Bool (eqb b 10)) [
            | inl e ↦ let same = eqb-true b 10 e in rw (p, q, o, e) (record { within = some; last = λ l. (refl, omega arith) })
            | inr n ↦ elim (cases_Bool (eqb b 92)) [
              | inl e ↦ rw (p, q, o, n, e) (not_last text (spec.escape text) (escape_goes_on text) (escape_within text some))
              | inr w ↦ rw (p, q, o, n, w) (not_last text (spec.wrong false 1) refl some)
            ]
          ]
        ]
      ]
    ]

-- The pieces end within the text. If they end before the end of the text, their last byte is ASCII.
abbrev EndAscii : List ℕ → ℕ → Type 0
EndAscii text n = (n ≤ length text) × (n < length text → (1 ≤ n) × (get_or text (n - 1) 0 < 128))

pieces_end_ascii : (count quote : ℕ) (text : List ℕ) → quote < 128 → length text ≤ count → EndAscii text (spec.len_of (spec.pieces_from count quote text))
unfolding spec.pieces_from
pieces_end_ascii zero quote text ascii h = (omega arith, λ l. absurd (omega arith))
pieces_end_ascii (suc count) quote [] ascii h = (omega arith, λ l. absurd (omega arith))
pieces_end_ascii (suc count) quote (b ∷ text) ascii h =
    let all = b ∷ text in
    let p = spec.piece quote all in
    let k = spec.piece_len p in
    let ends = piece_ends quote all ascii (omega arith) in
    let some = piece_some quote all (omega arith) in
    let size = length-drop k all in
    elim (cases_Bool (spec.is_last p)) [
      | inl e ↦ let (single, low) = ends.last e in rw (e, single) (omega arith, λ l. (omega arith, low))
      | inr e ↦
          let rest = spec.pieces_from count quote (drop k all) in
          let (within, ascii_end) = pieces_end_ascii count quote (drop k all) ascii (omega (arith, ends.within)) in
          let last : k + spec.len_of rest < length all → (1 ≤ k + spec.len_of rest) × (get_or all (k + spec.len_of rest - 1) 0 < 128) =
          λ l.
          let (positive, low) = ascii_end (omega (arith, ends.within)) in
          let moved : k + (spec.len_of rest - 1) ≡ k + spec.len_of rest - 1 = omega arith in
          let P : ℕ → Type 0 = λ v. v < 128 in
          (omega arith, subst P (get_or-drop k all (spec.len_of rest - 1) 0 ∙ ap (λ i. get_or all i 0) moved) low) in
          rw e (omega (arith, ends.within), last)
    ]

-- ---- lexemes

-- The lexeme at a place stands in the text from there on and has at least one byte. What follows it
-- is valid UTF-8.
pub record Stands (at : ℕ) (text : List ℕ) (x : Lexeme) : Type 0 where
  pub start : x.start ≡ at
  pub some : at < x.stop
  pub within : x.stop ≤ at + length text
  pub rest : IsUtf8 (drop (x.stop - at) text)

-- one of n bytes
stands_by : (at : ℕ) (text : List ℕ) (n : ℕ) (x : Lexeme) → x.start ≡ at → x.stop ≡ at + n → 1 ≤ n → n ≤ length text → IsUtf8 (drop n text) → Stands at text x
stands_by at text n x start stop some within rest =
    let P : ℕ → Type 0 = λ k. IsUtf8 (drop k text) in
    let size : n ≡ x.stop - at = omega arith in
    record { start = start; some = omega arith; within = omega arith; rest = subst P size rest }

len_some : (c : ℕ) → 1 ≤ len_utf8 c
len_some c = elim (cases_Bool (ltb c 0x80)) [
  | inl e ↦ rw e (le_refl 1)
  | inr f ↦ elim (cases_Bool (ltb c 0x800)) [
    | inl e ↦ rw (f, e) (omega arith)
    | inr g ↦ elim (cases_Bool (ltb c 0x1_0000)) [ inl e ↦ rw (f, g, e) (omega arith) | inr h ↦ rw (f, g, h) (omega arith) ]
  ]
]

quote_ascii : (b : ℕ) → is_quote b ≡ true → b < 128
quote_ascii b h = grind (arith, nat_tests)

string_stands : (at : ℕ) (text : List ℕ) → IsUtf8 text → is_quote (get_or text 0 0) ≡ true → Stands at text (string at text)
unfolding spec.pieces
string_stands at [] u q = absurd (false≢true q)
string_stands at (b ∷ text) u q =
    let n = spec.len_of (spec.pieces b text) in
    let ascii = quote_ascii b q in
    let (within, last) = pieces_end_ascii (length text) b text ascii (le_refl _) in
    let end : at + (1 + n) < at + length (b ∷ text) → get_or (b ∷ text) (at + (1 + n) - at - 1) 0 < 128 =
    λ l.
    let (positive, low) = last (omega arith) in
    let P : ℕ → Type 0 = λ k. get_or (b ∷ text) k 0 < 128 in
    let place : suc (n - 1) ≡ at + (1 + n) - at - 1 = omega arith in
    subst P place low in
    let boundary = last_boundary (b ∷ text) at (at + (1 + n)) u (omega arith) (omega arith) end in
    let P : ℕ → Type 0 = λ k. IsCharBoundary (b ∷ text) k in
    let place : at + (1 + n) - at ≡ 1 + n = omega arith in
    stands_by at (b ∷ text) (1 + n) (string at (b ∷ text)) refl (add_assoc at 1 n) (omega arith) (omega arith) (IsUtf8-drop (b ∷ text) (1 + n) u (subst P place boundary))

two_bytes : (text : List ℕ) (n : ℕ) → Fits (pattern BlockComment) text n → 2 ≤ length text
two_bytes text n (i, j, size, (i_one, f), (j_one, g)) = let within = fits_within (pattern BlockComment) text n (i, j, size, (i_one, f), (j_one, g)) in omega arith

block_stands : (at : ℕ) (text : List ℕ) → IsUtf8 text → 2 ≤ length text → Stands at text (block_comment at text)
block_stands at text u h =
    let (low, high) = len_bounds text h in
    stands_by at text (len_to text (ending (marks_of text))) (block_comment at text) refl refl (omega arith) high (len_utf8_after text u h)

kind_stands : (kind : Kind) (at : ℕ) (text : List ℕ) (n : ℕ) → IsLongest pattern kind text n → IsUtf8 text → Stands at text (lexeme kind at text n)
kind_stands Identifier at text n h u = stands_by at text n _ refl refl (fits_some Identifier text n h.fits) (fits_within (pattern Identifier) text n h.fits) (longest_utf8 Identifier text n h u)
kind_stands Integer at text n h u = stands_by at text n _ refl refl (fits_some Integer text n h.fits) (fits_within (pattern Integer) text n h.fits) (longest_utf8 Integer text n h u)
kind_stands Float at text n h u = stands_by at text n _ refl refl (fits_some Float text n h.fits) (fits_within (pattern Float) text n h.fits) (longest_utf8 Float text n h u)
kind_stands String at text n h u = string_stands at text u (first_passes is_quote text h.fits.1)
kind_stands Mark at text n h u = stands_by at text n _ refl refl (fits_some Mark text n h.fits) (fits_within (pattern Mark) text n h.fits) (longest_utf8 Mark text n h u)
kind_stands LineComment at text n h u = stands_by at text n _ refl refl (fits_some LineComment text n h.fits) (fits_within (pattern LineComment) text n h.fits) (longest_utf8 LineComment text n h u)
kind_stands BlockComment at text n h u = block_stands at text u (two_bytes text n h.fits)
kind_stands Newline at text n h u = stands_by at text n _ refl refl (fits_some Newline text n h.fits) (fits_within (pattern Newline) text n h.fits) (longest_utf8 Newline text n h u)

-- the first character lies within the text
invalid_stands : (at : ℕ) (text : List ℕ) → IsUtf8 text → 1 ≤ length text → Stands at text (invalid at text)
invalid_stands at text ([], (scalar, same)) some = absurd (omega (arith, ap length same))
invalid_stands at text (c ∷ cs, (scalar, same)) some =
    let u : IsUtf8 text = (c ∷ cs, (scalar, same)) in
    let first : chars text ≡ c ∷ chars (encode_utf8_all cs) = chars_past_char text (encode_utf8_all cs) c u (sym same) in
    let size : len_utf8 (get_or (chars text) 0 0) ≡ len_utf8 c = ap (λ t. len_utf8 (get_or t 0 0)) first in
    let boundary = char_boundary text text (encode_utf8_all cs) c (len_utf8 c) u refl (sym same) refl in
    stands_by at text (len_utf8 c) (invalid at text) refl (ap (λ k. at + k) size) (len_some c) boundary.0 (IsUtf8-drop text (len_utf8 c) u boundary)

pub lexeme_stands : (at : ℕ) (text : List ℕ) (x : Lexeme) → IsLexeme at text x → IsUtf8 text → 1 ≤ length text → Stands at text x
lexeme_stands at text x (inl (kind, n, h, same)) u some = let P : Lexeme → Type 0 = λ y. Stands at text y in subst P (sym same) (kind_stands kind at text n h u)
lexeme_stands at text x (inr (none, same)) u some = let P : Lexeme → Type 0 = λ y. Stands at text y in subst P (sym same) (invalid_stands at text u some)
