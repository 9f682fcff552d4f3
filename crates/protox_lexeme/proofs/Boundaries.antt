-- A lexeme ends at the end of a character.
use Rattle.std.proofs.Common.{◌≡◌, ℕ, zero, suc, ◌+◌, ◌-◌, ◌<◌, ◌≤◌, Bool, true, false, ◌==◌, eqb, ltb, inl, inr, List, [], ◌∷◌, length, drop, get_or, refl, sym, ap, ◌∙◌, subst, drop-drop, length-drop, add-zero, zero-add, arith, Option, Some}
use Rattle.std.proofs.lemmas.Bool.{cases_Bool, true≢false, ltb-true, ltb-false, eqb-true}
use Rattle.std.proofs.lemmas.Bool.Decides.{nat_tests}
use Rattle.std.proofs.lemmas.List.Sums.{prefix_len-le-length, prefix_len_stops}
use Rattle.std.proofs.lemmas.Str.{IsUtf8-drop, IsCharBoundary-after_ascii, IsCharBoundary-end, IsCharBoundary-from_drop, IsCharBoundary-past_char}
use Rattle.std.specs.List.{prefix_len}
use Rattle.std.specs.Str.{IsUtf8, IsCharBoundary}
use Rattle.std.specs.Option.{MatchOption}
use Rattle.std.specs.Char.{is_ascii_digit, is_ascii_hexdigit, len_utf8}
use Rattle.std.specs.Prelude.{encode_utf8, ◌++◌}
use Rattle.protox_lexeme.specs.declared.scan.Kind.{Kind}
use Rattle.protox_lexeme.specs.declared.scan.Kind.TheVariants.{Identifier, Integer, Float, String, Mark, LineComment, BlockComment, Newline}
use Rattle.protox_lexeme.specs.Pattern.{Pattern, one, many, ◌⋅◌, ◌∣◌, maybe, some, Fits, IsLongest}
use Rattle.protox_lexeme.specs.Lexicon.{pattern, IsLineOpener, is_letter, is_word, is_octal, is_nonzero, is_e, is_sign, is_f, is_x, is_quote, is_mark, is_blank, is_not_newline, byte, digits, exponent, suffix}
use Rattle.protox_lexeme.specs.Scanning.{first, line_len, scan}
use Rattle.std.proofs.lemmas.Grind.{get_or_after_one}
use Rattle.protox_lexeme.proofs.Fitting.{first_passes, one_then_rest}
use Rattle.protox_lexeme.proofs.ScanMatch.{line_bound, line_fits, scan_longest}

abbrev pub Ascii : (ℕ → Bool) → Type 0
Ascii p = (b : ℕ) → p b ≡ true → b < 128

-- each byte that the pattern takes is ASCII
abbrev AsciiOnly : Pattern → Type 0
AsciiOnly (one p) = Ascii p
AsciiOnly (many p) = Ascii p
AsciiOnly (a ⋅ b) = AsciiOnly a × AsciiOnly b
AsciiOnly (a ∣ b) = AsciiOnly a × AsciiOnly b
AsciiOnly (maybe a) = AsciiOnly a

utf8_after : (text : List ℕ) → IsUtf8 text → 0 < length text → first text < 128 → IsUtf8 (drop 1 text)
utf8_after text u some_byte ascii = IsUtf8-drop text 1 u (IsCharBoundary-after_ascii text 0 u some_byte ascii)

pub run_utf8 : (p : ℕ → Bool) (text : List ℕ) (n : ℕ) → Ascii p → IsUtf8 text → n ≤ prefix_len p text → IsUtf8 (drop n text)
run_utf8 p text zero ascii u h = u
run_utf8 p [] (suc n) ascii u h = u
run_utf8 p (b ∷ text) (suc n) ascii u h =
    let passes : p b ≡ true = first_passes p (b ∷ text) (omega arith) in
    let more : suc n ≤ 1 + prefix_len p text = rw passes at h in
    run_utf8 p text n ascii (utf8_after (b ∷ text) u (omega arith) (ascii b passes)) (omega arith)

pub fits_utf8 : (p : Pattern) (text : List ℕ) (n : ℕ) → AsciiOnly p → IsUtf8 text → Fits p text n → IsUtf8 (drop n text)
fits_utf8 (one p) text n ascii u (is_one, starts) = run_utf8 p text n ascii u (omega arith)
fits_utf8 (many p) text n ascii u run = run_utf8 p text n ascii u run
fits_utf8 (a ⋅ b) text n ascii u (i, j, size, f, g) =
    let P : List ℕ → Type 0 = λ t. IsUtf8 t in
    let rest = fits_utf8 b (drop i text) j ascii.1 (fits_utf8 a text i ascii.0 u f) g in
    subst P (drop-drop j i text ∙ ap (λ k. drop k text) (sym size)) rest
fits_utf8 (a ∣ b) text n ascii u (inl f) = fits_utf8 a text n ascii.0 u f
fits_utf8 (a ∣ b) text n ascii u (inr f) = fits_utf8 b text n ascii.1 u f
fits_utf8 (maybe a) text n ascii u (inl none) = let P : ℕ → Type 0 = λ k. IsUtf8 (drop k text) in subst P (sym none) u
fits_utf8 (maybe a) text n ascii u (inr f) = fits_utf8 a text n ascii u f

inside_line : (text : List ℕ) (n : ℕ) → n ≤ length text → get_or text n 0 ≡ 10 → n < length text
inside_line [] zero h e = absurd (omega arith)
inside_line [] (suc n) h e = absurd (omega arith)
inside_line (b ∷ text) zero h e = omega arith
inside_line (b ∷ text) (suc n) h e = let more = inside_line text n (omega arith) e in omega arith

line_whole : (text : List ℕ) → prefix_len is_not_newline text ≤ length text → eqb (get_or text (prefix_len is_not_newline text) 0) 10 ≡ false
    → prefix_len is_not_newline text ≡ length text
line_whole text within other =
    let n = prefix_len is_not_newline text in
    elim (cases_Bool (ltb n (length text))) [
      | inl less ↦
          let stops = prefix_len_stops is_not_newline text 0 (ltb-true n (length text) less) in
          let passes : is_not_newline (get_or text n 0) ≡ true = rw other refl in
          absurd (true≢false (sym passes ∙ stops))
      | inr full ↦ omega (arith, ltb-false n (length text) full)
    ]

pub line_utf8 : (text : List ℕ) → IsUtf8 text → IsUtf8 (drop (line_len text) text)
line_utf8 text u =
    let n = prefix_len is_not_newline text in
    let within = prefix_len-le-length is_not_newline text in
    elim (cases_Bool (eqb (get_or text n 0) 10)) [
      | inl ends ↦
          let here = eqb-true (get_or text n 0) 10 ends in
          let inside : n < length text = inside_line text n within here in
          let P : ℕ → Type 0 = λ k. IsUtf8 (drop k text) in
          let size : line_len text ≡ n + 1 = rw ends refl in
          subst P (sym size) (IsUtf8-drop text (n + 1) u (IsCharBoundary-after_ascii text n u inside (omega arith)))
      | inr other ↦
          let size : line_len text ≡ n = rw other (add-zero n) in
          let whole : n ≡ length text = line_whole text within other in
          let P : ℕ → Type 0 = λ k. IsUtf8 (drop k text) in
          subst P (sym (size ∙ whole)) (IsUtf8-drop text (length text) u (IsCharBoundary-end text))
    ]

letter_ascii : Ascii is_letter
letter_ascii b h = grind (arith, nat_tests)

word_ascii : Ascii is_word
word_ascii b h = grind (arith, nat_tests)

digit_ascii : Ascii is_ascii_digit
digit_ascii b h = grind (arith, nat_tests)

octal_ascii : Ascii is_octal
octal_ascii b h = grind (arith, nat_tests)

nonzero_ascii : Ascii is_nonzero
nonzero_ascii b h = grind (arith, nat_tests)

hex_ascii : Ascii is_ascii_hexdigit
hex_ascii b h = grind (arith, nat_tests)

e_ascii : Ascii is_e
e_ascii b h = grind (arith, nat_tests)

sign_ascii : Ascii is_sign
sign_ascii b h = grind (arith, nat_tests)

f_ascii : Ascii is_f
f_ascii b h = grind (arith, nat_tests)

x_ascii : Ascii is_x
x_ascii b h = grind (arith, nat_tests)

quote_ascii : Ascii is_quote
quote_ascii b h = grind (arith, nat_tests)

mark_ascii : Ascii is_mark
mark_ascii b h = grind (arith, nat_tests)

byte_ascii : (c : ℕ) → c < 128 → Ascii (λ x. x == c)
byte_ascii c low b h = let same = eqb-true b c h in omega arith

abbrev digits_ascii : AsciiOnly digits
digits_ascii = (digit_ascii, digit_ascii)

abbrev exponent_ascii : AsciiOnly exponent
exponent_ascii = (e_ascii, (sign_ascii, digits_ascii))

abbrev ending_ascii : AsciiOnly (maybe exponent ⋅ suffix)
ending_ascii = (exponent_ascii, f_ascii)

integer_ascii : AsciiOnly (pattern Integer)
integer_ascii = (byte_ascii 48 (omega arith), ((byte_ascii 48 (omega arith), (octal_ascii, octal_ascii)), ((nonzero_ascii, digit_ascii), (byte_ascii 48 (omega arith), (x_ascii, (hex_ascii, hex_ascii))))))

float_ascii : AsciiOnly (pattern Float)
float_ascii = (
  (byte_ascii 48 (omega arith), f_ascii),
  (
    (nonzero_ascii, (digit_ascii, f_ascii)),
    ((digits_ascii, (byte_ascii 46 (omega arith), (digit_ascii, ending_ascii))), ((digits_ascii, (exponent_ascii, f_ascii)), (byte_ascii 46 (omega arith), (digits_ascii, ending_ascii)))),
  ),
)

-- What follows the longest match of a lexeme is valid UTF-8.
pub longest_utf8 : (kind : Kind) (text : List ℕ) (n : ℕ) → IsLongest pattern kind text n → IsUtf8 text → IsUtf8 (drop n text)
longest_utf8 Identifier text n h u = fits_utf8 (pattern Identifier) text n (letter_ascii, word_ascii) u h.fits
longest_utf8 Integer text n h u = fits_utf8 (pattern Integer) text n integer_ascii u h.fits
longest_utf8 Float text n h u = fits_utf8 (pattern Float) text n float_ascii u h.fits
longest_utf8 String text n h u = fits_utf8 (pattern String) text n quote_ascii u h.fits
longest_utf8 Mark text n h u = fits_utf8 (pattern Mark) text n mark_ascii u h.fits
longest_utf8 LineComment text n h u =
    let (i, j, size, opener, rest) = h.fits in
    let bound = line_bound (drop i text) j rest in
    let all = h.longest LineComment (i + line_len (drop i text)) (i, line_len (drop i text), refl, opener, line_fits (drop i text)) in
    let after_opener = fits_utf8 (byte 47 ⋅ byte 47 ∣ byte 35) text i ((byte_ascii 47 (omega arith), byte_ascii 47 (omega arith)), byte_ascii 35 (omega arith)) u opener in
    let same : n ≡ i + line_len (drop i text) = omega arith in
    let P : List ℕ → Type 0 = λ t. IsUtf8 t in
    subst P (drop-drop (line_len (drop i text)) i text ∙ ap (λ k. drop k text) (sym same)) (line_utf8 (drop i text) after_opener)
longest_utf8 BlockComment text n h u = fits_utf8 (pattern BlockComment) text n (byte_ascii 47 (omega arith), byte_ascii 42 (omega arith)) u h.fits
longest_utf8 Newline text n h u = fits_utf8 (pattern Newline) text n (byte_ascii 10 (omega arith)) u h.fits

pub longest_boundary : (kind : Kind) (text : List ℕ) (n : ℕ) → IsLongest pattern kind text n → n ≤ length text → IsUtf8 text → IsCharBoundary text n
longest_boundary kind text n h within u = IsCharBoundary-from_drop text n within (longest_utf8 kind text n h u)

-- The match that the scan finds ends at a boundary of characters.
pub scan_boundary : (text : List ℕ) (kind : Kind) (n : ℕ) → scan text ≡ Some (kind, n) → n ≤ length text → IsUtf8 text → IsCharBoundary text n
scan_boundary text kind n e within u =
    let P : Option (Kind × ℕ) → Type 0 = λ r. MatchOption r ((k : Kind) (m : ℕ) → Fits (pattern k) text m → ⊥) (λ p. IsLongest pattern p.0 text p.1) in
    longest_boundary kind text n (subst P e (scan_longest text)) within u

-- A text may be cut after its first character.
pub char_boundary : (text rest next : List ℕ) (c n : ℕ) → IsUtf8 text → rest ≡ text → rest ≡ encode_utf8 c ++ next → n ≡ len_utf8 c → IsCharBoundary text n
char_boundary text rest next c n u same parts size =
    let P : ℕ → Type 0 = λ k. IsCharBoundary text k in
    let b = IsCharBoundary-past_char text next 0 c (omega arith) u (sym same ∙ parts) in
    subst P (zero-add (len_utf8 c) ∙ sym size) b

pub scanned_mark : (text : List ℕ) (kind : Kind) (n : ℕ) → scan text ≡ Some (kind, n) → kind ≡ Mark → is_mark (first text) ≡ true
scanned_mark text kind n e mark =
    let P : Option (Kind × ℕ) → Type 0 = λ r. MatchOption r ((k : Kind) (m : ℕ) → Fits (pattern k) text m → ⊥) (λ p. IsLongest pattern p.0 text p.1) in
    let Q : Kind → Type 0 = λ k. Fits (pattern k) text n in
    let fits : Fits (pattern kind) text n = (subst P e (scan_longest text)).fits in
    first_passes is_mark text (subst Q mark fits).1

pub blank_ascii : Ascii is_blank
blank_ascii b h = grind (arith, nat_tests)

pub blanks_boundary : (text : List ℕ) (n : ℕ) → n ≡ prefix_len is_blank text → IsUtf8 text → IsCharBoundary text n
blanks_boundary text n e u =
    let within = prefix_len-le-length is_blank text in
    let high : n ≤ prefix_len is_blank text = omega arith in
    IsCharBoundary-from_drop text n (omega arith) (run_utf8 is_blank text n blank_ascii u high)

pub last_boundary : (text : List ℕ) (start stop : ℕ) → IsUtf8 text → start < stop → stop ≤ start + length text
    → (stop < start + length text → get_or text (stop - start - 1) 0 < 128) → IsCharBoundary text (stop - start)
last_boundary text start stop u moves within ascii =
    let P : ℕ → Type 0 = λ k. IsCharBoundary text k in
    elim (cases_Bool (ltb stop (start + length text))) [
      | inl less ↦
          let back : (stop - start - 1) + 1 ≡ stop - start = omega arith in
          let inside = ltb-true stop (start + length text) less in
          subst P back (IsCharBoundary-after_ascii text (stop - start - 1) u (omega arith) (ascii inside))
      | inr full ↦
          let whole = ltb-false stop (start + length text) full in
          let back : length text ≡ stop - start = omega arith in
          subst P back (IsCharBoundary-end text)
    ]

pub scanned_quote : (text : List ℕ) (kind : Kind) (n : ℕ) → scan text ≡ Some (kind, n) → kind ≡ String → is_quote (first text) ≡ true
scanned_quote text kind n e quote =
    let P : Option (Kind × ℕ) → Type 0 = λ r. MatchOption r ((k : Kind) (m : ℕ) → Fits (pattern k) text m → ⊥) (λ p. IsLongest pattern p.0 text p.1) in
    let Q : Kind → Type 0 = λ k. Fits (pattern k) text n in
    let fits : Fits (pattern kind) text n = (subst P e (scan_longest text)).fits in
    first_passes is_quote text (subst Q quote fits).1

pub scan_line : (text : List ℕ) (kind : Kind) (n : ℕ) → scan text ≡ Some (kind, n) → kind ≡ LineComment → IsLineOpener text n
scan_line text kind n e line =
    let P : Option (Kind × ℕ) → Type 0 = λ r. MatchOption r ((k : Kind) (m : ℕ) → Fits (pattern k) text m → ⊥) (λ p. IsLongest pattern p.0 text p.1) in
    let Q : Kind → Type 0 = λ k. Fits (pattern k) text n in
    let fits : Fits (pattern kind) text n = (subst P e (scan_longest text)).fits in
    go (subst Q line fits) where
      go : Fits (pattern LineComment) text n → IsLineOpener text n
      go (i, j, size, inl f, rest) =
          let (m, two, slash, (is_one, second)) = one_then_rest (λ x. x == 47) (byte 47) text i f in
          let c = first_passes (λ x. x == 47) (drop 1 text) second in
          let next : eqb (get_or text 1 0) 47 ≡ true = ap (λ v. eqb v 47) (sym (get_or_after_one text 0 0)) ∙ c in
          inr (eqb-true (first text) 47 slash, eqb-true (get_or text 1 0) 47 next, omega arith)
      go (i, j, size, inr (is_one, hash), rest) = inl (eqb-true (first text) 35 (first_passes (λ x. x == 35) text hash), omega arith)

pub scan_block : (text : List ℕ) (kind : Kind) (n : ℕ) → scan text ≡ Some (kind, n) → kind ≡ BlockComment → (2 ≤ length text) × (get_or text 1 0 ≡ 42)
scan_block text kind n e block =
    let P : Option (Kind × ℕ) → Type 0 = λ r. MatchOption r ((k : Kind) (m : ℕ) → Fits (pattern k) text m → ⊥) (λ p. IsLongest pattern p.0 text p.1) in
    let Q : Kind → Type 0 = λ k. Fits (pattern k) text n in
    let fits : Fits (pattern kind) text n = (subst P e (scan_longest text)).fits in
    let (m, size, slash, (is_one, second)) = one_then_rest (λ x. x == 47) (byte 42) text n (subst Q block fits) in
    let c = first_passes (λ x. x == 42) (drop 1 text) second in
    let some = prefix_len-le-length (λ x. x == 42) (drop 1 text) in
    let next : eqb (get_or text 1 0) 42 ≡ true = ap (λ v. eqb v 42) (sym (get_or_after_one text 0 0)) ∙ c in
    (omega (arith, length-drop 1 text), eqb-true (get_or text 1 0) 42 next)

-- A text may be cut after an ASCII byte.
pub ascii_boundary : (text : List ℕ) (n : ℕ) → IsUtf8 text → 0 < n → n ≤ length text → get_or text (n - 1) 0 < 128 → IsCharBoundary text n
ascii_boundary text n u some within ascii =
    let P : ℕ → Type 0 = λ k. IsCharBoundary text k in
    let back : (n - 1) + 1 ≡ n = omega arith in
    subst P back (IsCharBoundary-after_ascii text (n - 1) u (omega arith) ascii)
