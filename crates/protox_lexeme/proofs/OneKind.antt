-- No two kinds match the same bytes.
use Rattle.std.proofs.Common.{◌≡◌, ℕ, zero, suc, ◌+◌, ◌<◌, ◌≤◌, Bool, true, false, ◌==◌, leb, eqb, ◌||◌, ◌⊎◌, inl, inr, List, [], ◌∷◌, drop, get_or, refl, sym, ap, ◌∙◌, get_or-drop, add-zero, arith}
use Rattle.std.proofs.lemmas.Bool.{cases_Bool, eqb-true, le-leb, leb-true}
use Rattle.std.proofs.lemmas.Bool.Decides.{nat_tests}
use Rattle.std.specs.Prelude.{if◌then◌else◌}
use Rattle.std.proofs.lemmas.Grind.{get_or_after_one}
use Rattle.std.proofs.lemmas.List.Sums.{prefix_len_passes}
use Rattle.std.specs.Char.{is_ascii_digit, is_ascii_hexdigit}
use Rattle.protox_lexeme.specs.declared.scan.Kind.{Kind}
use Rattle.protox_lexeme.specs.declared.scan.Kind.TheVariants.{Identifier, Integer, Float, String, Mark, LineComment, BlockComment, Newline}
use Rattle.protox_lexeme.specs.Pattern.{one, many, ◌⋅◌, maybe, some, Fits}
use Rattle.protox_lexeme.specs.Lexicon.{pattern, is_letter, is_word, is_octal, is_nonzero, is_e, is_f, is_x, is_quote, is_mark, byte, digits, any_digits, exponent, suffix}
use Rattle.protox_lexeme.specs.Scanning.{first, digits_len}
use Rattle.protox_lexeme.proofs.Fitting.{first_passes, some_bounds, run_ends, no_run, run_more, one_then, one_then_empty, one_then_rest}
use Rattle.protox_lexeme.proofs.Numbers.{digits_begin, exponent_bounds}
use Rattle.protox_lexeme.proofs.NumberMatch.{nonzero_digit, octal_digits, e_apart, f_not_digit}

-- An integer has only digits, or an x as its second byte.
abbrev is_integer : List ℕ → ℕ → Bool
is_integer text n = is_x (get_or text 1 0) || leb n (digits_len text)

-- The kind that the first n bytes may have.
abbrev kind_of : List ℕ → ℕ → Kind
kind_of text n =
    let b = first text in
    if is_letter b then Identifier
    else if is_ascii_digit b then (if is_integer text n then Integer else Float)
    else if is_quote b then String
    else if b == 10 then Newline
    else if b == 35 then LineComment
    else if leb n 1 then Mark
    else if b == 46 then Float
    else if get_or text 1 0 == 42 then BlockComment
    else LineComment

or_right : (a b : Bool) → b ≡ true → (a || b) ≡ true
or_right true b h = refl
or_right false b h = h

integer_is : (text : List ℕ) (n : ℕ) → Fits (pattern Integer) text n → (is_ascii_digit (first text) ≡ true) × (is_integer text n ≡ true)
integer_is [] n (inl f) = absurd (omega arith)
integer_is [] n (inr (inl f)) = absurd (one_then_empty (λ x. x == 48) (some is_octal) n f)
integer_is [] n (inr (inr (inl f))) = absurd (one_then_empty is_nonzero any_digits n f)
integer_is [] n (inr (inr (inr f))) = absurd (one_then_empty (λ x. x == 48) (one is_x ⋅ some is_ascii_hexdigit) n f)
integer_is (b ∷ text) n (inl (is_one, zero_byte)) =
    let z : b ≡ 48 = eqb-true b 48 (first_passes (λ x. x == 48) (b ∷ text) zero_byte) in
    rw z (refl, or_right (is_x (get_or text 0 0)) (leb n (1 + digits_len text)) (le-leb n (1 + digits_len text) (omega arith)))
integer_is (b ∷ text) n (inr (inl f)) =
    let (m, size, zero_byte, rest) = one_then (λ x. x == 48) (some is_octal) b text n f in
    let (low, high) = some_bounds is_octal text m rest in
    let z : b ≡ 48 = eqb-true b 48 zero_byte in
    rw z (refl, or_right (is_x (get_or text 0 0)) (leb n (1 + digits_len text)) (le-leb n (1 + digits_len text) (omega (arith, octal_digits text))))
integer_is (b ∷ text) n (inr (inr (inl f))) =
    let (m, size, nonzero, rest) = one_then is_nonzero any_digits b text n f in
    let (digit, other) = nonzero_digit b nonzero in
    let all = run_more is_ascii_digit b text digit in
    (digit, or_right (is_x (get_or text 0 0)) (leb n (digits_len (b ∷ text))) (le-leb n (digits_len (b ∷ text)) (omega arith)))
integer_is (b ∷ text) n (inr (inr (inr f))) =
    let (m, size, zero_byte, rest) = one_then (λ x. x == 48) (one is_x ⋅ some is_ascii_hexdigit) b text n f in
    let (k, more, x, digits_after) = one_then_rest is_x (some is_ascii_hexdigit) text m rest in
    let z : b ≡ 48 = eqb-true b 48 zero_byte in
    rw (z, x) (refl, refl)

lt-leb-false : (a b : ℕ) → b < a → leb a b ≡ false
lt-leb-false a b h = elim (cases_Bool (leb a b)) [ inl e ↦ absurd (let k = leb-true a b e in omega arith) | inr e ↦ e ]

-- Digits that stop before n, without an x, are no integer.
not_integer : (text : List ℕ) (n : ℕ) → is_x (get_or text 1 0) ≡ false → digits_len text < n → is_integer text n ≡ false
not_integer text n x h = rw (x, lt-leb-false n (digits_len text) h) refl

digit_not_x : (b : ℕ) → is_ascii_digit b ≡ true → is_x b ≡ false
digit_not_x b h = grind (arith, nat_tests)

point_not_x : (b : ℕ) → b ≡ 46 → is_x b ≡ false
point_not_x b h = grind (arith, nat_tests)

e_not_x : (b : ℕ) → is_e b ≡ true → is_x b ≡ false
e_not_x b h = grind (arith, nat_tests)

f_not_x : (b : ℕ) → is_f b ≡ true → is_x b ≡ false
f_not_x b h = grind (arith, nat_tests)

-- The second byte, if i digits are followed by a byte that is no x.
second_not_x : (text : List ℕ) (i : ℕ) → 1 ≤ i → i ≤ digits_len text → is_x (get_or text i 0) ≡ false → is_x (get_or text 1 0) ≡ false
second_not_x text (suc zero) low high x = x
second_not_x text (suc (suc i)) low high x = digit_not_x (get_or text 1 0) (prefix_len_passes is_ascii_digit text 1 0 (omega arith))
second_not_x text zero low high x = absurd (omega arith)

float_is : (text : List ℕ) (n : ℕ) → Fits (pattern Float) text n
    → ((is_ascii_digit (first text) ≡ true) × (is_integer text n ≡ false)) ⊎ ((first text ≡ 46) × (2 ≤ n))
float_is [] n (inl f) = absurd (one_then_empty (λ x. x == 48) (one is_f) n f)
float_is [] n (inr (inl f)) = absurd (one_then_empty is_nonzero (any_digits ⋅ one is_f) n f)
float_is [] n (inr (inr (inr (inr f)))) = absurd (one_then_empty (λ x. x == 46) (digits ⋅ maybe exponent ⋅ suffix) n f)
float_is (b ∷ text) n (inl f) =
    let (m, size, zero_byte, (is_one, f_byte)) = one_then (λ x. x == 48) (one is_f) b text n f in
    let z : b ≡ 48 = eqb-true b 48 zero_byte in
    let letter = first_passes is_f text f_byte in
    let none = no_run is_ascii_digit text (f_not_digit (first text) letter) in
    rw z (inl (refl, not_integer (48 ∷ text) n (f_not_x (first text) letter) (omega arith)))
float_is (b ∷ text) n (inr (inl f)) =
    let (m, size, nonzero, (i, j, parts, run, (is_one, f_byte))) = one_then is_nonzero (any_digits ⋅ one is_f) b text n f in
    let (digit, other) = nonzero_digit b nonzero in
    let all = run_more is_ascii_digit b text digit in
    let stops : is_f (get_or text i 0) ≡ true = rw (get_or-drop i text 0 0, add-zero) at (first_passes is_f (drop i text) f_byte) in
    let same = run_ends is_ascii_digit text i run (f_not_digit (get_or text i 0) stops) in
    inl (digit, not_integer (b ∷ text) n (second_not_x (b ∷ text) (suc i) (omega arith) (omega arith) (f_not_x (get_or text i 0) stops)) (omega arith))
float_is text n (inr (inr (inl (i, j, size, run, rest)))) =
    let (low, high) = some_bounds is_ascii_digit text i run in
    let (m, more, point, fraction) = one_then_rest (λ x. x == 46) (any_digits ⋅ maybe exponent ⋅ suffix) (drop i text) j rest in
    let here : eqb (get_or text i 0) 46 ≡ true = rw (get_or-drop i text 0 0, add-zero) at point in
    let dot = eqb-true (get_or text i 0) 46 here in
    let same = run_ends is_ascii_digit text i high (grind (arith, nat_tests)) in
    inl (digits_begin text i run, not_integer text n (second_not_x text i low high (point_not_x (get_or text i 0) dot)) (omega arith))
float_is text n (inr (inr (inr (inl (i, j, size, run, (k, l, parts, exp, tail)))))) =
    let (low, high) = some_bounds is_ascii_digit text i run in
    let (e, some_e, most, full) = exponent_bounds (drop i text) k exp in
    let here : is_e (get_or text i 0) ≡ true = rw (get_or-drop i text 0 0, add-zero) at e in
    let (d, p) = e_apart (get_or text i 0) here in
    let same = run_ends is_ascii_digit text i high d in
    inl (digits_begin text i run, not_integer text n (second_not_x text i low high (e_not_x (get_or text i 0) here)) (omega arith))
float_is (b ∷ text) n (inr (inr (inr (inr f)))) =
    let (m, size, point, (i, j, parts, run, rest)) = one_then (λ x. x == 46) (digits ⋅ maybe exponent ⋅ suffix) b text n f in
    let (low, high) = some_bounds is_ascii_digit text i run in
    inr (eqb-true b 46 point, omega arith)

digit_apart : (b : ℕ) → is_ascii_digit b ≡ true → is_letter b ≡ false
digit_apart b h = grind (arith, nat_tests)

quote_apart : (b : ℕ) → is_quote b ≡ true → (is_letter b ≡ false) × (is_ascii_digit b ≡ false)
quote_apart b h = (grind (arith, nat_tests), grind (arith, nat_tests))

pub mark_apart : (b : ℕ) → is_mark b ≡ true → (is_letter b ≡ false) × (is_ascii_digit b ≡ false) × (is_quote b ≡ false) × (eqb b 10 ≡ false) × (eqb b 35 ≡ false)
mark_apart b h = (grind (arith, nat_tests), grind (arith, nat_tests), grind (arith, nat_tests), grind (arith, nat_tests), grind (arith, nat_tests))

kind_is : (kind : Kind) (text : List ℕ) (n : ℕ) → Fits (pattern kind) text n → kind ≡ kind_of text n
kind_is Identifier text n f =
    let (m, size, letter, rest) = one_then_rest is_letter (many is_word) text n f in rw letter refl
kind_is Integer text n f = let (d, i) = integer_is text n f in rw (digit_apart (first text) d, d, i) refl
kind_is Float text n f = elim (float_is text n f) [
  | inl h ↦ rw (digit_apart (first text) h.0, h.0, h.1) refl
  | inr h ↦ rw (h.0, lt-leb-false n 1 (omega (arith, h.1))) refl
]
kind_is String text n (is_one, starts) =
    let q = first_passes is_quote text starts in
    let (l, d) = quote_apart (first text) q in
    rw (l, d, q) refl
kind_is Mark text n (is_one, starts) =
    let (l, d, q, e, h) = mark_apart (first text) (first_passes is_mark text starts) in
    rw (l, d, q, e, h, le-leb n 1 (omega arith)) refl
kind_is LineComment text n (i, j, size, inl f, rest) =
    let (m, two, slash, (is_one, second)) = one_then_rest (λ x. x == 47) (byte 47) text i f in
    let b = eqb-true (first text) 47 slash in
    let c = first_passes (λ x. x == 47) (drop 1 text) second in
    let next : eqb (get_or text 1 0) 47 ≡ true = ap (λ v. eqb v 47) (sym (get_or_after_one text 0 0)) ∙ c in
    rw (b, eqb-true (get_or text 1 0) 47 next, lt-leb-false n 1 (omega arith)) refl
kind_is LineComment text n (i, j, size, inr (is_one, hash), rest) =
    let b = eqb-true (first text) 35 (first_passes (λ x. x == 35) text hash) in rw b refl
kind_is BlockComment text n f =
    let (m, size, slash, (is_one, second)) = one_then_rest (λ x. x == 47) (byte 42) text n f in
    let b = eqb-true (first text) 47 slash in
    let c = first_passes (λ x. x == 42) (drop 1 text) second in
    let next : eqb (get_or text 1 0) 42 ≡ true = ap (λ v. eqb v 42) (sym (get_or_after_one text 0 0)) ∙ c in
    rw (b, eqb-true (get_or text 1 0) 42 next, lt-leb-false n 1 (omega arith)) refl
kind_is Newline text n (is_one, starts) =
    let b = eqb-true (first text) 10 (first_passes (λ x. x == 10) text starts) in rw b refl

-- No two kinds match the same bytes.
pub one_kind : (k l : Kind) (text : List ℕ) (n : ℕ) → Fits (pattern k) text n → Fits (pattern l) text n → k ≡ l
one_kind k l text n f g = kind_is k text n f ∙ sym (kind_is l text n g)
