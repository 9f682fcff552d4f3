-- The longest match at a digit.
use Rattle.std.proofs.Common.{◌≡◌, ℕ, suc, ◌+◌, ◌≤◌, true, false, ◌==◌, ltb, eqb, eq-eqb, ◌&&◌, ◌⊎◌, inl, inr, List, [], ◌∷◌, drop, get_or, refl, sym, ap, ◌∙◌, subst, get_or-drop, drop-drop, add-zero, lt-ltb, arith, le_refl}
use Rattle.std.proofs.lemmas.Bool.{cases_Bool, true≢false, false≢true, ltb-true, ltb-false, eqb-true, and_parts}
use Rattle.std.proofs.lemmas.Bool.Decides.{nat_tests}
use Rattle.std.proofs.lemmas.Grind.{get_or_after_one}
use Rattle.std.specs.List.{prefix_len}
use Rattle.std.specs.Char.{is_ascii_digit, is_ascii_hexdigit}
use Rattle.protox_lexeme.specs.Pattern.{one, ◌⋅◌, maybe, some, Fits}
use Rattle.protox_lexeme.specs.declared.scan.Kind.{Kind}
use Rattle.protox_lexeme.specs.declared.scan.Kind.TheVariants.{Integer, Float}
use Rattle.protox_lexeme.specs.Lexicon.{pattern, is_octal, is_nonzero, is_e, is_f, is_x, byte, digits, any_digits, exponent, suffix}
use Rattle.protox_lexeme.specs.Scanning.{first, digits_len, exponent_len, suffix_len, tail_len, fraction_len, zero_number, number}
use Rattle.protox_lexeme.proofs.Fitting.{first_passes, passes_first, some_bounds, some_fits, run_ends, no_run, run_more, one_then, one_then_empty, one_then_rest, then_one_rest}
use Rattle.protox_lexeme.proofs.Numbers.{digits_begin, no_exponent, exponent_bounds, ending_bounds, fraction_bounds, exponent_fits, suffix_fits, fraction_fits}

-- the byte after the digits
abbrev after : List ℕ → ℕ
after text = get_or text (digits_len text) 0

module _ (text : List ℕ) where
  pub number_point : after text ≡ 46 → number text ≡ (Float, digits_len text + 1 + fraction_len (drop (digits_len text + 1) text))
  unfolding number
  number_point h = rw h

  pub number_exponent : eqb (after text) 46 ≡ false → 1 ≤ exponent_len (drop (digits_len text) text)
      → number text ≡ (Float, digits_len text + tail_len (drop (digits_len text) text))
  unfolding number
  number_exponent h e = rw (h, lt-ltb 0 (exponent_len (drop (digits_len text) text)) e)

  pub number_zero : eqb (after text) 46 ≡ false → exponent_len (drop (digits_len text) text) ≡ 0 → first text ≡ 48 → number text ≡ zero_number text
  unfolding number
  number_zero h e z = rw (h, e, z)

  pub number_suffix : eqb (after text) 46 ≡ false → exponent_len (drop (digits_len text) text) ≡ 0 → eqb (first text) 48 ≡ false → is_f (after text) ≡ true
      → number text ≡ (Float, digits_len text + 1)
  unfolding number
  number_suffix h e z f = rw (h, e, z, f)

  pub number_plain : eqb (after text) 46 ≡ false → exponent_len (drop (digits_len text) text) ≡ 0 → eqb (first text) 48 ≡ false → is_f (after text) ≡ false
      → number text ≡ (Integer, digits_len text)
  unfolding number
  number_plain h e z f = rw (h, e, z, f)

-- Which of the equations holds.
pub data Case (text : List ℕ) : Type 0 where
  at_point : after text ≡ 46 → number text ≡ (Float, digits_len text + 1 + fraction_len (drop (digits_len text + 1) text)) → Case text
  at_exponent : eqb (after text) 46 ≡ false → 1 ≤ exponent_len (drop (digits_len text) text)
      → number text ≡ (Float, digits_len text + tail_len (drop (digits_len text) text)) → Case text
  at_zero : eqb (after text) 46 ≡ false → exponent_len (drop (digits_len text) text) ≡ 0 → first text ≡ 48 → number text ≡ zero_number text → Case text
  at_suffix : eqb (after text) 46 ≡ false → eqb (first text) 48 ≡ false → is_f (after text) ≡ true → number text ≡ (Float, digits_len text + 1) → Case text
  at_plain : eqb (after text) 46 ≡ false → exponent_len (drop (digits_len text) text) ≡ 0 → eqb (first text) 48 ≡ false → is_f (after text) ≡ false
      → number text ≡ (Integer, digits_len text) → Case text

pub number_case : (text : List ℕ) → Case text
number_case text =
    elim (cases_Bool (eqb (after text) 46)) [
      | inl p ↦ at_point (eqb-true (after text) 46 p) (number_point text (eqb-true (after text) 46 p))
      | inr other ↦ elim (cases_Bool (ltb 0 (exponent_len (drop (digits_len text) text)))) [
        | inl e ↦ at_exponent other (ltb-true 0 _ e) (number_exponent text other (ltb-true 0 (exponent_len (drop (digits_len text) text)) e))
        | inr none ↦
            let zero_len : exponent_len (drop (digits_len text) text) ≡ 0 = omega (arith, ltb-false 0 (exponent_len (drop (digits_len text) text)) none) in
            elim (cases_Bool (eqb (first text) 48)) [
              | inl z ↦ at_zero other zero_len (eqb-true (first text) 48 z) (number_zero text other zero_len (eqb-true (first text) 48 z))
              | inr nonzero ↦ elim (cases_Bool (is_f (after text))) [
                | inl f ↦ at_suffix other nonzero f (number_suffix text other zero_len nonzero f)
                | inr plain ↦ at_plain other zero_len nonzero plain (number_plain text other zero_len nonzero plain)
              ]
            ]
      ]
    ]

abbrev pub number_len : List ℕ → ℕ
number_len text = (number text).1

abbrev size_of : Kind × ℕ → ℕ
size_of p = p.1

pub octal_digits : (text : List ℕ) → prefix_len is_octal text ≤ digits_len text
octal_digits [] = omega arith
octal_digits (b ∷ text) =
    elim (cases_Bool (is_octal b)) [
      | inl o ↦ let d : is_ascii_digit b ≡ true = grind (arith, nat_tests) in rw (o, d) (omega (arith, octal_digits text))
      | inr other ↦ rw other (omega arith)
    ]

x_not_octal : (b : ℕ) → is_x b ≡ true → is_octal b ≡ false
x_not_octal b h = grind (arith, nat_tests)

f_not_octal : (b : ℕ) → is_f b ≡ true → is_octal b ≡ false
f_not_octal b h = grind (arith, nat_tests)

pub zero_octal : (b : ℕ) (text : List ℕ) → 1 + prefix_len is_octal text ≤ size_of (zero_number (b ∷ text))
unfolding zero_number
zero_octal b text =
    elim (cases_Bool (is_x (get_or text 0 0) && is_ascii_hexdigit (get_or text 1 0))) [
      | inl x ↦
          let none = no_run is_octal text (x_not_octal (get_or text 0 0) (and_parts (is_x (get_or text 0 0)) (is_ascii_hexdigit (get_or text 1 0)) x).0) in
          rw x (omega arith)
      | inr other ↦ rw other (elim (cases_Bool (is_f (get_or text 0 0))) [
        | inl f ↦ let none = no_run is_octal text (f_not_octal (get_or text 0 0) f) in rw f (omega arith)
        | inr plain ↦ rw plain (le_refl _)
      ])
    ]

pub nonzero_digit : (b : ℕ) → is_nonzero b ≡ true → (is_ascii_digit b ≡ true) × (eqb b 48 ≡ false)
nonzero_digit b h = (grind (arith, nat_tests), grind (arith, nat_tests))

-- A number that doesn't begin with 0 takes all its digits.
pub whole_le : (text : List ℕ) → eqb (first text) 48 ≡ false → digits_len text ≤ number_len text
whole_le text nonzero = elim (number_case text) [
  | at_point p e ↦ let n = ap size_of e in omega arith
  | at_exponent p x e ↦ let n = ap size_of e in omega arith
  | at_zero p x z e ↦ absurd (true≢false (sym (eq-eqb (first text) 48 z) ∙ nonzero))
  | at_suffix p n f e ↦ let n = ap size_of e in omega arith
  | at_plain p x n f e ↦ let n = ap size_of e in omega arith
]

pub octal_le : (text : List ℕ) → 1 + prefix_len is_octal text ≤ number_len (48 ∷ text)
octal_le text =
    let some = octal_digits text in
    let all : digits_len (48 ∷ text) ≡ 1 + digits_len text = refl in
    elim (number_case (48 ∷ text)) [
      | at_point p e ↦ let n = ap size_of e in omega arith
      | at_exponent p x e ↦ let n = ap size_of e in omega arith
      | at_zero p x z e ↦ let n = ap size_of e in omega (arith, zero_octal 48 text)
      | at_suffix p n f e ↦ let n = ap size_of e in omega arith
      | at_plain p x n f e ↦ let n = ap size_of e in omega arith
    ]

pub x_apart : (b : ℕ) → is_x b ≡ true → (is_ascii_digit b ≡ false) × (eqb b 46 ≡ false) × (is_e b ≡ false)
x_apart b h = (grind (arith, nat_tests), grind (arith, nat_tests), grind (arith, nat_tests))

pub f_apart : (b : ℕ) → is_f b ≡ true → (is_ascii_digit b ≡ false) × (eqb b 46 ≡ false) × (is_e b ≡ false) × (is_x b ≡ false)
f_apart b h = (grind (arith, nat_tests), grind (arith, nat_tests), grind (arith, nat_tests), grind (arith, nat_tests))

point_not_digit : (b : ℕ) → eqb b 46 ≡ true → is_ascii_digit b ≡ false
point_not_digit b h = grind (arith, nat_tests)

pub e_apart : (b : ℕ) → is_e b ≡ true → (is_ascii_digit b ≡ false) × (eqb b 46 ≡ false)
e_apart b h = (grind (arith, nat_tests), grind (arith, nat_tests))

pub f_not_digit : (b : ℕ) → is_f b ≡ true → is_ascii_digit b ≡ false
f_not_digit b h = (f_apart b h).0

-- 0, and then a byte that is no digit, no point and no e.
pub lone_zero : (text : List ℕ) → is_ascii_digit (first text) ≡ false → eqb (first text) 46 ≡ false → is_e (first text) ≡ false
    → number (48 ∷ text) ≡ zero_number (48 ∷ text)
lone_zero text d p e =
    let none = no_run is_ascii_digit text d in
    let one_digit : digits_len (48 ∷ text) ≡ 1 = omega arith in
    let next : after (48 ∷ text) ≡ first text = ap (λ k. get_or (48 ∷ text) k 0) one_digit in
    let past : drop (digits_len (48 ∷ text)) (48 ∷ text) ≡ text = ap (λ k. drop k (48 ∷ text)) one_digit in
    number_zero (48 ∷ text) (ap (λ b. eqb b 46) next ∙ p) (ap exponent_len past ∙ no_exponent text e) refl

pub hex_le : (text : List ℕ) (n : ℕ) → Fits (one is_x ⋅ some is_ascii_hexdigit) text n → 1 + n ≤ number_len (48 ∷ text)
unfolding zero_number
hex_le [] n f = absurd (one_then_empty is_x (some is_ascii_hexdigit) n f)
hex_le (b ∷ text) n f =
    let (m, size, x, run) = one_then is_x (some is_ascii_hexdigit) b text n f in
    let (low, high) = some_bounds is_ascii_hexdigit text m run in
    let (d, p, e) = x_apart b x in
    let hex = first_passes is_ascii_hexdigit text (omega arith) in
    let here : number_len (48 ∷ b ∷ text) ≡ 2 + prefix_len is_ascii_hexdigit text = ap size_of (lone_zero (b ∷ text) d p e) ∙ rw (x, hex) refl in
    omega arith

pub zero_f_le : (text : List ℕ) → is_f (first text) ≡ true → number_len (48 ∷ text) ≡ 2
unfolding zero_number
zero_f_le text f =
    let (d, p, e, x) = f_apart (first text) f in
    ap size_of (lone_zero text d p e) ∙ rw (x, f) refl

pub suffix_le : (text : List ℕ) → eqb (first text) 48 ≡ false → is_f (after text) ≡ true → number_len text ≡ digits_len text + 1
suffix_le text nonzero f =
    let (d, p, e, x) = f_apart (after text) f in
    let no_e : is_e (first (drop (digits_len text) text)) ≡ false = rw (get_or-drop (digits_len text) text 0 0, add-zero) e in
    ap size_of (number_suffix text p (no_exponent (drop (digits_len text) text) no_e) nonzero f)

pub point_le : (text : List ℕ) (i j : ℕ) → Fits digits text i → Fits (byte 46 ⋅ any_digits ⋅ maybe exponent ⋅ suffix) (drop i text) j → i + j ≤ number_len text
point_le text i j run rest =
    let (low, high) = some_bounds is_ascii_digit text i run in
    let (m, size, point, fraction) = one_then_rest (λ x. x == 46) (any_digits ⋅ maybe exponent ⋅ suffix) (drop i text) j rest in
    let here : eqb (get_or text i 0) 46 ≡ true = rw (get_or-drop i text 0 0, add-zero) at point in
    let same = run_ends is_ascii_digit text i high (point_not_digit (get_or text i 0) here) in
    let there : after text ≡ 46 = ap (λ k. get_or text k 0) (sym same) ∙ eqb-true (get_or text i 0) 46 here in
    let bound = fraction_bounds (drop 1 (drop i text)) m fraction in
    let P : List ℕ → Type 0 = λ t. m ≤ fraction_len t in
    let past : drop 1 (drop i text) ≡ drop (digits_len text + 1) text = drop-drop 1 i text ∙ ap (λ k. drop (k + 1) text) same in
    let room = subst P past bound in
    let whole = ap size_of (number_point text there) in
    omega arith

pub exponent_le : (text : List ℕ) (i j : ℕ) → Fits digits text i → Fits (exponent ⋅ suffix) (drop i text) j → i + j ≤ number_len text
exponent_le text i j run rest =
    let (low, high) = some_bounds is_ascii_digit text i run in
    let (k, l, size, exp, tail) = rest in
    let (e, some_e, most, full) = exponent_bounds (drop i text) k exp in
    let here : is_e (get_or text i 0) ≡ true = rw (get_or-drop i text 0 0, add-zero) at e in
    let (d, p) = e_apart (get_or text i 0) here in
    let same = run_ends is_ascii_digit text i high d in
    let there : eqb (after text) 46 ≡ false = ap (λ n. eqb (get_or text n 0) 46) (sym same) ∙ p in
    let bound = (ending_bounds (drop i text) j (k, l, size, inr exp, tail)).0 in
    let P : List ℕ → Type 0 = λ t. j ≤ tail_len t in
    let Q : List ℕ → Type 0 = λ t. k ≤ exponent_len t in
    let past = ap (λ n. drop n text) same in
    let room = subst P past bound in
    let some_exponent = subst Q past most in
    let whole = ap size_of (number_exponent text there (omega arith)) in
    omega arith

-- However an integer fits, it is no longer than the number.
pub integer_bound : (text : List ℕ) (n : ℕ) → Fits (pattern Integer) text n → (is_ascii_digit (first text) ≡ true) × (n ≤ number_len text)
integer_bound [] n (inl f) = absurd (omega arith)
integer_bound [] n (inr (inl f)) = absurd (one_then_empty (λ x. x == 48) (some is_octal) n f)
integer_bound [] n (inr (inr (inl f))) = absurd (one_then_empty is_nonzero any_digits n f)
integer_bound [] n (inr (inr (inr f))) = absurd (one_then_empty (λ x. x == 48) (one is_x ⋅ some is_ascii_hexdigit) n f)
integer_bound (b ∷ text) n (inl (is_one, zero_byte)) =
    let z : b ≡ 48 = eqb-true b 48 (first_passes (λ x. x == 48) (b ∷ text) zero_byte) in
    rw z (refl, omega (arith, octal_le text))
integer_bound (b ∷ text) n (inr (inl f)) =
    let (m, size, zero_byte, rest) = one_then (λ x. x == 48) (some is_octal) b text n f in
    let (low, high) = some_bounds is_octal text m rest in
    let z : b ≡ 48 = eqb-true b 48 zero_byte in
    rw z (refl, omega (arith, octal_le text))
integer_bound (b ∷ text) n (inr (inr (inl f))) =
    let (m, size, nonzero, rest) = one_then is_nonzero any_digits b text n f in
    let (digit, other) = nonzero_digit b nonzero in
    let all = run_more is_ascii_digit b text digit in
    (digit, omega (arith, whole_le (b ∷ text) other))
integer_bound (b ∷ text) n (inr (inr (inr f))) =
    let (m, size, zero_byte, rest) = one_then (λ x. x == 48) (one is_x ⋅ some is_ascii_hexdigit) b text n f in
    let z : b ≡ 48 = eqb-true b 48 zero_byte in
    let bound = hex_le text m rest in
    rw z (refl, omega arith)

pub float_bound : (text : List ℕ) (n : ℕ) → Fits (pattern Float) text n
    → ((is_ascii_digit (first text) ≡ true) × (n ≤ number_len text))
    ⊎ ((first text ≡ 46) × (is_ascii_digit (get_or text 1 0) ≡ true) × (n ≤ 1 + fraction_len (drop 1 text)))
float_bound [] n (inl f) = absurd (one_then_empty (λ x. x == 48) (one is_f) n f)
float_bound [] n (inr (inl f)) = absurd (one_then_empty is_nonzero (any_digits ⋅ one is_f) n f)
float_bound [] n (inr (inr (inr (inr f)))) = absurd (one_then_empty (λ x. x == 46) (digits ⋅ maybe exponent ⋅ suffix) n f)
float_bound (b ∷ text) n (inl f) =
    let (m, size, zero_byte, (is_one, f_byte)) = one_then (λ x. x == 48) (one is_f) b text n f in
    let z : b ≡ 48 = eqb-true b 48 zero_byte in
    let bound = zero_f_le text (first_passes is_f text f_byte) in
    rw z (inl (refl, omega arith))
float_bound (b ∷ text) n (inr (inl f)) =
    let (m, size, nonzero, (i, j, parts, run, (is_one, f_byte))) = one_then is_nonzero (any_digits ⋅ one is_f) b text n f in
    let (digit, other) = nonzero_digit b nonzero in
    let all = run_more is_ascii_digit b text digit in
    let stops : is_f (get_or text i 0) ≡ true = rw (get_or-drop i text 0 0, add-zero) at (first_passes is_f (drop i text) f_byte) in
    let same = run_ends is_ascii_digit text i run (f_not_digit (get_or text i 0) stops) in
    let here : after (b ∷ text) ≡ get_or text i 0 = ap (λ k. get_or (b ∷ text) k 0) all ∙ ap (λ k. get_or text k 0) (sym same) in
    let bound = suffix_le (b ∷ text) other (ap is_f here ∙ stops) in
    inl (digit, omega arith)
float_bound text n (inr (inr (inl (i, j, size, run, rest)))) =
    let (low, high) = some_bounds is_ascii_digit text i run in
    let digit = digits_begin text i run in
    inl (digit, omega (arith, point_le text i j run rest))
float_bound text n (inr (inr (inr (inl (i, j, size, run, rest))))) =
    let (low, high) = some_bounds is_ascii_digit text i run in
    let digit = digits_begin text i run in
    inl (digit, omega (arith, exponent_le text i j run rest))
float_bound (b ∷ text) n (inr (inr (inr (inr f)))) =
    let (m, size, point, (i, j, parts, run, rest)) = one_then (λ x. x == 46) (digits ⋅ maybe exponent ⋅ suffix) b text n f in
    let (low, high) = some_bounds is_ascii_digit text i run in
    inr (eqb-true b 46 point, digits_begin text i run, omega (arith, fraction_bounds text m (i, j, parts, high, rest)))

point_fits : (text : List ℕ) → 1 ≤ digits_len text → after text ≡ 46 → Fits (pattern Float) text (digits_len text + 1 + fraction_len (drop (digits_len text + 1) text))
point_fits text some_digits p =
    let n = digits_len text in
    let P : List ℕ → Type 0 = λ t. Fits (any_digits ⋅ maybe exponent ⋅ suffix) t (fraction_len (drop (n + 1) text)) in
    let rest = subst P (sym (drop-drop 1 n text)) (fraction_fits (drop (n + 1) text)) in
    let here : eqb (get_or (drop n text) 0 0) 46 ≡ true = rw (get_or-drop n text 0 0, add-zero) (eq-eqb (after text) 46 p) in
    let starts = passes_first (λ x. x == 46) (drop n text) refl here in
    inr (inr (inl (
      n,
      suc (fraction_len (drop (n + 1) text)),
      omega arith,
      some_fits is_ascii_digit text n some_digits (le_refl n),
      then_one_rest (λ x. x == 46) (any_digits ⋅ maybe exponent ⋅ suffix) (drop n text) (fraction_len (drop (n + 1) text)) starts rest,
    )))

exponent_number_fits : (text : List ℕ) → 1 ≤ digits_len text → 1 ≤ exponent_len (drop (digits_len text) text) → Fits (pattern Float) text (digits_len text + tail_len (drop (digits_len text) text))
unfolding tail_len
exponent_number_fits text some_digits x =
    let n = digits_len text in
    let rest = drop n text in
    inr (inr (inr (inl (
      n,
      tail_len rest,
      refl,
      some_fits is_ascii_digit text n some_digits (le_refl n),
      (exponent_len rest, suffix_len (drop (exponent_len rest) rest), refl, exponent_fits rest x, suffix_fits (drop (exponent_len rest) rest)),
    ))))

zero_fits : (text : List ℕ) → first text ≡ 48 → Fits (pattern (zero_number text).0) text (zero_number text).1
unfolding zero_number
zero_fits [] z = absurd (omega arith)
zero_fits (b ∷ text) z =
    let zero_byte : eqb b 48 ≡ true = eq-eqb b 48 z in
    elim (cases_Bool (is_x (get_or text 0 0) && is_ascii_hexdigit (get_or text 1 0))) [
      | inl both ↦
          let (x, hex) = and_parts (is_x (get_or text 0 0)) (is_ascii_hexdigit (get_or text 1 0)) both in
          let hex_byte : is_ascii_hexdigit (get_or (drop 1 text) 0 0) ≡ true = rw get_or_after_one hex in
          let starts = passes_first is_ascii_hexdigit (drop 1 text) refl hex_byte in
          let n = prefix_len is_ascii_hexdigit (drop 1 text) in
          rw both (inr (inr (inr (1, 1 + n, omega arith, (refl, rw zero_byte (omega arith)), (1, n, refl, (refl, passes_first is_x text refl x), some_fits is_ascii_hexdigit (drop 1 text) n starts (le_refl n))))))
      | inr other ↦ rw other (elim (cases_Bool (is_f (get_or text 0 0))) [
        | inl f ↦ rw f (inl (1, 1, refl, (refl, rw zero_byte (omega arith)), (refl, passes_first is_f text refl f)))
        | inr plain ↦ rw plain (elim (cases_Bool (ltb 0 (prefix_len is_octal text))) [
          | inl some_octal ↦ inr (inl (1, prefix_len is_octal text, refl, (refl, rw zero_byte (omega arith)), some_fits is_octal text (prefix_len is_octal text) (ltb-true 0 (prefix_len is_octal text) some_octal) (le_refl _)))
          | inr none ↦ inl (omega (arith, ltb-false 0 (prefix_len is_octal text) none), rw zero_byte (omega arith))
        ])
      ])
    ]

suffix_number_fits : (text : List ℕ) → is_ascii_digit (first text) ≡ true → eqb (first text) 48 ≡ false → is_f (after text) ≡ true → Fits (pattern Float) text (digits_len text + 1)
suffix_number_fits [] d z f = absurd (false≢true d)
suffix_number_fits (b ∷ text) d z f =
    let n = digits_len text in
    let all = run_more is_ascii_digit b text d in
    let nonzero : is_nonzero b ≡ true = grind (arith, nat_tests) in
    let here : is_f (get_or (drop n text) 0 0) ≡ true = rw (get_or-drop n text 0 0, add-zero) (ap (λ k. is_f (get_or (b ∷ text) k 0)) (sym all) ∙ f) in
    inr (inl (1, n + 1, omega arith, (refl, rw nonzero (omega arith)), (n, 1, refl, le_refl n, (refl, passes_first is_f (drop n text) refl here))))

plain_number_fits : (text : List ℕ) → is_ascii_digit (first text) ≡ true → eqb (first text) 48 ≡ false → Fits (pattern Integer) text (digits_len text)
plain_number_fits [] d z = absurd (false≢true d)
plain_number_fits (b ∷ text) d z =
    let all = run_more is_ascii_digit b text d in
    let nonzero : is_nonzero b ≡ true = grind (arith, nat_tests) in
    inr (inr (inl (1, digits_len text, omega arith, (refl, rw nonzero (omega arith)), le_refl (digits_len text))))

-- The number that the scan finds fits its kind.
pub number_fits : (text : List ℕ) → is_ascii_digit (first text) ≡ true → Fits (pattern (number text).0) text (number text).1
number_fits text d =
    let some_digits : 1 ≤ digits_len text = passes_first is_ascii_digit text refl d in
    let P : Kind × ℕ → Type 0 = λ p. Fits (pattern p.0) text p.1 in
    elim (number_case text) [
      | at_point p e ↦ subst P (sym e) (point_fits text some_digits p)
      | at_exponent p x e ↦ subst P (sym e) (exponent_number_fits text some_digits x)
      | at_zero p x z e ↦ subst P (sym e) (zero_fits text z)
      | at_suffix p n f e ↦ subst P (sym e) (suffix_number_fits text d n f)
      | at_plain p x n f e ↦ subst P (sym e) (plain_number_fits text d n)
    ]
