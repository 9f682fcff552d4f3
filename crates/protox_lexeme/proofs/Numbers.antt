-- The longest number.
use Rattle.std.proofs.Common.{◌≡◌, ℕ, zero, suc, ◌+◌, ◌≤◌, true, false, ◌&&◌, ltb, inl, inr, List, [], ◌∷◌, drop, get_or, refl, sym, ap, ◌∙◌, subst, get_or-drop, add-zero, lt-ltb, arith, le_refl}
use Rattle.std.proofs.lemmas.Bool.{cases_Bool, true≢false, ltb-true, ltb-false, and_parts}
use Rattle.std.proofs.lemmas.Bool.Decides.{nat_tests}
use Rattle.std.specs.Char.{is_ascii_digit}
use Rattle.protox_lexeme.specs.Pattern.{Pattern, one, ◌⋅◌, maybe, Fits}
use Rattle.protox_lexeme.specs.Lexicon.{is_e, is_sign, is_f, digits, any_digits, exponent, suffix}
use Rattle.protox_lexeme.specs.Scanning.{first, digits_len, sign_len, signed_len, exponent_len, suffix_len, tail_len, fraction_len}
use Rattle.protox_lexeme.proofs.Fitting.{first_passes, passes_first, some_bounds, some_fits, run_ends, one_then, one_then_empty}

-- digits begin with a digit
pub digits_begin : (text : List ℕ) (n : ℕ) → Fits digits text n → is_ascii_digit (first text) ≡ true
digits_begin text n f = first_passes is_ascii_digit text (let b = some_bounds is_ascii_digit text n f in omega arith)

abbrev signed : Pattern
signed = maybe (one is_sign) ⋅ digits

nothing_there : (s : ℕ) → get_or {A = ℕ} (drop s []) 0 0 ≡ 0
nothing_there zero = refl
nothing_there (suc s) = refl

-- the sign is taken where there is one
pub sign_taken : (text : List ℕ) (s : ℕ) → Fits (maybe (one is_sign)) text s → is_ascii_digit (get_or (drop s text) 0 0) ≡ true → s ≡ sign_len text
sign_taken [] s f h = absurd (true≢false (sym h ∙ ap (λ b. is_ascii_digit b) (nothing_there s)))
sign_taken (b ∷ text) s (inl none) h =
    let here : is_ascii_digit b ≡ true = rw none at h in
    let no : is_sign b ≡ false = grind (arith, nat_tests) in
    rw no none
sign_taken (b ∷ text) s (inr (is_one, starts)) h = rw (first_passes is_sign (b ∷ text) starts) is_one

pub signed_is : (text : List ℕ) → 1 ≤ digits_len (drop (sign_len text) text) → signed_len text ≡ sign_len text + digits_len (drop (sign_len text) text)
unfolding signed_len
signed_is text h = rw (lt-ltb 0 (digits_len (drop (sign_len text) text)) h)

pub signed_bounds : (text : List ℕ) (n : ℕ) → Fits signed text n
    → (1 ≤ n) × (n ≤ signed_len text) × (is_ascii_digit (get_or text n 0) ≡ false → n ≡ signed_len text)
signed_bounds text n (s, k, size, sign, run) =
    let (low, high) = some_bounds is_ascii_digit (drop s text) k run in
    let same : s ≡ sign_len text = sign_taken text s sign (digits_begin (drop s text) k run) in
    let P : ℕ → Type 0 = λ i. k ≤ digits_len (drop i text) in
    let room : k ≤ digits_len (drop (sign_len text) text) = subst P same high in
    let whole = signed_is text (omega arith) in (
      omega arith,
      omega arith,
      λ stops.
          let here : is_ascii_digit (get_or (drop s text) k 0) ≡ false = rw (get_or-drop s text k 0, ← size) stops in
          let full : k ≡ digits_len (drop s text) = run_ends is_ascii_digit (drop s text) k high here in
          let Q : ℕ → Type 0 = λ i. k ≡ digits_len (drop i text) in
          let full_2 : k ≡ digits_len (drop (sign_len text) text) = subst Q same full in
          omega arith,
    )

pub exponent_is : (text : List ℕ) → is_e (first text) ≡ true → 1 ≤ signed_len (drop 1 text) → exponent_len text ≡ 1 + signed_len (drop 1 text)
unfolding exponent_len
exponent_is text e h = rw (e, lt-ltb 0 (signed_len (drop 1 text)) h)

pub no_exponent : (text : List ℕ) → is_e (first text) ≡ false → exponent_len text ≡ 0
unfolding exponent_len
no_exponent text e = rw e

pub exponent_bounds : (text : List ℕ) (n : ℕ) → Fits exponent text n
    → (is_e (first text) ≡ true) × (1 ≤ n) × (n ≤ exponent_len text) × (is_ascii_digit (get_or text n 0) ≡ false → n ≡ exponent_len text)
exponent_bounds [] n f = absurd (one_then_empty is_e signed n f)
exponent_bounds (b ∷ text) n f =
    let (m, size, starts, rest) = one_then is_e signed b text n f in
    let (low, high, full) = signed_bounds text m rest in
    let whole = exponent_is (b ∷ text) starts (omega arith) in
    let next : get_or (b ∷ text) n 0 ≡ get_or text m 0 = ap (λ i. get_or (b ∷ text) i 0) size in
    (starts, omega arith, omega arith, λ stops. let same = full (sym (ap is_ascii_digit next) ∙ stops) in omega arith)

pub suffix_bounds : (text : List ℕ) (n : ℕ) → Fits suffix text n → (n ≤ suffix_len text) × (1 ≤ n → is_f (first text) ≡ true)
unfolding suffix_len
suffix_bounds text n (inl none) = (omega arith, λ h. absurd (omega arith))
suffix_bounds text n (inr (is_one, starts)) =
    let f = first_passes is_f text starts in (rw f (omega arith), λ _. f)

f_not_e : (b : ℕ) → is_f b ≡ true → is_e b ≡ false
f_not_e b h = grind (arith, nat_tests)

f_not_digit : (b : ℕ) → is_f b ≡ true → is_ascii_digit b ≡ false
f_not_digit b h = grind (arith, nat_tests)

e_not_digit : (b : ℕ) → is_e b ≡ true → is_ascii_digit b ≡ false
e_not_digit b h = grind (arith, nat_tests)

abbrev pub ending : Pattern
ending = maybe exponent ⋅ suffix

-- An ending is no longer than `tail_len`, and begins with e or f.
pub ending_bounds : (text : List ℕ) (n : ℕ) → Fits ending text n → (n ≤ tail_len text) × (1 ≤ n → is_ascii_digit (first text) ≡ false)
unfolding tail_len
ending_bounds text n (i, j, size, inl none, tail) =
    let P : ℕ → Type 0 = λ k. Fits suffix (drop k text) j in
    let (high, f) = suffix_bounds text j (subst P none tail) in (
      elim (cases_Bool (ltb 0 j)) [
        | inl longer ↦ rw (no_exponent text (f_not_e (first text) (f (ltb-true 0 j longer)))) (omega arith)
        | inr nothing ↦ omega (arith, ltb-false 0 j nothing)
      ],
      λ h. f_not_digit (first text) (f (omega arith)),
    )
ending_bounds text n (i, j, size, inr exp, tail) =
    let (e, low, high, full) = exponent_bounds text i exp in
    let (last, f) = suffix_bounds (drop i text) j tail in (
      elim (cases_Bool (ltb 0 j)) [
        | inl longer ↦
            let stops : is_ascii_digit (get_or (drop i text) 0 0) ≡ false = f_not_digit (first (drop i text)) (f (ltb-true 0 j longer)) in
            let same = full (rw (get_or-drop i text 0 0, add-zero) at stops) in
            let P : ℕ → Type 0 = λ k. j ≤ suffix_len (drop k text) in
            let room = subst P same last in
            omega arith
        | inr nothing ↦ omega (arith, ltb-false 0 j nothing)
      ],
      λ h. e_not_digit (first text) e,
    )

pub fraction_bounds : (text : List ℕ) (n : ℕ) → Fits (any_digits ⋅ ending) text n → n ≤ fraction_len text
unfolding fraction_len
fraction_bounds text n (i, j, size, run, tail) =
    let (high, apart) = ending_bounds (drop i text) j tail in
    elim (cases_Bool (ltb 0 j)) [
      | inl longer ↦
          let stops : is_ascii_digit (get_or (drop i text) 0 0) ≡ false = apart (ltb-true 0 j longer) in
          let same = run_ends is_ascii_digit text i run (rw (get_or-drop i text 0 0, add-zero) at stops) in
          let P : ℕ → Type 0 = λ k. j ≤ tail_len (drop k text) in
          let room = subst P same high in
          omega arith
      | inr nothing ↦ omega (arith, ltb-false 0 j nothing)
    ]

-- and what the scan finds fits

sign_fits : (text : List ℕ) → Fits (maybe (one is_sign)) text (sign_len text)
sign_fits text =
    elim (cases_Bool (is_sign (first text))) [
      | inl sign ↦ rw sign (inr (refl, passes_first is_sign text refl sign))
      | inr none ↦ rw none (inl refl)
    ]

pub signed_fits : (text : List ℕ) → 1 ≤ signed_len text → Fits signed text (signed_len text)
unfolding signed_len
signed_fits text h =
    let n = digits_len (drop (sign_len text) text) in
    elim (cases_Bool (ltb 0 n)) [
      | inl there ↦ rw there (sign_len text, n, refl, sign_fits text, some_fits is_ascii_digit (drop (sign_len text) text) n (ltb-true 0 n there) (le_refl n))
      | inr none ↦ let nothing : signed_len text ≡ 0 = rw none refl in absurd (omega arith)
    ]

pub exponent_fits : (text : List ℕ) → 1 ≤ exponent_len text → Fits exponent text (exponent_len text)
unfolding exponent_len
exponent_fits text h =
    elim (cases_Bool (is_e (first text) && ltb 0 (signed_len (drop 1 text)))) [
      | inl both ↦
          let (e, there) = and_parts (is_e (first text)) (ltb 0 (signed_len (drop 1 text))) both in
          rw both (1, signed_len (drop 1 text), refl, (refl, passes_first is_e text refl e), signed_fits (drop 1 text) (ltb-true 0 _ there))
      | inr none ↦ let nothing : exponent_len text ≡ 0 = rw none refl in absurd (omega arith)
    ]

maybe_exponent : (text : List ℕ) → Fits (maybe exponent) text (exponent_len text)
maybe_exponent text =
    elim (cases_Bool (ltb 0 (exponent_len text))) [
      | inl there ↦ inr (exponent_fits text (ltb-true 0 (exponent_len text) there))
      | inr none ↦ inl (omega (arith, ltb-false 0 (exponent_len text) none))
    ]

pub suffix_fits : (text : List ℕ) → Fits suffix text (suffix_len text)
unfolding suffix_len
suffix_fits text =
    elim (cases_Bool (is_f (first text))) [
      | inl f ↦ rw f (inr (refl, passes_first is_f text refl f))
      | inr none ↦ rw none (inl refl)
    ]

pub ending_fits : (text : List ℕ) → Fits ending text (tail_len text)
unfolding tail_len
ending_fits text = (exponent_len text, suffix_len (drop (exponent_len text) text), refl, maybe_exponent text, suffix_fits (drop (exponent_len text) text))

pub fraction_fits : (text : List ℕ) → Fits (any_digits ⋅ ending) text (fraction_len text)
unfolding fraction_len
fraction_fits text = (digits_len text, tail_len (drop (digits_len text) text), refl, le_refl _, ending_fits (drop (digits_len text) text))
