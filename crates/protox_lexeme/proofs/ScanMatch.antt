-- The scan finds the longest match.
use Rattle.std.proofs.Common.{◌≡◌, ℕ, ◌+◌, ◌≤◌, true, false, ◌==◌, eqb, eq-eqb, ◌&&◌, ◌⊎◌, inl, inr, List, [], ◌∷◌, drop, get_or, refl, sym, ap, ◌∙◌, subst, get_or-drop, add-zero, arith, le_refl, Option, Some, None}
use Rattle.std.proofs.lemmas.Bool.{cases_Bool, true≢false, false≢true, eqb-true, and_parts}
use Rattle.std.proofs.lemmas.Bool.Decides.{nat_tests}
use Rattle.std.proofs.lemmas.Grind.{get_or_after_one}
use Rattle.std.specs.List.{prefix_len}
use Rattle.std.specs.Option.{MatchOption}
use Rattle.std.specs.Char.{is_ascii_digit}
use Rattle.protox_lexeme.specs.Pattern.{Pattern, many, ◌⋅◌, maybe, Fits, IsLongest}
use Rattle.protox_lexeme.specs.declared.scan.Kind.{Kind}
use Rattle.protox_lexeme.specs.declared.scan.Kind.TheVariants.{Identifier, Integer, Float, String, Mark, LineComment, BlockComment, Newline}
use Rattle.protox_lexeme.specs.Lexicon.{pattern, is_letter, is_word, is_quote, is_mark, is_not_newline, byte, digits, exponent, suffix}
use Rattle.protox_lexeme.specs.Scanning.{first, digits_len, tail_len, fraction_len, number, line_len, scan}
use Rattle.protox_lexeme.proofs.Fitting.{first_passes, passes_first, some_fits, run_ends, run_more, one_then, one_then_empty}
use Rattle.protox_lexeme.proofs.Numbers.{ending_fits}
use Rattle.protox_lexeme.proofs.NumberMatch.{number_fits, integer_bound, float_bound}

-- tests of the first byte, in the order of the scan
pub data Case (text : List ℕ) : Type 0 where
  at_letter : is_letter (first text) ≡ true → scan text ≡ Some (Identifier, prefix_len is_word text) → Case text
  at_digit : is_ascii_digit (first text) ≡ true → scan text ≡ Some (number text) → Case text
  at_fraction : first text ≡ 46 → is_ascii_digit (get_or text 1 0) ≡ true → scan text ≡ Some (Float, 1 + fraction_len (drop 1 text)) → Case text
  at_quote : is_quote (first text) ≡ true → scan text ≡ Some (String, 1) → Case text
  at_hash : first text ≡ 35 → scan text ≡ Some (LineComment, 1 + line_len (drop 1 text)) → Case text
  at_line : first text ≡ 47 → get_or text 1 0 ≡ 47 → scan text ≡ Some (LineComment, 2 + line_len (drop 2 text)) → Case text
  at_block : first text ≡ 47 → get_or text 1 0 ≡ 42 → scan text ≡ Some (BlockComment, 2) → Case text
  at_mark : is_mark (first text) ≡ true
      → (first text ≡ 46 → is_ascii_digit (get_or text 1 0) ≡ false)
      → (first text ≡ 47 → eqb (get_or text 1 0) 47 ≡ false)
      → scan text ≡ Some (Mark, 1) → Case text
  at_newline : first text ≡ 10 → scan text ≡ Some (Newline, 1) → Case text
  at_other : is_letter (first text) ≡ false → is_ascii_digit (first text) ≡ false → is_quote (first text) ≡ false → eqb (first text) 35 ≡ false
      → is_mark (first text) ≡ false → eqb (first text) 10 ≡ false → scan text ≡ None → Case text

pub scan_case : (text : List ℕ) → Case text
unfolding scan
scan_case text =
    let b = first text in
    let c = get_or text 1 0 in
    elim (cases_Bool (is_letter b)) [
      | inl letter ↦ at_letter letter (rw letter refl)
      | inr l ↦ elim (cases_Bool (is_ascii_digit b)) [
        | inl digit ↦ at_digit digit (rw (l, digit) refl)
        | inr d ↦ elim (cases_Bool (eqb b 46 && is_ascii_digit c)) [
          | inl both ↦ let (p, digit) = and_parts (eqb b 46) (is_ascii_digit c) both in at_fraction (eqb-true b 46 p) digit (rw (l, d, both) refl)
          | inr f ↦ elim (cases_Bool (is_quote b)) [
            | inl quote ↦ at_quote quote (rw (l, d, f, quote) refl)
            | inr q ↦ elim (cases_Bool (eqb b 35)) [
              | inl hash ↦ at_hash (eqb-true b 35 hash) (rw (l, d, f, q, hash) refl)
              | inr h ↦ elim (cases_Bool (eqb b 47 && eqb c 47)) [
                | inl both ↦ let (x, y) = and_parts (eqb b 47) (eqb c 47) both in at_line (eqb-true b 47 x) (eqb-true c 47 y) (rw (l, d, f, q, h, both) refl)
                | inr s ↦ elim (cases_Bool (eqb b 47 && eqb c 42)) [
                  | inl both ↦ let (x, y) = and_parts (eqb b 47) (eqb c 42) both in at_block (eqb-true b 47 x) (eqb-true c 42 y) (rw (l, d, f, q, h, s, both) refl)
                  | inr k ↦ elim (cases_Bool (is_mark b)) [
                    | inl m ↦ at_mark m (λ e. grind (arith, nat_tests)) (λ e. grind (arith, nat_tests)) (rw (l, d, f, q, h, s, k, m) refl)
                    | inr m ↦ elim (cases_Bool (eqb b 10)) [
                      | inl n ↦ at_newline (eqb-true b 10 n) (rw (l, d, f, q, h, s, k, m, n) refl)
                      | inr n ↦ at_other l d q h m n (rw (l, d, f, q, h, s, k, m, n) refl)
                    ]
                  ]
                ]
              ]
            ]
          ]
        ]
      ]
    ]

abbrev AtMost : Option (Kind × ℕ) → ℕ → Type 0
AtMost None m = ⊥
AtMost (Some p) m = m ≤ p.1

at_most : (text : List ℕ) (p : Kind × ℕ) (m : ℕ) → scan text ≡ Some p → m ≤ p.1 → AtMost (scan text) m
at_most text p m e h = rw e h

pub letter_word : (b : ℕ) → is_letter b ≡ true → is_word b ≡ true
letter_word b h = grind (arith, nat_tests)

digit_not_letter : (b : ℕ) → is_ascii_digit b ≡ true → is_letter b ≡ false
digit_not_letter b h = grind (arith, nat_tests)

module _ (text : List ℕ) where
  pub scan_letter : is_letter (first text) ≡ true → scan text ≡ Some (Identifier, prefix_len is_word text)
  unfolding scan
  scan_letter h = rw h refl

  pub scan_digit : is_ascii_digit (first text) ≡ true → scan text ≡ Some (number text)
  unfolding scan
  scan_digit h = rw (digit_not_letter (first text) h, h) refl

  pub scan_fraction : first text ≡ 46 → is_ascii_digit (get_or text 1 0) ≡ true → scan text ≡ Some (Float, 1 + fraction_len (drop 1 text))
  unfolding scan
  scan_fraction p d = rw (p, d) refl

  pub scan_quote : (first text ≡ 39) ⊎ (first text ≡ 34) → scan text ≡ Some (String, 1)
  unfolding scan
  scan_quote (inl q) = rw q refl
  scan_quote (inr q) = rw q refl

  pub scan_hash : first text ≡ 35 → scan text ≡ Some (LineComment, 1 + line_len (drop 1 text))
  unfolding scan
  scan_hash h = rw h refl

  pub scan_line : first text ≡ 47 → get_or text 1 0 ≡ 47 → scan text ≡ Some (LineComment, 2 + line_len (drop 2 text))
  unfolding scan
  scan_line h n = rw (h, n) refl

  pub scan_block : first text ≡ 47 → get_or text 1 0 ≡ 42 → scan text ≡ Some (BlockComment, 2)
  unfolding scan
  scan_block h n = rw (h, n) refl

  pub scan_newline : first text ≡ 10 → scan text ≡ Some (Newline, 1)
  unfolding scan
  scan_newline h = rw h refl

-- Marks, and bytes that begin nothing.
neq-eqb : (a b : ℕ) → (a ≡ b → ⊥) → eqb a b ≡ false
neq-eqb a b other = elim (cases_Bool (eqb a b)) [ inl e ↦ absurd (other (eqb-true a b e)) | inr e ↦ e ]

pub scan_point : (text : List ℕ) → first text ≡ 46 → is_ascii_digit (get_or text 1 0) ≡ false → scan text ≡ Some (Mark, 1)
unfolding scan
scan_point text p d = rw (p, d) refl

pub scan_slash : (text : List ℕ) → first text ≡ 47 → (get_or text 1 0 ≡ 47 → ⊥) → (get_or text 1 0 ≡ 42 → ⊥) → scan text ≡ Some (Mark, 1)
unfolding scan
scan_slash text s line block = rw (s, neq-eqb (get_or text 1 0) 47 line, neq-eqb (get_or text 1 0) 42 block) refl

pub scan_mark : (text : List ℕ) → is_mark (first text) ≡ true → (first text ≡ 46 → ⊥) → (first text ≡ 47 → ⊥) → scan text ≡ Some (Mark, 1)
unfolding scan
scan_mark text m p s =
    let l : is_letter (first text) ≡ false = grind (arith, nat_tests) in
    let d : is_ascii_digit (first text) ≡ false = grind (arith, nat_tests) in
    let q : is_quote (first text) ≡ false = grind (arith, nat_tests) in
    let h : eqb (first text) 35 ≡ false = grind (arith, nat_tests) in
    rw (l, d, neq-eqb (first text) 46 p, q, h, neq-eqb (first text) 47 s, m) refl

pub scan_other : (text : List ℕ) → is_letter (first text) ≡ false → is_mark (first text) ≡ false → (first text ≡ 10 → ⊥) → is_ascii_digit (first text) ≡ false
    → is_quote (first text) ≡ false → (first text ≡ 35 → ⊥) → scan text ≡ None
unfolding scan
scan_other text l m n d q h =
    let p : eqb (first text) 46 ≡ false = grind (arith, nat_tests) in
    let s : eqb (first text) 47 ≡ false = grind (arith, nat_tests) in
    rw (l, d, p, q, neq-eqb (first text) 35 h, s, m, neq-eqb (first text) 10 n) refl

quote_cases : (b : ℕ) → is_quote b ≡ true → (b ≡ 39) ⊎ (b ≡ 34)
quote_cases b h = grind (arith, nat_tests)

mark_bound : (text : List ℕ) → is_mark (first text) ≡ true → AtMost (scan text) 1
mark_bound text m = elim (scan_case text) [
  | at_letter l e ↦ absurd (grind (arith, nat_tests))
  | at_digit d e ↦ absurd (grind (arith, nat_tests))
  | at_fraction p d e ↦ at_most text _ 1 e (omega arith)
  | at_quote q e ↦ absurd (grind (arith, nat_tests))
  | at_hash h e ↦ absurd (grind (arith, nat_tests))
  | at_line h n e ↦ at_most text _ 1 e (omega arith)
  | at_block h n e ↦ at_most text _ 1 e (omega arith)
  | at_mark h p s e ↦ at_most text _ 1 e (omega arith)
  | at_newline h e ↦ absurd (grind (arith, nat_tests))
  | at_other l d q h k n e ↦ absurd (true≢false (sym m ∙ k))
]

abbrev pub line : Pattern
line = many is_not_newline ⋅ maybe (byte 10)

pub line_bound : (text : List ℕ) (n : ℕ) → Fits line text n → n ≤ line_len text
line_bound text n (i, j, size, run, inl none) = omega arith
line_bound text n (i, j, size, run, inr (is_one, ends)) =
    let here : eqb (get_or text i 0) 10 ≡ true = rw (get_or-drop i text 0 0, add-zero) at (first_passes (λ x. x == 10) (drop i text) ends) in
    let same = run_ends is_not_newline text i run (rw here refl) in
    let there : eqb (get_or text (prefix_len is_not_newline text) 0) 10 ≡ true = ap (λ k. eqb (get_or text k 0) 10) (sym same) ∙ here in
    rw there (omega arith)

pub line_fits : (text : List ℕ) → Fits line text (line_len text)
line_fits text =
    let n = prefix_len is_not_newline text in
    elim (cases_Bool (eqb (get_or text n 0) 10)) [
      | inl newline_byte ↦
          let here : eqb (get_or (drop n text) 0 0) 10 ≡ true = rw (get_or-drop n text 0 0, add-zero) newline_byte in
          rw newline_byte (n, 1, refl, le_refl n, inr (refl, passes_first (λ x. x == 10) (drop n text) refl here))
      | inr other ↦ rw other (n, 0, refl, le_refl n, inl refl)
    ]

no_empty : (kind : Kind) (m : ℕ) → Fits (pattern kind) [] m → ⊥
no_empty Identifier m f = one_then_empty is_letter (many is_word) m f
no_empty Integer m f = false≢true (integer_bound [] m f).0
no_empty Float m f = elim (float_bound [] m f) [ inl h ↦ false≢true h.0 | inr h ↦ absurd (omega (arith, h.0)) ]
no_empty String m (e, h) = absurd (omega arith)
no_empty Mark m (e, h) = absurd (omega arith)
no_empty LineComment m (i, j, size, inl f, rest) = one_then_empty (λ x. x == 47) (byte 47) i f
no_empty LineComment m (i, j, size, inr (e, h), rest) = absurd (omega arith)
no_empty BlockComment m f = one_then_empty (λ x. x == 47) (byte 42) m f
no_empty Newline m (e, h) = absurd (omega arith)

scan_bound : (kind : Kind) (text : List ℕ) (m : ℕ) → Fits (pattern kind) text m → AtMost (scan text) m
scan_bound kind [] m f = absurd (no_empty kind m f)
scan_bound Identifier (b ∷ text) n f =
    let (m, size, letter, run) = one_then is_letter (many is_word) b text n f in
    let all = run_more is_word b text (letter_word b letter) in
    at_most (b ∷ text) _ n (scan_letter (b ∷ text) letter) (omega arith)
scan_bound Integer (b ∷ text) n f =
    let (digit, bound) = integer_bound (b ∷ text) n f in
    at_most (b ∷ text) _ n (scan_digit (b ∷ text) digit) bound
scan_bound Float (b ∷ text) n f =
    elim (float_bound (b ∷ text) n f) [
      | inl h ↦ at_most (b ∷ text) _ n (scan_digit (b ∷ text) h.0) h.1
      | inr h ↦ at_most (b ∷ text) _ n (scan_fraction (b ∷ text) h.0 h.1) h.2
    ]
scan_bound String (b ∷ text) n (is_one, starts) =
    at_most (b ∷ text) _ n (scan_quote (b ∷ text) (quote_cases b (first_passes is_quote (b ∷ text) starts))) (omega arith)
scan_bound Mark (b ∷ text) n (is_one, starts) = rw is_one (mark_bound (b ∷ text) (first_passes is_mark (b ∷ text) starts))
scan_bound LineComment (b ∷ text) n (i, j, size, inl f, rest) =
    let (k, two, slash, (k_one, second)) = one_then (λ x. x == 47) (byte 47) b text i f in
    let i_two : i ≡ 2 = omega arith in
    let P : ℕ → Type 0 = λ k. Fits line (drop k (b ∷ text)) j in
    let bound = line_bound (drop 1 text) j (subst P i_two rest) in
    let next : get_or text 0 0 ≡ 47 = eqb-true (get_or text 0 0) 47 (first_passes (λ x. x == 47) text second) in
    at_most (b ∷ text) _ n (scan_line (b ∷ text) (eqb-true b 47 slash) next) (omega arith)
scan_bound LineComment (b ∷ text) n (i, j, size, inr (is_one, hash), rest) =
    let P : ℕ → Type 0 = λ k. Fits line (drop k (b ∷ text)) j in
    let bound = line_bound text j (subst P is_one rest) in
    at_most (b ∷ text) _ n (scan_hash (b ∷ text) (eqb-true b 35 (first_passes (λ x. x == 35) (b ∷ text) hash))) (omega arith)
scan_bound BlockComment (b ∷ text) n f =
    let (m, size, slash, (is_one, starts)) = one_then (λ x. x == 47) (byte 42) b text n f in
    let next : get_or text 0 0 ≡ 42 = eqb-true (get_or text 0 0) 42 (first_passes (λ x. x == 42) text starts) in
    at_most (b ∷ text) _ n (scan_block (b ∷ text) (eqb-true b 47 slash) next) (omega arith)
scan_bound Newline (b ∷ text) n (is_one, starts) =
    at_most (b ∷ text) _ n (scan_newline (b ∷ text) (eqb-true b 10 (first_passes (λ x. x == 10) (b ∷ text) starts))) (omega arith)

identifier_fits : (text : List ℕ) → is_letter (first text) ≡ true → Fits (pattern Identifier) text (prefix_len is_word text)
identifier_fits [] h = absurd (false≢true h)
identifier_fits (b ∷ text) h =
    let n = prefix_len is_word text in
    rw (run_more is_word b text (letter_word b h)) (1, n, omega arith, (refl, rw h (omega arith)), le_refl n)

starts_with : (text : List ℕ) (c : ℕ) → eqb 0 c ≡ false → first text ≡ c → 1 ≤ prefix_len (λ x. x == c) text
starts_with text c z h = passes_first (λ x. x == c) text z (eq-eqb (first text) c h)

second : (text : List ℕ) (c : ℕ) → get_or text 1 0 ≡ c → get_or (drop 1 text) 0 0 ≡ c
second text c h = rw get_or_after_one h

point_fits : (text : List ℕ) → first text ≡ 46 → is_ascii_digit (get_or text 1 0) ≡ true
    → Fits (byte 46 ⋅ digits ⋅ maybe exponent ⋅ suffix) text (1 + fraction_len (drop 1 text))
unfolding fraction_len
point_fits text p d =
    let t = drop 1 text in
    let n = digits_len t in
    let here : is_ascii_digit (get_or t 0 0) ≡ true = rw get_or_after_one d in
    let some_digits = passes_first is_ascii_digit t refl here in
    (1, fraction_len t, refl, (refl, starts_with text 46 refl p), (n, tail_len (drop n t), refl, some_fits is_ascii_digit t n some_digits (le_refl n), ending_fits (drop n t)))

-- The match that the scan finds fits its kind.
scan_fits : (text : List ℕ) → MatchOption (scan text) (Unit {0}) (λ p. Fits (pattern p.0) text p.1)
scan_fits text =
    let P : Option (Kind × ℕ) → Type 0 = λ r. MatchOption r (Unit {0}) (λ p. Fits (pattern p.0) text p.1) in
    elim (scan_case text) [
      | at_letter l e ↦ subst P (sym e) (identifier_fits text l)
      | at_digit d e ↦ subst P (sym e) (number_fits text d)
      | at_fraction p d e ↦ subst P (sym e) (inr (inr (inr (inr (point_fits text p d)))))
      | at_quote q e ↦ subst P (sym e) (refl, passes_first is_quote text refl q)
      | at_hash h e ↦ subst P (sym e) (1, line_len (drop 1 text), refl, inr (refl, starts_with text 35 refl h), line_fits (drop 1 text))
      | at_line h n e ↦ subst P (sym e) (2, line_len (drop 2 text), refl, inl (1, 1, refl, (refl, starts_with text 47 refl h), (refl, starts_with (drop 1 text) 47 refl (second text 47 n))), line_fits (drop 2 text))
      | at_block h n e ↦ subst P (sym e) (1, 1, refl, (refl, starts_with text 47 refl h), (refl, starts_with (drop 1 text) 42 refl (second text 42 n)))
      | at_mark h p s e ↦ subst P (sym e) (refl, passes_first is_mark text refl h)
      | at_newline h e ↦ subst P (sym e) (refl, passes_first (λ x. x == 10) text refl (eq-eqb (first text) 10 h))
      | at_other l d q h k n e ↦ subst P (sym e) tt
    ]

-- The scan finds the longest match, or nothing if no pattern matches.
pub scan_longest : (text : List ℕ)
    → MatchOption (scan text) ((kind : Kind) (m : ℕ) → Fits (pattern kind) text m → ⊥) (λ p. IsLongest pattern p.0 text p.1)
scan_longest text = go (scan text) (scan_fits text) (λ kind m f. scan_bound kind text m f) where
  go : (r : Option (Kind × ℕ)) → MatchOption r (Unit {0}) (λ p. Fits (pattern p.0) text p.1)
      → ((kind : Kind) (m : ℕ) → Fits (pattern kind) text m → AtMost r m)
      → MatchOption r ((kind : Kind) (m : ℕ) → Fits (pattern kind) text m → ⊥) (λ p. IsLongest pattern p.0 text p.1)
  go None f bound = bound
  go (Some p) f bound = record { fits = f; longest = bound }
