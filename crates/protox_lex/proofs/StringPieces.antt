-- Each piece of a string literal is the longest match of the piece table.
use Rattle.std.proofs.Common.{◌≡◌, ℕ, zero, suc, ◌+◌, ◌<◌, ◌≤◌, Bool, true, false, not, ◌&&◌, ◌==◌, eqb, ltb, leb, inl, inr, List, [], ◌∷◌, ◌++◌, length, drop, get_or, refl, sym, ap, ◌∙◌, subst, drop-drop, eq-eqb, lt-ltb, ◌⊎◌, append-nil, add_assoc, add-zero, length-drop, arith, le_refl, Option, Some, None}
use Rattle.std.proofs.lemmas.Bool.{cases_Bool, true≢false, false≢true, eqb-true, le-leb, leb-true, ltb-true, and_parts}
use Rattle.std.proofs.lemmas.Bool.Decides.{nat_tests}
use Rattle.std.proofs.lemmas.List.{drop-take}
use Rattle.std.proofs.lemmas.Grind.{get_or_after_one}
use Rattle.std.specs.Prelude.{if◌then◌else◌, min}
use Rattle.std.specs.List.{prefix_len}
use Rattle.std.specs.Char.{is_ascii_hexdigit}
use Rattle.protox_lexeme.specs.Lexicon.{is_octal, is_x, is_quote, byte}
use Rattle.protox_lexeme.specs.Pattern.{Pattern, one, ◌⋅◌, some, times, up_to, Fits, IsLongest}
use Rattle.protox_lex.specs.StringPieces.{PieceKind, Run, Close, OtherQuote, Hex, Octal, Simple, ShortChar, LongChar, is_simple, hex_digit, octal_digit, piece_pattern, piece_as, unmatched, IsPiece, IsPieces, begins_wrong, all_wrong}
use Rattle.protox_lexeme.specs.Strings as spec
use Rattle.std.specs.Option.{is_some}
use Rattle.protox_fault.specs.Faults.{span_from}
use Rattle.protox_fault.specs.declared.error.ParseErrorKind.TheVariants.{InvalidStringEscape, InvalidStringCharacters}
use Rattle.protox_lexeme.proofs.Lemmas.{first_passes, one_then, one_then_rest, passes_first}
use Rattle.protox_lexeme.proofs.Lemmas.{piece_some, pieces_end, pieces_last, pieces_more, pieces_turn}
use Rattle.protox_lexeme.proofs.Lemmas.{run_more, some_bounds, some_fits, then_one_rest}

not_true : (b : Bool) → not b ≡ true → b ≡ false
not_true true h = absurd (false≢true h)
not_true false h = refl

-- a first byte that passes
front_passes : (p : ℕ → Bool) (text : List ℕ) → 0 < length text → p (get_or text 0 0) ≡ true → 1 ≤ prefix_len p text
front_passes p [] some h = absurd (omega arith)
front_passes p (b ∷ text) some h = rw h (omega arith)

-- ---- repetition

none_pass : (text : List ℕ) → prefix_len (λ b. false) text ≡ 0
none_pass [] = refl
none_pass (b ∷ text) = refl

times_bound : (p : ℕ → Bool) (n : ℕ) (text : List ℕ) (m : ℕ) → Fits (times n (one p)) text m → (m ≡ n) × (n ≤ prefix_len p text)
times_bound p zero text m f = (omega (arith, none_pass text), omega arith)
times_bound p (suc n) [] m (i, j, size, (is_one, h), f) = absurd (omega arith)
times_bound p (suc n) (b ∷ text) m f =
    let (k, size, passes, rest) = one_then p (times n (one p)) b text m f in
    let (same, within) = times_bound p n text k rest in
    (omega arith, rw (run_more p b text passes) (omega arith))

times_fits : (p : ℕ → Bool) (n : ℕ) (text : List ℕ) → n ≤ prefix_len p text → Fits (times n (one p)) text n
times_fits p zero text h = omega arith
times_fits p (suc n) [] h = absurd (omega arith)
times_fits p (suc n) (b ∷ text) h =
    let passes : p b ≡ true = first_passes p (b ∷ text) (omega arith) in
    let all = run_more p b text passes in
    then_one_rest p (times n (one p)) (b ∷ text) n (omega arith) (times_fits p n text (omega arith))

up_bound : (p : ℕ → Bool) (n : ℕ) (text : List ℕ) (m : ℕ) → Fits (up_to n (one p)) text m → (m ≤ n) × (m ≤ prefix_len p text)
up_bound p zero text m f = (omega (arith, none_pass text), omega (arith, none_pass text))
up_bound p (suc n) text m (inl none) = (omega arith, omega arith)
up_bound p (suc n) [] m (inr (i, j, size, (is_one, h), f)) = absurd (omega arith)
up_bound p (suc n) (b ∷ text) m (inr f) =
    let (k, size, passes, rest) = one_then p (up_to n (one p)) b text m f in
    let (few, within) = up_bound p n text k rest in
    (omega arith, rw (run_more p b text passes) (omega arith))

up_fits : (p : ℕ → Bool) (n : ℕ) (text : List ℕ) (m : ℕ) → m ≤ n → m ≤ prefix_len p text → Fits (up_to n (one p)) text m
up_fits p zero text m few h = omega (arith, none_pass text)
up_fits p (suc n) text zero few h = inl refl
up_fits p (suc n) [] (suc m) few h = absurd (omega arith)
up_fits p (suc n) (b ∷ text) (suc m) few h =
    let passes : p b ≡ true = first_passes p (b ∷ text) (omega arith) in
    let all = run_more p b text passes in
    inr (then_one_rest p (up_to n (one p)) (b ∷ text) m (omega arith) (up_fits p n text m (omega arith) (omega arith)))

some_up_bound : (p : ℕ → Bool) (n : ℕ) (text : List ℕ) (m : ℕ) → Fits (one p ⋅ up_to n (one p)) text m → (1 ≤ m) × (m ≤ suc n) × (m ≤ prefix_len p text)
some_up_bound p n [] m (i, j, size, (is_one, h), f) = absurd (omega arith)
some_up_bound p n (b ∷ text) m f =
    let (k, size, passes, rest) = one_then p (up_to n (one p)) b text m f in
    let (few, within) = up_bound p n text k rest in
    (omega arith, omega arith, rw (run_more p b text passes) (omega arith))

some_up_fits : (p : ℕ → Bool) (n : ℕ) (text : List ℕ) (m : ℕ) → 1 ≤ m → m ≤ suc n → m ≤ prefix_len p text → Fits (one p ⋅ up_to n (one p)) text m
some_up_fits p n [] m some few h = absurd (omega arith)
some_up_fits p n (b ∷ text) zero some few h = absurd (omega arith)
some_up_fits p n (b ∷ text) (suc m) some few h =
    let passes : p b ≡ true = first_passes p (b ∷ text) (omega arith) in
    let all = run_more p b text passes in
    then_one_rest p (up_to n (one p)) (b ∷ text) m (omega arith) (up_fits p n text m (omega arith) (omega arith))

-- ---- which pieces of each kind stand at the front, and their longest match

abbrev first : List ℕ → ℕ
first text = get_or text 0 0

abbrev second : List ℕ → ℕ
second text = get_or text 1 0

abbrev Front : ℕ → PieceKind → List ℕ → Type 0
Front quote Run text = spec.is_plain (first text) ≡ true
Front quote Close text = first text ≡ quote
Front quote OtherQuote text = (is_quote (first text) ≡ true) × (eqb (first text) quote ≡ false)
Front quote Hex text = (first text ≡ 92) × (is_x (second text) ≡ true) × (1 ≤ spec.hex_len text)
Front quote Octal text = (first text ≡ 92) × (is_octal (second text) ≡ true)
Front quote Simple text = (first text ≡ 92) × (is_simple (second text) ≡ true)
Front quote ShortChar text = (first text ≡ 92) × (second text ≡ 117) × (4 ≤ spec.hex_len text)
Front quote LongChar text = (first text ≡ 92) × (second text ≡ 85) × (8 ≤ spec.hex_len text)

abbrev size_of : PieceKind → List ℕ → ℕ
size_of Run text = prefix_len spec.is_plain text
size_of Close text = 1
size_of OtherQuote text = 1
size_of Hex text = 2 + min 2 (spec.hex_len text)
size_of Octal text = 1 + min 3 (spec.octal_len text)
size_of Simple text = 2
size_of ShortChar text = 6
size_of LongChar text = 10

-- a backslash, a byte that passes, and a pattern
escape_front : (p : ℕ → Bool) (q : Pattern) (text : List ℕ) (m : ℕ) → Fits (byte 92 ⋅ one p ⋅ q) text m
    → (k : ℕ) × (m ≡ 2 + k) × (first text ≡ 92) × (p (second text) ≡ true) × Fits q (drop 2 text) k
escape_front p q text m f =
    let (i, size, slash, rest) = one_then_rest (λ x. x == 92) (one p ⋅ q) text m f in
    let (k, more, passes, last) = one_then_rest p q (drop 1 text) i rest in
    let P : List ℕ → Type 0 = λ t. Fits q t k in
    (k, omega arith, eqb-true (first text) 92 slash, rw get_or_after_one at passes, subst P (drop-drop 1 1 text) last)

escape_fits : (p : ℕ → Bool) (q : Pattern) (text : List ℕ) (k : ℕ) → first text ≡ 92 → p 0 ≡ false → p (second text) ≡ true → Fits q (drop 2 text) k → Fits (byte 92 ⋅ one p ⋅ q) text (2 + k)
escape_fits p q text k slash zero_fails passes f =
    let P : List ℕ → Type 0 = λ t. Fits q t k in
    let next : p (get_or (drop 1 text) 0 0) ≡ true = rw get_or_after_one passes in
    let inner = then_one_rest p q (drop 1 text) k (passes_first p (drop 1 text) zero_fails next) (subst P (sym (drop-drop 1 1 text)) f) in
    let outer = then_one_rest (λ x. x == 92) (one p ⋅ q) text (suc k) (passes_first (λ x. x == 92) text refl (eq-eqb (first text) 92 slash)) inner in
    let Q : ℕ → Type 0 = λ n. Fits (byte 92 ⋅ one p ⋅ q) text n in
    let same : suc (suc k) ≡ 2 + k = omega arith in
    subst Q same outer

pub fits_front : (quote : ℕ) (k : PieceKind) (text : List ℕ) (n : ℕ) → Fits (piece_pattern quote k) text n → Front quote k text × (n ≤ size_of k text)
fits_front quote Run text n f = let (some_byte, within) = some_bounds spec.is_plain text n f in (first_passes spec.is_plain text (omega arith), within)
fits_front quote Close text n (is_one, h) = (eqb-true (first text) quote (first_passes (λ x. x == quote) text h), omega arith)
fits_front quote OtherQuote text n (is_one, h) =
    let both = and_parts (is_quote (first text)) (not (eqb (first text) quote)) (first_passes (λ b. is_quote b && not (b == quote)) text h) in
    ((both.0, not_true (eqb (first text) quote) both.1), omega arith)
fits_front quote Hex text n f =
    let (k, size, slash, x, rest) = escape_front is_x (hex_digit ⋅ up_to 1 hex_digit) text n f in
    let (low, few, within) = some_up_bound is_ascii_hexdigit 1 (drop 2 text) k rest in
    ((slash, x, omega arith), omega arith)
fits_front quote Octal text n f =
    let (k, size, slash, rest) = one_then_rest (λ x. x == 92) (octal_digit ⋅ up_to 2 octal_digit) text n f in
    let (low, few, within) = some_up_bound is_octal 2 (drop 1 text) k rest in
    let passes = first_passes is_octal (drop 1 text) (omega arith) in
    ((eqb-true (first text) 92 slash, rw get_or_after_one at passes), omega arith)
fits_front quote Simple text n f =
    let (k, size, slash, (is_one, h)) = one_then_rest (λ x. x == 92) (one is_simple) text n f in
    let passes = first_passes is_simple (drop 1 text) h in
    ((eqb-true (first text) 92 slash, rw get_or_after_one at passes), omega arith)
fits_front quote ShortChar text n f =
    let (k, size, slash, u, rest) = escape_front (λ x. x == 117) (times 4 hex_digit) text n f in
    let (same, within) = times_bound is_ascii_hexdigit 4 (drop 2 text) k rest in
    ((slash, eqb-true (second text) 117 u, within), omega arith)
fits_front quote LongChar text n f =
    let (k, size, slash, u, rest) = escape_front (λ x. x == 85) (times 8 hex_digit) text n f in
    let (same, within) = times_bound is_ascii_hexdigit 8 (drop 2 text) k rest in
    ((slash, eqb-true (second text) 85 u, within), omega arith)

front_fits : (quote : ℕ) (k : PieceKind) (text : List ℕ) → 0 < length text → Front quote k text → Fits (piece_pattern quote k) text (size_of k text)
front_fits quote Run text some f =
    let starts = passes_first spec.is_plain text refl f in some_fits spec.is_plain text (prefix_len spec.is_plain text) starts (le_refl _)
front_fits quote Close text some f = (refl, front_passes (λ x. x == quote) text some (eq-eqb (first text) quote f))
front_fits quote OtherQuote text some (is_one, other) = (refl, front_passes (λ b. is_quote b && not (b == quote)) text some (rw (is_one, other) refl))
front_fits quote Hex text some (slash, x, digits) =
    escape_fits is_x (hex_digit ⋅ up_to 1 hex_digit) text (min 2 (spec.hex_len text)) slash refl x
    (some_up_fits is_ascii_hexdigit 1 (drop 2 text) (min 2 (spec.hex_len text)) (omega arith) (omega arith) (omega arith))
front_fits quote Octal text some (slash, octal) =
    let next : is_octal (get_or (drop 1 text) 0 0) ≡ true = rw get_or_after_one octal in
    let starts = passes_first is_octal (drop 1 text) refl next in
    let n = min 3 (spec.octal_len text) in
    let f = then_one_rest (λ x. x == 92) (octal_digit ⋅ up_to 2 octal_digit) text n (front_passes (λ x. x == 92) text some (eq-eqb (first text) 92 slash)) (some_up_fits is_octal 2 (drop 1 text) n (omega arith) (omega arith) (omega arith)) in
    let P : ℕ → Type 0 = λ m. Fits (piece_pattern quote Octal) text m in
    let same : suc n ≡ 1 + n = omega arith in
    subst P same f
front_fits quote Simple text some (slash, simple) =
    let next : is_simple (get_or (drop 1 text) 0 0) ≡ true = rw get_or_after_one simple in
    then_one_rest (λ x. x == 92) (one is_simple) text 1 (front_passes (λ x. x == 92) text some (eq-eqb (first text) 92 slash)) (refl, passes_first is_simple (drop 1 text) refl next)
front_fits quote ShortChar text some (slash, u, digits) =
    escape_fits (λ x. x == 117) (times 4 hex_digit) text 4 slash refl (eq-eqb (second text) 117 u) (times_fits is_ascii_hexdigit 4 (drop 2 text) digits)
front_fits quote LongChar text some (slash, u, digits) =
    escape_fits (λ x. x == 85) (times 8 hex_digit) text 8 slash refl (eq-eqb (second text) 85 u) (times_fits is_ascii_hexdigit 8 (drop 2 text) digits)

-- ---- no two kinds of pieces stand at one place

-- the kind that may stand at a place, by its first two bytes
abbrev kind_at : ℕ → List ℕ → PieceKind
kind_at quote text =
    let b = first text in
    let c = second text in
    if spec.is_plain b then Run
    else if b == quote then Close
    else if is_quote b then OtherQuote
    else if is_x c then Hex
    else if c == 117 then ShortChar
    else if c == 85 then LongChar
    else if is_octal c then Octal
    else Simple

quote_not_plain : (b : ℕ) → is_quote b ≡ true → spec.is_plain b ≡ false
quote_not_plain b h = grind (arith, nat_tests)

quote_not_slash : (quote : ℕ) → is_quote quote ≡ true → eqb 92 quote ≡ false
quote_not_slash quote h = grind (arith, nat_tests)

octal_apart : (c : ℕ) → is_octal c ≡ true → (is_x c ≡ false) × (eqb c 117 ≡ false) × (eqb c 85 ≡ false)
octal_apart c h = (grind (arith, nat_tests), grind (arith, nat_tests), grind (arith, nat_tests))

x_cases : (c : ℕ) → is_x c ≡ true → (c ≡ 120) ⊎ (c ≡ 88)
x_cases c h = grind (arith, nat_tests)

-- a test that fails at a simple escape
simple_not_x : (c : ℕ) → is_simple c ≡ true → is_x c ≡ false
simple_not_x c h = elim (cases_Bool (is_x c)) [
  | inl e ↦ elim (x_cases c e) [
    | inl same ↦ absurd (false≢true (let P : ℕ → Type 0 = λ k. is_simple k ≡ true in subst P same h))
    | inr same ↦ absurd (false≢true (let P : ℕ → Type 0 = λ k. is_simple k ≡ true in subst P same h))
  ]
  | inr e ↦ e
]

simple_not : (c d : ℕ) → is_simple d ≡ false → is_simple c ≡ true → eqb c d ≡ false
simple_not c d none h = elim (cases_Bool (eqb c d)) [
  | inl e ↦ absurd (true≢false (sym h ∙ ap is_simple (eqb-true c d e) ∙ none))
  | inr e ↦ e
]

octal_low : (c : ℕ) → is_octal c ≡ true → 48 ≤ c
octal_low c h = grind (arith, nat_tests)

octal_high : (c : ℕ) → is_octal c ≡ true → c ≤ 55
octal_high c h = grind (arith, nat_tests)

below_not : (c d : ℕ) → c < d → eqb c d ≡ false
below_not c d h = grind (arith, nat_tests)

above_not : (c d : ℕ) → d < c → eqb c d ≡ false
above_not c d h = grind (arith, nat_tests)

octal_cases : (c : ℕ) → is_octal c ≡ true → is_simple c ≡ false
octal_cases c h =
    let low = octal_low c h in
    let high = octal_high c h in
    rw (
      below_not c 97 (omega arith),
      below_not c 98 (omega arith),
      below_not c 102 (omega arith),
      below_not c 110 (omega arith),
      below_not c 114 (omega arith),
      below_not c 116 (omega arith),
      below_not c 118 (omega arith),
      below_not c 63 (omega arith),
      below_not c 92 (omega arith),
      above_not c 39 (omega arith),
      above_not c 34 (omega arith),
    ) refl

simple_not_octal : (c : ℕ) → is_simple c ≡ true → is_octal c ≡ false
simple_not_octal c h = elim (cases_Bool (is_octal c)) [ inl e ↦ absurd (true≢false (sym h ∙ octal_cases c e)) | inr e ↦ e ]

front_kind : (quote : ℕ) (k : PieceKind) (text : List ℕ) → is_quote quote ≡ true → Front quote k text → k ≡ kind_at quote text
front_kind quote Run text q f = rw f refl
front_kind quote Close text q f = rw (f, quote_not_plain quote q, eq-eqb quote quote refl) refl
front_kind quote OtherQuote text q (is_one, other) = rw (quote_not_plain (first text) is_one, other, is_one) refl
front_kind quote Hex text q (slash, x, digits) = rw (slash, quote_not_slash quote q, x) refl
front_kind quote Octal text q (slash, octal) = let (x, u, v) = octal_apart (second text) octal in rw (slash, quote_not_slash quote q, x, u, v, octal) refl
front_kind quote Simple text q (slash, simple) =
    rw (slash, quote_not_slash quote q, simple_not_x (second text) simple, simple_not (second text) 117 refl simple, simple_not (second text) 85 refl simple, simple_not_octal (second text) simple) refl
front_kind quote ShortChar text q (slash, u, digits) = rw (slash, quote_not_slash quote q, u) refl
front_kind quote LongChar text q (slash, u, digits) = rw (slash, quote_not_slash quote q, u) refl

-- ---- the piece of each kind

piece_front : (quote : ℕ) (k : PieceKind) (text : List ℕ) → is_quote quote ≡ true → Front quote k text → spec.piece quote text ≡ piece_as k text (size_of k text)
unfolding spec.piece spec.escape spec.hex_escape spec.octal_escape spec.char_escape
piece_front quote Run text q f = rw f refl
piece_front quote Close text q f = rw (f, quote_not_plain quote q, eq-eqb quote quote refl) refl
piece_front quote OtherQuote text q (is_one, other) = rw (quote_not_plain (first text) is_one, other, is_one) refl
piece_front quote Hex text q (slash, x, digits) =
    rw (slash, quote_not_slash quote q, x, lt-ltb 0 (spec.hex_len text) digits, drop-take 2 (min 2 (spec.hex_len text)) text) refl
piece_front quote Octal text q (slash, octal) =
    let (x, u, v) = octal_apart (second text) octal in
    rw (slash, quote_not_slash quote q, x, u, v, octal, drop-take 1 (min 3 (spec.octal_len text)) text) refl
piece_front quote Simple text q (slash, simple) =
    rw (slash, quote_not_slash quote q, simple_not_x (second text) simple, simple_not (second text) 117 refl simple, simple_not (second text) 85 refl simple, simple_not_octal (second text) simple) refl
piece_front quote ShortChar text q (slash, u, digits) =
    rw (slash, quote_not_slash quote q, u, le-leb 4 (spec.hex_len text) digits, drop-take 2 4 text) refl
piece_front quote LongChar text q (slash, u, digits) =
    rw (slash, quote_not_slash quote q, u, le-leb 8 (spec.hex_len text) digits, drop-take 2 8 text) refl

-- ---- which kind it is, if any

front_longest : (quote : ℕ) (k : PieceKind) (text : List ℕ) → is_quote quote ≡ true → 0 < length text → Front quote k text → IsLongest (piece_pattern quote) k text (size_of k text)
front_longest quote k text q some f = record {
  fits = front_fits quote k text some f;
  longest =
      λ other m g.
      let (g_front, bound) = fits_front quote other text m g in
      let same : other ≡ k = front_kind quote other text q g_front ∙ sym (front_kind quote k text q f) in
      let P : PieceKind → Type 0 = λ l. m ≤ size_of l text in
      subst P same bound;
}

-- No kind stands at the front, so the piece is one without a match.
record NoFront (quote : ℕ) (text : List ℕ) : Type 0 where
  none : (k : PieceKind) → Front quote k text → ⊥
  is : spec.piece quote text ≡ unmatched text

abbrev Which : ℕ → List ℕ → Type 0
Which quote text = ((k : PieceKind) × Front quote k text) ⊎ NoFront quote text

-- The kind that may stand there doesn't.
refuted : (quote : ℕ) (text : List ℕ) (k : PieceKind) → is_quote quote ≡ true → kind_at quote text ≡ k → (Front quote k text → ⊥) → (l : PieceKind) → Front quote l text → ⊥
refuted quote text k q here none l f = let P : PieceKind → Type 0 = λ j. Front quote j text in none (subst P (front_kind quote l text q f ∙ here) f)

no_front : (quote : ℕ) (text : List ℕ) → spec.is_plain (first text) ≡ false → eqb (first text) quote ≡ false → is_quote (first text) ≡ false → eqb (first text) 92 ≡ false
    → (k : PieceKind) → Front quote k text → ⊥
no_front quote text p e i s Run f = true≢false (sym f ∙ p)
no_front quote text p e i s Close f = true≢false (sym (eq-eqb (first text) quote f) ∙ e)
no_front quote text p e i s OtherQuote f = true≢false (sym f.0 ∙ i)
no_front quote text p e i s Hex f = true≢false (sym (eq-eqb (first text) 92 f.0) ∙ s)
no_front quote text p e i s Octal f = true≢false (sym (eq-eqb (first text) 92 f.0) ∙ s)
no_front quote text p e i s Simple f = true≢false (sym (eq-eqb (first text) 92 f.0) ∙ s)
no_front quote text p e i s ShortChar f = true≢false (sym (eq-eqb (first text) 92 f.0) ∙ s)
no_front quote text p e i s LongChar f = true≢false (sym (eq-eqb (first text) 92 f.0) ∙ s)

simple_none : (r : Option ℕ) → is_some r ≡ false → spec.simple_piece r ≡ spec.wrong true 1
simple_none None h = refl
simple_none (Some b) h = absurd (true≢false h)

escape_which : (quote : ℕ) (text : List ℕ) → is_quote quote ≡ true → first text ≡ 92 → Which quote text
unfolding spec.piece spec.escape spec.hex_escape spec.octal_escape spec.char_escape
escape_which quote text q slash =
    let c = second text in
    let s = quote_not_slash quote q in
    elim (cases_Bool (is_x c)) [
      | inl x ↦ elim (cases_Bool (ltb 0 (spec.hex_len text))) [
        | inl some ↦ inl (Hex, (slash, x, ltb-true 0 (spec.hex_len text) some))
        | inr none ↦ inr (record {
          none = refuted quote text Hex q (rw (slash, s, x) refl) (λ f. true≢false (sym (lt-ltb 0 (spec.hex_len text) f.2) ∙ none));
          is = rw (slash, s, x, none) refl;
        })
      ]
      | inr x ↦ elim (cases_Bool (eqb c 117)) [
        | inl u ↦ elim (cases_Bool (leb 4 (spec.hex_len text))) [
          | inl some ↦ inl (ShortChar, (slash, eqb-true c 117 u, leb-true 4 (spec.hex_len text) some))
          | inr none ↦ inr (record {
            none = refuted quote text ShortChar q (rw (slash, s, x, u) refl) (λ f. true≢false (sym (le-leb 4 (spec.hex_len text) f.2) ∙ none));
            is = rw (slash, s, x, u, none) refl;
          })
        ]
        | inr u ↦ elim (cases_Bool (eqb c 85)) [
          | inl v ↦ elim (cases_Bool (leb 8 (spec.hex_len text))) [
            | inl some ↦ inl (LongChar, (slash, eqb-true c 85 v, leb-true 8 (spec.hex_len text) some))
            | inr none ↦ inr (record {
              none = refuted quote text LongChar q (rw (slash, s, x, u, v) refl) (λ f. true≢false (sym (le-leb 8 (spec.hex_len text) f.2) ∙ none));
              is = rw (slash, s, x, u, v, none) refl;
            })
          ]
          | inr v ↦ elim (cases_Bool (is_octal c)) [
            | inl o ↦ inl (Octal, (slash, o))
            | inr o ↦ elim (cases_Bool (is_simple c)) [
              | inl simple ↦ inl (Simple, (slash, simple))
              | inr none ↦ inr (record {
                none = refuted quote text Simple q (rw (slash, s, x, u, v, o) refl) (λ f. true≢false (sym f.1 ∙ none));
                is = rw (slash, s, x, u, v, o) (simple_none (spec.simple_escape c) none);
              })
            ]
          ]
        ]
      ]
    ]

which : (quote : ℕ) (text : List ℕ) → is_quote quote ≡ true → Which quote text
unfolding spec.piece
which quote text q =
    let b = first text in
    elim (cases_Bool (spec.is_plain b)) [
      | inl plain ↦ inl (Run, plain)
      | inr p ↦ elim (cases_Bool (eqb b quote)) [
        | inl close ↦ inl (Close, eqb-true b quote close)
        | inr e ↦ elim (cases_Bool (is_quote b)) [
          | inl other ↦ inl (OtherQuote, (other, e))
          | inr i ↦ elim (cases_Bool (eqb b 92)) [
            | inl slash ↦ escape_which quote text q (eqb-true b 92 slash)
            | inr s ↦ elim (cases_Bool (eqb b 10)) [
              | inl newline_byte ↦ inr (record { none = no_front quote text p e i s; is = rw (p, e, i, newline_byte) refl })
              | inr n ↦ inr (record { none = no_front quote text p e i s; is = rw (p, e, i, n, s) refl })
            ]
          ]
        ]
      ]
    ]

piece_is : (quote : ℕ) (text : List ℕ) → is_quote quote ≡ true → 0 < length text → IsPiece quote text (spec.piece quote text)
piece_is quote text q some = elim (which quote text q) [
  | inl w ↦ inl (w.0, size_of w.0 text, front_longest quote w.0 text q some w.1, piece_front quote w.0 text q w.1)
  | inr w ↦ inr (λ k n f. w.none k (fits_front quote k text n f).0, w.is)
]

only_piece : (quote : ℕ) (text : List ℕ) (p : spec.Piece) → is_quote quote ≡ true → 0 < length text → IsPiece quote text p → p ≡ spec.piece quote text
only_piece quote text p q some (inl (k, n, h, e)) =
    let (front, bound) = fits_front quote k text n h.fits in
    let back = h.longest k (size_of k text) (front_fits quote k text some front) in
    let size : n ≡ size_of k text = omega arith in
    e ∙ ap (piece_as k text) size ∙ sym (piece_front quote k text q front)
only_piece quote text p q some (inr (none, e)) = elim (which quote text q) [
  | inl w ↦ absurd (none w.0 (size_of w.0 text) (front_fits quote w.0 text some w.1))
  | inr w ↦ e ∙ sym w.is
]

-- ---- the pieces of a literal

pieces_are_from : (count quote : ℕ) (text : List ℕ) → is_quote quote ≡ true → length text ≤ count → IsPieces quote text (spec.pieces quote text)
pieces_are_from zero quote text q h = let P : List spec.Piece → Type 0 = λ ps. IsPieces quote text ps in subst P (sym (pieces_end quote text (omega arith))) (omega arith)
pieces_are_from (suc count) quote [] q h = let P : List spec.Piece → Type 0 = λ ps. IsPieces quote [] ps in subst P (sym (pieces_end quote [] refl)) refl
pieces_are_from (suc count) quote (b ∷ text) q h =
    let all = b ∷ text in
    let p = spec.piece quote all in
    let some = piece_some quote all (omega arith) in
    let size = length-drop (spec.piece_len p) all in
    let rest = spec.pieces quote (drop (spec.piece_len p) all) in
    let P : List spec.Piece → Type 0 = λ ps. IsPieces quote all ps in
    subst P (sym (pieces_turn quote all (omega arith))) (
      omega arith,
      piece_is quote all q (omega arith),
      (λ last. rw last refl),
      (λ more. let Q : List spec.Piece → Type 0 = λ ps. IsPieces quote (drop (spec.piece_len p) all) ps in
          let same : rest ≡ (if spec.is_last p then [] else rest) = rw more refl in
          subst Q same (pieces_are_from count quote (drop (spec.piece_len p) all) q (omega arith))),
    )

pub pieces_are : (quote : ℕ) (text : List ℕ) → is_quote quote ≡ true → IsPieces quote text (spec.pieces quote text)
pieces_are quote text q = pieces_are_from (length text) quote text q (le_refl _)

pub only_pieces : (quote : ℕ) (text : List ℕ) (ps : List spec.Piece) → is_quote quote ≡ true → IsPieces quote text ps → ps ≡ spec.pieces quote text
only_pieces quote text [] q h = sym (pieces_end quote text h)
only_pieces quote text (p ∷ ps) q (some, is, last, more) =
    let same = only_piece quote text p q some is in
    elim (cases_Bool (spec.is_last p)) [
      | inl e ↦ ap (λ t. p ∷ t) (last e) ∙ sym (pieces_last quote text p some same e)
      | inr e ↦ ap (λ t. p ∷ t) (only_pieces quote (drop (spec.piece_len p) text) ps q (more e)) ∙ sym (pieces_more quote text p some same e)
    ]

-- ---- invalid pieces right after one another

closed_then : (bad : spec.Bad) (at : ℕ) (rest : List spec.Piece) → begins_wrong rest ≡ false → spec.faults_of bad at rest ≡ spec.closed bad at ++ spec.faults_of None at rest
closed_then bad at [] h = refl
closed_then bad at (spec.run bytes ∷ ps) h = refl
closed_then bad at (spec.adds bytes n ∷ ps) h = refl
closed_then bad at (spec.wrong is_escape n ∷ ps) h = absurd (true≢false h)
closed_then bad at (spec.ends ∷ ps) h = sym (append-nil (spec.closed bad at))
closed_then bad at (spec.breaks ∷ ps) h = refl

go_on : (o : Bool × ℕ) (at : ℕ) (more rest : List spec.Piece) → all_wrong more ≡ true → begins_wrong rest ≡ false
    → spec.faults_of (Some o) at (more ++ rest) ≡ spec.closed (Some o) (at + spec.len_of more) ++ spec.faults_of None (at + spec.len_of more) rest
go_on o at [] rest all h = closed_then (Some o) at rest h ∙ ap (λ k. spec.closed (Some o) k ++ spec.faults_of None k rest) (sym (add-zero at))
go_on o at (spec.run bytes ∷ ps) rest all h = absurd (false≢true all)
go_on o at (spec.adds bytes n ∷ ps) rest all h = absurd (false≢true all)
go_on o at (spec.ends ∷ ps) rest all h = absurd (false≢true all)
go_on o at (spec.breaks ∷ ps) rest all h = absurd (false≢true all)
go_on o at (spec.wrong is_escape n ∷ ps) rest all h =
    go_on o (at + n) ps rest all h ∙ ap (λ k. spec.closed (Some o) k ++ spec.faults_of None k rest) (add_assoc at n (spec.len_of ps))

pub adjoining : (at : ℕ) (is_escape : Bool) (n : ℕ) (more rest : List spec.Piece) → all_wrong more ≡ true → begins_wrong rest ≡ false
    → spec.faults_of None at (spec.wrong is_escape n ∷ more ++ rest)
    ≡ (let span = span_from at (at + n + spec.len_of more) in if is_escape then InvalidStringEscape span else InvalidStringCharacters span) ∷ spec.faults_of None (at + n + spec.len_of more) rest
adjoining at is_escape n more rest all h = go_on (is_escape, at) (at + n) more rest all h
