-- Printed integers and floats lex to the same.
use Rattle.std.proofs.Common.{◌≡◌, ℕ, zero, suc, ◌+◌, ◌%◌, ◌^◌, ◌<◌, ◌≤◌, Bool, true, false, not, ◌&&◌, ◌||◌, ◌==◌, eqb, ltb, ◌⊎◌, inl, inr, List, [], ◌∷◌, ◌++◌, length, take, drop, get_or, refl, sym, ap, ◌∙◌, subst, append-nil, length-append, lt-ltb, arith, Option, Some}
use Rattle.std.proofs.lemmas.Bool.{cases_Bool, eqb-true}
use Rattle.std.proofs.lemmas.Bool.Decides.{nat_tests}
use Rattle.std.proofs.lemmas.Fmt.{decimal_by_steps, decimal_is_IsNumeral, decimal_nonempty, decimal_digit, first_decimal}
use Rattle.std.proofs.lemmas.List.Sums.{prefix_len-le-length}
use Rattle.std.specs.Prelude.{if◌then◌else◌}
use Rattle.std.specs.Fmt.{decimal}
use Rattle.std.specs.List.{prefix_len}
use Rattle.std.specs.Char.{is_ascii_digit, is_ascii_hexdigit}
use Rattle.std.specs.Option.{MatchOption}
use Rattle.protox_lexeme.specs.declared.scan.Kind.{Kind}
use Rattle.protox_lexeme.specs.declared.scan.Kind.TheVariants as kind
use Rattle.protox_lexeme.specs.Lexemes.{lexeme, prefix_of, integer_value, value_fits, space_faults, range_faults, has_suffix, is_whole, float_text, suffix_faults}
use Rattle.protox_lexeme.specs.Lexicon.{pattern, is_letter, is_octal, is_nonzero, is_e, is_sign, is_f, is_x, is_blank, digits}
use Rattle.protox_lexeme.specs.Pattern.{Pattern, one, many, ◌⋅◌, maybe, Fits, IsLongest}
use Rattle.protox_lexeme.specs.Scanning.{first, digits_len, exponent_len, zero_number, number, fraction_len, scan}
use Rattle.protox_lexeme.specs.Shapes.{Int, Float}
use Rattle.protox_lex.specs.Words.{IsWordOf}
use Rattle.protox_lexeme.proofs.Lemmas.{AllPass, In, OnlyIn, first_passes, fits_some, head_passes}
use Rattle.protox_lexeme.proofs.Lemmas.{no_exponent, no_run, one_kind, only_bound}
use Rattle.protox_lex.proofs.LexesBack.{AtEnd, LexesAs, ends_run, run_to, front_is, rest_is, at_rest, by_scan}
use Rattle.protox_lexeme.proofs.Lemmas as shared
use Rattle.protox_lex.proofs.WordsOf.{word_fits}

pass_more : (p : ℕ → Bool) (xs ys : List ℕ) → AllPass p xs → AllPass p ys → AllPass p (xs ++ ys)
pass_more p [] ys h k = k
pass_more p (x ∷ xs) ys h k =
    let (here, more) = head_passes p x xs h in
    let tail = pass_more p xs ys more k in
    rw here (omega arith)

digit_passes : (d : ℕ) → d < 10 → is_ascii_digit (48 + d) ≡ true
digit_passes d h = grind (arith, nat_tests)

decimal_passes : (n : ℕ) → n < 2 ^ 64 → AllPass is_ascii_digit (decimal n)
decimal_passes n h = decimal_by_steps (λ (m : ℕ) (ds : List ℕ). AllPass is_ascii_digit ds) one_digit more n h where
  one_digit : (m : ℕ) → m < 10 → AllPass is_ascii_digit ((48 + m) ∷ [])
  one_digit m small = rw (digit_passes m small) refl

  more : (m : ℕ) (ds : List ℕ) → 10 ≤ m → AllPass is_ascii_digit ds → AllPass is_ascii_digit (ds ++ (48 + m % 10) ∷ [])
  more m ds big all = let low : m % 10 < 10 = omega arith in pass_more is_ascii_digit ds ((48 + m % 10) ∷ []) all (rw (digit_passes (m % 10) low) refl)

first_of : (s rest : List ℕ) → 0 < length s → get_or (s ++ rest) 0 0 ≡ get_or s 0 0
first_of [] rest h = absurd (omega arith)
first_of (b ∷ s) rest h = refl

digit_not_blank : (b : ℕ) → is_ascii_digit b ≡ true → is_blank b ≡ false
digit_not_blank b h = grind (arith, nat_tests)

no_prefix : (s : List ℕ) → (eqb (get_or s 0 0) 48 ≡ false) ⊎ (s ≡ 48 ∷ []) → prefix_of s ≡ 0
no_prefix s (inl other) = rw other refl
no_prefix s (inr zero_byte) = ap prefix_of zero_byte

and_false : (a b : Bool) → b ≡ false → (a && b) ≡ false
and_false true b h = h
and_false false b h = refl

unfold_zero : (rest : List ℕ) → AtEnd rest → zero_number (48 ∷ rest) ≡ (kind.Integer, 1)
unfolding zero_number
unfold_zero rest end =
    rw (ends_run is_x rest refl refl end, ends_run is_f rest refl refl end, no_run is_octal rest (ends_run is_octal rest refl refl end)) refl

zero_alone : (rest : List ℕ) → AtEnd rest → number (48 ∷ rest) ≡ (kind.Integer, 1)
zero_alone rest end =
    let text = 48 ∷ rest in
    let none = no_run is_ascii_digit rest (ends_run is_ascii_digit rest refl refl end) in
    let size : digits_len text ≡ 1 = omega arith in
    let point : eqb (get_or text (digits_len text) 0) 46 ≡ false = ap (λ k. eqb (get_or text k 0) 46) size ∙ ends_run (λ c. c == 46) rest refl refl end in
    let exp : exponent_len (drop (digits_len text) text) ≡ 0 = ap (λ k. exponent_len (drop k text)) size ∙ no_exponent rest (ends_run is_e rest refl refl end) in
    shared.number_zero text point exp refl ∙ unfold_zero rest end

-- Digits at the end of the text are an integer.
digits_number : (s rest : List ℕ) → AllPass is_ascii_digit s → 0 < length s → (eqb (get_or s 0 0) 48 ≡ false) ⊎ (s ≡ 48 ∷ []) → AtEnd rest → number (s ++ rest) ≡ (kind.Integer, length s)
digits_number s rest all some (inl other) end =
    let text = s ++ rest in
    let size = run_to is_ascii_digit s rest all refl (ends_run is_ascii_digit rest refl refl end) in
    let behind : get_or text (digits_len text) 0 ≡ get_or rest 0 0 = ap (λ k. get_or text k 0) size ∙ at_rest s rest in
    let past : drop (digits_len text) text ≡ rest = ap (λ k. drop k text) size ∙ rest_is s rest in
    let point : eqb (get_or text (digits_len text) 0) 46 ≡ false = ap (λ c. eqb c 46) behind ∙ ends_run (λ c. c == 46) rest refl refl end in
    let exp : exponent_len (drop (digits_len text) text) ≡ 0 = ap exponent_len past ∙ no_exponent rest (ends_run is_e rest refl refl end) in
    let nonzero : eqb (first text) 48 ≡ false = ap (λ c. eqb c 48) (first_of s rest some) ∙ other in
    let suffix : is_f (get_or text (digits_len text) 0) ≡ false = ap is_f behind ∙ ends_run is_f rest refl refl end in
    shared.number_plain text point exp nonzero suffix ∙ ap (λ k. (kind.Integer, k)) size
digits_number s rest all some (inr zero_byte) end =
    let P : List ℕ → Type 0 = λ t. number (t ++ rest) ≡ (kind.Integer, length t) in
    subst P (sym zero_byte) (zero_alone rest end)

first_digit : (n : ℕ) → n < 2 ^ 64 → (eqb (get_or (decimal n) 0 0) 48 ≡ false) ⊎ (decimal n ≡ 48 ∷ [])
first_digit zero h = inr (decimal_digit 0 (omega arith))
first_digit (suc n) h = let big = first_decimal (suc n) (omega arith) h in inl (above 48 (get_or (decimal (suc n)) 0 0) big) where
  above : (k c : ℕ) → k < c → eqb c k ≡ false
  above k c h = grind (arith, nat_tests)

pub int_lexes : (at n : ℕ) (rest : List ℕ) → n < 2 ^ 64 → AtEnd rest → LexesAs at (decimal n ++ rest) (length (decimal n)) (Int n)
int_lexes at n rest h end =
    let s = decimal n in
    let text = s ++ rest in
    let m = length s in
    let some = decimal_nonempty n h in
    let all = decimal_passes n h in
    let begin = first_digit n h in
    let size = run_to is_ascii_digit s rest all refl (ends_run is_ascii_digit rest refl refl end) in
    let digit = first_passes is_ascii_digit text (omega arith) in
    let found : scan text ≡ Some (kind.Integer, m) = shared.scan_digit text digit ∙ ap Some (digits_number s rest all some begin end) in
    let is = by_scan at text kind.Integer m found in
    let word = front_is s rest in
    let prefix = no_prefix s begin in
    let value : integer_value s ≡ n = rw prefix (decimal_is_IsNumeral n h).1 in
    let fits : value_fits s ≡ true = ap (λ v. ltb v (2 ^ 64)) value ∙ lt-ltb n (2 ^ 64) h in
    let letter : is_letter (get_or text m 0) ≡ false = ap is_letter (at_rest s rest) ∙ ends_run is_letter rest refl refl end in
    let space : space_faults at text m ≡ [] = rw (and_false (not (prefix_of (take m text) == 0 && get_or text 0 0 == 48)) (is_letter (get_or text m 0)) letter) refl in
    let range : range_faults at (take m text) ≡ [] = ap (range_faults at) word ∙ rw fits refl in
    let shape : (lexeme kind.Integer at text m).shape ≡ Int n =
    ap (λ w. Int (if value_fits w then integer_value w else 0)) word ∙ rw fits (ap Int value) in
    record {
      stop = ap (λ l. l.stop) is;
      shape = ap (λ l. l.shape) is ∙ shape;
      faults = ap (λ l. l.faults) is ∙ ap (λ fs. fs ++ range_faults at (take m text)) space ∙ range;
      some = omega (arith, length-append s rest);
      ink = digit_not_blank (get_or text 0 0) digit;
    }

-- ---- floats

-- the bytes of numbers
abbrev is_numeric : ℕ → Bool
is_numeric b = is_ascii_hexdigit b || (b == 46 || (is_sign b || is_x b))

digit_numeric : In is_numeric is_ascii_digit
digit_numeric b h = grind (arith, nat_tests)

octal_numeric : In is_numeric is_octal
octal_numeric b h = grind (arith, nat_tests)

nonzero_numeric : In is_numeric is_nonzero
nonzero_numeric b h = grind (arith, nat_tests)

hex_numeric : In is_numeric is_ascii_hexdigit
hex_numeric b h = rw h refl

e_numeric : In is_numeric is_e
e_numeric b h = grind (arith, nat_tests)

sign_numeric : In is_numeric is_sign
sign_numeric b h = grind (arith, nat_tests)

f_numeric : In is_numeric is_f
f_numeric b h = grind (arith, nat_tests)

x_numeric : In is_numeric is_x
x_numeric b h = grind (arith, nat_tests)

zero_numeric : In is_numeric (λ b. b == 48)
zero_numeric b h = ap is_numeric (eqb-true b 48 h)

point_numeric : In is_numeric (λ b. b == 46)
point_numeric b h = ap is_numeric (eqb-true b 46 h)

abbrev ending_numeric : OnlyIn is_numeric (maybe (one is_e ⋅ maybe (one is_sign) ⋅ (one is_ascii_digit ⋅ many is_ascii_digit)) ⋅ maybe (one is_f))
ending_numeric = ((e_numeric, (sign_numeric, (digit_numeric, digit_numeric))), f_numeric)

integer_numeric : OnlyIn is_numeric (pattern kind.Integer)
integer_numeric = (zero_numeric, ((zero_numeric, (octal_numeric, octal_numeric)), ((nonzero_numeric, digit_numeric), (zero_numeric, (x_numeric, (hex_numeric, hex_numeric))))))

float_numeric : OnlyIn is_numeric (pattern kind.Float)
float_numeric = (
  (zero_numeric, f_numeric),
  (
    (nonzero_numeric, (digit_numeric, f_numeric)),
    (
      ((digit_numeric, digit_numeric), (point_numeric, (digit_numeric, ending_numeric))),
      (((digit_numeric, digit_numeric), ((e_numeric, (sign_numeric, (digit_numeric, digit_numeric))), f_numeric)), (point_numeric, ((digit_numeric, digit_numeric), ending_numeric))),
    ),
  ),
)

-- the kinds of numbers
abbrev IsNumber : Kind → Type 0
IsNumber k = (k ≡ kind.Integer) ⊎ (k ≡ kind.Float)

number_bound : (k : Kind) (text : List ℕ) (n : ℕ) → IsNumber k → Fits (pattern k) text n → n ≤ prefix_len is_numeric text
number_bound k text n (inl e) f = let P : Kind → Type 0 = λ l. Fits (pattern l) text n in only_bound is_numeric (pattern kind.Integer) text n integer_numeric (subst P e f)
number_bound k text n (inr e) f = let P : Kind → Type 0 = λ l. Fits (pattern l) text n in only_bound is_numeric (pattern kind.Float) text n float_numeric (subst P e f)

zero_kind : (text : List ℕ) → IsNumber (zero_number text).0
unfolding zero_number
zero_kind text = elim (cases_Bool (is_x (get_or text 1 0) && is_ascii_hexdigit (get_or text 2 0))) [
  | inl x ↦ rw x (inl refl)
  | inr x ↦ elim (cases_Bool (is_f (get_or text 1 0))) [ inl f ↦ rw (x, f) (inr refl) | inr f ↦ rw (x, f) (inl refl) ]
]

number_kind : (text : List ℕ) → IsNumber (number text).0
number_kind text =
    let P : Kind × ℕ → Type 0 = λ p. IsNumber p.0 in
    elim (shared.number_case text) [
      | shared.at_point p e ↦ subst P (sym e) (inr refl)
      | shared.at_exponent o x e ↦ subst P (sym e) (inr refl)
      | shared.at_zero o x z e ↦ subst P (sym e) (zero_kind text)
      | shared.at_suffix o z f e ↦ subst P (sym e) (inr refl)
      | shared.at_plain o x z f e ↦ subst P (sym e) (inl refl)
    ]

-- If a float fits, the scan finds a number.
number_found : (text : List ℕ) (n : ℕ) → Fits (pattern kind.Float) text n → (p : Kind × ℕ) × (scan text ≡ Some p) × IsNumber p.0
number_found text n f = elim (shared.float_bound text n f) [
  | inl h ↦ (number text, shared.scan_digit text h.0, number_kind text)
  | inr h ↦ ((kind.Float, 1 + fraction_len (drop 1 text)), shared.scan_fraction text h.0 h.1, inr refl)
]

numeric_not_blank : (b : ℕ) → is_numeric b ≡ true → is_blank b ≡ false
numeric_not_blank b h = grind (arith, nat_tests)

-- A word of floats at the end of the text is the longest match.
float_found : (s rest : List ℕ) → IsWordOf (pattern kind.Float) s → AtEnd rest → scan (s ++ rest) ≡ Some (kind.Float, length s)
float_found s rest word end =
    let text = s ++ rest in
    let fits = word_fits (pattern kind.Float) s rest word in
    let alone : Fits (pattern kind.Float) (s ++ []) (length s) = word_fits (pattern kind.Float) s [] word in
    let P : List ℕ → Type 0 = λ t. Fits (pattern kind.Float) t (length s) in
    let inside = only_bound is_numeric (pattern kind.Float) s (length s) float_numeric (subst P (append-nil s) alone) in
    let within = prefix_len-le-length is_numeric s in
    let all : AllPass is_numeric s = omega arith in
    let size = run_to is_numeric s rest all refl (ends_run is_numeric rest refl refl end) in
    let (p, e, numeric) = number_found text (length s) fits in
    let Q : Option (Kind × ℕ) → Type 0 = λ r. MatchOption r ((k : Kind) (m : ℕ) → Fits (pattern k) text m → ⊥) (λ q. IsLongest pattern q.0 text q.1) in
    let longest : IsLongest pattern p.0 text p.1 = subst Q e (shared.scan_longest text) in
    let low = longest.longest kind.Float (length s) fits in
    let high = number_bound p.0 text p.1 numeric longest.fits in
    let same : p.1 ≡ length s = omega arith in
    let R : ℕ → Type 0 = λ k. Fits (pattern p.0) text k in
    let kinds = one_kind p.0 kind.Float text (length s) (subst R same longest.fits) fits in
    e ∙ ap (λ k. Some (p.0, k)) same ∙ ap (λ k. Some (k, length s)) kinds

pub float_lexes : (at : ℕ) (s rest : List ℕ) → IsWordOf (pattern kind.Float) s → has_suffix s ≡ false → is_whole s ≡ false → AtEnd rest → LexesAs at (s ++ rest) (length s) (Float s)
float_lexes at s rest word suffix whole end =
    let text = s ++ rest in
    let m = length s in
    let found = float_found s rest word end in
    let is = by_scan at text kind.Float m found in
    let same = front_is s rest in
    let text_is : float_text s ≡ s = rw whole (rw suffix refl) in
    let fits = word_fits (pattern kind.Float) s rest word in
    let ink = only_bound is_numeric (pattern kind.Float) text m float_numeric fits in
    let some = fits_some kind.Float text m fits in
    record {
      stop = ap (λ l. l.stop) is;
      shape = ap (λ l. l.shape) is ∙ ap (λ w. Float (float_text w)) same ∙ ap Float text_is;
      faults = ap (λ l. l.faults) is ∙ ap (suffix_faults at) same ∙ rw suffix refl;
      some = omega (arith, length-append s rest);
      ink = numeric_not_blank (get_or text 0 0) (first_passes is_numeric text (omega arith));
    }

-- ---- words

-- A word whose bytes all are of one kind.
pub word_passes : (q : ℕ → Bool) (p : Pattern) (word : List ℕ) → OnlyIn q p → IsWordOf p word → AllPass q word
word_passes q p word only w =
    let P : List ℕ → Type 0 = λ t. Fits p t (length word) in
    let inside = only_bound q p word (length word) only (subst P (append-nil word) (word_fits p word [] w)) in
    let within = prefix_len-le-length q word in
    omega arith

pub digits_word : (u : List ℕ) → IsWordOf digits u → AllPass is_ascii_digit u
digits_word u w = word_passes is_ascii_digit digits u (λ b h. h, λ b h. h) w
