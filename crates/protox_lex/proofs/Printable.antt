-- The printed tokens of a source lex to the same tokens.
use Rattle.std.proofs.Common.{◌≡◌, ℕ, zero, suc, ◌+◌, ◌-◌, ◌/◌, ◌%◌, ◌^◌, ◌<◌, Bool, true, false, ◌||◌, ◌==◌, eqb, ltb, leb, ◌⊎◌, inl, inr, List, [], ◌∷◌, ◌++◌, length, take, drop, get_or, refl, sym, ap, ◌∙◌, subst, append_assoc, append-nil, length-append, lt-ltb, eq-eqb, arith, Option, Some, None}
use Rattle.std.proofs.lemmas.Bool.{cases_Bool, true≢false, eqb-true, ltb-true, leb-true, and_parts}
use Rattle.std.proofs.lemmas.Bool.Decides.{nat_tests}
use Rattle.std.proofs.lemmas.List.Sums.{prefix_len_passes}
use Rattle.std.proofs.Math.Utf8.{encode, scalar, scalars, scalar_cases}
use Rattle.std.specs.Prelude.{if◌then◌else◌, nat_lt, min, encode_utf8_all}
use Rattle.std.specs.Str.{IsUtf8}
use Rattle.std.specs.Str.Parse.{digits_value}
use Rattle.std.specs.List.{prefix_len, list_all, All}
use Rattle.std.specs.Char.{is_ascii_digit}
use Rattle.protox_lexeme.specs.declared.scan.Kind.{Kind}
use Rattle.protox_lexeme.specs.declared.scan.Kind.TheVariants as kind
use Rattle.protox_fault.specs.Faults.{Span}
use Rattle.protox_lex.specs.LexesBack.{AreBytes, IsPrintable}
use Rattle.protox_lexeme.specs.Lexemes.{Lexeme, IsLexeme, IsCut, lexeme, blanks, cut, integer_value, value_fits, has_suffix, body_of, is_whole, float_text}
use Rattle.protox_lexeme.specs.Lexicon.{pattern, is_octal, is_nonzero, is_e, is_sign, is_f, is_x, is_quote, is_mark, byte, digits, any_digits, exponent, suffix}
use Rattle.protox_lexeme.specs.Pattern.{◌⋅◌, maybe, Fits}
use Rattle.protox_lexeme.specs.Shapes.{Shape, Float, Invalid, Row}
use Rattle.protox_lexeme.specs.Strings as spec
use Rattle.protox_lexeme.specs.Table.{is_gap, rows_of}
use Rattle.protox_lex.specs.Words.{IsWordOf}
use Rattle.protox_lexeme.proofs.Lemmas.{AllPass, Every, In, OnlyIn, all_every, cut_is_cut}
use Rattle.protox_lexeme.proofs.Lemmas.{first_passes, head_passes, rest_passes}
use Rattle.protox_lex.proofs.LexesBack.{front_is, at_rest}
use Rattle.protox_lex.proofs.NumbersBack.{digits_word, word_passes}
use Rattle.protox_lex.proofs.WordsOf.{fits_word}

-- ---- bytes

bytes_drop : (n : ℕ) (s : List ℕ) → AreBytes s → AreBytes (drop n s)
bytes_drop zero s h = h
bytes_drop (suc n) [] h = h
bytes_drop (suc n) (b ∷ s) h = bytes_drop n s (and_parts (nat_lt b 256) (list_all (λ x. nat_lt x 256) s) h).1

bytes_take : (n : ℕ) (s : List ℕ) → AreBytes s → AreBytes (take n s)
bytes_take zero s h = refl
bytes_take (suc n) [] h = refl
bytes_take (suc n) (b ∷ s) h = let (here, more) = and_parts (nat_lt b 256) (list_all (λ x. nat_lt x 256) s) h in rw (here, bytes_take n s more) refl

bytes_more : (xs ys : List ℕ) → AreBytes xs → AreBytes ys → AreBytes (xs ++ ys)
bytes_more [] ys h k = k
bytes_more (b ∷ xs) ys h k = let (here, more) = and_parts (nat_lt b 256) (list_all (λ x. nat_lt x 256) xs) h in rw (here, bytes_more xs ys more k) refl

one_byte : (b : ℕ) → b < 256 → AreBytes (b ∷ [])
one_byte b h = rw (lt-ltb b 256 h) refl

then_byte : (b : ℕ) (s : List ℕ) → b < 256 → AreBytes s → AreBytes (b ∷ s)
then_byte b s h k = rw (lt-ltb b 256 h, k) refl

two_bytes : (a b : ℕ) → a < 256 → b < 256 → AreBytes (a ∷ (b ∷ []))
two_bytes a b h k = then_byte a (b ∷ []) h (one_byte b k)

three_bytes : (a b c : ℕ) → a < 256 → b < 256 → c < 256 → AreBytes (a ∷ (b ∷ (c ∷ [])))
three_bytes a b c h k l = then_byte a (b ∷ (c ∷ [])) h (two_bytes b c k l)

four_bytes : (a b c d : ℕ) → a < 256 → b < 256 → c < 256 → d < 256 → AreBytes (a ∷ (b ∷ (c ∷ (d ∷ []))))
four_bytes a b c d h k l m = then_byte a (b ∷ (c ∷ (d ∷ []))) h (three_bytes b c d k l m)

encode_bytes : (c : ℕ) → c < 0x11_0000 → AreBytes (encode c)
unfolding encode
encode_bytes c h = elim (cases_Bool (ltb c 128)) [
  | inl e ↦ let low = ltb-true c 128 e in rw e (one_byte c (omega arith))
  | inr f ↦ elim (cases_Bool (ltb c 2048)) [
    | inl e ↦ let low = ltb-true c 2048 e in rw (f, e) (two_bytes (192 + c / 64) (128 + c % 64) (omega arith) (omega arith))
    | inr g ↦ elim (cases_Bool (ltb c 65536)) [
      | inl e ↦
          let low = ltb-true c 65536 e in
          rw (f, g, e) (three_bytes (224 + c / 4096) (128 + c / 64 % 64) (128 + c % 64) (omega arith) (omega arith) (omega arith))
      | inr k ↦
          rw (f, g, k) (four_bytes (240 + c / 262144) (128 + c / 4096 % 64) (128 + c / 64 % 64) (128 + c % 64) (omega arith) (omega arith) (omega arith) (omega arith))
    ]
  ]
]

-- ---- strings

byte_added : (v n : ℕ) → AreBytes (spec.added (spec.byte_piece v n))
byte_added v n = elim (cases_Bool (leb v 255)) [ inl e ↦ let low = leb-true v 255 e in rw e (one_byte v (omega arith)) | inr e ↦ rw e refl ]

scalar_low : (c : ℕ) → spec.is_scalar c ≡ true → c < 0x11_0000
scalar_low c h = grind (arith, nat_tests)

unicode_low : (c : ℕ) → scalar c ≡ true → c < 0x11_0000
unicode_low c h = elim (scalar_cases c h) [ inl low ↦ omega arith | inr high ↦ omega arith ]

char_added : (v n : ℕ) → AreBytes (spec.added (spec.char_piece v n))
char_added v n = elim (cases_Bool (spec.is_scalar v)) [ inl e ↦ rw e (encode_bytes v (scalar_low v e)) | inr e ↦ rw e refl ]

-- texts are bytes
encodes_bytes : (cs : List ℕ) → scalars cs ≡ true → AreBytes (encode_utf8_all cs)
encodes_bytes [] h = refl
encodes_bytes (c ∷ cs) h =
    let (here, more) = and_parts (scalar c) (scalars cs) h in
    bytes_more (encode c) (encode_utf8_all cs) (encode_bytes c (unicode_low c here)) (encodes_bytes cs more)

pub utf8_bytes : (text : List ℕ) → IsUtf8 text → AreBytes text
utf8_bytes text (cs, is) = subst AreBytes is.1 (encodes_bytes cs is.0)

abbrev Small : Option ℕ → Type 0
Small None = Unit {0}
Small (Some b) = b < 256

small_if : (t : Bool) (b : ℕ) (r : Option ℕ) → b < 256 → Small r → Small (if t then Some b else r)
small_if true b r h k = h
small_if false b r h k = k

simple_small : (c : ℕ) → Small (spec.simple_escape c)
simple_small c =
    small_if (c == 97) 7 _ (omega arith) (small_if (c == 98) 8 _ (omega arith) (small_if (c == 102) 12 _ (omega arith) (small_if (c == 110) 10 _ (omega arith) (small_if (c == 114) 13 _ (omega arith)
    (small_if (c == 116) 9 _ (omega arith) (small_if (c == 118) 11 _ (omega arith) (small_if (c == 63) 63 _ (omega arith) (small_if (c == 92) 92 _ (omega arith)
    (small_if (c == 39) 39 _ (omega arith) (small_if (c == 34) 34 None (omega arith) tt))))))))))

simple_added : (r : Option ℕ) → Small r → AreBytes (spec.added (spec.simple_piece r))
simple_added None h = refl
simple_added (Some b) h = one_byte b h

escape_added : (text : List ℕ) → AreBytes (spec.added (spec.escape text))
unfolding spec.escape spec.hex_escape spec.octal_escape spec.char_escape
escape_added text =
    let c = get_or text 1 0 in
    elim (cases_Bool (is_x c)) [
      | inl x ↦ elim (cases_Bool (ltb 0 (spec.hex_len text))) [ inl e ↦ rw (x, e) (byte_added (digits_value 16 (take (min 2 (spec.hex_len text)) (drop 2 text))) (2 + min 2 (spec.hex_len text))) | inr e ↦ rw (x, e) refl ]
      | inr x ↦ elim (cases_Bool (eqb c 117)) [
        | inl u ↦ elim (cases_Bool (leb 4 (spec.hex_len text))) [ inl e ↦ rw (x, u, e) (char_added (digits_value 16 (take 4 (drop 2 text))) 6) | inr e ↦ rw (x, u, e) refl ]
        | inr u ↦ elim (cases_Bool (eqb c 85)) [
          | inl v ↦ elim (cases_Bool (leb 8 (spec.hex_len text))) [ inl e ↦ rw (x, u, v, e) (char_added (digits_value 16 (take 8 (drop 2 text))) 10) | inr e ↦ rw (x, u, v, e) refl ]
          | inr v ↦ elim (cases_Bool (is_octal c)) [ inl o ↦ rw (x, u, v, o) (byte_added (digits_value 8 (take (min 3 (spec.octal_len text)) (drop 1 text))) (1 + min 3 (spec.octal_len text))) | inr o ↦ rw (x, u, v, o) (simple_added (spec.simple_escape c) (simple_small c)) ]
        ]
      ]
    ]

quote_low : (b : ℕ) → is_quote b ≡ true → b < 256
quote_low b h = grind (arith, nat_tests)

piece_added : (quote : ℕ) (text : List ℕ) → AreBytes text → AreBytes (spec.added (spec.piece quote text))
unfolding spec.piece
piece_added quote text h =
    let b = get_or text 0 0 in
    elim (cases_Bool (spec.is_plain b)) [
      | inl e ↦ rw e (bytes_take (prefix_len spec.is_plain text) text h)
      | inr p ↦ elim (cases_Bool (eqb b quote)) [
        | inl e ↦ rw (p, e) refl
        | inr q ↦ elim (cases_Bool (is_quote b)) [
          | inl e ↦ rw (p, q, e) (one_byte b (quote_low b e))
          | inr o ↦ elim (cases_Bool (eqb b 10)) [
            | inl e ↦ rw (p, q, o, e) refl
            | inr n ↦ elim (cases_Bool (eqb b 92)) [ inl e ↦ rw (p, q, o, n, e) (escape_added text) | inr w ↦ rw (p, q, o, n, w) refl ]
          ]
        ]
      ]
    ]

pieces_added : (count quote : ℕ) (text : List ℕ) → AreBytes text → AreBytes (spec.value_of (spec.pieces_from count quote text))
unfolding spec.pieces_from
pieces_added zero quote text h = refl
pieces_added (suc count) quote [] h = refl
pieces_added (suc count) quote (b ∷ text) h =
    let all = b ∷ text in
    let p = spec.piece quote all in
    let here = piece_added quote all h in
    let rest = pieces_added count quote (drop (spec.piece_len p) all) (bytes_drop (spec.piece_len p) all h) in
    elim (cases_Bool (spec.is_last p)) [
      | inl e ↦ rw e (bytes_more (spec.added p) [] here refl)
      | inr e ↦ rw e (bytes_more (spec.added p) (spec.value_of (spec.pieces_from count quote (drop (spec.piece_len p) all))) here rest)
    ]

string_bytes : (quote : ℕ) (text : List ℕ) → AreBytes text → AreBytes (spec.value_of (spec.pieces quote text))
unfolding spec.pieces
string_bytes quote text h = pieces_added (length text) quote text h

-- ---- floats

-- The bytes of a float, without its suffix.
abbrev is_core : ℕ → Bool
is_core b = is_ascii_digit b || (b == 46 || (is_e b || is_sign b))

core_not_f : (b : ℕ) → is_core b ≡ true → is_f b ≡ false
core_not_f b h = grind (arith, nat_tests)

digit_core : In is_core is_ascii_digit
digit_core b h = rw h refl

e_core : In is_core is_e
e_core b h = grind (arith, nat_tests)

sign_core : In is_core is_sign
sign_core b h = grind (arith, nat_tests)

point_core : In is_core (λ b. b == 46)
point_core b h = ap is_core (eqb-true b 46 h)

-- A word of floats: digits and a suffix, or a float with a point or an exponent, with or without a
-- suffix.
record Core (u : List ℕ) : Type 0 where
  some : 0 < length u
  core : AllPass is_core u
  word : IsWordOf (pattern kind.Float) u
  part : AllPass is_ascii_digit u → ⊥

abbrev Kinds : List ℕ → Type 0
Kinds w =
    ((u : List ℕ) × (f : ℕ) × (w ≡ u ++ f ∷ []) × (is_f f ≡ true) × IsWordOf digits u)
    ⊎ ((u : List ℕ) × (v : List ℕ) × (w ≡ u ++ v) × IsWordOf suffix v × Core u)

nonempty_front : (p : ℕ → Bool) (x y : List ℕ) → IsWordOf digits x → 0 < length (x ++ y)
nonempty_front p x y (a, rest, e, (b, passes, is_b), run) = let size = ap length (e ∙ ap (λ t. t ++ rest) is_b) in omega (arith, length-append x y)

-- a byte that is no digit
not_all : (x : List ℕ) (b : ℕ) (y : List ℕ) → is_ascii_digit b ≡ false → AllPass is_ascii_digit (x ++ b ∷ y) → ⊥
not_all x b y other all = true≢false (sym (head_passes is_ascii_digit b y (rest_passes is_ascii_digit x (b ∷ y) all)).0 ∙ other)

e_not_digit : (b : ℕ) → is_e b ≡ true → is_ascii_digit b ≡ false
e_not_digit b h = grind (arith, nat_tests)

abbrev exponent_core : OnlyIn is_core exponent
exponent_core = (e_core, (sign_core, (digit_core, digit_core)))

nonzero_is_digit : (b : ℕ) → is_nonzero b ≡ true → is_ascii_digit b ≡ true
nonzero_is_digit b h = grind (arith, nat_tests)

kinds_of : (w : List ℕ) → IsWordOf (pattern kind.Float) w → Kinds w
kinds_of w (inl (x, y, e, (b, zero_byte, is_b), (f, is_f_byte, is_y))) =
    let digit : is_ascii_digit b ≡ true = ap is_ascii_digit (eqb-true b 48 zero_byte) in
    inl (x, f, e ∙ ap (λ t. x ++ t) is_y, is_f_byte, (x, [], sym (append-nil x), (b, digit, is_b), refl))
kinds_of w (inr (inl (x, yz, e, (b, nonzero, is_b), (y, z, g, run, (f, is_f_byte, is_z))))) =
    let whole : w ≡ (x ++ y) ++ f ∷ [] = e ∙ ap (λ t. x ++ t) (g ∙ ap (λ t. y ++ t) is_z) ∙ sym (append_assoc x y (f ∷ [])) in
    inl (x ++ y, f, whole, is_f_byte, (x, y, refl, (b, nonzero_is_digit b nonzero, is_b), run))
kinds_of w (inr (inr (inl (x, t1, e1, d, (y, t2, e2, (b, point, is_b), (z, t3, e3, run, (k, v, e4, exp, end))))))) =
    let u = x ++ (y ++ (z ++ k)) in
    let join : w ≡ u ++ v = e1 ∙ ap (λ t. x ++ t) (e2 ∙ ap (λ t. y ++ t) (e3 ∙ ap (λ t. z ++ t) e4)) ∙ simp append_assoc in
    let word : IsWordOf (pattern kind.Float) u = inr (inr (inl (x, y ++ (z ++ k), refl, d, (y, z ++ k, refl, (b, point, is_b), (z, k, refl, run, (k, [], sym (append-nil k), exp, inl refl)))))) in
    let c : IsWordOf (digits ⋅ byte 46 ⋅ any_digits ⋅ maybe exponent) u = (x, y ++ (z ++ k), refl, d, (y, z ++ k, refl, (b, point, is_b), (z, k, refl, run, exp))) in
    let core = word_passes is_core (digits ⋅ byte 46 ⋅ any_digits ⋅ maybe exponent) u ((digit_core, digit_core), (point_core, (digit_core, exponent_core))) c in
    let dot : u ≡ x ++ 46 ∷ (z ++ k) = ap (λ t. x ++ (t ++ (z ++ k))) (is_b ∙ ap (λ i. i ∷ []) (eqb-true b 46 point)) in
    let P : List ℕ → Type 0 = λ t. AllPass is_ascii_digit t → ⊥ in
    inr (u, v, join, end, record { some = nonempty_front is_ascii_digit x (y ++ (z ++ k)) d; core = core; word = word; part = subst P (sym dot) (not_all x 46 (z ++ k) refl) })
kinds_of w (inr (inr (inr (inl (x, t1, e1, d, (k, v, e2, exp, end)))))) =
    let (a, rest, g, (b, e_byte, is_b), more) = exp in
    let u = x ++ k in
    let join : w ≡ u ++ v = e1 ∙ ap (λ t. x ++ t) e2 ∙ sym (append_assoc x k v) in
    let word : IsWordOf (pattern kind.Float) u = inr (inr (inr (inl (x, k, refl, d, (k, [], sym (append-nil k), exp, inl refl))))) in
    let core = word_passes is_core (digits ⋅ exponent) u ((digit_core, digit_core), exponent_core) (x, k, refl, d, exp) in
    let letter : u ≡ x ++ b ∷ rest = ap (λ t. x ++ t) (g ∙ ap (λ t. t ++ rest) is_b) in
    let P : List ℕ → Type 0 = λ t. AllPass is_ascii_digit t → ⊥ in
    inr (u, v, join, end, record { some = nonempty_front is_ascii_digit x k d; core = core; word = word; part = subst P (sym letter) (not_all x b rest (e_not_digit b e_byte)) })
kinds_of w (inr (inr (inr (inr (x, t1, e1, (b, point, is_b), (y, t2, e2, d, (k, v, e3, exp, end))))))) =
    let u = x ++ (y ++ k) in
    let join : w ≡ u ++ v = e1 ∙ ap (λ t. x ++ t) (e2 ∙ ap (λ t. y ++ t) e3) ∙ simp append_assoc in
    let word : IsWordOf (pattern kind.Float) u = inr (inr (inr (inr (x, y ++ k, refl, (b, point, is_b), (y, k, refl, d, (k, [], sym (append-nil k), exp, inl refl)))))) in
    let core = word_passes is_core (byte 46 ⋅ digits ⋅ maybe exponent) u (point_core, ((digit_core, digit_core), exponent_core)) (x, y ++ k, refl, (b, point, is_b), (y, k, refl, d, exp)) in
    let dot : u ≡ [] ++ 46 ∷ (y ++ k) = ap (λ t. t ++ (y ++ k)) (is_b ∙ ap (λ i. i ∷ []) (eqb-true b 46 point)) in
    let P : List ℕ → Type 0 = λ t. AllPass is_ascii_digit t → ⊥ in
    let some : 0 < length u = let size = ap length dot in omega arith in
    inr (u, v, join, end, record { some = some; core = core; word = word; part = subst P (sym dot) (not_all [] 46 (y ++ k) refl) })

-- the last byte
last_is : (u : List ℕ) (f : ℕ) → get_or (u ++ f ∷ []) (length (u ++ f ∷ []) - 1) 0 ≡ f
last_is u f = let size : length (u ++ f ∷ []) - 1 ≡ length u = omega (arith, length-append u (f ∷ [])) in ap (λ k. get_or (u ++ f ∷ []) k 0) size ∙ at_rest u (f ∷ [])

core_no_suffix : (u : List ℕ) → 0 < length u → AllPass is_core u → has_suffix u ≡ false
core_no_suffix u some core = core_not_f (get_or u (length u - 1) 0) (prefix_len_passes is_core u (length u - 1) 0 (omega arith))

body_without : (u : List ℕ) → has_suffix u ≡ false → body_of u ≡ u
body_without u h = rw h refl

body_with : (u : List ℕ) (f : ℕ) → is_f f ≡ true → body_of (u ++ f ∷ []) ≡ u
body_with u f h =
    let ends : has_suffix (u ++ f ∷ []) ≡ true = ap is_f (last_is u f) ∙ h in
    let size : length (u ++ f ∷ []) - 1 ≡ length u = omega (arith, length-append u (f ∷ [])) in
    rw ends (ap (λ k. take k (u ++ f ∷ [])) size ∙ front_is u (f ∷ []))

part_of : (w u : List ℕ) → body_of w ≡ u → (AllPass is_ascii_digit u → ⊥) → is_whole w ≡ false
part_of w u body part = ap (λ t. eqb (prefix_len is_ascii_digit t) (length t)) body ∙ (elim (cases_Bool (eqb (prefix_len is_ascii_digit u) (length u))) [
  | inl e ↦ absurd (part (eqb-true (prefix_len is_ascii_digit u) (length u) e))
  | inr e ↦ e
])

core_prints : (w u : List ℕ) → body_of w ≡ u → Core u → IsPrintable (Float (float_text w))
core_prints w u body c =
    let whole = part_of w u body c.part in
    let text_is : float_text w ≡ u = rw whole body in
    let no_suffix = core_no_suffix u c.some c.core in
    let P : List ℕ → Type 0 = λ t. IsPrintable (Float t) in
    subst P (sym text_is) (c.word, no_suffix, part_of u u (body_without u no_suffix) c.part)

float_prints : (w : List ℕ) → IsWordOf (pattern kind.Float) w → IsPrintable (Float (float_text w))
float_prints w h = elim (kinds_of w h) [
  | inl k ↦
      let (u, f, e, is_suffix, d) = k in
      let body : body_of w ≡ u = ap body_of e ∙ body_with u f is_suffix in
      let all = digits_word u d in
      let whole : is_whole w ≡ true = ap (λ t. eqb (prefix_len is_ascii_digit t) (length t)) body ∙ eq-eqb (prefix_len is_ascii_digit u) (length u) all in
      let t = u ++ 46 ∷ (48 ∷ []) in
      let text_is : float_text w ≡ t = rw whole (ap (λ x. x ++ 46 ∷ (48 ∷ [])) body) in
      let P : List ℕ → Type 0 = λ x. IsPrintable (Float x) in
      let again : (u ++ 46 ∷ []) ++ 48 ∷ [] ≡ t = append_assoc u (46 ∷ []) (48 ∷ []) in
      let no_suffix : has_suffix t ≡ false = ap has_suffix (sym again) ∙ ap is_f (last_is (u ++ 46 ∷ []) 48) in
      let word : IsWordOf (pattern kind.Float) t = inr (inr (inl (u, 46 ∷ (48 ∷ []), refl, d, (46 ∷ [], 48 ∷ [], refl, (46, refl, refl), (48 ∷ [], [], refl, refl, ([], [], refl, inl refl, inl refl)))))) in
      subst P (sym text_is) (word, no_suffix, part_of t t (body_without t no_suffix) (not_all u 46 (48 ∷ []) refl))
  | inr k ↦
      let (u, v, e, end, c) = k in
      elim end [
        | inl none ↦ core_prints w u (ap body_of (e ∙ ap (λ t. u ++ t) none ∙ append-nil u) ∙ body_without u (core_no_suffix u c.some c.core)) c
        | inr s ↦ core_prints w u (ap body_of (e ∙ ap (λ t. u ++ t) s.2) ∙ body_with u s.0 s.1) c
      ]
]

-- ---- lexemes

int_small : (w : List ℕ) → (if value_fits w then integer_value w else 0) < 2 ^ 64
int_small w = elim (cases_Bool (value_fits w)) [ inl e ↦ rw e (ltb-true (integer_value w) (2 ^ 64) e) | inr e ↦ rw e (omega arith) ]

-- A comment, a newline, an invalid character, or a shape that comes back when it is printed and
-- lexed.
abbrev Prints : Shape → Type 0
Prints x = (is_gap x ≡ true) ⊎ ((x ≡ Invalid) ⊎ IsPrintable x)

kind_prints : (k : Kind) (at : ℕ) (text : List ℕ) (n : ℕ) → Fits (pattern k) text n → AreBytes text → Prints (lexeme k at text n).shape
kind_prints kind.Identifier at text n f h = inr (inr (fits_word (pattern kind.Identifier) text n f))
kind_prints kind.Integer at text n f h = inr (inr (int_small (take n text)))
kind_prints kind.Float at text n f h = inr (inr (float_prints (take n text) (fits_word (pattern kind.Float) text n f)))
kind_prints kind.String at text n f h = inr (inr (string_bytes (get_or text 0 0) (drop 1 text) (bytes_drop 1 text h)))
kind_prints kind.Mark at text n (is_one, f) h = inr (inr (first_passes is_mark text f))
kind_prints kind.LineComment at text n f h = inl refl
kind_prints kind.BlockComment at text n f h = inl refl
kind_prints kind.Newline at text n f h = inl refl

lexeme_prints : (at : ℕ) (text : List ℕ) (x : Lexeme) → IsLexeme at text x → AreBytes text → Prints x.shape
lexeme_prints at text x (inl (k, n, longest, same)) h = let P : Lexeme → Type 0 = λ l. Prints l.shape in subst P (sym same) (kind_prints k at text n longest.fits h)
lexeme_prints at text x (inr (none, same)) h = let P : Lexeme → Type 0 = λ l. Prints l.shape in subst P (sym same) (inr (inl refl))

cut_prints : (at : ℕ) (text : List ℕ) (xs : List Lexeme) → IsCut at text xs → AreBytes text → Every (λ l. Prints l.shape) xs
cut_prints at text [] c h = tt
cut_prints at text (x ∷ xs) (some, is, more) h =
    (lexeme_prints (at + blanks text) (drop (blanks text) text) x is (bytes_drop (blanks text) text h), cut_prints x.stop (drop (x.stop - at) text) xs more (bytes_drop (x.stop - at) text h))

abbrev RowPrints : Row Span → Type 0
RowPrints row = (row.shape ≡ Invalid) ⊎ IsPrintable row.shape

rows_print : (xs : List Lexeme) → Every (λ l. Prints l.shape) xs → Every RowPrints (rows_of xs)
rows_print [] h = tt
rows_print (x ∷ xs) (here, h) = elim (cases_Bool (is_gap x.shape)) [
  | inl gap ↦ rw gap (rows_print xs h)
  | inr row ↦ elim here [
    | inl gap ↦ absurd (true≢false (sym gap ∙ row))
    | inr prints ↦ rw row (prints, rows_print xs h)
  ]
]

pub printable_rows : (source : List ℕ) → AreBytes source → All RowPrints (rows_of (cut 0 source))
printable_rows source h = all_every RowPrints RowPrints (rows_of (cut 0 source)) (λ row p. p) (rows_print (cut 0 source) (cut_prints 0 source (cut 0 source) (cut_is_cut 0 source) h))
