-- An option's string value prints in double quotes, and lexes back to the same string.
use Rattle.std.proofs.Common.{◌≡◌, ℕ, suc, ◌+◌, ◌*◌, ◌/◌, ◌%◌, ◌<◌, Bool, true, false, eqb, leb, inl, inr, List, [], ◌∷◌, ◌++◌, length, refl, sym, subst, arith}
use Rattle.std.proofs.lemmas.Bool.{cases_Bool, eqb-true, le-leb}
use Rattle.std.proofs.lemmas.Bool.Decides.{nat_tests}
use Rattle.std.proofs.lemmas.Str.{digit_value-digit_char}
use Rattle.std.specs.Prelude.{min}
use Rattle.std.specs.Char.{digit_char, digit_value}
use Rattle.std.specs.Int.{is_in_range}
use Rattle.std.specs.List.{prefix_len}
use Rattle.protox_descriptor.specs.Literal.{octal, printed_byte}
use Rattle.protox_descriptor.specs.Printed.{value_text}
use Rattle.protox_descriptor.specs.Printed as printed
use Rattle.protox_ast.specs.Values.{token_string}
use Rattle.protox_ast.specs.declared.ast.OptionValue.TheVariants as value
use Rattle.protox_ast.specs.declared.ast.String.{String}
use Rattle.protox_lex.specs.LexesBack.{AreBytes}
use Rattle.protox_lex.proofs.Lemmas.{Spells, SpellsByte, double_piece, newline_piece, plain_byte}
use Rattle.protox_lex.proofs.Lemmas.{return_piece, single_piece, slash_piece, spelled_alone}
use Rattle.protox_lex.proofs.Lemmas.{tab_piece}
use Rattle.protox_lexeme.specs.Lexemes.{cut}
use Rattle.protox_lexeme.specs.Lexicon.{is_octal, is_x}
use Rattle.protox_lexeme.specs.Shapes.{Str}
use Rattle.protox_lexeme.specs.Strings as spec
use Rattle.protox_lexeme.proofs.Lemmas.{run_more}

octal_digit : (d : ℕ) → d < 8 → is_octal (digit_char d) ≡ true
octal_digit d h = grind (arith, nat_tests)

not_x : (c : ℕ) → is_octal c ≡ true → is_x c ≡ false
not_x c h = grind (arith, nat_tests)

not_letter : (c k : ℕ) → is_octal c ≡ true → 55 < k → eqb c k ≡ false
not_letter c k h far = grind (arith, nat_tests)

-- three octal digits
octal_piece : (b h m l : ℕ) (rest : List ℕ) → is_octal h ≡ true → is_octal m ≡ true → is_octal l ≡ true
    → ((0 * 8 + digit_value h) * 8 + digit_value m) * 8 + digit_value l ≡ b → b < 256
    → spec.piece 34 (92 ∷ (h ∷ (m ∷ (l ∷ rest)))) ≡ spec.adds (b ∷ []) 4
unfolding spec.piece spec.escape spec.octal_escape
octal_piece b h m l rest first second third value small =
    let text = 92 ∷ (h ∷ (m ∷ (l ∷ rest))) in
    let one = run_more is_octal h (m ∷ (l ∷ rest)) first in
    let two = run_more is_octal m (l ∷ rest) second in
    let three = run_more is_octal l rest third in
    let digits : spec.octal_len text ≡ suc (suc (suc (prefix_len is_octal rest))) = omega arith in
    let most : min 3 (spec.octal_len text) ≡ 3 = omega arith in
    let fits : leb b 255 ≡ true = le-leb b 255 (omega arith) in
    let x = not_x h first in
    let small_u = not_letter h 117 first (omega arith) in
    let large_u = not_letter h 85 first (omega arith) in
    rw (x, small_u, large_u, most, first) (rw (value, fits) refl)

byte_octal : (b : ℕ) → b < 256 → (rest : List ℕ) → spec.piece 34 ((92 ∷ octal b) ++ rest) ≡ spec.adds (b ∷ []) 4
byte_octal b small rest =
    let high : b / 64 < 8 = omega arith in
    let middle : b / 8 % 8 < 8 = omega arith in
    let low : b % 8 < 8 = omega arith in
    let u = digit_value-digit_char (b / 64) (omega arith) in
    let v = digit_value-digit_char (b / 8 % 8) (omega arith) in
    let w = digit_value-digit_char (b % 8) (omega arith) in
    let value : ((0 * 8 + digit_value (digit_char (b / 64))) * 8 + digit_value (digit_char (b / 8 % 8))) * 8 + digit_value (digit_char (b % 8)) ≡ b = omega arith in
    octal_piece b (digit_char (b / 64)) (digit_char (b / 8 % 8)) (digit_char (b % 8)) rest (octal_digit (b / 64) high) (octal_digit (b / 8 % 8) middle) (octal_digit (b % 8) low) value small

pub value_spells : Spells printed_byte
value_spells b small =
    let P : ℕ → Type 0 = λ k. SpellsByte (printed_byte k) k in
    elim (cases_Bool (eqb b 9)) [
      | inl e ↦ subst P (sym (eqb-true b 9 e)) (inr (omega arith, λ rest. tab_piece rest))
      | inr t ↦ elim (cases_Bool (eqb b 13)) [
        | inl e ↦ subst P (sym (eqb-true b 13 e)) (inr (omega arith, λ rest. return_piece rest))
        | inr r ↦ elim (cases_Bool (eqb b 10)) [
          | inl e ↦ subst P (sym (eqb-true b 10 e)) (inr (omega arith, λ rest. newline_piece rest))
          | inr n ↦ elim (cases_Bool (eqb b 92)) [
            | inl e ↦ subst P (sym (eqb-true b 92 e)) (inr (omega arith, λ rest. slash_piece rest))
            | inr s ↦ elim (cases_Bool (eqb b 39)) [
              | inl e ↦ subst P (sym (eqb-true b 39 e)) (inr (omega arith, λ rest. single_piece rest))
              | inr q ↦ elim (cases_Bool (eqb b 34)) [
                | inl e ↦ subst P (sym (eqb-true b 34 e)) (inr (omega arith, λ rest. double_piece rest))
                | inr d ↦ elim (cases_Bool (is_in_range 32 126 b)) [
                  | inl e ↦
                      let same : printed_byte b ≡ b ∷ [] = rw (t, r, n, s, q, d, e) refl in
                      let Q : List ℕ → Type 0 = λ x. SpellsByte x b in
                      subst Q (sym same) (inl (refl, plain_byte b e q d s))
                  | inr e ↦
                      let same : printed_byte b ≡ 92 ∷ octal b = rw (t, r, n, s, q, d, e) refl in
                      let Q : List ℕ → Type 0 = λ x. SpellsByte x b in
                      subst Q (sym same) (inr (omega arith, λ rest. byte_octal b small rest))
                ]
              ]
            ]
          ]
        ]
      ]
    ]

pub value_alone : (string : String) → AreBytes string.value
    → (borrowed : Bool)
    × (cut 0 (token_string (value.String string))
    ≡ record { start = 0; stop = length (token_string (value.String string)); shape = Str string.value; borrowed = borrowed; faults = [] } ∷ [])
value_alone string h = spelled_alone printed_byte value_spells string.value h

pub option_alone : (bytes : List ℕ) → AreBytes bytes
    → (borrowed : Bool)
    × (cut 0 (value_text (printed.String bytes))
    ≡ record { start = 0; stop = length (value_text (printed.String bytes)); shape = Str bytes; borrowed = borrowed; faults = [] } ∷ [])
option_alone bytes h = spelled_alone printed_byte value_spells bytes h
