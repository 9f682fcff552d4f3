-- What `pascal_case_from` makes of the bytes of one character.
--     pascal_mark        of `_`: nothing
--     pascal_letter      of any other: its bytes, or those of its capital
use Rattle.std.proofs.Common.{◌≡◌, ◌≢◌, ℕ, ◌<◌, ◌≤◌, ◌==◌, ◌⊎◌, inl, inr, List, [], ◌∷◌, ◌++◌, length, Bool, true, false, cond, nat_lt, refl, sym, ap, ◌∙◌, arith, append_assoc, if◌then◌else◌}
use Rattle.std.proofs.lemmas.Bool.{cases_lt}
use Rattle.std.proofs.lemmas.Bool.Decides.{nat_tests}
use Rattle.std.proofs.lemmas.Str.{encode_ascii, length-encode, len_utf8_bounds}
use Rattle.std.proofs.lemmas.Str.Ascii.{uppercase_ascii, uppercase_is}
use Rattle.std.proofs.Math.Utf8.{encode}
use Rattle.std.specs.Char.{to_ascii_uppercase}
use Rattle.protox_descriptor.specs.Case.{pascal_case_from}

-- each byte is above ASCII
abbrev High : List ℕ → Type 0
High [] = Unit {0}
High (byte ∷ rest) = (128 ≤ byte) × High rest

one_of : (w x y : Bool) (l p q r : List ℕ) → w ≡ false → High p → High q → High r → High (cond w l (cond x p (cond y q r)))
one_of true x y l p q r e hp hq hr = grind arith
one_of false true y l p q r e hp hq hr = hp
one_of false false true l p q r e hp hq hr = hq
one_of false false false l p q r e hp hq hr = hr

encode_high : (letter : ℕ) → 128 ≤ letter → High (encode letter)
unfolding encode
encode_high letter above =
    one_of (nat_lt letter 128) (nat_lt letter 2048) (nat_lt letter 65536) _ _ _ _ (grind (arith, nat_tests))
    (omega arith, (omega arith, tt)) (omega arith, (omega arith, (omega arith, tt))) (omega arith, (omega arith, (omega arith, (omega arith, tt))))

other_byte : (raised : Bool) (byte : ℕ) (rest : List ℕ) → byte ≢ 95
    → pascal_case_from raised (byte ∷ rest) ≡ (if raised then to_ascii_uppercase byte else byte) ∷ pascal_case_from false rest
other_byte raised byte rest differs =
    let e : (byte == 95) ≡ false = grind (arith, nat_tests) in rw e

high_byte : (raised : Bool) (byte : ℕ) (rest : List ℕ) → 128 ≤ byte → pascal_case_from raised (byte ∷ rest) ≡ byte ∷ pascal_case_from false rest
high_byte true byte rest above = other_byte true byte rest (λ e. omega arith) ∙ ap (λ b. b ∷ pascal_case_from false rest) ((uppercase_is byte).2 (omega arith))
high_byte false byte rest above = other_byte false byte rest (λ e. omega arith)

high_rest : (bytes rest : List ℕ) → High bytes → pascal_case_from false (bytes ++ rest) ≡ bytes ++ pascal_case_from false rest
high_rest [] rest high = refl
high_rest (byte ∷ bytes) rest high = high_byte false byte (bytes ++ rest) high.0 ∙ ap (λ bs. byte ∷ bs) (high_rest bytes rest high.1)

high_bytes : (raised : Bool) (bytes rest : List ℕ) → 0 < length bytes → High bytes → pascal_case_from raised (bytes ++ rest) ≡ bytes ++ pascal_case_from false rest
high_bytes raised [] rest some high = grind arith
high_bytes raised (byte ∷ bytes) rest some high = high_byte raised byte (bytes ++ rest) high.0 ∙ ap (λ bs. byte ∷ bs) (high_rest bytes rest high.1)

abbrev spelled : Bool → ℕ → ℕ
spelled raised letter = if raised then to_ascii_uppercase letter else letter

spelled_ascii : (raised : Bool) (letter : ℕ) → letter < 128 → spelled raised letter < 128
spelled_ascii true letter low = uppercase_ascii letter low
spelled_ascii false letter low = low

spelled_high : (raised : Bool) (letter : ℕ) → 128 ≤ letter → spelled raised letter ≡ letter
spelled_high true letter above = (uppercase_is letter).2 (omega arith)
spelled_high false letter above = refl

letter_of : (raised : Bool) (letter : ℕ) (rest : List ℕ) → letter ≢ 95 → (letter < 128) ⊎ (128 ≤ letter)
    → pascal_case_from raised (encode letter ++ rest) ≡ encode (spelled raised letter) ++ pascal_case_from false rest
letter_of raised letter rest differs (inl low) =
    ap (λ bytes. pascal_case_from raised (bytes ++ rest)) (encode_ascii letter low)
    ∙ other_byte raised letter rest differs
    ∙ ap (λ bytes. bytes ++ pascal_case_from false rest) (sym (encode_ascii (spelled raised letter) (spelled_ascii raised letter low)))
letter_of raised letter rest differs (inr above) =
    let some : 0 < length (encode letter) = rw length-encode ((len_utf8_bounds letter).0) in
    high_bytes raised (encode letter) rest some (encode_high letter above)
    ∙ ap (λ c. encode c ++ pascal_case_from false rest) (sym (spelled_high raised letter above))

pub pascal_letter : (raised : Bool) (letter : ℕ) (text rest : List ℕ) → letter ≢ 95 → text ≡ encode letter ++ rest
    → pascal_case_from raised text ≡ encode (if raised then to_ascii_uppercase letter else letter) ++ pascal_case_from false rest
pascal_letter raised letter text rest differs split = ap (pascal_case_from raised) split ∙ letter_of raised letter rest differs (cases_lt letter 128)

-- One step of the loop: the whole is what is written so far, and what is still to come.
pub pascal_pushed : (raised after : Bool) (letter pushed : ℕ) (whole old new text rest : List ℕ)
    → whole ≡ old ++ pascal_case_from raised text → text ≡ encode letter ++ rest → letter ≢ 95
    → pushed ≡ (if raised then to_ascii_uppercase letter else letter) → after ≡ false → new ≡ old ++ encode pushed
    → whole ≡ new ++ pascal_case_from after rest
pascal_pushed raised after letter pushed whole old new text rest so_far split differs is later written =
    so_far ∙ ap (λ bytes. old ++ bytes) (pascal_letter raised letter text rest differs split)
    ∙ rw (written, is, later, append_assoc) refl
