-- A printed string lexes to the same string.
use Rattle.std.proofs.Common.{◌≡◌, ℕ, suc, ◌+◌, ◌*◌, ◌/◌, ◌%◌, ◌<◌, true, false, eqb, ltb, leb, ◌⊎◌, inl, inr, List, [], ◌∷◌, ◌++◌, length, take, drop, flat_map, get_or, refl, sym, ap, ◌∙◌, subst, append_assoc, length-append, lt-ltb, arith, Some, None}
use Rattle.std.proofs.lemmas.Bool.{cases_Bool, true≢false, eqb-true, ltb-true, le-leb, and_parts}
use Rattle.std.proofs.lemmas.Bool.Decides.{nat_tests}
use Rattle.std.proofs.lemmas.List.Folds.{length-prefix_len}
use Rattle.std.proofs.lemmas.Str.{digit_value-digit_char}
use Rattle.std.specs.Prelude.{min, nat_lt}
use Rattle.std.specs.List.{prefix_len, list_all}
use Rattle.std.specs.Char.{is_ascii_hexdigit, digit_char, digit_value}
use Rattle.std.specs.Int.{is_in_range}
use Rattle.protox_lexeme.specs.declared.scan.Kind.TheVariants as kind
use Rattle.protox_lex.specs.LexesBack.{AreBytes}
use Rattle.protox_lexeme.specs.Printed.{hex_pair, printed_byte}
use Rattle.protox_lexeme.specs.Scanning.{scan}
use Rattle.protox_lexeme.specs.Shapes.{Str}
use Rattle.protox_lexeme.specs.Strings as spec
use Rattle.protox_lexeme.proofs.Lemmas.{no_run, pieces_last, pieces_more, run_more}
use Rattle.protox_lex.proofs.LexesBack.{LexesAs, rest_is, by_scan}
use Rattle.protox_lexeme.proofs.Lemmas as scanned

-- The pieces of a literal in double quotes: their value, their length, and no fault.
record Reads (text bytes : List ℕ) (n : ℕ) : Type 0 where
  value : spec.value_of (spec.pieces 34 text) ≡ bytes
  len : spec.len_of (spec.pieces 34 text) ≡ n
  faults : (at : ℕ) → spec.faults_of None at (spec.pieces 34 text) ≡ []

quote_ends : (rest : List ℕ) → spec.piece 34 (34 ∷ rest) ≡ spec.ends
unfolding spec.piece
quote_ends rest = refl

end_reads : (rest : List ℕ) → Reads (34 ∷ rest) [] 1
end_reads rest =
    let ps = pieces_last 34 (34 ∷ rest) spec.ends (omega arith) (sym (quote_ends rest)) refl in
    record { value = ap spec.value_of ps; len = ap spec.len_of ps; faults = λ at. ap (spec.faults_of None at) ps }

escape_reads : (b : ℕ) (e rest value : List ℕ) (n : ℕ) → 0 < length e → spec.piece 34 (e ++ rest) ≡ spec.adds (b ∷ []) (length e) → Reads rest value n
    → Reads (e ++ rest) (b ∷ value) (length e + n)
escape_reads b e rest value n some is r =
    let p = spec.adds (b ∷ []) (length e) in
    let ps = pieces_more 34 (e ++ rest) p (omega (arith, length-append e rest)) (sym is) refl ∙ ap (λ t. p ∷ spec.pieces 34 t) (rest_is e rest) in
    record {
      value = ap spec.value_of ps ∙ ap (λ v. b ∷ v) r.value;
      len = ap spec.len_of ps ∙ ap (λ k. length e + k) r.len;
      faults = λ at. ap (spec.faults_of None at) ps ∙ r.faults (at + length e);
    }

run_is : (text : List ℕ) → spec.is_plain (get_or text 0 0) ≡ true → spec.piece 34 text ≡ spec.run (take (prefix_len spec.is_plain text) text)
unfolding spec.piece
run_is text h = rw h refl

nonempty : (text : List ℕ) → spec.is_plain (get_or text 0 0) ≡ true → 0 < length text
nonempty [] h = absurd (true≢false (sym h))
nonempty (b ∷ text) h = omega arith

-- a run at the front
run_pieces : (text : List ℕ) → spec.is_plain (get_or text 0 0) ≡ true
    → spec.pieces 34 text ≡ spec.run (take (prefix_len spec.is_plain text) text) ∷ spec.pieces 34 (drop (prefix_len spec.is_plain text) text)
run_pieces text h =
    let k = prefix_len spec.is_plain text in
    pieces_more 34 text (spec.run (take k text)) (nonempty text h) (sym (run_is text h)) refl ∙ ap (λ i. spec.run (take k text) ∷ spec.pieces 34 (drop i text)) (length-prefix_len spec.is_plain text)

plain_reads : (b : ℕ) (rest value : List ℕ) (n : ℕ) → spec.is_plain b ≡ true → Reads rest value n → Reads (b ∷ rest) (b ∷ value) (1 + n)
plain_reads b rest value n h r =
    let k = prefix_len spec.is_plain rest in
    let more = run_more spec.is_plain b rest h in
    let whole = run_pieces (b ∷ rest) h ∙ ap (λ i. spec.run (take i (b ∷ rest)) ∷ spec.pieces 34 (drop i (b ∷ rest))) more in
    elim (cases_Bool (spec.is_plain (get_or rest 0 0))) [
      | inl plain ↦
          let behind = spec.pieces 34 (drop k rest) in
          let run = take k rest in
          let tail = run_pieces rest plain in
          record {
            value = ap spec.value_of whole ∙ ap (λ v. b ∷ v) (sym (ap spec.value_of tail) ∙ r.value);
            len = (let there : spec.len_of (spec.pieces 34 rest) ≡ length run + spec.len_of behind = ap spec.len_of tail in
                let here : spec.len_of (spec.pieces 34 (b ∷ rest)) ≡ suc (length run) + spec.len_of behind = ap spec.len_of whole in
                let size = r.len in
                omega arith);
            faults = λ at.
                let place : at + suc (length run) ≡ (at + 1) + length run = omega arith in
                ap (spec.faults_of None at) whole ∙ ap (λ i. spec.faults_of None i behind) place ∙ sym (ap (spec.faults_of None (at + 1)) tail) ∙ r.faults (at + 1);
          }
      | inr other ↦
          let none = no_run spec.is_plain rest other in
          let alone = whole ∙ ap (λ i. spec.run (b ∷ take i rest) ∷ spec.pieces 34 (drop i rest)) none in
          record {
            value = ap spec.value_of alone ∙ ap (λ v. b ∷ v) r.value;
            len = ap spec.len_of alone ∙ ap (λ i. 1 + i) r.len;
            faults = λ at. ap (spec.faults_of None at) alone ∙ r.faults (at + 1);
          }
    ]

-- The ways to spell a byte within double quotes: as it is, or as an escape.
abbrev pub Spells : (ℕ → List ℕ) → Type 0
Spells spelled = (b : ℕ) → b < 256
    → ((spelled b ≡ b ∷ []) × (spec.is_plain b ≡ true)) ⊎ ((0 < length (spelled b)) × ((rest : List ℕ) → spec.piece 34 (spelled b ++ rest) ≡ spec.adds (b ∷ []) (length (spelled b))))

spelled_reads : (spelled : ℕ → List ℕ) → Spells spelled → (s rest : List ℕ) → AreBytes s → Reads (flat_map spelled s ++ 34 ∷ rest) s (length (flat_map spelled s) + 1)
spelled_reads spelled spells [] rest h = end_reads rest
spelled_reads spelled spells (b ∷ s) rest h =
    let (byte, more) = and_parts (nat_lt b 256) (list_all (λ x. nat_lt x 256) s) h in
    let tail = spelled_reads spelled spells s rest more in
    let text = flat_map spelled s ++ 34 ∷ rest in
    let n = length (flat_map spelled s) + 1 in
    let P : List ℕ → Type 0 = λ t. Reads t (b ∷ s) (length (flat_map spelled (b ∷ s)) + 1) in
    let Q : ℕ → Type 0 = λ k. Reads (spelled b ++ text) (b ∷ s) k in
    let size : length (spelled b) + n ≡ length (flat_map spelled (b ∷ s)) + 1 = omega (arith, length-append (spelled b) (flat_map spelled s)) in
    let here : Reads (spelled b ++ text) (b ∷ s) (length (spelled b) + n) = elim (spells b (ltb-true b 256 byte)) [
      | inl plain ↦
          let R : List ℕ → Type 0 = λ e. Reads (e ++ text) (b ∷ s) (length e + n) in
          subst R (sym plain.0) (plain_reads b text s n plain.1 tail)
      | inr escape ↦ escape_reads b (spelled b) text s n escape.0 (escape.1 text) tail
    ] in
    subst P (sym (append_assoc (spelled b) (flat_map spelled s) (34 ∷ rest))) (subst Q size here)

-- ---- how a byte is spelled

hex_digit : (d : ℕ) → d < 16 → is_ascii_hexdigit (digit_char d) ≡ true
hex_digit d h = grind (arith, nat_tests)

-- two hex digits
hex_piece : (b h l : ℕ) (rest : List ℕ) → is_ascii_hexdigit h ≡ true → is_ascii_hexdigit l ≡ true → (0 * 16 + digit_value h) * 16 + digit_value l ≡ b → b < 256
    → spec.piece 34 (92 ∷ (120 ∷ (h ∷ (l ∷ rest)))) ≡ spec.adds (b ∷ []) 4
unfolding spec.piece spec.escape spec.hex_escape
hex_piece b h l rest high low value small =
    let text = 92 ∷ (120 ∷ (h ∷ (l ∷ rest))) in
    let one = run_more is_ascii_hexdigit h (l ∷ rest) high in
    let two = run_more is_ascii_hexdigit l rest low in
    let digits : spec.hex_len text ≡ suc (suc (prefix_len is_ascii_hexdigit rest)) = omega arith in
    let some : ltb 0 (spec.hex_len text) ≡ true = lt-ltb 0 (spec.hex_len text) (omega arith) in
    let most : min 2 (spec.hex_len text) ≡ 2 = omega arith in
    let fits : leb b 255 ≡ true = le-leb b 255 (omega arith) in
    rw (some, most) (rw (value, fits) refl)

byte_hex : (b : ℕ) → b < 256 → (rest : List ℕ) → spec.piece 34 ((92 ∷ (120 ∷ hex_pair b)) ++ rest) ≡ spec.adds (b ∷ []) 4
byte_hex b small rest =
    let high : b / 16 < 16 = omega arith in
    let low : b % 16 < 16 = omega arith in
    let v = digit_value-digit_char (b / 16) (omega arith) in
    let w = digit_value-digit_char (b % 16) (omega arith) in
    let value : (0 * 16 + digit_value (digit_char (b / 16))) * 16 + digit_value (digit_char (b % 16)) ≡ b = omega arith in
    hex_piece b (digit_char (b / 16)) (digit_char (b % 16)) rest (hex_digit (b / 16) high) (hex_digit (b % 16) low) value small

pub plain_byte : (b : ℕ) → is_in_range 32 126 b ≡ true → eqb b 39 ≡ false → eqb b 34 ≡ false → eqb b 92 ≡ false → spec.is_plain b ≡ true
plain_byte b h q d s = grind (arith, nat_tests)

module _ (rest : List ℕ) where
  pub tab_piece : spec.piece 34 (92 ∷ (116 ∷ rest)) ≡ spec.adds (9 ∷ []) 2
  unfolding spec.piece spec.escape
  tab_piece = refl

  pub return_piece : spec.piece 34 (92 ∷ (114 ∷ rest)) ≡ spec.adds (13 ∷ []) 2
  unfolding spec.piece spec.escape
  return_piece = refl

  pub newline_piece : spec.piece 34 (92 ∷ (110 ∷ rest)) ≡ spec.adds (10 ∷ []) 2
  unfolding spec.piece spec.escape
  newline_piece = refl

  pub single_piece : spec.piece 34 (92 ∷ (39 ∷ rest)) ≡ spec.adds (39 ∷ []) 2
  unfolding spec.piece spec.escape
  single_piece = refl

  pub double_piece : spec.piece 34 (92 ∷ (34 ∷ rest)) ≡ spec.adds (34 ∷ []) 2
  unfolding spec.piece spec.escape
  double_piece = refl

  pub slash_piece : spec.piece 34 (92 ∷ (92 ∷ rest)) ≡ spec.adds (92 ∷ []) 2
  unfolding spec.piece spec.escape
  slash_piece = refl

-- the spelling of one byte
abbrev pub SpellsByte : List ℕ → ℕ → Type 0
SpellsByte e b = ((e ≡ b ∷ []) × (spec.is_plain b ≡ true)) ⊎ ((0 < length e) × ((rest : List ℕ) → spec.piece 34 (e ++ rest) ≡ spec.adds (b ∷ []) (length e)))

pub printed_spells : Spells printed_byte
printed_spells b small =
    let P : ℕ → Type 0 = λ k. SpellsByte (printed_byte k) k in
    elim (cases_Bool (eqb b 9)) [
      | inl e ↦ subst P (sym (eqb-true b 9 e)) (inr (omega arith, λ rest. tab_piece rest))
      | inr t ↦ elim (cases_Bool (eqb b 13)) [
        | inl e ↦ subst P (sym (eqb-true b 13 e)) (inr (omega arith, λ rest. return_piece rest))
        | inr r ↦ elim (cases_Bool (eqb b 10)) [
          | inl e ↦ subst P (sym (eqb-true b 10 e)) (inr (omega arith, λ rest. newline_piece rest))
          | inr n ↦ elim (cases_Bool (eqb b 39)) [
            | inl e ↦ subst P (sym (eqb-true b 39 e)) (inr (omega arith, λ rest. single_piece rest))
            | inr q ↦ elim (cases_Bool (eqb b 34)) [
              | inl e ↦ subst P (sym (eqb-true b 34 e)) (inr (omega arith, λ rest. double_piece rest))
              | inr d ↦ elim (cases_Bool (eqb b 92)) [
                | inl e ↦ subst P (sym (eqb-true b 92 e)) (inr (omega arith, λ rest. slash_piece rest))
                | inr s ↦ elim (cases_Bool (is_in_range 32 126 b)) [
                  | inl e ↦
                      let same : printed_byte b ≡ b ∷ [] = rw (t, r, n, q, d, s, e) refl in
                      let Q : List ℕ → Type 0 = λ x. SpellsByte x b in
                      subst Q (sym same) (inl (refl, plain_byte b e q d s))
                  | inr e ↦
                      let same : printed_byte b ≡ 92 ∷ (120 ∷ hex_pair b) = rw (t, r, n, q, d, s, e) refl in
                      let Q : List ℕ → Type 0 = λ x. SpellsByte x b in
                      subst Q (sym same) (inr (omega arith, λ rest. byte_hex b small rest))
                ]
              ]
            ]
          ]
        ]
      ]
    ]

-- ---- a string in double quotes

quoted : (spelled : ℕ → List ℕ) (s rest : List ℕ) → (34 ∷ flat_map spelled s ++ 34 ∷ []) ++ rest ≡ 34 ∷ (flat_map spelled s ++ 34 ∷ rest)
quoted spelled s rest = ap (λ t. 34 ∷ t) (append_assoc (flat_map spelled s) (34 ∷ []) rest)

pub spelled_lexes : (spelled : ℕ → List ℕ) → Spells spelled → (at : ℕ) (s rest : List ℕ) → AreBytes s
    → LexesAs at ((34 ∷ flat_map spelled s ++ 34 ∷ []) ++ rest) (length (34 ∷ flat_map spelled s ++ 34 ∷ [])) (Str s)
spelled_lexes spelled spells at s rest h =
    let body = flat_map spelled s in
    let text = 34 ∷ (body ++ 34 ∷ rest) in
    let r = spelled_reads spelled spells s rest h in
    let found : scan text ≡ Some (kind.String, 1) = scanned.scan_quote text (inr refl) in
    let is = by_scan at text kind.String 1 found in
    let size : at + 1 + (length body + 1) ≡ at + length (34 ∷ body ++ 34 ∷ []) = omega (arith, length-append body (34 ∷ [])) in
    let P : List ℕ → Type 0 = λ t. LexesAs at t (length (34 ∷ body ++ 34 ∷ [])) (Str s) in
    let here : P text = record {
      stop = ap (λ l. l.stop) is ∙ ap (λ k. at + 1 + k) r.len ∙ size;
      shape = ap (λ l. l.shape) is ∙ ap Str r.value;
      faults = ap (λ l. l.faults) is ∙ r.faults (at + 1);
      some = omega arith;
      ink = refl;
    } in
    subst P (sym (quoted spelled s rest)) here
