-- A literal, piece by piece.
use Rattle.std.proofs.Common.{◌≡◌, ℕ, zero, suc, ◌+◌, ◌<◌, ◌≤◌, Bool, true, false, not, ◌&&◌, ltb, leb, eqb, inl, inr, List, [], ◌∷◌, ◌++◌, length, take, drop, get_or, refl, sym, ap, ◌∙◌, subst, append_assoc, length-append, length-drop, drop-drop, add_assoc, add-zero, append-nil, lt-ltb, arith, le_refl, Option, Some, None, Result, Ok, Err, IfOk}
use Rattle.std.proofs.lemmas.Bool.{cases_Bool}
use Rattle.std.proofs.lemmas.List.Folds.{length-prefix_len}
use Rattle.std.specs.Prelude.{if◌then◌else◌, min, codes}
use Rattle.std.specs.Str.Parse.{digits_value}
use Rattle.std.specs.List.{prefix_len}
use Rattle.protox_lexeme.specs.Lexicon.{is_x, is_octal, is_quote}
use Rattle.protox_fault.specs.declared.error.ParseErrorKind.{ParseErrorKind}
use Rattle.protox_fault.specs.declared.error.ParseErrorKind.TheVariants.{UnterminatedString, UnexpectedEof}
use Rattle.protox_fault.specs.Faults.{span_from}
use Rattle.protox_lexeme.specs.Lexemes.{Lexeme}
use Rattle.protox_lexeme.specs.Shapes.{Str}
use Rattle.protox_lexeme.specs.declared.piece.Piece as code
use Rattle.protox_lexeme.specs.declared.piece.Piece.TheVariants as variant
use Rattle.protox_lexeme.specs.Pieces.{Reading, finished, piece_of}
use Rattle.protox_lexeme.specs.Strings as spec

pub closed_nil : (fs cs gs : List ParseErrorKind) → fs ++ (cs ++ gs) ≡ [] → cs ≡ []
closed_nil [] [] gs e = refl
closed_nil [] (c ∷ cs) gs e = absurd (cc)
closed_nil (f ∷ fs) cs gs e = absurd (cc)

longer : (xs ys : List ℕ) → 0 < length ys → ltb 0 (length (xs ++ ys)) ≡ true
longer xs ys h = lt-ltb 0 (length (xs ++ ys)) (omega (arith, length-append xs ys))

and_assoc : (a b c : Bool) → ((a && b) && c) ≡ (a && (b && c))
and_assoc true b c = refl
and_assoc false b c = refl

pub finished_run : (start at : ℕ) (old new : Reading) (bytes : List ℕ) (ps : List spec.Piece) → 0 < length bytes
    → new.value ≡ old.value ++ bytes → new.borrowed ≡ (old.borrowed && not (ltb 0 (length old.value))) → new.bad ≡ None → new.faults ≡ old.faults ++ spec.closed old.bad at
    → finished start new (at + length bytes) ps ≡ finished start old at (spec.run bytes ∷ ps)
finished_run start at old new bytes ps some_bytes value borrowed bad faults =
    rw (value, borrowed, bad, faults, longer old.value bytes some_bytes, add_assoc, append_assoc old.value bytes (spec.value_of ps), append_assoc old.faults (spec.closed old.bad at) (spec.faults_of None (at + length bytes) ps), and_assoc) refl

-- Each piece has at least one byte.

byte_some : (v n : ℕ) → 1 ≤ n → 1 ≤ spec.piece_len (spec.byte_piece v n)
byte_some v n h = elim (cases_Bool (leb v 255)) [ inl e ↦ rw e h | inr e ↦ rw e h ]

char_some : (v n : ℕ) → 1 ≤ n → 1 ≤ spec.piece_len (spec.char_piece v n)
char_some v n h = elim (cases_Bool (spec.is_scalar v)) [ inl e ↦ rw e h | inr e ↦ rw e h ]

simple_some : (r : Option ℕ) → 1 ≤ spec.piece_len (spec.simple_piece r)
simple_some None = omega arith
simple_some (Some b) = omega arith

hex_some : (text : List ℕ) → 1 ≤ spec.piece_len (spec.hex_escape text)
unfolding spec.hex_escape
hex_some text = elim (cases_Bool (ltb 0 (spec.hex_len text))) [ inl e ↦ rw e (byte_some (digits_value 16 (take (min 2 (spec.hex_len text)) (drop 2 text))) (2 + min 2 (spec.hex_len text)) (omega arith)) | inr e ↦ rw e (omega arith) ]

octal_some : (text : List ℕ) → 1 ≤ spec.piece_len (spec.octal_escape text)
unfolding spec.octal_escape
octal_some text = byte_some (digits_value 8 (take (min 3 (spec.octal_len text)) (drop 1 text))) (1 + min 3 (spec.octal_len text)) (omega arith)

char_escape_some : (n : ℕ) (text : List ℕ) → 1 ≤ spec.piece_len (spec.char_escape n text)
unfolding spec.char_escape
char_escape_some n text = elim (cases_Bool (leb n (spec.hex_len text))) [ inl e ↦ rw e (char_some (digits_value 16 (take n (drop 2 text))) (2 + n) (omega arith)) | inr e ↦ rw e (omega arith) ]

escape_some : (text : List ℕ) → 1 ≤ spec.piece_len (spec.escape text)
unfolding spec.escape
escape_some text =
    let c = get_or text 1 0 in
    elim (cases_Bool (is_x c)) [
      | inl e ↦ rw e (hex_some text)
      | inr x ↦ elim (cases_Bool (eqb c 117)) [
        | inl e ↦ rw (x, e) (char_escape_some 4 text)
        | inr u ↦ elim (cases_Bool (eqb c 85)) [
          | inl e ↦ rw (x, u, e) (char_escape_some 8 text)
          | inr v ↦ elim (cases_Bool (is_octal c)) [
            | inl e ↦ rw (x, u, v, e) (octal_some text)
            | inr o ↦ rw (x, u, v, o) (simple_some (spec.simple_escape c))
          ]
        ]
      ]
    ]

run_some : (p : ℕ → Bool) (text : List ℕ) → p (get_or text 0 0) ≡ true → 0 < length text → 1 ≤ length (take (prefix_len p text) text)
run_some p [] h l = absurd (omega arith)
run_some p (b ∷ text) h l =
    let some : 1 ≤ prefix_len p (b ∷ text) = rw h (omega arith) in
    let size = length-prefix_len p (b ∷ text) in
    omega arith

pub piece_some : (quote : ℕ) (text : List ℕ) → 0 < length text → 1 ≤ spec.piece_len (spec.piece quote text)
unfolding spec.piece
piece_some quote text l =
    let b = get_or text 0 0 in
    elim (cases_Bool (spec.is_plain b)) [
      | inl e ↦ rw e (run_some spec.is_plain text e l)
      | inr p ↦ elim (cases_Bool (eqb b quote)) [
        | inl e ↦ rw (p, e) (omega arith)
        | inr q ↦ elim (cases_Bool (is_quote b)) [
          | inl e ↦ rw (p, q, e) (omega arith)
          | inr o ↦ elim (cases_Bool (eqb b 10)) [
            | inl e ↦ rw (p, q, o, e) (omega arith)
            | inr n ↦ elim (cases_Bool (eqb b 92)) [
              | inl e ↦ rw (p, q, o, n, e) (escape_some text)
              | inr w ↦ rw (p, q, o, n, w) (omega arith)
            ]
          ]
        ]
      ]
    ]

pieces_same : (n m quote : ℕ) (text : List ℕ) → length text ≤ n → length text ≤ m → spec.pieces_from n quote text ≡ spec.pieces_from m quote text
unfolding spec.pieces_from
pieces_same zero zero quote text h k = refl
pieces_same zero (suc m) quote [] h k = refl
pieces_same zero (suc m) quote (b ∷ text) h k = absurd (omega arith)
pieces_same (suc n) zero quote [] h k = refl
pieces_same (suc n) zero quote (b ∷ text) h k = absurd (omega arith)
pieces_same (suc n) (suc m) quote [] h k = refl
pieces_same (suc n) (suc m) quote (b ∷ text) h k =
    let p = spec.piece quote (b ∷ text) in
    let some = piece_some quote (b ∷ text) (omega arith) in
    let size = length-drop (spec.piece_len p) (b ∷ text) in
    ap (λ t. p ∷ (if spec.is_last p then [] else t)) (pieces_same n m quote (drop (spec.piece_len p) (b ∷ text)) (omega arith) (omega arith))

pub pieces_end : (quote : ℕ) (text : List ℕ) → length text ≡ 0 → spec.pieces quote text ≡ []
unfolding spec.pieces spec.pieces_from
pieces_end quote [] h = refl
pieces_end quote (b ∷ text) h = absurd (omega arith)

pub pieces_turn : (quote : ℕ) (text : List ℕ) → 0 < length text
    → let p = spec.piece quote text in spec.pieces quote text ≡ p ∷ (if spec.is_last p then [] else spec.pieces quote (drop (spec.piece_len p) text))
unfolding spec.pieces spec.pieces_from
pieces_turn quote [] h = absurd (omega arith)
pieces_turn quote (b ∷ text) h =
    let p = spec.piece quote (b ∷ text) in
    let some = piece_some quote (b ∷ text) (omega arith) in
    let rest = drop (spec.piece_len p) (b ∷ text) in
    let size = length-drop (spec.piece_len p) (b ∷ text) in
    ap (λ t. p ∷ (if spec.is_last p then [] else t)) (pieces_same (length text) (length rest) quote rest (omega arith) (le_refl _))

-- the last piece
and_true : (b : Bool) → (b && true) ≡ b
and_true true = refl
and_true false = refl

pub finished_end : (start at : ℕ) (r : Reading) (faults : List ParseErrorKind) → faults ≡ r.faults ++ spec.closed r.bad at
    → record { start = start; stop = at + 1; shape = Str r.value; borrowed = r.borrowed; faults = faults } ≡ finished start r at (spec.ends ∷ [])
finished_end start at r faults e = rw (e, append-nil, and_true, add-zero) refl

pub finished_break : (start at : ℕ) (r : Reading) (faults mid : List ParseErrorKind) → mid ≡ r.faults ++ spec.closed r.bad at → faults ≡ mid ++ UnterminatedString (span_from at (at + 1)) ∷ []
    → record { start = start; stop = at + 1; shape = Str r.value; borrowed = r.borrowed; faults = faults } ≡ finished start r at (spec.breaks ∷ [])
finished_break start at r faults mid e f = rw (f, e, append-nil, and_true, add-zero, append_assoc) refl

pub finished_out : (start at : ℕ) (r : Reading) (faults mid : List ParseErrorKind) → mid ≡ r.faults ++ spec.closed r.bad at → faults ≡ mid ++ UnexpectedEof (codes "string terminator") ∷ []
    → record { start = start; stop = at; shape = Str r.value; borrowed = r.borrowed; faults = faults } ≡ finished start r at []
finished_out start at r faults mid e f = rw (f, e, append-nil, and_true, add-zero, append_assoc) refl

pub pieces_last : (quote : ℕ) (text : List ℕ) (p : spec.Piece) → 0 < length text → p ≡ spec.piece quote text → spec.is_last p ≡ true → spec.pieces quote text ≡ p ∷ []
pieces_last quote text p h e last =
    let same : spec.is_last (spec.piece quote text) ≡ true = ap spec.is_last (sym e) ∙ last in
    pieces_turn quote text h ∙ rw (same, ← e) refl

pub pieces_more : (quote : ℕ) (text : List ℕ) (p : spec.Piece) → 0 < length text → p ≡ spec.piece quote text → spec.is_last p ≡ false
    → spec.pieces quote text ≡ p ∷ spec.pieces quote (drop (spec.piece_len p) text)
pieces_more quote text p h e more =
    let same : spec.is_last (spec.piece quote text) ≡ false = ap spec.is_last (sym e) ∙ more in
    pieces_turn quote text h ∙ rw (same, ← e) refl

pub ok_map : {T E : Type 0} (r : Result T E) (P Q : T → Type 0) → ((x : T) → P x → Q x) → IfOk r P → IfOk r Q
ok_map (Ok x) P Q f h = f x h
ok_map (Err e) P Q f h = tt

some_last : (xs ys : List ParseErrorKind) (f : ParseErrorKind) → xs ++ (ys ++ f ∷ []) ≡ [] → ⊥
some_last [] [] f e = absurd (cc)
some_last [] (y ∷ ys) f e = absurd (cc)
some_last (x ∷ xs) ys f e = absurd (cc)

-- A literal that ends at a newline or at the end of the text has a fault.
pub break_faulty : (start at : ℕ) (r : Reading) → (finished start r at (spec.breaks ∷ [])).faults ≡ [] → ⊥
break_faulty start at r e = some_last r.faults (spec.closed r.bad at) (UnterminatedString (span_from at (at + 1))) e

pub out_faulty : (start at : ℕ) (r : Reading) → (finished start r at []).faults ≡ [] → ⊥
out_faulty start at r e = some_last r.faults (spec.closed r.bad at) (UnexpectedEof (codes "string terminator")) e

module _ (start at quote : ℕ) (bytes : List ℕ) (r : Reading) (x : Lexeme) (whole : finished start r (start + at) (spec.pieces quote (drop at bytes)) ≡ x) where
  some_rest : at < length bytes → 0 < length (drop at bytes)
  some_rest h = omega (arith, length-drop at bytes)

  pub whole_last : (p : spec.Piece) → at < length bytes → p ≡ spec.piece quote (drop at bytes) → spec.is_last p ≡ true → finished start r (start + at) (p ∷ []) ≡ x
  whole_last p h e last = ap (finished start r (start + at)) (sym (pieces_last quote (drop at bytes) p (some_rest h) e last)) ∙ whole

  pub whole_more : (p : spec.Piece) → at < length bytes → p ≡ spec.piece quote (drop at bytes) → spec.is_last p ≡ false
      → finished start r (start + at) (p ∷ spec.pieces quote (drop (at + spec.piece_len p) bytes)) ≡ x
  whole_more p h e more =
      let past = drop-drop (spec.piece_len p) at bytes in
      let turn = pieces_more quote (drop at bytes) p (some_rest h) e more in
      ap (λ t. finished start r (start + at) (p ∷ spec.pieces quote t)) (sym past) ∙ ap (finished start r (start + at)) (sym turn) ∙ whole

  pub whole_next : (p : spec.Piece) (next : Reading) (len : ℕ) → at < length bytes → p ≡ spec.piece quote (drop at bytes) → spec.is_last p ≡ false → len ≡ spec.piece_len p
      → ((s : ℕ) (ps : List spec.Piece) → finished s next (start + at + len) ps ≡ finished s r (start + at) (p ∷ ps))
      → finished start next (start + (at + len)) (spec.pieces quote (drop (at + len) bytes)) ≡ x
  whole_next p next len h e more size step =
      let P : ℕ → Type 0 = λ n. finished start next n (spec.pieces quote (drop (at + len) bytes)) ≡ x in
      let here = ap (λ n. finished start r (start + at) (p ∷ spec.pieces quote (drop (at + n) bytes))) size in
      let turn = step start (spec.pieces quote (drop (at + len) bytes)) ∙ here ∙ whole_more p h e more in
      subst P (add_assoc start at len) turn

  pub whole_out : length bytes ≤ at → finished start r (start + at) [] ≡ x
  whole_out h = ap (finished start r (start + at)) (sym (pieces_end quote (drop at bytes) (omega (arith, length-drop at bytes)))) ∙ whole

pub goes_on : (text : List ℕ) (p : code.Piece) → (p ≡ variant.Ends → ⊥) → (p ≡ variant.Breaks → ⊥) → spec.is_last (piece_of text p) ≡ false
goes_on text (variant.Run n) e b = refl
goes_on text (variant.Byte c n) e b = refl
goes_on text (variant.Char c n) e b = refl
goes_on text (variant.Wrong is_escape n) e b = refl
goes_on text variant.Ends e b = absurd (e refl)
goes_on text variant.Breaks e b = absurd (b refl)
