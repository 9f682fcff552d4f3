-- Printed shapes lex to the same shapes.
use Rattle.std.proofs.Common.{◌≡◌, ℕ, suc, ◌+◌, ◌-◌, Bool, ltb, inl, inr, List, [], ◌∷◌, ◌++◌, length, drop, map, flat_map, refl, sym, ap, ◌∙◌, subst, append-nil, add-zero, arith}
use Rattle.std.proofs.lemmas.Bool.{cases_Bool, ltb-true, ltb-false}
use Rattle.protox_lex.specs.LexesBack.{AreBytes, IsPrintable, ArePrintable, spaced}
use Rattle.protox_lexeme.specs.Lexemes.{Lexeme, first_lexeme, blanks, cut}
use Rattle.protox_lexeme.specs.Lexicon.{is_blank}
use Rattle.protox_lexeme.specs.Printed.{printed, printed_byte}
use Rattle.protox_lexeme.specs.Shapes.{Shape, Ident, Int, Float, Str, Mark, LineComment, BlockComment, Newline, Invalid}
use Rattle.protox_lexeme.proofs.Lemmas.{cut_none, cut_some, first_moves, first_start, no_run}
use Rattle.protox_lex.proofs.LexesBack.{AtEnd, LexesAs, ident_lexes, mark_lexes, rest_is}
use Rattle.protox_lex.proofs.NumbersBack.{int_lexes, float_lexes}
use Rattle.protox_lex.proofs.StringsBack.{Spells, printed_spells, spelled_lexes}

shape_lexes : (at : ℕ) (x : Shape) (rest : List ℕ) → IsPrintable x → AtEnd rest → LexesAs at (printed x ++ rest) (length (printed x)) x
shape_lexes at (Ident s) rest h end = ident_lexes at s rest h end
shape_lexes at (Int n) rest h end = int_lexes at n rest h end
shape_lexes at (Float s) rest h end = float_lexes at s rest h.0 h.1 h.2 end
shape_lexes at (Str s) rest h end = spelled_lexes printed_byte printed_spells at s rest h
shape_lexes at (Mark b) rest h end = mark_lexes at b rest h end
shape_lexes at (LineComment s) rest h end = absurd h
shape_lexes at (BlockComment s) rest h end = absurd h
shape_lexes at Newline rest h end = absurd h
shape_lexes at Invalid rest h end = absurd h

-- The cut of a text that begins with a printed shape.
cut_front : (at : ℕ) (text rest : List ℕ) (x : Shape) → LexesAs at (text ++ rest) (length text) x
    → cut at (text ++ rest) ≡ first_lexeme at (text ++ rest) ∷ cut (at + length text) rest
cut_front at text rest x l =
    let all = text ++ rest in
    let none : blanks all ≡ 0 = no_run is_blank all l.ink in
    let turn = cut_some at all (omega (arith, l.some)) in
    let y = first_lexeme at all in
    let here : first_lexeme (at + blanks all) (drop (blanks all) all) ≡ y = ap (λ k. first_lexeme (at + k) (drop k all)) none ∙ ap (λ k. first_lexeme k all) (add-zero at) in
    let stop = l.stop in
    let size : y.stop - at ≡ length text = omega arith in
    turn ∙ ap (λ z. z ∷ cut z.stop (drop (z.stop - at) all)) here ∙ ap (λ k. y ∷ cut y.stop (drop k all)) size
    ∙ ap (λ t. y ∷ cut y.stop t) (rest_is text rest) ∙ ap (λ k. y ∷ cut k rest) stop

-- a blank in front makes no difference
cut_blank : (at : ℕ) (text : List ℕ) → cut at (32 ∷ text) ≡ cut (at + 1) text
cut_blank at text =
    let n = blanks text in
    let more : blanks (32 ∷ text) ≡ suc n = omega arith in
    elim (cases_Bool (ltb n (length text))) [
      | inl some ↦
          let left = ltb-true n (length text) some in
          let x = first_lexeme (at + 1 + n) (drop n text) in
          let moves = first_moves (at + 1 + n) (drop n text) in
          let place : at + suc n ≡ at + 1 + n = omega arith in
          let here : first_lexeme (at + blanks (32 ∷ text)) (drop (blanks (32 ∷ text)) (32 ∷ text)) ≡ x = ap (λ k. first_lexeme (at + k) (drop k (32 ∷ text))) more ∙ ap (λ k. first_lexeme k (drop n text)) place in
          let past : x.stop - at ≡ suc (x.stop - (at + 1)) = omega arith in
          cut_some at (32 ∷ text) (omega arith) ∙ ap (λ z. z ∷ cut z.stop (drop (z.stop - at) (32 ∷ text))) here ∙ ap (λ k. x ∷ cut x.stop (drop k (32 ∷ text))) past
          ∙ sym (cut_some (at + 1) text left)
      | inr none ↦
          let nothing = ltb-false n (length text) none in
          cut_none at (32 ∷ text) (omega arith) ∙ sym (cut_none (at + 1) text nothing)
    ]

-- The lexemes have these shapes and no faults.
abbrev pub Gives : List Shape → List Lexeme → Type 0
Gives xs ls = (map (λ l. l.shape) ls ≡ xs) × (flat_map (λ l. l.faults) ls ≡ [])

one_more : (x : Shape) (xs : List Shape) (l : Lexeme) (ls : List Lexeme) → l.shape ≡ x → l.faults ≡ [] → Gives xs ls → Gives (x ∷ xs) (l ∷ ls)
one_more x xs l ls shape faults (shapes, none) = (ap (λ s. s ∷ map (λ m. m.shape) ls) shape ∙ ap (λ ss. x ∷ ss) shapes, ap (λ fs. fs ++ flat_map (λ m. m.faults) ls) faults ∙ none)

front_gives : (at : ℕ) (x : Shape) (xs : List Shape) (rest : List ℕ) → IsPrintable x → AtEnd rest → Gives xs (cut (at + length (printed x)) rest) → Gives (x ∷ xs) (cut at (printed x ++ rest))
front_gives at x xs rest h end more =
    let l = shape_lexes at x rest h end in
    let P : List Lexeme → Type 0 = λ ls. Gives (x ∷ xs) ls in
    subst P (sym (cut_front at (printed x) rest x l)) (one_more x xs (first_lexeme at (printed x ++ rest)) (cut (at + length (printed x)) rest) l.shape l.faults more)

gives_from : (at : ℕ) (xs : List Shape) → ArePrintable xs → Gives xs (cut at (spaced xs))
gives_from at [] h = let P : List Lexeme → Type 0 = λ ls. Gives [] ls in subst P (sym (cut_none at [] (omega arith))) (refl, refl)
gives_from at (x ∷ []) h =
    let P : List ℕ → Type 0 = λ t. Gives (x ∷ []) (cut at t) in
    let Q : List Lexeme → Type 0 = λ ls. Gives [] ls in
    subst P (append-nil (printed x)) (front_gives at x [] [] h.0 (inl refl) (subst Q (sym (cut_none (at + length (printed x)) [] (omega arith))) (refl, refl)))
gives_from at (x ∷ (y ∷ xs)) h =
    let rest = spaced (y ∷ xs) in
    let Q : List Lexeme → Type 0 = λ ls. Gives (y ∷ xs) ls in
    let more = gives_from (at + length (printed x) + 1) (y ∷ xs) h.1 in
    front_gives at x (y ∷ xs) (32 ∷ rest) h.0 (inr (rest, refl)) (subst Q (sym (cut_blank (at + length (printed x)) rest)) more)

pub gives : (xs : List Shape) → ArePrintable xs → Gives xs (cut 0 (spaced xs))
gives xs h = gives_from 0 xs h

-- A string in double quotes is one lexeme, however its bytes are spelled.
pub spelled_alone : (spelled : ℕ → List ℕ) → Spells spelled → (s : List ℕ) → AreBytes s
    → (borrowed : Bool)
    × (cut 0 (34 ∷ flat_map spelled s ++ 34 ∷ [])
    ≡ record { start = 0; stop = length (34 ∷ flat_map spelled s ++ 34 ∷ []); shape = Str s; borrowed = borrowed; faults = [] } ∷ [])
spelled_alone spelled spells s h =
    let text = 34 ∷ flat_map spelled s ++ 34 ∷ [] in
    let l = spelled_lexes spelled spells 0 s [] h in
    let whole = append-nil text in
    let y = first_lexeme 0 (text ++ []) in
    let turn = ap (cut 0) (sym whole) ∙ cut_front 0 text [] (Str s) l ∙ ap (λ ls. y ∷ ls) (cut_none (0 + length text) [] (omega arith)) in
    let start = first_start 0 (text ++ []) in
    (y.borrowed, turn ∙ ap (λ z. z ∷ []) (same y (length text) (Str s) start l.stop l.shape l.faults)) where
      same : (y : Lexeme) (n : ℕ) (x : Shape) → y.start ≡ 0 → y.stop ≡ 0 + n → y.shape ≡ x → y.faults ≡ []
          → y ≡ record { start = 0; stop = n; shape = x; borrowed = y.borrowed; faults = [] }
      same y n x start stop shape faults = rw (← start, ← shape, ← faults) (let size : y.stop ≡ n = omega arith in rw (← size) refl)

pub string_alone : (s : List ℕ) → AreBytes s
    → (borrowed : Bool) × (cut 0 (printed (Str s)) ≡ record { start = 0; stop = length (printed (Str s)); shape = Str s; borrowed = borrowed; faults = [] } ∷ [])
string_alone s h = spelled_alone printed_byte printed_spells s h
