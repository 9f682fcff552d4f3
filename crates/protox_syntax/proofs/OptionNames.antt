-- How the names of options lex: words and marks without blanks between them.
use Rattle.std.proofs.Common.{◌≡◌, inl, inr, ℕ, suc, ◌+◌, ◌-◌, ◌<◌, true, false, ltb, List, [], ◌∷◌, ◌++◌, length, drop, map, flat_map, get_or, Option, Some, None, refl, sym, ap, ◌∙◌, subst, append_assoc, add-zero, arith}
use Rattle.std.proofs.lemmas.Bool.{cases_Bool, ltb-true, ltb-false}
use Rattle.std.proofs.lemmas.Bool.Decides.{nat_tests}
use Rattle.std.specs.Char.{is_ascii_digit}
use Rattle.protox_descriptor.specs.Printed.{part_text, later_part_text}
use Rattle.protox_lexeme.specs.declared.scan.Kind.TheVariants as kind
use Rattle.protox_lexeme.specs.Lexemes.{Lexeme, first_lexeme, blanks, cut}
use Rattle.protox_lexeme.specs.Lexicon.{pattern, is_letter, is_word, is_mark, is_blank}
use Rattle.protox_lexeme.specs.Scanning.{scan}
use Rattle.protox_lexeme.specs.Shapes.{Shape, Ident, Mark, Rows}
use Rattle.protox_lexeme.proofs.Lemmas.{cut_none, cut_some, first_moves, no_run}
use Rattle.protox_lexeme.proofs.Lemmas as scanned
use Rattle.protox_lex.specs.LexesBack.{ArePrintable}
use Rattle.protox_lex.specs.Words.{IsWordOf}
use Rattle.protox_lex.proofs.Lemmas.{Gives, LexesAs, by_scan, front_is, rest_is, run_to, word_passes}
use Rattle.protox_ast.specs.AstParts as ast
use Rattle.protox_ast.specs.Names.{dotted_part, type_name_text}
use Rattle.protox_ast.specs.Names as names
use Rattle.protox_ast.specs.Options.{name_part}
use Rattle.protox_ast.specs.Places.{Place}
use Rattle.protox_ast.specs.Spelling as spell
use Rattle.protox_ast.specs.Spells.{shapes}
use Rattle.protox_ast.specs.Tree as t
use Rattle.protox_syntax.proofs.Aggregates.{behind-print, front-print}

-- ---- one lexeme after another

-- Wherever the text stands, it is cut into lexemes of these shapes, without a fault.
pub record Lexes (xs : List Shape) (text : List ℕ) : Type 0 where
  pub gives : (at : ℕ) → Gives xs (cut at text)

-- With this rest behind it, the text is one lexeme of the shape.
pub record Begins (x : Shape) (text rest : List ℕ) : Type 0 where
  pub lexes : (at : ℕ) → LexesAs at (text ++ rest) (length text) x

-- The cut of a text that begins with a lexeme.
cut_front : (at : ℕ) (text rest : List ℕ) (x : Shape) → LexesAs at (text ++ rest) (length text) x
    → cut at (text ++ rest) ≡ first_lexeme at (text ++ rest) ∷ cut (at + length text) rest
cut_front at text rest x l =
    let all = text ++ rest in
    let none : blanks all ≡ 0 = no_run is_blank all l.ink in
    let turn = cut_some at all (omega (arith, l.some)) in
    let y = first_lexeme at all in
    let here : first_lexeme (at + blanks all) (drop (blanks all) all) ≡ y = ap (λ k. first_lexeme (at + k) (drop k all)) none ∙ ap (λ k. first_lexeme k all) (add-zero at) in
    let stop = l.stop in
    let size : y.stop - at ≡ length text = omega arith in
    turn ∙ ap (λ z. z ∷ cut z.stop (drop (z.stop - at) all)) here ∙ ap (λ k. y ∷ cut y.stop (drop k all)) size
    ∙ ap (λ s. y ∷ cut y.stop s) (rest_is text rest) ∙ ap (λ k. y ∷ cut k rest) stop

-- a blank in front makes no difference
cut_blank : (at : ℕ) (text : List ℕ) → cut at (32 ∷ text) ≡ cut (at + 1) text
cut_blank at text =
    let n = blanks text in
    let more : blanks (32 ∷ text) ≡ suc n = omega arith in
    elim (cases_Bool (ltb n (length text))) [
      | inl some ↦
          let left = ltb-true n (length text) some in
          let x = first_lexeme (at + 1 + n) (drop n text) in
          let moves = first_moves (at + 1 + n) (drop n text) in
          let place : at + suc n ≡ at + 1 + n = omega arith in
          let here : first_lexeme (at + blanks (32 ∷ text)) (drop (blanks (32 ∷ text)) (32 ∷ text)) ≡ x =
          ap (λ k. first_lexeme (at + k) (drop k (32 ∷ text))) more ∙ ap (λ k. first_lexeme k (drop n text)) place in
          let past : x.stop - at ≡ suc (x.stop - (at + 1)) = omega arith in
          cut_some at (32 ∷ text) (omega arith) ∙ ap (λ z. z ∷ cut z.stop (drop (z.stop - at) (32 ∷ text))) here ∙ ap (λ k. x ∷ cut x.stop (drop k (32 ∷ text))) past
          ∙ sym (cut_some (at + 1) text left)
      | inr none ↦
          let nothing = ltb-false n (length text) none in
          cut_none at (32 ∷ text) (omega arith) ∙ sym (cut_none (at + 1) text nothing)
    ]

one_more : (x : Shape) (xs : List Shape) (l : Lexeme) (ls : List Lexeme) → l.shape ≡ x → l.faults ≡ [] → Gives xs ls → Gives (x ∷ xs) (l ∷ ls)
one_more x xs l ls shape faults (shapes, none) = (ap (λ s. s ∷ map (λ m. m.shape) ls) shape ∙ ap (λ ss. x ∷ ss) shapes, ap (λ fs. fs ++ flat_map (λ m. m.faults) ls) faults ∙ none)

pub end : Lexes [] []
end = record { gives = λ at. (let P : List Lexeme → Type 0 = λ ls. Gives [] ls in subst P (sym (cut_none at [] (omega arith))) (refl, refl)) }

pub front : (x : Shape) (xs : List Shape) (text rest : List ℕ) → Begins x text rest → Lexes xs rest → Lexes (x ∷ xs) (text ++ rest)
front x xs text rest b more = record {
  gives = λ at.
      let l = b.lexes at in
      let P : List Lexeme → Type 0 = λ ls. Gives (x ∷ xs) ls in
      subst P (sym (cut_front at text rest x l)) (one_more x xs (first_lexeme at (text ++ rest)) (cut (at + length text) rest) l.shape l.faults (more.gives (at + length text)));
}

pub blank : (xs : List Shape) (text : List ℕ) → Lexes xs text → Lexes xs (32 ∷ text)
blank xs text more = record { gives = λ at. (let P : List Lexeme → Type 0 = λ ls. Gives xs ls in subst P (sym (cut_blank at text)) (more.gives (at + 1))) }

-- ---- words

letter_not_blank : (b : ℕ) → is_letter b ≡ true → is_blank b ≡ false
letter_not_blank b h = grind (arith, nat_tests)

letter_not_digit : (b : ℕ) → is_letter b ≡ true → is_ascii_digit b ≡ false
letter_not_digit b h = grind (arith, nat_tests)

letter_first : (s rest : List ℕ) → IsWordOf (pattern kind.Identifier) s → is_letter (get_or (s ++ rest) 0 0) ≡ true
letter_first s rest (x, y, parts, (b, letter, is_b), run) =
    let whole : s ≡ b ∷ y = parts ∙ ap (λ u. u ++ y) is_b in
    ap (λ u. is_letter (get_or (u ++ rest) 0 0)) whole ∙ letter

-- A word ends before any byte that isn't of a word.
word_begins : (s rest : List ℕ) → IsWordOf (pattern kind.Identifier) s → is_word (get_or rest 0 0) ≡ false → Begins (Ident s) s rest
word_begins s rest w stops = record {
  lexes = λ at.
      let text = s ++ rest in
      let letter = letter_first s rest w in
      let all = word_passes is_word (pattern kind.Identifier) s (scanned.letter_word, λ b h. h) w in
      let size = run_to is_word s rest all refl stops in
      let found : scan text ≡ Some (kind.Identifier, length s) = scanned.scan_letter text letter ∙ ap (λ n. Some (kind.Identifier, n)) size in
      let is = by_scan at text kind.Identifier (length s) found in
      record {
        stop = ap (λ l. l.stop) is;
        shape = ap (λ l. l.shape) is ∙ ap Ident (front_is s rest);
        faults = ap (λ l. l.faults) is;
        some = nonempty text letter;
        ink = letter_not_blank (get_or text 0 0) letter;
      };
} where
  nonempty : (text : List ℕ) → is_letter (get_or text 0 0) ≡ true → 0 < length text
  nonempty [] h = absurd (cc)
  nonempty (b ∷ text) h = omega arith

-- ---- marks

mark_ink : (b : ℕ) → is_mark b ≡ true → is_blank b ≡ false
mark_ink b h = grind (arith, nat_tests)

by_mark : (b : ℕ) (rest : List ℕ) → is_mark b ≡ true → scan (b ∷ rest) ≡ Some (kind.Mark, 1) → Begins (Mark b) (b ∷ []) rest
by_mark b rest mark found = record {
  lexes = λ at.
      let is = by_scan at (b ∷ rest) kind.Mark 1 found in
      record { stop = ap (λ l. l.stop) is; shape = ap (λ l. l.shape) is; faults = ap (λ l. l.faults) is; some = omega arith; ink = mark_ink b mark };
}

-- A mark other than `.` and `/`, whatever follows.
pub mark_front : (b : ℕ) (xs : List Shape) (rest : List ℕ) → is_mark b ≡ true → (b ≡ 46 → ⊥) → (b ≡ 47 → ⊥) → Lexes xs rest → Lexes (Mark b ∷ xs) (b ∷ rest)
mark_front b xs rest mark point slash more = front (Mark b) xs (b ∷ []) rest (by_mark b rest mark (scanned.scan_mark (b ∷ rest) mark point slash)) more

-- A point, if no digit follows.
point_front : (xs : List Shape) (rest : List ℕ) → is_ascii_digit (get_or rest 0 0) ≡ false → Lexes xs rest → Lexes (Mark 46 ∷ xs) (46 ∷ rest)
point_front xs rest other more = front (Mark 46) xs (46 ∷ []) rest (by_mark 46 rest refl (scanned.scan_point (46 ∷ rest) refl other)) more

-- ---- tokens in a row

pub joined : (xs ys : Rows Place) (zs : List Shape) → shapes (xs ++ ys) ++ zs ≡ shapes xs ++ (shapes ys ++ zs)
joined [] ys zs = refl
joined (x ∷ xs) ys zs = ap (λ ss. x.shape ∷ ss) (joined xs ys zs)

-- ---- names

-- The words after the first, each with its dot.
abbrev words_rows : List (Place × t.Word Place) → Rows Place
words_rows xs = spell.many (spell.behind spell.dot spell.ident) xs

abbrev words_text : List (Place × t.Word Place) → List ℕ
words_text xs = flat_map dotted_part (map (λ y. ast.ident y.1) xs)

words_stop : (xs : List (Place × t.Word Place)) (rest : List ℕ) → is_word (get_or rest 0 0) ≡ false → is_word (get_or (words_text xs ++ rest) 0 0) ≡ false
words_stop [] rest h = h
words_stop (x ∷ xs) rest h = refl

words_lex : (xs : List (Place × t.Word Place)) (ys : List Shape) (rest : List ℕ) → ArePrintable (shapes (words_rows xs)) → is_word (get_or rest 0 0) ≡ false → Lexes ys rest
    → Lexes (shapes (words_rows xs) ++ ys) (words_text xs ++ rest)
words_lex [] ys rest h stops more = more
words_lex (x ∷ xs) ys rest h stops more =
    let w = x.1.0 in
    let behind = words_text xs ++ rest in
    let tail = words_lex xs ys rest h.1.1 stops more in
    let word = front (Ident w) (shapes (words_rows xs) ++ ys) w behind (word_begins w behind h.1.0 (words_stop xs rest stops)) tail in
    let digit = letter_not_digit (get_or (w ++ behind) 0 0) (letter_first w behind h.1.0) in
    let P : List ℕ → Type 0 = λ u. Lexes (shapes (words_rows (x ∷ xs)) ++ ys) (46 ∷ u) in
    subst P (sym (append_assoc w (words_text xs) rest)) (point_front (Ident w ∷ (shapes (words_rows xs) ++ ys)) (w ++ behind) digit word)

name_lex : (x : t.FullIdent Place) (ys : List Shape) (rest : List ℕ) → ArePrintable (shapes (spell.fullident x)) → is_word (get_or rest 0 0) ≡ false → Lexes ys rest
    → Lexes (shapes (spell.fullident x) ++ ys) (names.name_text (ast.fullident x) ++ rest)
name_lex x ys rest h stops more =
    let w = x.first.0 in
    let behind = words_text x.others ++ rest in
    let tail = words_lex x.others ys rest h.1 stops more in
    let P : List ℕ → Type 0 = λ u. Lexes (shapes (spell.fullident x) ++ ys) u in
    subst P (sym (append_assoc w (words_text x.others) rest)) (front (Ident w) (shapes (words_rows x.others) ++ ys) w behind (word_begins w behind h.0 (words_stop x.others rest stops)) tail)

name_letter : (x : t.FullIdent Place) (rest : List ℕ) → ArePrintable (shapes (spell.fullident x)) → is_letter (get_or (names.name_text (ast.fullident x) ++ rest) 0 0) ≡ true
name_letter x rest h =
    let w = x.first.0 in
    ap (λ u. is_letter (get_or u 0 0)) (append_assoc w (words_text x.others) rest) ∙ letter_first w (words_text x.others ++ rest) h.0

abbrev type_of : Option Place → t.FullIdent Place → t.TypeName Place
type_of dot name = record { leading_dot = dot; name = name }

type_lex : (dot : Option Place) (name : t.FullIdent Place) (ys : List Shape) (rest : List ℕ) → ArePrintable (shapes (spell.typename (type_of dot name)))
    → is_word (get_or rest 0 0) ≡ false → Lexes ys rest
    → Lexes (shapes (spell.typename (type_of dot name)) ++ ys) (type_name_text (ast.typename (type_of dot name)) ++ rest)
type_lex None name ys rest h stops more = name_lex name ys rest h stops more
type_lex (Some dot) name ys rest h stops more =
    let digit = letter_not_digit (get_or (names.name_text (ast.fullident name) ++ rest) 0 0) (name_letter name rest h.1) in
    point_front (shapes (spell.fullident name) ++ ys) (names.name_text (ast.fullident name) ++ rest) digit (name_lex name ys rest h.1 stops more)

-- ---- parts

abbrev text_of : t.Part Place → List ℕ
text_of x = part_text (name_part (ast.part x))

pub part_lex : (x : t.Part Place) (ys : List Shape) (rest : List ℕ) → ArePrintable (shapes (spell.part x)) → is_word (get_or rest 0 0) ≡ false → Lexes ys rest
    → Lexes (shapes (spell.part x) ++ ys) (text_of x ++ rest)
part_lex (t.plain_part x) ys rest h stops more = front (Ident x.0) ys x.0 rest (word_begins x.0 rest h.0 stops) more
part_lex (t.extension_part open_at x close_at) ys rest h stops more =
    let rows = spell.typename x in
    let close = spell.sign spell.close_paren close_at in
    let text = type_name_text (ast.typename x) in
    let last = mark_front 41 ys rest refl (λ e. omega arith) (λ e. omega arith) more in
    let inside = type_lex x.leading_dot x.name (Mark 41 ∷ ys) (41 ∷ rest) (front-print rows close h.1) refl last in
    let P : List ℕ → Type 0 = λ u. Lexes (Mark 40 ∷ (shapes rows ++ (Mark 41 ∷ ys))) (40 ∷ u) in
    let Q : List Shape → Type 0 = λ ss. Lexes (Mark 40 ∷ ss) (text_of (t.extension_part open_at x close_at) ++ rest) in
    let all = mark_front 40 (shapes rows ++ (Mark 41 ∷ ys)) (text ++ (41 ∷ rest)) refl (λ e. omega arith) (λ e. omega arith) inside in
    subst Q (sym (joined rows close ys)) (subst P (sym (append_assoc text (41 ∷ []) rest)) all)

-- A part doesn't begin with a digit.
part_first : (x : t.Part Place) (rest : List ℕ) → ArePrintable (shapes (spell.part x)) → is_ascii_digit (get_or (text_of x ++ rest) 0 0) ≡ false
part_first (t.plain_part x) rest h = letter_not_digit (get_or (x.0 ++ rest) 0 0) (letter_first x.0 rest h.0)
part_first (t.extension_part open_at x close_at) rest h = refl

-- The parts after the first, each with its dot.
abbrev pub parts_rows : List (Place × t.Part Place) → Rows Place
parts_rows xs = spell.many (spell.behind spell.dot spell.part) xs

abbrev pub parts_text : List (Place × t.Part Place) → List ℕ
parts_text xs = flat_map later_part_text (map name_part (map (λ y. ast.part y.1) xs))

pub parts_stop : (xs : List (Place × t.Part Place)) (rest : List ℕ) → is_word (get_or rest 0 0) ≡ false → is_word (get_or (parts_text xs ++ rest) 0 0) ≡ false
parts_stop [] rest h = h
parts_stop (x ∷ xs) rest h = refl

pub parts_lex : (xs : List (Place × t.Part Place)) (ys : List Shape) (rest : List ℕ) → ArePrintable (shapes (parts_rows xs)) → is_word (get_or rest 0 0) ≡ false → Lexes ys rest
    → Lexes (shapes (parts_rows xs) ++ ys) (parts_text xs ++ rest)
parts_lex [] ys rest h stops more = more
parts_lex (x ∷ xs) ys rest h stops more =
    let here = spell.part x.1 in
    let text = text_of x.1 in
    let behind = parts_text xs ++ rest in
    let print = front-print here (parts_rows xs) h.1 in
    let tail = parts_lex xs ys rest (behind-print here (parts_rows xs) h.1) stops more in
    let part = part_lex x.1 (shapes (parts_rows xs) ++ ys) behind print (parts_stop xs rest stops) tail in
    let P : List ℕ → Type 0 = λ u. Lexes (Mark 46 ∷ (shapes here ++ (shapes (parts_rows xs) ++ ys))) (46 ∷ u) in
    let Q : List Shape → Type 0 = λ ss. Lexes (Mark 46 ∷ ss) (parts_text (x ∷ xs) ++ rest) in
    let all = point_front (shapes here ++ (shapes (parts_rows xs) ++ ys)) (text ++ behind) (part_first x.1 behind print) part in
    subst Q (sym (joined here (parts_rows xs) ys)) (subst P (sym (append_assoc text (parts_text xs) rest)) all)
