-- Where rows stand, and where their faults lie.
use Rattle.std.proofs.Common.{◌≡◌, ℕ, ◌+◌, ◌-◌, ◌<◌, ◌≤◌, inl, inr, List, [], ◌∷◌, length, drop, refl, ap, ◌∙◌, subst, length-drop, drop-drop, arith, le_refl}
use Rattle.std.proofs.lemmas.Bool.{cases_Bool}
use Rattle.std.specs.List.{All}
use Rattle.std.specs.Str.{IsUtf8}
use Rattle.protox_fault.specs.declared.error.ParseErrorKind.{ParseErrorKind}
use Rattle.protox_fault.specs.Faults.{LiesIn, SpanLiesIn, Span, span_from}
use Rattle.protox_lexeme.specs.Shapes.{Shape, Invalid}
use Rattle.protox_lexeme.specs.Lexemes.{Lexeme, IsCut, cut, blanks}
use Rattle.protox_lexeme.specs.Table.{is_gap, in_front, rows_of, faults_of, invalid_faults, StandBetween}
use Rattle.protox_lexeme.proofs.Boundaries.{blanks_boundary}
use Rattle.protox_lexeme.proofs.Cut.{cut_is_cut}
use Rattle.protox_lexeme.proofs.Extents.{Stands, lexeme_stands}
use Rattle.protox_lexeme.proofs.Each.{Every, every_append, all_every}
use Rattle.protox_lexeme.proofs.FaultPlaces.{lexeme_lie}
use Rattle.std.proofs.lemmas.Str.{IsUtf8-drop}

-- What stands after the blanks is valid UTF-8.
after_blanks : (text : List ℕ) → IsUtf8 text → IsUtf8 (drop (blanks text) text)
after_blanks text u = IsUtf8-drop text (blanks text) u (blanks_boundary text (blanks text) refl u)

-- The lexeme after the blanks.
behind_blanks : (at : ℕ) (text : List ℕ) (x : Lexeme) (xs : List Lexeme) → IsCut at text (x ∷ xs) → IsUtf8 text → Stands (at + blanks text) (drop (blanks text) text) x
behind_blanks at text x xs (some, is_lexeme, rest) u =
    lexeme_stands (at + blanks text) (drop (blanks text) text) x is_lexeme (after_blanks text u) (omega (arith, length-drop (blanks text) text))

-- what follows it
record Follows (at : ℕ) (text : List ℕ) (x : Lexeme) : Type 0 where
  utf8 : IsUtf8 (drop (x.stop - at) text)
  whole : x.stop + length (drop (x.stop - at) text) ≡ at + length text

follows : (at : ℕ) (text : List ℕ) (x : Lexeme) → blanks text < length text → Stands (at + blanks text) (drop (blanks text) text) x → Follows at text x
follows at text x some s =
    let P : List ℕ → Type 0 = λ t. IsUtf8 t in
    let size = length-drop (blanks text) text in
    let past : blanks text + (x.stop - (at + blanks text)) ≡ x.stop - at = omega (arith, s.some) in
    record {
      utf8 = subst P (drop-drop (x.stop - (at + blanks text)) (blanks text) text ∙ ap (λ k. drop k text) past) s.rest;
      whole = omega (arith, s.some, s.within, length-drop (x.stop - at) text);
    }

stand_from : (at low : ℕ) (text : List ℕ) (xs : List Lexeme) → IsCut at text xs → IsUtf8 text → low ≤ at → StandBetween low (at + length text) (rows_of xs)
stand_from at low text [] is_cut u h = omega arith
stand_from at low text (x ∷ xs) is_cut u h =
    let s = behind_blanks at text x xs is_cut u in
    let f = follows at text x is_cut.0 s in
    let next = λ (from : ℕ) (below : from ≤ x.stop). let P : ℕ → Type 0 = λ k. StandBetween from k (rows_of xs) in subst P f.whole (stand_from x.stop from (drop (x.stop - at) text) xs is_cut.2 f.utf8 below) in
    elim (cases_Bool (is_gap x.shape)) [
      | inl gap ↦ rw gap (next low (omega (arith, s.some)))
      | inr row ↦ rw row (omega (arith, s.start), omega (arith, s.start, s.some), next x.stop (le_refl x.stop))
    ]

-- The rows of a source stand in it, one after another.
pub stand : (source : List ℕ) → IsUtf8 source → StandBetween 0 (length source) (rows_of (cut 0 source))
stand source u = let P : ℕ → Type 0 = λ k. StandBetween 0 k (rows_of (cut 0 source)) in let e : 0 + length source ≡ length source = omega arith in
    subst P e (stand_from 0 0 source (cut 0 source) (cut_is_cut 0 source) u (le_refl 0))

-- ---- faults

in_front_every : (P : ParseErrorKind → Type 0) (fs : List ParseErrorKind) (xss : List (List ParseErrorKind)) → Every P fs → Every (Every P) xss → Every (Every P) (in_front fs xss)
in_front_every P fs [] h k = tt
in_front_every P fs (xs ∷ xss) h (here, k) = (every_append P fs xs h here, k)

invalid_lie : (size : ℕ) (shape : Shape) (span : Span) → SpanLiesIn size span → Every (LiesIn size) (invalid_faults shape span)
invalid_lie size Invalid span h = (h, tt)
invalid_lie size _ span h = tt

lie_from : (size at : ℕ) (text : List ℕ) (xs : List Lexeme) → IsCut at text xs → IsUtf8 text → at + length text ≤ size → Every (Every (LiesIn size)) (faults_of xs)
lie_from size at text [] is_cut u h = (tt, tt)
lie_from size at text (x ∷ xs) is_cut u h =
    let s = behind_blanks at text x xs is_cut u in
    let f = follows at text x is_cut.0 s in
    let next = lie_from size x.stop (drop (x.stop - at) text) xs is_cut.2 f.utf8 (omega (arith, f.whole)) in
    let own = lexeme_lie size (at + blanks text) (drop (blanks text) text) x is_cut.1 (omega (arith, length-drop (blanks text) text)) s in
    elim (cases_Bool (is_gap x.shape)) [
      | inl gap ↦ rw gap (in_front_every (LiesIn size) x.faults (faults_of xs) own next)
      | inr row ↦
          rw row (every_append (LiesIn size) x.faults _ own (invalid_lie size x.shape (span_from x.start x.stop) (omega (arith, s.start, s.some), omega (arith, s.within, length-drop (blanks text) text))), next)
    ]

-- Each fault in the table of a source lies in the source.
pub lie : (source : List ℕ) → IsUtf8 source → All (All (LiesIn (length source))) (faults_of (cut 0 source))
lie source u =
    all_every (Every (LiesIn (length source))) (All (LiesIn (length source))) (faults_of (cut 0 source)) (λ fs h. all_every (LiesIn (length source)) (LiesIn (length source)) fs (λ f k. k) h)
    (lie_from (length source) 0 source (cut 0 source) (cut_is_cut 0 source) u (omega arith))
