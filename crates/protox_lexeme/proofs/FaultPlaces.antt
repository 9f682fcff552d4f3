-- The faults of a lexeme lie in the source.
use Rattle.std.proofs.Common.{◌≡◌, ℕ, zero, suc, ◌+◌, ◌<◌, ◌≤◌, Bool, true, false, not, ◌&&◌, ◌==◌, eqb, inl, inr, List, [], ◌∷◌, length, take, drop, get_or, refl, sym, ◌∙◌, subst, length-drop, length-take-le, arith, le_refl, Option, Some, None}
use Rattle.std.proofs.lemmas.Bool.{cases_Bool, false≢true, and_parts}
use Rattle.std.proofs.lemmas.Bool.Decides.{nat_tests}
use Rattle.std.proofs.lemmas.List.Sums.{prefix_len-le-length}
use Rattle.std.specs.Prelude.{if◌then◌else◌}
use Rattle.std.specs.Char.{is_ascii_alphabetic}
use Rattle.protox_fault.specs.declared.error.ParseErrorKind.{ParseErrorKind}
use Rattle.protox_fault.specs.declared.error.ParseErrorKind.TheVariants.{IntegerOutOfRange}
use Rattle.protox_lexeme.specs.declared.scan.Kind.{Kind}
use Rattle.protox_lexeme.specs.declared.scan.Kind.TheVariants.{Identifier, Integer, Float, String, Mark, LineComment, BlockComment, Newline}
use Rattle.protox_fault.specs.Faults.{LiesIn, span_from}
use Rattle.protox_lexeme.specs.Lexemes.{Lexeme, IsLexeme, lexeme, prefix_of, value_fits, has_suffix, space_faults, range_faults, suffix_faults, hash_faults}
use Rattle.protox_lexeme.specs.Lexicon.{pattern, is_letter, is_x}
use Rattle.protox_lexeme.specs.Pattern.{Fits}
use Rattle.protox_lexeme.specs.BlockComments.{Mark as CommentMark, opens, closes, Ending, ending, marks_of, nested_faults, faults_to}
use Rattle.protox_lexeme.specs.Strings as spec
use Rattle.protox_lexeme.proofs.BlockExtent.{Lies, EndLies, ending_lies, marks_lie}
use Rattle.protox_lexeme.proofs.Each.{Every, every_append}
use Rattle.protox_lexeme.proofs.Extents.{Stands}
use Rattle.protox_lexeme.proofs.Fitting.{fits_within}

-- ---- numbers and comments

not_one : (n : ℕ) → 2 ≤ n → eqb n 1 ≡ false
not_one n h = grind (arith, nat_tests)

prefix_within : (word : List ℕ) → prefix_of word ≤ length word
prefix_within [] = le_refl 0
prefix_within (b ∷ []) = elim (cases_Bool (eqb b 48)) [ inl e ↦ rw e (omega arith) | inr e ↦ rw e (omega arith) ]
prefix_within (b ∷ (c ∷ word)) =
    let long = not_one (length (b ∷ (c ∷ word))) (omega arith) in
    elim (cases_Bool (eqb b 48)) [
      | inl e ↦ elim (cases_Bool (is_x c)) [ inl x ↦ rw (e, long, x) (omega arith) | inr x ↦ rw (e, long, x) (omega arith) ]
      | inr e ↦ rw e (omega arith)
    ]

-- If 0 doesn't pass, a byte that passes stands in the text.
passes_inside : (p : ℕ → Bool) (text : List ℕ) (n : ℕ) → p 0 ≡ false → p (get_or text n 0) ≡ true → n < length text
passes_inside p [] n z h = absurd (false≢true (sym z ∙ h))
passes_inside p (b ∷ text) zero z h = omega arith
passes_inside p (b ∷ text) (suc n) z h = let more = passes_inside p text n z h in omega arith

if_one : (size : ℕ) (b : Bool) (f : ParseErrorKind) → (b ≡ true → LiesIn size f) → Every (LiesIn size) (if b then f ∷ [] else [])
if_one size true f h = (h refl, tt)
if_one size false f h = tt

space_lie : (size at : ℕ) (text : List ℕ) (n : ℕ) → n ≤ length text → at + length text ≤ size → Every (LiesIn size) (space_faults at text n)
space_lie size at text n within whole =
    let word = take n text in
    let prefix = prefix_within word in
    let letters = prefix_len-le-length is_ascii_alphabetic (drop (n + 1) text) in
    if_one size _ _ (λ both.
    let (bare, letter) = and_parts (not (prefix_of word == 0 && get_or text 0 0 == 48)) (is_letter (get_or text n 0)) both in
    let inside = passes_inside is_letter text n refl letter in
    (omega (arith, length-take-le n text within), omega (arith, length-drop (n + 1) text)))

range_lie : (size at : ℕ) (word : List ℕ) → at + length word ≤ size → Every (LiesIn size) (range_faults at word)
range_lie size at word whole = go (value_fits word) where
  go : (b : Bool) → Every (LiesIn size) (if b then [] else IntegerOutOfRange (span_from (at + prefix_of word) (at + length word)) ∷ [])
  go true = tt
  go false = ((omega (arith, prefix_within word), whole), tt)

suffix_lie : (size at : ℕ) (word : List ℕ) → at + length word ≤ size → Every (LiesIn size) (suffix_faults at word)
suffix_lie size at word whole = if_one size (has_suffix word) _ (λ e. (omega arith, whole))

hash_lie : (size at : ℕ) (word : List ℕ) → at + length word ≤ size → Every (LiesIn size) (hash_faults at word)
hash_lie size at word whole = if_one size (get_or word 0 0 == 35) _ (λ e. (omega arith, whole))

-- ---- strings

-- The run of invalid pieces begins before this place.
abbrev BeginsBefore : spec.Bad → ℕ → Type 0
BeginsBefore None at = Unit {0}
BeginsBefore (Some o) at = o.1 ≤ at

closed_lie : (size : ℕ) (bad : spec.Bad) (at : ℕ) → BeginsBefore bad at → at ≤ size → Every (LiesIn size) (spec.closed bad at)
closed_lie size None at h within = tt
closed_lie size (Some (true, from)) at h within = ((h, within), tt)
closed_lie size (Some (false, from)) at h within = ((h, within), tt)

opened_before : (bad : spec.Bad) (is_escape : Bool) (at n : ℕ) → BeginsBefore bad at → BeginsBefore (spec.opened bad is_escape at) (at + n)
opened_before None is_escape at n h = omega arith
opened_before (Some o) is_escape at n h = omega arith

pieces_lie : (size : ℕ) (bad : spec.Bad) (at : ℕ) (ps : List spec.Piece) → BeginsBefore bad at → at + spec.len_of ps ≤ size → Every (LiesIn size) (spec.faults_of bad at ps)
pieces_lie size bad at [] h within = every_append (LiesIn size) (spec.closed bad at) _ (closed_lie size bad at h (omega arith)) (tt, tt)
pieces_lie size bad at (spec.run bytes ∷ ps) h within =
    every_append (LiesIn size) (spec.closed bad at) _ (closed_lie size bad at h (omega arith)) (pieces_lie size None (at + length bytes) ps tt (omega arith))
pieces_lie size bad at (spec.adds bytes n ∷ ps) h within =
    every_append (LiesIn size) (spec.closed bad at) _ (closed_lie size bad at h (omega arith)) (pieces_lie size None (at + n) ps tt (omega arith))
pieces_lie size bad at (spec.wrong is_escape n ∷ ps) h within = pieces_lie size (spec.opened bad is_escape at) (at + n) ps (opened_before bad is_escape at n h) (omega arith)
pieces_lie size bad at (spec.ends ∷ ps) h within = closed_lie size bad at h (omega arith)
pieces_lie size bad at (spec.breaks ∷ ps) h within = every_append (LiesIn size) (spec.closed bad at) _ (closed_lie size bad at h (omega arith)) ((omega arith, omega arith), tt)

-- ---- block comments

nested_lie : (size start : ℕ) (text : List ℕ) (ms : List CommentMark) → Every (Lies text) ms → start + length text ≤ size → Every (LiesIn size) (nested_faults start ms)
nested_lie size start text [] h whole = tt
nested_lie size start text (opens at ∷ ms) (here, h) whole = ((omega arith, omega arith), nested_lie size start text ms h whole)
nested_lie size start text (closes at ∷ ms) (here, h) whole = nested_lie size start text ms h whole

to_lie : (size start : ℕ) (text : List ℕ) (ms : List CommentMark) (end : Option Ending) → Every (Lies text) ms → EndLies (Lies text) end → start + length text ≤ size
    → Every (LiesIn size) (faults_to start ms end)
to_lie size start text ms None h e whole = every_append (LiesIn size) (nested_faults start ms) _ (nested_lie size start text ms h whole) (tt, tt)
to_lie size start text ms (Some end) h e whole = nested_lie size start text end.before e.0 whole

-- ---- lexemes

kind_lie : (size : ℕ) (kind : Kind) (at : ℕ) (text : List ℕ) (n : ℕ) → Fits (pattern kind) text n → at + length text ≤ size → (lexeme kind at text n).stop ≤ at + length text
    → Every (LiesIn size) (lexeme kind at text n).faults
kind_lie size Identifier at text n f whole stop = tt
kind_lie size Integer at text n f whole stop =
    let within = fits_within (pattern Integer) text n f in
    every_append (LiesIn size) (space_faults at text n) _ (space_lie size at text n within whole) (range_lie size at (take n text) (omega (arith, length-take-le n text within)))
kind_lie size Float at text n f whole stop =
    let within = fits_within (pattern Float) text n f in suffix_lie size at (take n text) (omega (arith, length-take-le n text within))
kind_lie size String at text n f whole stop = pieces_lie size None (at + 1) (spec.pieces (get_or text 0 0) (drop 1 text)) tt (omega arith)
kind_lie size Mark at text n f whole stop = tt
kind_lie size LineComment at text n f whole stop =
    let within = fits_within (pattern LineComment) text n f in hash_lie size at (take n text) (omega (arith, length-take-le n text within))
kind_lie size BlockComment at text n f whole stop = to_lie size at text (marks_of text) (ending (marks_of text)) (marks_lie text) (ending_lies text) whole
kind_lie size Newline at text n f whole stop = tt

pub lexeme_lie : (size at : ℕ) (text : List ℕ) (x : Lexeme) → IsLexeme at text x → at + length text ≤ size → Stands at text x → Every (LiesIn size) x.faults
lexeme_lie size at text x (inl (kind, n, h, same)) whole s =
    let P : Lexeme → Type 0 = λ y. Every (LiesIn size) y.faults in
    let Q : Lexeme → Type 0 = λ y. y.stop ≤ at + length text in
    subst P (sym same) (kind_lie size kind at text n h.fits whole (subst Q same s.within))
lexeme_lie size at text x (inr (none, same)) whole s = let P : Lexeme → Type 0 = λ y. Every (LiesIn size) y.faults in subst P (sym same) tt
