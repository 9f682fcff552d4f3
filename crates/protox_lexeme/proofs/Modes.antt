-- Integers, strings and block comments have the same faults in each mode.
use Rattle.std.proofs.Common.{◌≡◌, ◌∙◌, sym, zero, suc, arith, ◌<◌, ℕ, ◌+◌, length, Bool, true, false, not, cond, List, [], ◌∷◌, ◌++◌, refl, get_or, drop, take, ap, Option, Some, None}
use Rattle.std.specs.Prelude.{filter}
use Rattle.std.proofs.lemmas.List.{take_more}
use Rattle.std.proofs.lemmas.List.Elements.{filter-append}
use Rattle.protox_fault.specs.declared.error.ParseErrorKind.{ParseErrorKind}
use Rattle.protox_fault.specs.declared.error.ParseErrorKind.TheVariants.{InvalidStringEscape, InvalidStringCharacters, NoSpaceBetweenIntAndIdent, IntegerOutOfRange}
use Rattle.protox_fault.specs.Faults.{Span, span_from, is_of_mode, faults_in}
use Rattle.protox_lexeme.specs.BlockComments.{Mark, opens, closes, Ending, marks_of, ending, nested_fault, nested_faults, faults_to}
use Rattle.protox_lexeme.specs.Lexemes.{in_mode, block_comment, string, integer, range_faults, value_fits}
use Rattle.protox_lexeme.specs.Strings as spec

abbrev kept : List ParseErrorKind → List ParseErrorKind
kept fs = filter (λ f. not (is_of_mode f)) fs

closed_kept : (bad : spec.Bad) (at : ℕ) (fs gs : List ParseErrorKind) → kept fs ≡ gs → kept (spec.closed bad at ++ fs) ≡ spec.closed bad at ++ gs
closed_kept None at fs gs e = e
closed_kept (Some (true, from)) at fs gs e = ap (λ t. InvalidStringEscape (span_from from at) ∷ t) e
closed_kept (Some (false, from)) at fs gs e = ap (λ t. InvalidStringCharacters (span_from from at) ∷ t) e

closed_alone : (bad : spec.Bad) (at : ℕ) → kept (spec.closed bad at) ≡ spec.closed bad at
closed_alone None at = refl
closed_alone (Some (true, from)) at = refl
closed_alone (Some (false, from)) at = refl

faults_kept : (bad : spec.Bad) (at : ℕ) (ps : List spec.Piece) → kept (spec.faults_of bad at ps) ≡ spec.faults_of bad at ps
faults_kept bad at [] = closed_kept bad at _ _ refl
faults_kept bad at (spec.run bytes ∷ ps) = closed_kept bad at _ _ (faults_kept None _ ps)
faults_kept bad at (spec.adds bytes n ∷ ps) = closed_kept bad at _ _ (faults_kept None _ ps)
faults_kept bad at (spec.wrong is_escape n ∷ ps) = faults_kept (spec.opened bad is_escape at) (at + n) ps
faults_kept bad at (spec.ends ∷ ps) = closed_alone bad at
faults_kept bad at (spec.breaks ∷ ps) = closed_kept bad at _ _ refl

pub string_in_mode : (text_format : Bool) (at : ℕ) (text : List ℕ) → in_mode text_format (string at text) ≡ string at text
string_in_mode true at text = ap (λ fs. record (string at text) { faults = fs }) (faults_kept None (at + 1) (spec.pieces (get_or text 0 0) (drop 1 text)))
string_in_mode false at text = refl

space_kept : (b : Bool) (s : Span) (fs gs : List ParseErrorKind) → kept fs ≡ gs → kept (cond b (NoSpaceBetweenIntAndIdent s ∷ []) [] ++ fs) ≡ cond b (NoSpaceBetweenIntAndIdent s ∷ []) [] ++ gs
space_kept true s fs gs e = ap (λ t. NoSpaceBetweenIntAndIdent s ∷ t) e
space_kept false s fs gs e = e

range_kept : (b : Bool) (s : Span) → kept (cond b [] (IntegerOutOfRange s ∷ [])) ≡ cond b [] (IntegerOutOfRange s ∷ [])
range_kept true s = refl
range_kept false s = refl

pub integer_in_mode : (text_format : Bool) (at : ℕ) (text : List ℕ) (n : ℕ) → in_mode text_format (integer at text n) ≡ integer at text n
integer_in_mode true at text n = ap (λ fs. record (integer at text n) { faults = fs }) (space_kept _ _ (range_faults at (take n text)) _ (range_kept (value_fits (take n text)) _))
integer_in_mode false at text n = refl

nested_kept : (start : ℕ) (ms : List Mark) (fs gs : List ParseErrorKind) → kept fs ≡ gs → kept (nested_faults start ms ++ fs) ≡ nested_faults start ms ++ gs
nested_kept start [] fs gs e = e
nested_kept start (opens at ∷ ms) fs gs e = ap (λ t. nested_fault start at ∷ t) (nested_kept start ms fs gs e)
nested_kept start (closes at ∷ ms) fs gs e = nested_kept start ms fs gs e

nested_alone : (start : ℕ) (ms : List Mark) → kept (nested_faults start ms) ≡ nested_faults start ms
nested_alone start [] = refl
nested_alone start (opens at ∷ ms) = ap (λ t. nested_fault start at ∷ t) (nested_alone start ms)
nested_alone start (closes at ∷ ms) = nested_alone start ms

to_kept : (start : ℕ) (ms : List Mark) (end : Option Ending) → kept (faults_to start ms end) ≡ faults_to start ms end
to_kept start ms None = nested_kept start ms _ _ refl
to_kept start ms (Some e) = nested_alone start e.before

pub block_in_mode : (text_format : Bool) (at : ℕ) (text : List ℕ) → in_mode text_format (block_comment at text) ≡ block_comment at text
block_in_mode true at text = ap (λ fs. record (block_comment at text) { faults = fs }) (to_kept at (marks_of text) (ending (marks_of text)))
block_in_mode false at text = refl

front_nil : (xs ys : List ParseErrorKind) → xs ++ ys ≡ [] → xs ≡ []
front_nil [] ys e = refl
front_nil (x ∷ xs) ys e = absurd (cc)

back_nil : (xs ys : List ParseErrorKind) → xs ++ ys ≡ [] → ys ≡ []
back_nil [] ys e = e
back_nil (x ∷ xs) ys e = absurd (cc)

pub faults_in_append : (text_format : Bool) (xs ys : List ParseErrorKind) → faults_in text_format (xs ++ ys) ≡ faults_in text_format xs ++ faults_in text_format ys
faults_in_append true xs ys = filter-append (λ f. not (is_of_mode f)) xs ys
faults_in_append false xs ys = refl

-- the faults up to the next one
pub faults_in_step : (text_format : Bool) (xs : List ParseErrorKind) (i : ℕ) (d : ParseErrorKind) → i < length xs
    → faults_in text_format (take (i + 1) xs) ≡ faults_in text_format (take i xs) ++ faults_in text_format (get_or xs i d ∷ [])
faults_in_step text_format xs i d h = ap (faults_in text_format) (take_more xs i d h) ∙ faults_in_append text_format (take i xs) (get_or xs i d ∷ [])

-- If no fault counts in the mode, the next one doesn't.
pub none_in_step : (text_format : Bool) (xs : List ParseErrorKind) (i : ℕ) (d : ParseErrorKind) → i < length xs → faults_in text_format xs ≡ [] → faults_in text_format (get_or xs i d ∷ []) ≡ []
none_in_step text_format [] i d h e = absurd (omega arith)
none_in_step text_format (x ∷ xs) zero d h e = front_nil (faults_in text_format (x ∷ [])) (faults_in text_format xs) (sym (faults_in_append text_format (x ∷ []) xs) ∙ e)
none_in_step text_format (x ∷ xs) (suc i) d h e =
    none_in_step text_format xs i d (omega arith) (back_nil (faults_in text_format (x ∷ [])) (faults_in text_format xs) (sym (faults_in_append text_format (x ∷ []) xs) ∙ e))
