-- A step of the lexer.
use Rattle.std.proofs.Common.{◌≡◌, ℕ, ◌+◌, ◌-◌, ◌<◌, ◌≤◌, true, List, [], ◌∷◌, ◌++◌, length, drop, refl, sym, ap, ◌∙◌, subst, drop-drop, length-drop, arith, Some, Result}
use Rattle.std.proofs.lemmas.Str.{IsCharBoundary-from_rest}
use Rattle.std.specs.Str.{IsCharBoundary}
use Rattle.protox_lexeme.specs.declared.token.Token.{Token}
use Rattle.protox_lexeme.specs.Lexemes.{Lexeme, first_lexeme, blanks, cut}
use Rattle.protox_fault.specs.Faults.{faults_in}
use Rattle.protox_lexeme.specs.State.{State, Answers, TakesNone, NextTakesNone}
use Rattle.protox_lexeme.specs.Tokens.{shape_of_result, borrowed_of_result}
use Rattle.protox_lexeme.proofs.Cut.{cut_some, first_moves}

-- Where a lexeme ends, in the source.
pub step_boundary : (source rest text : List ℕ) (at n start stop : ℕ) → at ≤ length source → rest ≡ drop at source → n ≤ length rest → text ≡ drop n rest
    → start ≡ at + n → start < stop → IsCharBoundary text (stop - start) → IsCharBoundary source stop
step_boundary source rest text at n start stop inside e room f g moves b =
    let whole : text ≡ drop start source = f ∙ ap (drop n) e ∙ drop-drop n at source ∙ ap (λ k. drop k source) (sym g) in
    let size = length-drop at source in
    let long : length rest ≡ length source - at = ap length e ∙ size in
    let P : List ℕ → Type 0 = λ t. IsCharBoundary t (stop - start) in
    let Q : ℕ → Type 0 = λ k. IsCharBoundary source k in
    let back : start + (stop - start) ≡ stop = omega arith in
    subst Q back (IsCharBoundary-from_rest source start (stop - start) (omega arith) (subst P whole b))

pub step_cut : (source rest text : List ℕ) (at n start stop : ℕ) → rest ≡ drop at source → n ≡ blanks rest → text ≡ drop (blanks rest) rest → 0 < length text
    → start ≡ at + n → stop ≡ (first_lexeme start text).stop → cut at (drop at source) ≡ first_lexeme start text ∷ cut stop (drop stop source)
step_cut source rest text at n start stop e blank f some_text g h =
    let size = length-drop (blanks rest) rest in
    let long : length text ≡ length rest - blanks rest = ap length f ∙ size in
    let turn = cut_some at rest (omega arith) in
    let here : start ≡ at + blanks rest = g ∙ ap (λ k. at + k) blank in
    let same : first_lexeme (at + blanks rest) (drop (blanks rest) rest) ≡ first_lexeme start text = rw (here, f) refl in
    let moves = first_moves start text in
    let past : drop (stop - at) rest ≡ drop stop source = ap (drop (stop - at)) e ∙ drop-drop (stop - at) at source ∙ (let k : at + (stop - at) ≡ stop = omega arith in ap (λ i. drop i source) k) in
    ap (cut at) (sym e) ∙ turn ∙ rw (same, ← h, past) refl

pub answers : (old new : State) (r : Result Token (Unit {0})) (x : Lexeme) → old.left ≡ x ∷ new.left → shape_of_result r ≡ x.shape → borrowed_of_result r ≡ x.borrowed
    → new.source ≡ old.source → new.start ≡ x.start → new.stop ≡ x.stop → new.errors ≡ old.errors ++ faults_in old.text_format x.faults
    → new.text_format ≡ old.text_format → new.failed ≡ old.failed → Answers old (Some r) new
answers old new r x left shape borrowed source start stop errors mode failed = (x, left, shape, borrowed, rw (← errors, ← source, ← start, ← stop, ← mode, ← failed) refl)

pub takes_none : (s : State) (x : Lexeme) (xs : List Lexeme) → s.left ≡ x ∷ xs → TakesNone s → (x.borrowed ≡ true) × (faults_in s.text_format x.faults ≡ [])
takes_none s x xs e h = let P : List Lexeme → Type 0 = λ l. NextTakesNone s.text_format l in subst P e h
