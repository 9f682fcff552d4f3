-- Where notes stand among steps: each right after the last row that it is about.
use Rattle.std.proofs.Common.{◌≡◌, Bool, true, false, ◌||◌, [], ◌∷◌, ◌++◌, Option, Some, None, refl, sym, ap, subst, ◌∙◌, append_assoc}
use Rattle.std.specs.Prelude.{◌==◌}
use Rattle.std.proofs.lemmas.List.{append-nil}
use Rattle.protox_lexeme.specs.Shapes.{Shape, Mark, Row, Rows}
use Rattle.protox_ast.specs.CheckedNodes.{node_end}
use Rattle.protox_ast.specs.Truth.{is_run}
use Rattle.protox_ast.specs.Spelling as s
use Rattle.protox_grammar.specs.Reader.{head_in, is_string}
use Rattle.protox_grammar.specs.Steps.{Event, ANode, APackage, AKeyword, ADeepBody, ADeeperBody, AnOpenBrace, ACloseBrace, Token, Note, Steps, is_too_deep, tokens, plainly}
use Rattle.protox_grammar.proofs.StepLists.{Quiet, tokens-append}

-- The last row that a note is about.
abbrev pub event_end : {M : Type 0} → Event M → M
event_end (ANode x) = node_end x
event_end (APackage x) = x.end
event_end (AKeyword m) = m
event_end (ADeepBody m) = m
event_end (ADeeperBody m) = m
event_end (AnOpenBrace m) = m
event_end (ACloseBrace m) = m

abbrev pub is_run_event : {M : Type 0} → Event M → Bool
is_run_event (ANode x) = is_run x
is_run_event _ = false

-- The last of these rows, or else the row before them.
abbrev pub last_row : {M : Type 0} → Option (Row M) → Rows M → Option (Row M)
last_row before [] = before
last_row before (r ∷ rs) = last_row (Some r) rs

abbrev pub is_string_row : {M : Type 0} → Option (Row M) → Bool
is_string_row None = false
is_string_row (Some r) = is_string r.shape

-- The event is a brace of an aggregate.
abbrev pub is_brace_event : {M : Type 0} → Event M → Bool
is_brace_event (AnOpenBrace m) = true
is_brace_event (ACloseBrace m) = true
is_brace_event _ = false

abbrev pub is_brace : Shape → Bool
is_brace (Mark b) = (b == s.open_brace) || (b == s.close_brace)
is_brace _ = false

-- A note stands after the last row of its event. After a string only runs of strings are noted, and
-- each run is taken whole. After a brace only braces of aggregates are noted, or that a body is too
-- deep.
abbrev pub IsPlaced : {M : Type 0} → Option (Row M) → Event M → Rows M → Type 0
IsPlaced None e rest = ⊥
IsPlaced (Some r) e rest = (r.at ≡ event_end e) × (is_string r.shape ≡ is_run_event e) × (is_run_event e ≡ true → head_in is_string rest ≡ false) × (is_too_deep e ≡ false → is_brace_event e ≡ is_brace r.shape)

-- Each note among these steps stands after the last row of its event. The steps come after this row
-- and before those.
abbrev pub ArePlaced : {M : Type 0} → Option (Row M) → Steps M → Rows M → Type 0
ArePlaced last [] z = Unit {0}
ArePlaced last (Token r ∷ l) z = ArePlaced (Some r) l z
ArePlaced last (Note e ∷ l) z = IsPlaced last e (tokens l ++ z) × ArePlaced last l z

placed-first : {M : Type 0} (o : Option (Row M)) (k : Steps M) (z : Rows M) → Quiet k → ArePlaced None k z → ArePlaced o k z
placed-first o [] z q h = tt
placed-first o (Token r ∷ k) z q h = h
placed-first o (Note e ∷ k) z q h = absurd q

pub placed-append : {M : Type 0} (o : Option (Row M)) (l k : Steps M) (z : Rows M) → ArePlaced o l (tokens k ++ z) → Quiet k → ArePlaced None k z → ArePlaced o (l ++ k) z
placed-append o [] k z h q g = placed-first o k z q g
placed-append o (Token r ∷ l) k z h q g = placed-append (Some r) l k z h q g
placed-append o (Note e ∷ l) k z h q g =
    (subst (λ v. IsPlaced o e v) (sym (append_assoc (tokens l) (tokens k) z) ∙ ap (λ v. v ++ z) (sym (tokens-append l k))) h.0, placed-append o l k z h.1 q g)

pub placed-front : {M : Type 0} (o : Option (Row M)) (l k : Steps M) (z : Rows M) → ArePlaced o (l ++ k) z → ArePlaced o l (tokens k ++ z)
placed-front o [] k z h = tt
placed-front o (Token r ∷ l) k z h = placed-front (Some r) l k z h
placed-front o (Note e ∷ l) k z h =
    (subst (λ v. IsPlaced o e v) (ap (λ v. v ++ z) (tokens-append l k) ∙ append_assoc (tokens l) (tokens k) z) h.0, placed-front o l k z h.1)

pub placed-note : {M : Type 0} (o : Option (Row M)) (l : Steps M) (e : Event M) (z : Rows M) → ArePlaced o l z → IsPlaced (last_row o (tokens l)) e z → ArePlaced o (l ++ (Note e ∷ [])) z
placed-note o [] e z h p = (p, tt)
placed-note o (Token r ∷ l) e z h p = placed-note (Some r) l e z h p
placed-note {M} o (Note d ∷ l) e z h p = (subst (λ v. IsPlaced o d (v ++ z)) (sym (same l)) h.0, placed-note o l e z h.1 p)
  where
    same : (l : Steps M) → tokens (l ++ (Note e ∷ [])) ≡ tokens l
    same l = tokens-append l (Note e ∷ []) ∙ append-nil (tokens l)

pub placed-plainly : {M : Type 0} (o : Option (Row M)) (rs z : Rows M) → ArePlaced o (plainly rs) z
placed-plainly o [] z = tt
placed-plainly o (r ∷ rs) z = placed-plainly (Some r) rs z

pub last-past : {M : Type 0} (o : Option (Row M)) (ys : Rows M) (s : Row M) (gs : Rows M) → last_row o (ys ++ (s ∷ gs)) ≡ last_row None (s ∷ gs)
last-past o [] s gs = refl
last-past o (y ∷ ys) s gs = last-past (Some y) ys s gs
