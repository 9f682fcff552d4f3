-- The modes of the rows up to a fault that is noted. The notes before it tell them, since no brace
-- of an aggregate is noted after the same row.
use Rattle.std.proofs.Common.{◌≡◌, ◌≤◌, ◌<◌, ◌+◌, inl, inr, ◌⊎◌, ℕ, zero, suc, Bool, true, false, cond, List, [], ◌∷◌, ◌++◌, length, Option, Some, None, Result, Ok, Err, refl, sym, ap, subst, ◌∙◌, arith}
use Rattle.std.proofs.lemmas.Bool.{cases_Bool}
use Rattle.std.proofs.lemmas.List.{length-append}
use Rattle.protox_lexeme.specs.Lexemes.{Lexeme}
use Rattle.protox_lexeme.specs.Shapes.{Row, Rows}
use Rattle.protox_lexeme.specs.Table.{rows_of}
use Rattle.protox_ast.specs.Places.{Place}
use Rattle.protox_ast.specs.Spells.{BeginsFile, shapes}
use Rattle.protox_ast.specs.Tree as t
use Rattle.protox_grammar.specs.CheckLaws.{levels}
use Rattle.protox_grammar.specs.TagLaws.{no_place, placed_steps_by, placed_tokens}
use Rattle.protox_grammar.specs.Noted.{open_behind, trace}
use Rattle.protox_grammar.specs.Reader.{Refusal}
use Rattle.protox_grammar.specs.Steps.{Event, ANode, APackage, AKeyword, ADeepBody, ADeeperBody, AnOpenBrace, ACloseBrace, Token, Note, Steps, has_deep, is_too_deep, tokens, until}
use Rattle.protox_grammar.specs.Told.{told}
use Rattle.protox_grammar.proofs.CheckedFirst.{FirstOf, taken-rows}
use Rattle.protox_grammar.proofs.EndsDeep.{stops-ends}
use Rattle.protox_grammar.proofs.FirstCheck.{IsNoBrace}
use Rattle.protox_grammar.proofs.InsideLaws as insides
use Rattle.protox_grammar.proofs.InsideModes.{taken-until}
use Rattle.protox_grammar.proofs.Main as main
use Rattle.protox_grammar.proofs.NotedModes.{mode_at, told-mode}
use Rattle.protox_grammar.proofs.PlaceLaws.{noted_alike}
use Rattle.protox_grammar.proofs.Placing.{ArePlaced, is_brace, last_row}
use Rattle.protox_grammar.proofs.StepLists.{EndsDeep, deep-whole, tokens-append, until-all, until-at-most, until-long, until-note}

-- ---- the notes after one row

-- After a row that is no brace, no brace of an aggregate is noted.
none-open : {M : Type 0} (r : Row M) (c : Steps M) (z : Rows M) (w : Bool) → is_brace r.shape ≡ false → ArePlaced (Some r) c z → open_behind w (until 0 c) ≡ w
none-open r [] z w f p = refl
none-open r (Token q ∷ c) z w f p = refl
none-open r (Note (ANode x) ∷ c) z w f p = none-open r c z w f p.1
none-open r (Note (APackage x) ∷ c) z w f p = none-open r c z w f p.1
none-open r (Note (AKeyword m) ∷ c) z w f p = none-open r c z w f p.1
none-open r (Note (ADeepBody m) ∷ c) z w f p = refl
none-open r (Note (ADeeperBody m) ∷ c) z w f p = refl
none-open r (Note (AnOpenBrace m) ∷ c) z w f p = absurd (let both : true ≡ false = p.0.3 refl ∙ f in cc)
none-open r (Note (ACloseBrace m) ∷ c) z w f p = absurd (let both : true ≡ false = p.0.3 refl ∙ f in cc)

-- After a note that is no brace, none is noted at the same row.
note-open : {M : Type 0} (o : Option (Row M)) (e : Event M) (c : Steps M) (z : Rows M) (w : Bool) → IsNoBrace e → ArePlaced o (Note e ∷ c) z → open_behind w (until 0 (Note e ∷ c)) ≡ w
note-open None e c z w n p = absurd p.0
note-open (Some r) (ANode x) c z w n p = none-open r c z w (sym (p.0.3 refl)) p.1
note-open (Some r) (APackage x) c z w n p = none-open r c z w (sym (p.0.3 refl)) p.1
note-open (Some r) (AKeyword m) c z w n p = none-open r c z w (sym (p.0.3 refl)) p.1
note-open (Some r) (ADeepBody m) c z w n p = refl
note-open (Some r) (ADeeperBody m) c z w n p = refl
note-open (Some r) (AnOpenBrace m) c z w n p = absurd n
note-open (Some r) (ACloseBrace m) c z w n p = absurd n

-- ---- steps up to a note

open-append : {M : Type 0} (v : Bool) (b j : Steps M) → open_behind v (b ++ j) ≡ open_behind (open_behind v b) j
open-append v [] j = refl
open-append v (Token r ∷ b) j = open-append v b j
open-append v (Note (ANode x) ∷ b) j = open-append v b j
open-append v (Note (APackage x) ∷ b) j = open-append v b j
open-append v (Note (AKeyword m) ∷ b) j = open-append v b j
open-append v (Note (ADeepBody m) ∷ b) j = open-append v b j
open-append v (Note (ADeeperBody m) ∷ b) j = open-append v b j
open-append v (Note (AnOpenBrace m) ∷ b) j = open-append true b j
open-append v (Note (ACloseBrace m) ∷ b) j = open-append false b j

-- The steps up to the next row are these, with the notes at their end.
until-behind : {M : Type 0} (b : Steps M) (e : Event M) (c : Steps M) → EndsDeep (b ++ (Note e ∷ c)) → until (length (tokens b)) (b ++ (Note e ∷ c)) ≡ b ++ until 0 (Note e ∷ c)
until-behind [] e c h = refl
until-behind (Token r ∷ b) e c h = ap (λ u. Token r ∷ u) (until-behind b e c h)
until-behind {M} (Note d ∷ b) e c h = until-note (length (tokens b)) d (b ++ (Note e ∷ c)) ∙ under (is_too_deep d) refl ∙ ap (λ u. Note d ∷ u) (until-behind b e c h.1)
  where
    some : (b : Steps M) → b ++ (Note e ∷ c) ≡ [] → ⊥
    some [] q = absurd cc
    some (x ∷ b) q = absurd cc

    under : (v : Bool) → is_too_deep d ≡ v → Note d ∷ cond v [] (until (length (tokens b)) (b ++ (Note e ∷ c))) ≡ Note d ∷ until (length (tokens b)) (b ++ (Note e ∷ c))
    under true q = absurd (some b (h.0 q))
    under false q = refl

ends-front : {M : Type 0} (b : Steps M) (e : Event M) (c : Steps M) → EndsDeep (b ++ (Note e ∷ c)) → EndsDeep b
ends-front [] e c h = tt
ends-front (Token r ∷ b) e c h = ends-front b e c h
ends-front {M} (Note d ∷ b) e c h = ((λ q. absurd (some b (h.0 q))), ends-front b e c h.1)
  where
    some : (b : Steps M) → b ++ (Note e ∷ c) ≡ [] → ⊥
    some [] q = absurd cc
    some (x ∷ b) q = absurd cc

placed-last : {M : Type 0} (o : Option (Row M)) (b j : Steps M) (z : Rows M) → ArePlaced o (b ++ j) z → ArePlaced (last_row o (tokens b)) j z
placed-last o [] j z h = h
placed-last o (Token r ∷ b) j z h = placed-last (Some r) b j z h
placed-last o (Note d ∷ b) j z h = placed-last o b j z h.1

front-open : {M : Type 0} (v : Bool) (b : Steps M) (e : Event M) (c : Steps M) (z : Rows M) → EndsDeep (b ++ (Note e ∷ c)) → ArePlaced None (b ++ (Note e ∷ c)) z → IsNoBrace e
    → open_behind v (until (length (tokens b)) (b ++ (Note e ∷ c))) ≡ open_behind v b
front-open v b e c z ends placed n =
    ap (open_behind v) (until-behind b e c ends) ∙ open-append v b (until 0 (Note e ∷ c)) ∙ note-open (last_row None (tokens b)) e c z (open_behind v b) n (placed-last None b (Note e ∷ c) z placed)

-- ---- the steps of reading

trace-placed : (xs : Rows Place) → (z : Rows Place) × ArePlaced None (trace levels xs) z
trace-placed xs = at ((main.file_at no_place levels).read xs) refl
  where
    at : (r : Result (t.File Place × Rows Place) Refusal) → (main.file_at no_place levels).read xs ≡ r → (z : Rows Place) × ArePlaced None (trace levels xs) z
    at (Ok x) h =
        let l = main.laws no_place levels in
        (x.1, subst (λ u. ArePlaced None u x.1) (sym (l.traced.ok xs x h)) (l.traced.placed x.0 x.1 (l.read.takes xs x h).ends))
    at (Err e) h = let v = (main.laws no_place levels).traced.halts xs e h in (v.rest, v.placed)

pub trace-ends : (xs : Rows Place) → EndsDeep (trace levels xs)
trace-ends xs = stops-ends ((main.file_at no_place levels).read xs) (trace levels xs) ((main.laws no_place levels).traced.stops xs)

-- As many rows are taken as are asked for, if there are so many.
pub taken-all : {M : Type 0} (n : ℕ) (l : Steps M) → EndsDeep l → n ≤ length (tokens l) → length (tokens (until n l)) ≡ n
taken-all n l ends h = elim (cases_Bool (has_deep (until n l))) [
  | inl d ↦ let same = deep-whole n l ends d in omega (arith, h, until-at-most n l, ap (λ u. length (tokens u)) same)
  | inr s ↦ taken-until n l s h
]

-- Some file begins with the tokens up to each one that is taken.
pub begins-at : (lexemes : List Lexeme) (n : ℕ) → n ≤ length (tokens (trace levels (placed_tokens lexemes))) → BeginsFile (shapes (rows_of lexemes)) n
begins-at lexemes n h =
    insides.some-file lexemes n (sym (noted_alike lexemes n).taken ∙ taken-all n (trace levels (placed_tokens lexemes)) (trace-ends (placed_tokens lexemes)) h)

-- ---- modes

-- Whether an aggregate is open after this many tokens.
abbrev pub is_open_behind : List Lexeme → ℕ → Bool
is_open_behind lexemes n = open_behind false (placed_steps_by lexemes n)

-- The notes of all steps tell this.
pub mode-of-all : (lexemes : List Lexeme) (w : Place) (n left : ℕ) → length (placed_tokens lexemes) ≡ n + left
    → mode_at false left (told None w (trace levels (placed_tokens lexemes)) (placed_tokens lexemes)) ≡ is_open_behind lexemes n
mode-of-all lexemes w n left e =
    let rows = placed_tokens lexemes in
    let q = taken-rows rows in
    let within : length (tokens (trace levels rows)) ≤ length rows = omega (arith, ap length q.1, length-append (tokens (trace levels rows)) q.0) in
    told-mode None w (trace levels rows) rows false n left e within (trace-ends rows)

-- So do the notes before the first fault, up to the row after the last one taken.
pub mode-of-front : (lexemes : List Lexeme) (w : Place) (v : FirstOf lexemes w) (n left : ℕ) → length (placed_tokens lexemes) ≡ n + left → n ≤ length (tokens v.before)
    → mode_at false left (told None w v.before (placed_tokens lexemes)) ≡ is_open_behind lexemes n
mode-of-front lexemes w v n left e h =
    let rows = placed_tokens lexemes in
    let l = trace levels rows in
    let parts : l ≡ v.before ++ (Note v.event ∷ v.later) = v.parts in
    let ends : EndsDeep (v.before ++ (Note v.event ∷ v.later)) = subst EndsDeep parts (trace-ends rows) in
    let q = taken-rows rows in
    let within : length (tokens v.before) ≤ length rows = omega (arith, ap length q.1, length-append (tokens l) q.0, ap (λ u. length (tokens u)) parts, ap length (tokens-append v.before (Note v.event ∷ v.later)), length-append (tokens v.before) (tokens v.later)) in
    told-mode None w v.before rows false n left e within (ends-front v.before v.event v.later ends) ∙ same (length (tokens v.before)) refl ends parts (trace-placed rows)
  where
    same : (number : ℕ) → number ≡ length (tokens v.before) → EndsDeep (v.before ++ (Note v.event ∷ v.later)) → trace levels (placed_tokens lexemes) ≡ v.before ++ (Note v.event ∷ v.later)
        → (z : Rows Place) × ArePlaced None (trace levels (placed_tokens lexemes)) z → open_behind false (until n v.before) ≡ is_open_behind lexemes n
    same number count ends parts placed = elim (less-or (length (tokens v.before)) h) [
      | inl less ↦ sym (ap (λ u. open_behind false (until n u)) parts ∙ ap (open_behind false) (until-long n v.before (Note v.event ∷ v.later) less))
      | inr last ↦
          let whole = until-all n v.before (omega (arith, last)) (ends-front v.before v.event v.later ends) in
          let there = front-open false v.before v.event v.later placed.0 ends (subst (λ u. ArePlaced None u placed.0) parts placed.1) v.no_brace in
          ap (open_behind false) whole ∙ sym there ∙ (λ i. open_behind false (until (sym last i) (sym parts i)))
    ]
      where
        less-or : (m : ℕ) → n ≤ m → (n < m) ⊎ (n ≡ m)
        less-or m le = by-order n m le
          where
            by-order : (n m : ℕ) → n ≤ m → (n < m) ⊎ (n ≡ m)
            by-order zero zero le = inr refl
            by-order zero (suc m) le = inl (omega arith)
            by-order (suc n) zero le = absurd (omega (arith, le))
            by-order (suc n) (suc m) le = elim (by-order n m (omega (arith, le))) [
              | inl h ↦ inl (omega (arith, h))
              | inr h ↦ inr (ap suc h)
            ]
