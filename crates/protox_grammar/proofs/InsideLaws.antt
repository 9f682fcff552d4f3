-- Whether a file that begins with some tokens is inside an aggregate there.
use Rattle.std.proofs.Common.{◌≡◌, ◌<◌, ℕ, zero, suc, ◌+◌, Bool, true, false, List, [], ◌∷◌, ◌++◌, length, take, drop, Option, Some, None, refl, sym, ap, subst, ◌∙◌, append_assoc, arith}
use Rattle.std.proofs.lemmas.List.{append-nil, length-append}
use Rattle.protox_lexeme.specs.Lexemes.{Lexeme}
use Rattle.protox_lexeme.specs.Shapes.{Shape, Row}
use Rattle.protox_lexeme.specs.Table.{rows_of}
use Rattle.protox_ast.specs.Tree as t
use Rattle.protox_ast.specs.Spelling as s
use Rattle.protox_ast.specs.Fronts.{aggregates}
use Rattle.protox_ast.specs.Fronts.{GoesOn, numbered, shapes}
use Rattle.protox_grammar.specs.Reader.{head_in, is_string}
use Rattle.protox_grammar.specs.Bodies as rule
use Rattle.protox_grammar.specs.Steps.{tokens, until, has_deep}
use Rattle.protox_grammar.specs.Noted.{steps, trace, open_behind}
use Rattle.protox_grammar.specs.CheckLaws.{InsideIsOpen, OpenIsInside, tokens_of, is_too_deep_by, steps_by}
use Rattle.protox_grammar.proofs.StepLists.{tokens-append, take-front, until-front}
use Rattle.protox_grammar.proofs.Main as main
use Rattle.protox_grammar.proofs.Holding.{Holds, any-holds, holds-any}
use Rattle.protox_grammar.proofs.NotedFiles.{file-marks}
use Rattle.protox_grammar.proofs.Insides.{IsIn, IsStringAt, counts, tells, past-string, past-deep, string-front}
use Rattle.protox_grammar.proofs.Numbers.{numbered-length, shapes-append, shapes-numbered, shapes-length}
use Rattle.protox_grammar.proofs.PassedOver as passed
use Rattle.protox_grammar.proofs.NotedTrue.{Completed, completed-at, remarked}
use Rattle.protox_grammar.proofs.Placing.{last_row, is_string_row, ArePlaced}

-- ---- the last of the first tokens

take-step : {A : Type 0} (m : ℕ) (xs : List A) → take m xs ++ drop m (take (suc m) xs) ≡ take (suc m) xs
take-step zero [] = refl
take-step zero (x ∷ xs) = refl
take-step (suc m) [] = refl
take-step (suc m) (x ∷ xs) = ap (λ u. x ∷ u) (take-step m xs)

next-same : (m k j : ℕ) (a b : List Shape) → m < length a → head_in is_string (numbered k (drop m a)) ≡ head_in is_string (numbered j (drop m (take (suc m) a) ++ b))
next-same m k j [] b h = absurd (omega (arith, h))
next-same zero k j (s ∷ a) b h = refl
next-same (suc m) k j (s ∷ a) b h = next-same m k j a b (omega (arith, h))

last-string : (m k : ℕ) (a : List Shape) (o : Option (Row ℕ)) → m < length a → is_string_row (last_row o (numbered k (take (suc m) a))) ≡ true → IsStringAt m (numbered k a)
last-string m k [] o h e = absurd (omega (arith, h))
last-string zero k (s ∷ []) o h e = e
last-string zero k (s ∷ (r ∷ a)) o h e = e
last-string (suc m) k (s ∷ a) o h e = last-string m (suc k) a (Some (record { shape = s; at = k })) (omega (arith, h)) e

last-string-on : (m k : ℕ) (a b : List Shape) → m < length a → IsStringAt m (numbered k a) → IsStringAt m (numbered k (take (suc m) a ++ b))
last-string-on m k [] b h e = absurd (omega (arith, h))
last-string-on zero k (s ∷ a) b h e = e
last-string-on (suc m) k (s ∷ a) b h e = last-string-on m (suc k) a b (omega (arith, h)) e

-- ---- the same braces

module _ (lexemes : List Lexeme) where
  abbrev all_shapes : List Shape
  all_shapes = shapes (rows_of lexemes)

  abbrev done : Completed (tokens_of lexemes)
  done = completed-at (tokens_of lexemes) ((main.file_at 0 31).read (tokens_of lexemes)) refl

  abbrev Same : ℕ → t.File ℕ → Type 0
  Same n f = (open_behind false (steps_by lexemes n) ≡ open_behind false (until n (steps 31 f))) × (has_deep (until n (steps 31 f)) ≡ has_deep (steps_by lexemes n))

  pub file-tokens : (n : ℕ) (f : t.File ℕ) (go : GoesOn (shapes (rows_of lexemes)) n f) → tokens (steps 31 f) ≡ numbered 0 (take n all_shapes ++ go.more)
  file-tokens n f go = (main.laws 0 31).traced.rows f ∙ main.spelling 0 31 f ∙ sym go.spells.0

  pub file-placed : (n : ℕ) (f : t.File ℕ) → GoesOn (shapes (rows_of lexemes)) n f → ArePlaced None (steps 31 f) []
  file-placed n f go = (main.laws 0 31).traced.placed f [] (main.ends-of 0 31 f go.spells.1)

  abbrev goes-before : (m : ℕ) (f : t.File ℕ) → GoesOn (shapes (rows_of lexemes)) (suc m) f → GoesOn (shapes (rows_of lexemes)) m f
  goes-before m f go = record {
    more = drop m (take (suc m) all_shapes) ++ go.more;
    there = omega (arith, go.there);
    spells = (ap (numbered 0) (sym (append_assoc (take m all_shapes) (drop m (take (suc m) all_shapes)) go.more) ∙ ap (λ u. u ++ go.more) (take-step m all_shapes)) ∙ go.spells.0, go.spells.1);
  }

  -- after a string the braces are those before it
  behind-string : (m : ℕ) (f : t.File ℕ) (go : GoesOn (shapes (rows_of lexemes)) (suc m) f) → is_string_row (last_row None (numbered 0 (take (suc m) all_shapes))) ≡ true → is_too_deep_by lexemes (suc m) ≡ false → Same (suc m) f
  behind-string m f go g d =
      let less : m < length all_shapes = omega (arith, go.there, shapes-length (rows_of lexemes)) in
      let there : IsStringAt m (tokens_of lexemes) = last-string m 0 all_shapes None less g in
      let in-trace : IsStringAt m (tokens (trace 31 (tokens_of lexemes))) = string-front m (tokens (trace 31 (tokens_of lexemes))) done.rest (subst (IsStringAt m) done.parts there) in
      let in-file : IsStringAt m (tokens (steps 31 f)) = subst (IsStringAt m) (sym (file-tokens (suc m) f go)) (last-string-on m 0 all_shapes go.more less there) in
      let before = goes-before m f go in
      let same : steps_by lexemes m ≡ until m (steps 31 f) = passed.same-steps lexemes m f before (λ h. next-same m _ _ all_shapes go.more less) in
      let deep-trace = past-deep (trace 31 (tokens_of lexemes)) m None done.rest done.placed in-trace in
      let deep-file = past-deep (steps 31 f) m None [] (file-placed (suc m) f go) in-file in
      let deep : has_deep (until (suc m) (steps 31 f)) ≡ has_deep (steps_by lexemes (suc m)) = deep-file ∙ ap has_deep (sym same) ∙ sym deep-trace in (
        past-string (trace 31 (tokens_of lexemes)) m None done.rest false done.placed in-trace d ∙ ap (open_behind false) same
            ∙ sym (past-string (steps 31 f) m None [] false (file-placed (suc m) f go) in-file (deep ∙ d)),
        deep,
      )

  no-row : (g : Bool) → is_string_row (last_row {M = ℕ} None (numbered 0 (take 0 all_shapes))) ≡ g → g ≡ true → ⊥
  no-row g e h = none all_shapes (e ∙ h)
    where
      none : (a : List Shape) → is_string_row (last_row {M = ℕ} None (numbered 0 (take 0 a))) ≡ true → ⊥
      none [] h = absurd cc
      none (s ∷ a) h = absurd cc

  same-braces-at : (n : ℕ) (f : t.File ℕ) (go : GoesOn (shapes (rows_of lexemes)) n f) → is_too_deep_by lexemes n ≡ false → (g : Bool) → is_string_row (last_row None (numbered 0 (take n all_shapes))) ≡ g → Same n f
  same-braces-at n f go d false e =
      let same = passed.same-steps lexemes n f go (λ h. absurd (differ (is_string_row (last_row None (numbered 0 (take n all_shapes)))) h e)) in
      (ap (open_behind false) same, ap has_deep (sym same))
    where
      differ : (b : Bool) → b ≡ true → b ≡ false → ⊥
      differ true p q = absurd cc
      differ false p q = absurd cc
  same-braces-at zero f go d true e = absurd (no-row true e refl)
  same-braces-at (suc m) f go d true e = behind-string m f go e d

  -- the braces that were noted tell whether a file that begins with these tokens is inside an
  -- aggregate at this place
  told : (n : ℕ) (f : t.File ℕ) (go : GoesOn (shapes (rows_of lexemes)) n f) → is_too_deep_by lexemes n ≡ false
      → (open_behind false (steps_by lexemes n) ≡ true → Holds (IsIn n) (aggregates f)) × (Holds (IsIn n) (aggregates f) → open_behind false (steps_by lexemes n) ≡ true)
  unfolding rule.file
  told n f go d =
      let same = same-braces-at n f go d (is_string_row (last_row None (numbered 0 (take n all_shapes)))) refl in
      let l = steps 31 f in
      let count = counts 0 (take n all_shapes ++ go.more) l [] (sym (file-tokens n f go) ∙ sym (append-nil (tokens l))) in
      let zero-plus : 0 + n ≡ n = omega arith in
      let it = tells l false 0 (aggregates f) 0 n None [] count tt (file-placed n f go) (file-marks f (main.may-of 0 31 f go.spells.1)).0 (same.1 ∙ d) in
      (λ h. subst (λ m. Holds (IsIn m) (aggregates f)) zero-plus (it.0 (sym same.0 ∙ h)), λ h. same.0 ∙ it.1 (subst (λ m. Holds (IsIn m) (aggregates f)) (sym zero-plus) h))

  -- ---- a file that begins with what was read

  pub some-file : (n : ℕ) → length (tokens (steps_by lexemes n)) ≡ n → (f : t.File ℕ) × GoesOn (shapes (rows_of lexemes)) n f
  some-file n len =
      let l = steps_by lexemes n in
      let j = until-front n (trace 31 (tokens_of lexemes)) in
      let source-is : tokens_of lexemes ≡ tokens l ++ (tokens j.0 ++ done.rest) = done.parts ∙ ap (λ u. tokens u ++ done.rest) j.1 ∙ ap (λ u. u ++ done.rest) (tokens-append l j.0) ∙ append_assoc (tokens l) (tokens j.0) done.rest in
      let tree-is : s.spell done.tree ≡ tokens l ++ tokens (j.0 ++ done.later) =
      sym (main.spelling 0 31 done.tree) ∙ sym ((main.laws 0 31).traced.rows done.tree) ∙ ap tokens (done.goes_on ∙ ap (λ u. u ++ done.later) j.1 ∙ append_assoc l j.0 done.later) ∙ tokens-append l (j.0 ++ done.later) in
      let all-is : all_shapes ≡ shapes (tokens l) ++ shapes (tokens j.0 ++ done.rest) = sym (shapes-numbered 0 all_shapes) ∙ ap shapes source-is ∙ shapes-append (tokens l) (tokens j.0 ++ done.rest) in
      let take-is : take n all_shapes ≡ shapes (tokens l) = ap (take n) all-is ∙ take-front n (shapes (tokens l)) (shapes (tokens j.0 ++ done.rest)) (sym len ∙ sym (shapes-length (tokens l))) in
      let more : List Shape = shapes (tokens (j.0 ++ done.later)) in
      let new-shapes : shapes (numbered 0 (take n all_shapes ++ more)) ≡ shapes (s.spell done.tree) = shapes-numbered 0 (take n all_shapes ++ more) ∙ ap (λ u. u ++ more) take-is ∙ sym (shapes-append (tokens l) (tokens (j.0 ++ done.later))) ∙ ap shapes (sym tree-is) in
      let g = remarked done.tree done.keeps (numbered 0 (take n all_shapes ++ more)) new-shapes in
      (g.0, record { more = more; there = omega (arith, len, ap length source-is, numbered-length 0 all_shapes, shapes-length (rows_of lexemes), length-append (tokens l) (tokens j.0 ++ done.rest)); spells = g.1 })

pub inside_is_open : InsideIsOpen
inside_is_open lexemes n d h = (told lexemes n h.0 h.1 d).1 (any-holds (IsIn n) (aggregates h.0) h.2)

pub open_is_inside : OpenIsInside
open_is_inside lexemes n d len h = let f = some-file lexemes n len in (f.0, f.1, holds-any (IsIn n) (aggregates f.0) ((told lexemes n f.0 f.1 d).0 h))
