-- Right after the `{` of a body that is too deep no aggregate is open, and no file that begins with
-- these tokens can be inside one.
use Rattle.std.proofs.Common.{◌≡◌, ◌↔◌, ◌≤◌, ℕ, zero, suc, ◌+◌, Bool, true, false, cond, ◌||◌, List, [], ◌∷◌, ◌++◌, length, take, Option, Some, None, refl, sym, ap, subst, ◌∙◌, arith, inl, inr}
use Rattle.std.proofs.lemmas.List.{append-nil}
use Rattle.protox_lexeme.specs.Lexemes.{Lexeme}
use Rattle.protox_lexeme.specs.Shapes.{Row, Rows}
use Rattle.protox_lexeme.specs.Table.{rows_of}
use Rattle.protox_ast.specs.inner.AggregateWalk.{Braces}
use Rattle.protox_ast.specs.Keywords.{Each}
use Rattle.protox_ast.specs.Fronts.{Inside, GoesOn, aggregates, numbered, shapes}
use Rattle.protox_ast.specs.Tree as t
use Rattle.protox_grammar.specs.CheckLaws.{is_too_deep_by, levels, steps_by, tokens_of}
use Rattle.protox_grammar.specs.TagLaws.{place_at, placed_steps_by, placed_tokens}
use Rattle.protox_grammar.specs.Noted.{open_behind, steps, trace}
use Rattle.protox_grammar.specs.Steps.{Event, ANode, APackage, AKeyword, ADeepBody, ADeeperBody, AnOpenBrace, ACloseBrace, Token, Note, Steps, has_deep, is_too_deep, tokens, until}
use Rattle.protox_grammar.specs.Bodies as rule
use Rattle.protox_grammar.proofs.EndsDeep.{stops-ends}
use Rattle.protox_grammar.proofs.Holding.{Holds, any-holds}
use Rattle.protox_grammar.proofs.InsideLaws as insides
use Rattle.protox_grammar.proofs.InsideModes.{mode-inside}
use Rattle.protox_grammar.proofs.Insides.{Counts, counts, Before, From, IsIn, Comes, In, notes-from, none-in, parts, placed-at, not-true, until-on}
use Rattle.protox_grammar.proofs.Main as main
use Rattle.protox_grammar.proofs.TagLaws.{same_steps, tokens-map}
use Rattle.protox_grammar.proofs.Tags.{same-length}
use Rattle.protox_grammar.proofs.NotedFiles.{file-marks}
use Rattle.protox_grammar.proofs.NotedTrue.{Completed, completed-at}
use Rattle.protox_grammar.proofs.Notes.{brace_notes, brace_pairs}
use Rattle.protox_grammar.proofs.Outside.{Outside, TakesFirst, file-outside}
use Rattle.protox_grammar.proofs.PassedOver as passed
use Rattle.protox_grammar.proofs.PlaceLaws.{noted_alike, places_are_looked_up}
use Rattle.protox_grammar.proofs.Placing.{ArePlaced, IsPlaced, is_run_event, is_string_row, last_row}
use Rattle.protox_grammar.proofs.StepLists.{deep-until, deep-whole, take-front, until-at-most, until-note}

-- ---- steps that end at a body that is too deep

deep-nil : (n : ℕ) → has_deep (until {M = ℕ} n []) ≡ true → ⊥
deep-nil zero h = absurd cc
deep-nil (suc n) h = absurd cc

-- After a note of anything but such a body.
deep-on : {M : Type 0} (n : ℕ) (e : Event M) (l : Steps M) → is_too_deep e ≡ false → has_deep (until n (Note e ∷ l)) ≡ true → has_deep (until n l) ≡ true
deep-on n e l d h = sym (ap has_deep (until-note n e l) ∙ ap (λ u. u || has_deep (cond u [] (until n l))) d) ∙ h

-- no aggregate is open there
shut-there : (l : Steps ℕ) (b : Bool) (n : ℕ) → Outside b l → has_deep (until n l) ≡ true → open_behind b (until n l) ≡ false
shut-there [] b n w d = absurd (deep-nil n d)
shut-there (Token r ∷ l) b zero w d = absurd cc
shut-there (Token r ∷ l) b (suc n) w d = shut-there l b n w d
shut-there (Note (AnOpenBrace m) ∷ l) b n w d = ap (open_behind b) (until-on n (AnOpenBrace m) l refl) ∙ shut-there l true n w (deep-on n (AnOpenBrace m) l refl d)
shut-there (Note (ACloseBrace m) ∷ l) b n w d = ap (open_behind b) (until-on n (ACloseBrace m) l refl) ∙ shut-there l false n w (deep-on n (ACloseBrace m) l refl d)
shut-there (Note (ADeepBody m) ∷ l) b n w d = ap (open_behind b) (until-note n (ADeepBody m) l) ∙ w.0
shut-there (Note (ADeeperBody m) ∷ l) b n w d = ap (open_behind b) (until-note n (ADeeperBody m) l) ∙ w.0
shut-there (Note (ANode x) ∷ l) b n w d = ap (open_behind b) (until-on n (ANode x) l refl) ∙ shut-there l b n w (deep-on n (ANode x) l refl d)
shut-there (Note (APackage x) ∷ l) b n w d = ap (open_behind b) (until-on n (APackage x) l refl) ∙ shut-there l b n w (deep-on n (APackage x) l refl d)
shut-there (Note (AKeyword x) ∷ l) b n w d = ap (open_behind b) (until-on n (AKeyword x) l refl) ∙ shut-there l b n w (deep-on n (AKeyword x) l refl d)

-- This many rows are taken by then.
abbrev Took : ℕ → Steps ℕ → Type 0
Took n l = length (tokens (until n l)) ≡ n

took-on : (n : ℕ) (e : Event ℕ) (l : Steps ℕ) → is_too_deep e ≡ false → Took n (Note e ∷ l) → Took n l
took-on n e l d h = sym (ap (λ u. length (tokens u)) (until-on n e l d)) ∙ h

-- After the `{` of a body a row comes before the next aggregate.
none-behind : (l : Steps ℕ) (ps : Braces ℕ) (i n : ℕ) (last : Option (Row ℕ)) (z : Rows ℕ) → TakesFirst l → Counts i l → ArePlaced last l z → brace_notes l ≡ brace_pairs ps → n ≡ 0 → Holds (IsIn (i + n)) ps → ⊥
none-behind [] ps i n last z q k w h o g = q
none-behind (Note e ∷ l) ps i n last z q k w h o g = q
none-behind (Token r ∷ l) ps i n last z q k w h o g =
    let from : Each (From (suc i)) (brace_pairs ps) = subst (Each (From (suc i))) h (notes-from l (suc i) (Some r) z k.1 (ap suc k.0) w) in
    none-in i ps from (subst (λ u. Holds (IsIn (i + u)) ps) o g)

none-left : (n : ℕ) (e : Event ℕ) (l : Steps ℕ) → is_too_deep e ≡ true → Took n (Note e ∷ l) → n ≡ 0
none-left n e l d h = sym h ∙ ap (λ u. length (tokens u)) (until-note n e l ∙ ap (λ u. Note e ∷ cond u [] (until n l)) d)

-- No place there is inside an aggregate.
none-there : (l : Steps ℕ) (b : Bool) (c : ℕ) (ps : Braces ℕ) (i n : ℕ) (last : Option (Row ℕ)) (z : Rows ℕ) → Counts i l → Before last i → ArePlaced last l z → brace_notes l ≡ Comes b c ps
    → Outside b l → has_deep (until n l) ≡ true → Took n l → In b c ps (i + n) → ⊥
none-there [] b c ps i n last z k w e h o d u g = deep-nil n d
none-there (Token r ∷ l) b c ps i zero last z k w e h o d u g = absurd cc
none-there (Token r ∷ l) b c ps i (suc n) last z k w e h o d u g =
    let same : i + suc n ≡ suc i + n = omega arith in
    none-there l b c ps (suc i) n (Some r) z k.1 (ap suc k.0) e h o d (omega (arith, u)) (subst (In b c ps) same g)
none-there (Note (AnOpenBrace m) ∷ l) true c ps i n last z k w e h o d u g = not-true (sym (parts (true, m) (false, c) (brace_notes l) (brace_pairs ps) h).0)
none-there (Note (AnOpenBrace m) ∷ l) false c [] i n last z k w e h o d u g = g
none-there (Note (AnOpenBrace m) ∷ l) false c (p ∷ ps) i n last z k w e h o d u g =
    let q = parts (true, m) (true, p.0) (brace_notes l) ((false, p.1) ∷ brace_pairs ps) h in
    none-there l true p.1 ps i n last z k w e.1 q.2 o (deep-on n (AnOpenBrace m) l refl d) (took-on n (AnOpenBrace m) l refl u) (elim g [ inl a ↦ inl a.1 | inr a ↦ inr a ])
none-there (Note (ACloseBrace m) ∷ l) false c [] i n last z k w e h o d u g = g
none-there (Note (ACloseBrace m) ∷ l) false c (p ∷ ps) i n last z k w e h o d u g = not-true (parts (false, m) (true, p.0) (brace_notes l) ((false, p.1) ∷ brace_pairs ps) h).0
none-there (Note (ACloseBrace m) ∷ l) true c ps i n last z k w e h o d u g =
    let q = parts (false, m) (false, c) (brace_notes l) (brace_pairs ps) h in
    let at = placed-at last i (ACloseBrace m) _ m w e.0 refl in
    none-there l false c ps i n last z k w e.1 q.2 o (deep-on n (ACloseBrace m) l refl d) (took-on n (ACloseBrace m) l refl u) (elim g [ inl a ↦ absurd (omega (arith, a, at, q.1)) | inr a ↦ a ])
none-there (Note (ADeepBody m) ∷ l) true c ps i n last z k w e h o d u g = not-true (sym o.0)
none-there (Note (ADeepBody m) ∷ l) false c ps i n last z k w e h o d u g = none-behind l ps i n last z o.1 k e.1 h (none-left n (ADeepBody m) l refl u) g
none-there (Note (ADeeperBody m) ∷ l) true c ps i n last z k w e h o d u g = not-true (sym o.0)
none-there (Note (ADeeperBody m) ∷ l) false c ps i n last z k w e h o d u g = none-behind l ps i n last z o.1 k e.1 h (none-left n (ADeeperBody m) l refl u) g
none-there (Note (ANode x) ∷ l) b c ps i n last z k w e h o d u g = none-there l b c ps i n last z k w e.1 h o (deep-on n (ANode x) l refl d) (took-on n (ANode x) l refl u) g
none-there (Note (APackage x) ∷ l) b c ps i n last z k w e h o d u g = none-there l b c ps i n last z k w e.1 h o (deep-on n (APackage x) l refl d) (took-on n (APackage x) l refl u) g
none-there (Note (AKeyword x) ∷ l) b c ps i n last z k w e h o d u g = none-there l b c ps i n last z k w e.1 h o (deep-on n (AKeyword x) l refl d) (took-on n (AKeyword x) l refl u) g

-- the last row that was taken is no string

no-run : (e : Event ℕ) → is_too_deep e ≡ true → is_run_event e ≡ false
no-run (ANode x) h = absurd cc
no-run (APackage x) h = refl
no-run (AKeyword m) h = refl
no-run (ADeepBody m) h = refl
no-run (ADeeperBody m) h = refl
no-run (AnOpenBrace m) h = refl
no-run (ACloseBrace m) h = refl

no-string : (last : Option (Row ℕ)) (e : Event ℕ) (z : Rows ℕ) → is_too_deep e ≡ true → IsPlaced last e z → is_string_row last ≡ false
no-string None e z h p = absurd p
no-string (Some r) e z h p = p.1 ∙ no-run e h

ends-plain : (l : Steps ℕ) (n : ℕ) (last : Option (Row ℕ)) (z : Rows ℕ) → ArePlaced last l z → has_deep (until n l) ≡ true → is_string_row (last_row last (tokens (until n l))) ≡ false
ends-plain [] n last z w d = absurd (deep-nil n d)
ends-plain (Token r ∷ l) zero last z w d = absurd cc
ends-plain (Token r ∷ l) (suc n) last z w d = ends-plain l n (Some r) z w d
ends-plain (Note e ∷ l) n last z w d = under (is_too_deep e) refl (λ g. ends-plain l n last z w.1 (deep-on n e l g d))
  where
    under : (b : Bool) → is_too_deep e ≡ b → (is_too_deep e ≡ false → is_string_row (last_row last (tokens (until n l))) ≡ false) → is_string_row (last_row last (tokens (until n (Note e ∷ l)))) ≡ false
    under true g more = ap (λ u. is_string_row (last_row last (tokens u))) (until-note n e l ∙ ap (λ u. Note e ∷ cond u [] (until n l)) g) ∙ no-string last e _ g w.0
    under false g more = ap (λ u. is_string_row (last_row last (tokens u))) (until-on n e l g) ∙ more g

-- ---- where reading ended like this

module _ (lexemes : List Lexeme) (j : ℕ) (d : is_too_deep_by lexemes j ≡ true) (le : j ≤ length (tokens (trace levels (placed_tokens lexemes)))) where
  abbrev rows : Rows ℕ
  rows = tokens_of lexemes

  abbrev all : Steps ℕ
  all = trace 31 rows

  abbrev done : Completed rows
  done = completed-at rows ((main.file_at 0 31).read rows) refl

  whole : until j all ≡ all
  whole = deep-whole j all (stops-ends ((main.file_at 0 31).read rows) all ((main.laws 0 31).traced.stops rows)) d

  as-many : length (tokens (trace levels (placed_tokens lexemes))) ≡ length (tokens all)
  as-many =
      ap (λ u. length (tokens (trace levels u))) (sym (places_are_looked_up lexemes)) ∙ ap (λ u. length (tokens u)) (same_steps (place_at lexemes) levels rows)
      ∙ ap length (tokens-map (place_at lexemes) all) ∙ same-length (place_at lexemes) (tokens all)

  took : length (tokens all) ≡ j
  took = omega (arith, le, as-many, ap (λ u. length (tokens u)) whole, until-at-most j all)

  shut : open_behind false (steps_by lexemes j) ≡ false
  shut =
      let same : until j (steps 31 done.tree) ≡ steps_by lexemes j = ap (until j) done.goes_on ∙ deep-until j all done.later d in
      ap (open_behind false) (sym same) ∙ shut-there (steps 31 done.tree) false j (file-outside 31 done.tree) (ap has_deep same ∙ d)

  none-inside : (f : t.File ℕ) (go : GoesOn (shapes (rows_of lexemes)) j f) → Holds (IsIn j) (aggregates f) → ⊥
  unfolding rule.file
  none-inside f go h =
      let l = steps 31 f in
      let front : Rows ℕ = numbered 0 (take j (shapes (rows_of lexemes))) in
      let front-is : front ≡ tokens (steps_by lexemes j) =
      sym (take-front j front _ (sym (passed.front-length lexemes j f go))) ∙ ap (take j) (sym (passed.source-is lexemes j f go) ∙ done.parts) ∙ take-front j (tokens all) done.rest (sym took) ∙ ap tokens (sym whole) in
      let plain : is_string_row (last_row None front) ≡ false = ap (λ u. is_string_row (last_row None u)) front-is ∙ ends-plain all j None done.rest done.placed d in
      let same : steps_by lexemes j ≡ until j l = passed.same-steps lexemes j f go (λ g. absurd (not-true (sym plain ∙ g))) in
      let count = counts 0 (take j (shapes (rows_of lexemes)) ++ go.more) l [] (sym (insides.file-tokens lexemes j f go) ∙ sym (append-nil (tokens l))) in
      let zero-plus : j ≡ 0 + j = omega arith in
      none-there l false 0 (aggregates f) 0 j None [] count tt (insides.file-placed lexemes j f go) (file-marks f (main.may-of 0 31 f go.spells.1)).0 (file-outside 31 f) (ap has_deep (sym same) ∙ d)
      (ap (λ u. length (tokens u)) (sym same ∙ whole) ∙ took) (subst (λ m. Holds (IsIn m) (aggregates f)) zero-plus h)

-- If all tokens are read, no aggregate is open after them by the steps, and no file that begins
-- with them can be inside one.
pub deep-outside-by : (lexemes : List Lexeme) (j : ℕ) → is_too_deep_by lexemes j ≡ true → j ≤ length (tokens (trace levels (placed_tokens lexemes)))
    → (Inside lexemes j → ⊥) × (open_behind false (placed_steps_by lexemes j) ≡ false)
deep-outside-by lexemes j d le = (
  λ h. none-inside lexemes j d le h.0 h.1 (any-holds (IsIn j) (aggregates h.0) h.2),
  (noted_alike lexemes j).is_open false ∙ shut lexemes j d le,
)

-- So it is right after the `{` at which reading ended.
pub deep-outside : (lexemes : List Lexeme) (j : ℕ) → is_too_deep_by lexemes j ≡ true → j ≡ length (tokens (trace levels (placed_tokens lexemes)))
    → (Inside lexemes j → ⊥) × (open_behind false (placed_steps_by lexemes j) ≡ false)
deep-outside lexemes j d e = deep-outside-by lexemes j d (omega (arith, e))

-- After each token up to where reading ended, an aggregate is open exactly when a file that begins
-- with these tokens may be inside one.
pub mode-inside-all : (lexemes : List Lexeme) (j : ℕ) → j ≤ length (tokens (trace levels (placed_tokens lexemes))) → (open_behind false (placed_steps_by lexemes j) ≡ true) ↔ Inside lexemes j
mode-inside-all lexemes j le = at (is_too_deep_by lexemes j) refl
  where
    at : (b : Bool) → is_too_deep_by lexemes j ≡ b → (open_behind false (placed_steps_by lexemes j) ≡ true) ↔ Inside lexemes j
    at true d = let out = deep-outside-by lexemes j d le in (λ h. absurd (not-true (sym out.1 ∙ h)), λ h. absurd (out.0 h))
    at false d = mode-inside lexemes j le d
