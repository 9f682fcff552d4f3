-- The first fault that is noted while the tokens of a source are read. It is true of the source,
-- and no fault is noted before it.
use Rattle.std.proofs.Common.{◌≡◌, ◌≤◌, ◌<◌, ℕ, suc, ◌+◌, Bool, true, false, cond, List, [], ◌∷◌, ◌++◌, length, None, Result, Ok, Err, refl, sym, ap, subst, ◌∙◌, append_assoc, arith, inl, inr, ◌⊎◌}
use Rattle.std.proofs.lemmas.List.{length-append}
use Rattle.protox_lexeme.specs.Lexemes.{Lexeme}
use Rattle.protox_lexeme.specs.Shapes.{Rows}
use Rattle.protox_fault.specs.declared.error.ParseErrorKind.{ParseErrorKind}
use Rattle.protox_ast.specs.CheckedNodes.{CheckedNode, checked_nodes}
use Rattle.protox_ast.specs.Checks.{WrongCheckedNode}
use Rattle.protox_ast.specs.Places.{Place}
use Rattle.protox_ast.specs.Tree as t
use Rattle.protox_ast.specs.Truth.{IsTrueOf, IsWrongBefore, IsWrongBehind}
use Rattle.protox_grammar.specs.CheckLaws.{IsNotedBy, levels}
use Rattle.protox_grammar.specs.TagLaws.{no_place, place_at, placed_nodes_by, placed_steps_by, placed_tokens}
use Rattle.protox_grammar.specs.Noted.{noted_nodes, trace}
use Rattle.protox_grammar.specs.Reader.{Refusal}
use Rattle.protox_grammar.specs.Steps.{Event, Token, Note, Steps, is_too_deep, tokens, until}
use Rattle.protox_grammar.specs.Told.{first_behind, keyword_behind, past, told, IsFaultless}
use Rattle.protox_grammar.proofs.EndsDeep.{stops-ends}
use Rattle.protox_grammar.proofs.FineNotes.{faultless-first}
use Rattle.protox_grammar.proofs.FirstCheck.{FirstCheck, first-check}
use Rattle.protox_grammar.proofs.FirstWords.{is_wordless, placed-worded, same-nodes, worded-front}
use Rattle.protox_grammar.proofs.Holding.{Holds, any-holds, holds-any, holds-of, holds-one}
use Rattle.protox_grammar.proofs.Main as main
use Rattle.protox_grammar.proofs.NotedTrue.{noted-front, noted_is_true}
use Rattle.protox_grammar.proofs.NotedTrueOf.{noted_is_true_of}
use Rattle.protox_grammar.proofs.PlaceLaws.{noted_alike}
use Rattle.protox_grammar.proofs.StepLists.{EndsDeep, tokens-append, until-front, until-long, until-note}
use Rattle.protox_grammar.proofs.Telling.{told-append}

-- ---- the steps up to a note

-- The steps of reading as many rows as were taken before a note include the note.
pub until-to : {M : Type 0} (b : Steps M) (e : Event M) (k : Steps M) → EndsDeep (b ++ (Note e ∷ k)) → (j : Steps M) × (until (length (tokens b)) (b ++ (Note e ∷ k)) ≡ (b ++ (Note e ∷ [])) ++ j)
until-to [] e k h = (cond (is_too_deep e) [] (until 0 k), refl)
until-to (Token r ∷ b) e k h = let v = until-to b e k h in (v.0, ap (λ u. Token r ∷ u) v.1)
until-to {M} (Note d ∷ b) e k h = let v = until-to b e k h.1 in (v.0, until-note (length (tokens b)) d (b ++ (Note e ∷ k)) ∙ under (is_too_deep d) refl ∙ ap (λ u. Note d ∷ u) v.1)
  where
    some : (b : Steps M) → b ++ (Note e ∷ k) ≡ [] → ⊥
    some [] q = absurd cc
    some (x ∷ b) q = absurd cc

    under : (c : Bool) → is_too_deep d ≡ c → Note d ∷ cond c [] (until (length (tokens b)) (b ++ (Note e ∷ k))) ≡ Note d ∷ until (length (tokens b)) (b ++ (Note e ∷ k))
    under true q = absurd (some b (h.0 q))
    under false q = refl

-- ---- the rows after steps

pub past-taken : (l : Steps Place) (rest : Rows Place) → past l (tokens l ++ rest) ≡ rest
past-taken [] rest = refl
past-taken (Token r ∷ l) rest = past-taken l rest
past-taken (Note e ∷ l) rest = past-taken l rest

-- The rows that are taken are the first of those that are read.
pub taken-rows : (xs : Rows Place) → (rest : Rows Place) × (xs ≡ tokens (trace levels xs) ++ rest)
taken-rows xs = at ((main.file_at no_place levels).read xs) refl
  where
    at : (r : Result (t.File Place × Rows Place) Refusal) → (main.file_at no_place levels).read xs ≡ r → (rest : Rows Place) × (xs ≡ tokens (trace levels xs) ++ rest)
    at (Ok x) h =
        let l = main.laws no_place levels in
        (x.1, (l.read.takes xs x h).parts ∙ ap (λ u. u ++ x.1) (sym (l.traced.rows x.0)) ∙ ap (λ u. tokens u ++ x.1) (sym (l.traced.ok xs x h)))
    at (Err e) h = let v = (main.laws no_place levels).traced.halts xs e h in (v.rest, v.parts)

-- ---- the first fault

abbrev pub FirstOf : List Lexeme → Place → Type 0
FirstOf lexemes w = FirstCheck None w (trace levels (placed_tokens lexemes)) (placed_tokens lexemes)

-- The fault is noted once this many tokens are taken, as the number of rows left says. It is a
-- fault of a node that ends with one of these tokens, and it is true of the source. For fewer
-- tokens no fault is noted.
pub record IsCheckedFirst (lexemes : List Lexeme) (w : Place) (number left : ℕ) (fault : ParseErrorKind) : Type 0 where
  pub noted : IsNotedBy lexemes number fault
  pub is_true : IsTrueOf lexemes fault
  pub end : ℕ
  pub end_least : 1 ≤ end
  pub end_most : end ≤ number
  pub is_wrong : IsWrongBehind lexemes end fault
  pub counted : (left + number ≡ length (placed_tokens lexemes)) ⊎ (left + number ≡ suc (length (placed_tokens lexemes)))
  pub none_before : (j : ℕ) → j < number → IsFaultless (told None w (placed_steps_by lexemes j) (placed_tokens lexemes))
  pub within : number ≤ length (tokens (trace levels (placed_tokens lexemes)))

module _ (lexemes : List Lexeme) (w : Place) (v : FirstOf lexemes w) where
  abbrev rows : Rows Place
  rows = placed_tokens lexemes

  abbrev l : Steps Place
  l = trace levels rows

  abbrev number : ℕ
  number = length (tokens v.before)

  abbrev through : Steps Place
  through = v.before ++ (Note v.event ∷ [])

  abbrev IsWrong : CheckedNode Place → Type 0
  IsWrong node = WrongCheckedNode (λ (place : Place). place.span) node v.fault

  through-front : v.before ++ (Note v.event ∷ v.later) ≡ through ++ v.later
  through-front = sym (append_assoc v.before (Note v.event ∷ []) v.later)

  ends : EndsDeep l
  ends = stops-ends ((main.file_at no_place levels).read rows) l ((main.laws no_place levels).traced.stops rows)

  -- the node is noted of the tokens that were taken
  there : Holds (λ u. u ≡ v.node) (placed_nodes_by lexemes number)
  there =
      let place = place_at lexemes 0 in
      let j = until-to v.before v.event v.later (subst EndsDeep v.parts ends) in
      let worded = worded-front through v.later (ap is_wordless (sym through-front ∙ sym v.parts) ∙ placed-worded lexemes) in
      let here = subst (Holds (λ u. u ≡ v.node)) (same-nodes None w place through worded) v.noted in
      subst (λ u. Holds (λ x. x ≡ v.node) (noted_nodes None place u)) (sym (ap (until number) v.parts ∙ j.1)) (noted-front (λ u. u ≡ v.node) None place through j.0 here)

  noted-so : IsNotedBy lexemes number v.fault
  noted-so = ((noted_alike lexemes number).faults v.fault).0 (holds-any IsWrong (placed_nodes_by lexemes number) (holds-of IsWrong v.node (placed_nodes_by lexemes number) v.is_wrong there))

  some-end : (k : ℕ) → IsWrongBehind lexemes k v.fault → 1 ≤ k
  some-end k h = let x = holds-one (IsWrongBefore lexemes k v.fault) (checked_nodes h.0) (any-holds (IsWrongBefore lexemes k v.fault) (checked_nodes h.0) h.2) in omega (arith, x.1.0)

  -- rows and tokens
  parts : (rest : Rows Place) × (rows ≡ tokens v.before ++ rest)
  parts =
      let q = taken-rows rows in
      (tokens v.later ++ q.0, q.1 ∙ ap (λ u. u ++ q.0) (ap tokens v.parts ∙ tokens-append v.before (Note v.event ∷ v.later)) ∙ append_assoc (tokens v.before) (tokens v.later) q.0)

  many : length (past v.before rows) + number ≡ length rows
  many =
      let same : past v.before rows ≡ parts.0 = ap (past v.before) parts.1 ∙ past-taken v.before parts.0 in
      omega (arith, ap length same, ap length parts.1, length-append (tokens v.before) parts.0)

  fronts : (j : ℕ) → j < number → IsFaultless (told None w (until j l) rows)
  fronts j h =
      let m = until-front j v.before in
      let same : until j l ≡ until j v.before = ap (until j) v.parts ∙ until-long j v.before (Note v.event ∷ v.later) h in
      let f = faultless-first (told None w (until j v.before) rows) (told (first_behind None (until j v.before)) (keyword_behind w (until j v.before)) m.0 (past (until j v.before) rows))
      (subst IsFaultless (ap (λ u. told None w u rows) m.1 ∙ told-append None w (until j v.before) m.0 rows) v.faultless) in
      subst (λ u. IsFaultless (told None w u rows)) (sym same) f

  pub is-checked-first : IsCheckedFirst lexemes w number v.left v.fault
  is-checked-first =
      let k = noted_is_true lexemes number v.fault noted-so in
      record {
        noted = noted-so;
        is_true = noted_is_true_of lexemes number v.fault noted-so;
        end = k.0;
        end_least = some-end k.0 k.2;
        end_most = k.1;
        is_wrong = k.2;
        counted = elim v.left_is [
          | inl e ↦ inl (omega (arith, e, many))
          | inr e ↦ inr (omega (arith, e, many))
        ];
        none_before = fronts;
        within = omega (arith, ap (λ u. length (tokens u)) v.parts, ap length (tokens-append v.before (Note v.event ∷ v.later)), length-append (tokens v.before) (tokens v.later));
      }

-- While the tokens of a source are read, no fault is noted, or there is a first one.
pub checked-first : (lexemes : List Lexeme) (w : Place) → IsFaultless (told None w (trace levels (placed_tokens lexemes)) (placed_tokens lexemes)) ⊎ ((v : FirstOf lexemes w) × IsCheckedFirst lexemes w (length (tokens v.before)) v.left v.fault)
checked-first lexemes w = elim (first-check None w (trace levels (placed_tokens lexemes)) (placed_tokens lexemes)) [
  | inl h ↦ inl h
  | inr v ↦ inr (v, is-checked-first lexemes w v)
]
