-- If no fault is noted up to a token, and the tokens up to it are valid, no file that begins with
-- them has a node with a fault there or before.
use Rattle.std.proofs.Common.{◌≡◌, ◌≤◌, ℕ, zero, suc, Bool, true, false, List, [], ◌∷◌, ◌++◌, length, Option, Some, None, refl, sym, subst, arith, inl, inr}
use Rattle.std.specs.Prelude.{slice_get}
use Rattle.protox_fault.specs.declared.error.ParseErrorKind.{ParseErrorKind}
use Rattle.protox_lexeme.specs.Lexemes.{Lexeme}
use Rattle.protox_lexeme.specs.Shapes.{Row, Rows}
use Rattle.protox_lexeme.specs.Table.{rows_of}
use Rattle.protox_ast.proofs.Lemmas.{fine-faultless}
use Rattle.protox_ast.specs.CheckedNodes.{CheckedNode}
use Rattle.protox_ast.specs.Checks.{WrongCheckedNode}
use Rattle.protox_ast.specs.inner.Fine.{IsFine}
use Rattle.protox_ast.specs.FirstFault.{NoneIsWrongBefore}
use Rattle.protox_ast.specs.Keywords.{Each}
use Rattle.protox_ast.specs.Places.{Place}
use Rattle.protox_ast.specs.Tree as t
use Rattle.protox_ast.specs.Truth.{IsWrongBefore, token_span}
use Rattle.protox_grammar.specs.CheckLaws.{IsNotedBy, is_too_deep_by, levels, noted_by}
use Rattle.protox_grammar.specs.TagLaws.{place_at, placed_nodes_by, placed_steps_by, placed_tokens}
use Rattle.protox_grammar.specs.Noted.{noted_nodes, trace}
use Rattle.protox_grammar.specs.Reader.{head_in}
use Rattle.protox_grammar.specs.Steps.{ANode, APackage, AKeyword, ADeepBody, ADeeperBody, AnOpenBrace, ACloseBrace, Token, Note, Steps, tokens, until}
use Rattle.protox_grammar.specs.Told.{behind, is_invalid, node_notes, told, IsFaultless}
use Rattle.protox_grammar.proofs.DeepNoted.{too_deep_is_noted}
use Rattle.protox_grammar.proofs.FineNotes.{faultless-first, faultless-last, noted-fine}
use Rattle.protox_grammar.proofs.Holding.{Holds, any-holds, holds-any}
use Rattle.protox_grammar.proofs.NotedTrue.{noted-front}
use Rattle.protox_grammar.proofs.PassedOver.{none_is_passed_over}
use Rattle.protox_grammar.proofs.PlaceLaws.{noted_alike}
use Rattle.protox_grammar.proofs.StepLists.{until-at-most, until-front, until-until}

-- ---- rows that are tokens

-- The rows up to this one are valid tokens. If there are fewer rows, all of them are.
abbrev pub AreTokensTo : ℕ → Rows Place → Type 0
AreTokensTo n [] = Unit {0}
AreTokensTo zero (r ∷ rs) = is_invalid r.shape ≡ false
AreTokensTo (suc n) (r ∷ rs) = (is_invalid r.shape ≡ false) × AreTokensTo n rs

-- The rows up to this one are valid tokens, if each of them is, by its number.
pub tokens-to : (n : ℕ) (xs : Rows Place) → ((k : ℕ) (r : Row Place) → k ≤ n → slice_get xs k ≡ Some r → is_invalid r.shape ≡ false) → AreTokensTo n xs
tokens-to zero [] h = tt
tokens-to (suc n) [] h = tt
tokens-to zero (r ∷ rs) h = h 0 r (omega arith) refl
tokens-to (suc n) (r ∷ rs) h = (h 0 r (omega arith) refl, tokens-to n rs (λ k q le e. h (suc k) q (omega (arith, le)) e))

head-to : (n : ℕ) (xs : Rows Place) → AreTokensTo n xs → head_in is_invalid xs ≡ false
head-to zero [] h = refl
head-to (suc n) [] h = refl
head-to zero (r ∷ rs) h = h
head-to (suc n) (r ∷ rs) h = h.0

behind-to : (n : ℕ) (xs : Rows Place) → AreTokensTo (suc n) xs → AreTokensTo n (behind xs)
behind-to zero [] h = tt
behind-to (suc n) [] h = tt
behind-to n (r ∷ rs) h = h.1

-- ---- nodes that are noted while few rows are taken are fine

-- If no fault is noted, each node that is noted is fine, provided that the rows after those taken
-- are valid tokens.
pub fine-to : (first : Option (t.Package Place)) (w : Place) (l : Steps Place) (n : ℕ) (xs : Rows Place) → length (tokens l) ≤ n → AreTokensTo n xs → IsFaultless (told first w l xs) → Each IsFine (noted_nodes first w l)
fine-to first w [] n xs m a h = tt
fine-to first w (Token r ∷ l) zero xs m a h = absurd (omega (arith, m))
fine-to first w (Token r ∷ l) (suc n) xs m a h = fine-to first w l n (behind xs) (omega (arith, m)) (behind-to n xs a) h
fine-to first w (Note (ANode x) ∷ l) n xs m a h = (noted-fine x xs (head-to n xs a) (faultless-first _ _ h), fine-to first w l n xs m a (faultless-last (node_notes x xs) _ h))
fine-to None w (Note (APackage x) ∷ l) n xs m a h = fine-to (Some x) w l n xs m a h
fine-to (Some f) w (Note (APackage x) ∷ l) n xs m a h = absurd h.0
fine-to first w (Note (AKeyword k) ∷ l) n xs m a h = fine-to first k l n xs m a h
fine-to first w (Note (ADeepBody k) ∷ l) n xs m a h = absurd h.0
fine-to first w (Note (ADeeperBody k) ∷ l) n xs m a h = fine-to first w l n xs m a h
fine-to first w (Note (AnOpenBrace k) ∷ l) n xs m a h = fine-to first w l n xs m a h.1
fine-to first w (Note (ACloseBrace k) ∷ l) n xs m a h = fine-to first w l n xs m a h.1

-- after another keyword, too
fine-word : {M : Type 0} (first : Option (t.Package M)) (w v : M) (l : Steps M) → Each IsFine (noted_nodes first w l) → Each IsFine (noted_nodes first v l)
fine-word first w v [] h = tt
fine-word first w v (Token r ∷ l) h = fine-word first w v l h
fine-word first w v (Note (ANode x) ∷ l) h = (h.0, fine-word first w v l h.1)
fine-word None w v (Note (APackage x) ∷ l) h = fine-word (Some x) w v l h
fine-word (Some f) w v (Note (APackage x) ∷ l) h = absurd h.0
fine-word first w v (Note (AKeyword m) ∷ l) h = h
fine-word first w v (Note (ADeepBody m) ∷ l) h = absurd h.0
fine-word first w v (Note (ADeeperBody m) ∷ l) h = fine-word first w v l h
fine-word first w v (Note (AnOpenBrace m) ∷ l) h = fine-word first w v l h
fine-word first w v (Note (ACloseBrace m) ∷ l) h = fine-word first w v l h

-- ---- a source

abbrev IsWrong : ParseErrorKind → CheckedNode Place → Type 0
IsWrong wrong node = WrongCheckedNode (λ (place : Place). place.span) node wrong

fine-none : (nodes : List (CheckedNode Place)) (wrong : ParseErrorKind) → Each IsFine nodes → Holds (IsWrong wrong) nodes → ⊥
fine-none [] wrong h g = g
fine-none (x ∷ xs) wrong h (inl g) = fine-faultless (λ (place : Place). place.span) x h.0 wrong g
fine-none (x ∷ xs) wrong h (inr g) = fine-none xs wrong h.1 g

wrong-only : (lexemes : List Lexeme) (k : ℕ) (wrong : ParseErrorKind) (nodes : List (CheckedNode ℕ)) → Holds (IsWrongBefore lexemes k wrong) nodes → Holds (λ node. WrongCheckedNode (token_span (rows_of lexemes)) node wrong) nodes
wrong-only lexemes k wrong [] h = h
wrong-only lexemes k wrong (x ∷ xs) (inl h) = inl h.2
wrong-only lexemes k wrong (x ∷ xs) (inr h) = inr (wrong-only lexemes k wrong xs h)

module _ (lexemes : List Lexeme) (w : Place) (n : ℕ) (valid : AreTokensTo n (placed_tokens lexemes)) (none : IsFaultless (told None w (placed_steps_by lexemes n) (placed_tokens lexemes))) where
  abbrev l : Steps Place
  l = trace levels (placed_tokens lexemes)

  fine : Each IsFine (placed_nodes_by lexemes n)
  fine = fine-word None w (place_at lexemes 0) (until n l) (fine-to None w (until n l) n (placed_tokens lexemes) (until-at-most n l) valid none)

  -- a node that is noted earlier is among these
  not-noted : (k : ℕ) (wrong : ParseErrorKind) → k ≤ n → IsNotedBy lexemes k wrong → ⊥
  not-noted k wrong le h =
      let here : Holds (IsWrong wrong) (placed_nodes_by lexemes k) = any-holds (IsWrong wrong) (placed_nodes_by lexemes k) (((noted_alike lexemes k).faults wrong).1 h) in
      let more = until-front k (until n l) in
      let same : until n l ≡ until k l ++ more.0 = subst (λ u. until n l ≡ u ++ more.0) (until-until k n l le) more.1 in
      let there : Holds (IsWrong wrong) (placed_nodes_by lexemes n) =
      subst (λ u. Holds (IsWrong wrong) (noted_nodes None (place_at lexemes 0) u)) (sym same) (noted-front (IsWrong wrong) None (place_at lexemes 0) (until k l) more.0 here) in
      fine-none (placed_nodes_by lexemes n) wrong fine there

  too-deep-so : (k : ℕ) → k ≤ n → is_too_deep_by lexemes k ≡ true → ⊥
  too-deep-so k le h = let v = too_deep_is_noted lexemes k h in not-noted k _ le v.1

  no-deep : (b : Bool) → is_too_deep_by lexemes n ≡ b → b ≡ false
  no-deep true h = absurd (too-deep-so n (omega arith) h)
  no-deep false h = refl

  -- If no fault is noted for the first n tokens, and the rows up to the next one are valid tokens,
  -- no node with a fault ends with one of them. Reading didn't end at a body that is too deep.
  pub none-passed : NoneIsWrongBefore lexemes (suc n) × (is_too_deep_by lexemes n ≡ false)
  none-passed = (
    λ k wrong lt h. elim (none_is_passed_over lexemes k wrong h) [
      | inl a ↦
          not-noted k wrong (omega (arith, lt))
          (holds-any (λ node. WrongCheckedNode (token_span (rows_of lexemes)) node wrong) (noted_by lexemes k) (wrong-only lexemes k wrong (noted_by lexemes k) (any-holds (IsWrongBefore lexemes k wrong) (noted_by lexemes k) a)))
      | inr a ↦ too-deep-so k (omega (arith, lt)) a
    ],
    no-deep (is_too_deep_by lexemes n) refl,
  )
