-- If reading ends at a body that is too deep, this is noted.
use Rattle.std.proofs.Common.{◌≡◌, ℕ, zero, suc, true, false, ◌||◌, cond, List, [], ◌∷◌, Option, Some, None, refl, sym, ap, subst, ◌∙◌, inl, inr}
use Rattle.protox_fault.specs.Faults.{Span}
use Rattle.protox_lexeme.specs.Lexemes.{Lexeme}
use Rattle.protox_lexeme.specs.Table.{rows_of}
use Rattle.protox_fault.specs.declared.error.ParseErrorKind.TheVariants.{MessageNestingTooDeep}
use Rattle.protox_ast.specs.Tree as t
use Rattle.protox_ast.specs.CheckedNodes.{CheckedNode, ATooDeep}
use Rattle.protox_ast.specs.Checks.{WrongCheckedNode}
use Rattle.protox_ast.specs.Truth.{token_span}
use Rattle.protox_grammar.specs.Bodies as rule
use Rattle.protox_grammar.specs.Steps.{Event, ANode, APackage, AKeyword, ADeepBody, ADeeperBody, AnOpenBrace, ACloseBrace, Token, Note, Steps, until, has_deep, is_too_deep}
use Rattle.protox_grammar.specs.Noted.{noted_nodes, trace}
use Rattle.protox_grammar.specs.CheckLaws.{TooDeepIsNoted, tokens_of, noted_by}
use Rattle.protox_grammar.proofs.StepLists.{until-note}
use Rattle.protox_grammar.proofs.Notes.{notes, notes-append, IsShallow, shallow-front}
use Rattle.protox_grammar.proofs.Main as main
use Rattle.protox_grammar.proofs.Holding.{Holds, holds-any, holds-one, holds-of}
use Rattle.protox_grammar.proofs.NotedFiles.{file-marks}
use Rattle.protox_grammar.proofs.NotedTrue.{completed-at}

abbrev IsTooDeepNode : CheckedNode ℕ → Type 0
IsTooDeepNode (ATooDeep keyword open_at) = Unit {0}
IsTooDeepNode _ = ⊥

its-fault : (lexemes : List Lexeme) (x : CheckedNode ℕ) → IsTooDeepNode x → (span : Span) × WrongCheckedNode (token_span (rows_of lexemes)) x (MessageNestingTooDeep span)
its-fault lexemes (ATooDeep keyword open_at) h = (token_span (rows_of lexemes) keyword, refl)
its-fault lexemes _ h = absurd h

lift : (P : CheckedNode ℕ → Type 0) (p : Option (t.Package ℕ)) (w : ℕ) (n : ℕ) (e : Event ℕ) (l : Steps ℕ) → is_too_deep e ≡ false → has_deep (until n (Note e ∷ l)) ≡ true
    → (has_deep (until n l) ≡ true → Holds P (noted_nodes p w (Note e ∷ until n l))) → Holds P (noted_nodes p w (until n (Note e ∷ l)))
lift P p w n e l d h f =
    let same : until n (Note e ∷ l) ≡ Note e ∷ until n l = until-note n e l ∙ ap (λ u. Note e ∷ cond u [] (until n l)) d in
    subst (λ u. Holds P (noted_nodes p w u)) (sym same) (f (sym (ap has_deep same ∙ ap (λ u. u || has_deep (until n l)) d) ∙ h))

noted-deep : (l : Steps ℕ) (n : ℕ) (p : Option (t.Package ℕ)) (w : ℕ) → IsShallow (notes l) → has_deep (until n l) ≡ true → Holds IsTooDeepNode (noted_nodes p w (until n l))
noted-deep [] zero p w s h = absurd cc
noted-deep [] (suc n) p w s h = absurd cc
noted-deep (Token r ∷ l) zero p w s h = absurd cc
noted-deep (Token r ∷ l) (suc n) p w s h = noted-deep l n p w s h
noted-deep (Note (ADeepBody m) ∷ l) n p w s h = subst (λ u. Holds IsTooDeepNode (noted_nodes p w u)) (sym (until-note n (ADeepBody m) l)) (inl tt)
noted-deep (Note (ADeeperBody m) ∷ l) n p w s h = absurd s
noted-deep (Note (ANode x) ∷ l) n p w s h = lift IsTooDeepNode p w n (ANode x) l refl h (λ g. inr (noted-deep l n p w s g))
noted-deep (Note (APackage x) ∷ l) n None w s h = lift IsTooDeepNode None w n (APackage x) l refl h (λ g. noted-deep l n (Some x) w s g)
noted-deep (Note (APackage x) ∷ l) n (Some y) w s h = lift IsTooDeepNode (Some y) w n (APackage x) l refl h (λ g. inr (noted-deep l n (Some y) w s g))
noted-deep (Note (AKeyword x) ∷ l) n p w s h = lift IsTooDeepNode p w n (AKeyword x) l refl h (λ g. noted-deep l n p x s g)
noted-deep (Note (AnOpenBrace x) ∷ l) n p w s h = lift IsTooDeepNode p w n (AnOpenBrace x) l refl h (λ g. noted-deep l n p w s g)
noted-deep (Note (ACloseBrace x) ∷ l) n p w s h = lift IsTooDeepNode p w n (ACloseBrace x) l refl h (λ g. noted-deep l n p w s g)

pub too_deep_is_noted : TooDeepIsNoted
unfolding rule.file
too_deep_is_noted lexemes n h =
    let c = completed-at (tokens_of lexemes) ((main.file_at 0 31).read (tokens_of lexemes)) refl in
    let front = subst IsShallow (ap notes c.goes_on ∙ notes-append (trace 31 (tokens_of lexemes)) c.later) ((file-marks c.tree (main.may-of 0 31 c.tree c.keeps)).1 tt) in
    let s = shallow-front (notes (trace 31 (tokens_of lexemes))) (notes c.later) front in
    let v = holds-one IsTooDeepNode (noted_by lexemes n) (noted-deep (trace 31 (tokens_of lexemes)) n None 0 s h) in
    let w = its-fault lexemes v.0 v.1 in
    let is-wrong : CheckedNode ℕ → Type 0 = λ node. WrongCheckedNode (token_span (rows_of lexemes)) node (MessageNestingTooDeep w.0) in
    (w.0, holds-any is-wrong (noted_by lexemes n) (holds-of is-wrong v.0 (noted_by lexemes n) w.1 v.2))
