-- The fault of a node that is noted is true of the source.
use Rattle.std.proofs.Common.{◌≡◌, ℕ, List, sym, subst, inl, inr}
use Rattle.protox_lexeme.specs.Lexemes.{Lexeme}
use Rattle.protox_lexeme.specs.Table.{rows_of}
use Rattle.protox_fault.specs.declared.error.ParseErrorKind.{ParseErrorKind}
use Rattle.protox_ast.specs.CheckedNodes.{CheckedNode, ASyntax, AnImport, AReservedName, AGroupName, APackageAgain, ATooDeep}
use Rattle.protox_ast.specs.Checks.{WrongCheckedNode}
use Rattle.protox_ast.specs.Truth.{IsOfNode, IsTrueOf, token_span}
use Rattle.protox_grammar.specs.CheckLaws.{NotedIsTrueOf, noted_by}
use Rattle.protox_grammar.proofs.Holding.{any-holds, holds-one}
use Rattle.protox_grammar.proofs.NotedTrue.{noted_is_true}

module _ (lexemes : List Lexeme) where
  by-kind : (wrong kind : ParseErrorKind) → wrong ≡ kind → (IsOfNode lexemes kind → IsTrueOf lexemes kind) → IsOfNode lexemes wrong → IsTrueOf lexemes wrong
  by-kind wrong kind e f = subst (λ (w : ParseErrorKind). IsOfNode lexemes w → IsTrueOf lexemes w) (sym e) f

  true-of : (node : CheckedNode ℕ) (wrong : ParseErrorKind) → WrongCheckedNode (token_span (rows_of lexemes)) node wrong → IsOfNode lexemes wrong → IsTrueOf lexemes wrong
  true-of (ASyntax x) wrong h = by-kind wrong _ h.1 (λ o. o)
  true-of (AnImport x) wrong (inl h) = by-kind wrong _ h.1 (λ o. o)
  true-of (AnImport x) wrong (inr h) = by-kind wrong _ h.1 (λ o. o)
  true-of (AReservedName x) wrong (inl h) = by-kind wrong _ h.1 (λ o. o)
  true-of (AReservedName x) wrong (inr h) = by-kind wrong _ h.1 (λ o. o)
  true-of (AGroupName x) wrong h = by-kind wrong _ h.1 (λ o. o)
  true-of (APackageAgain first again) wrong h = by-kind wrong _ h (λ o. o)
  true-of (ATooDeep keyword open_at) wrong h = by-kind wrong _ h (λ o. o)

pub noted_is_true_of : NotedIsTrueOf
noted_is_true_of lexemes n wrong h =
    let v = holds-one (λ node. WrongCheckedNode (token_span (rows_of lexemes)) node wrong) (noted_by lexemes n) (any-holds (λ node. WrongCheckedNode (token_span (rows_of lexemes)) node wrong) (noted_by lexemes n) h) in
    let k = noted_is_true lexemes n wrong h in
    true-of lexemes v.0 wrong v.1 (k.0, k.2)
