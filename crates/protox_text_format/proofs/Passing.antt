-- The way through the lexemes of a text.
use Rattle.std.proofs.Common.{◌≡◌, suc, ◌<◌, true, false, ◌==◌, List, [], ◌∷◌, ◌++◌, length, map, Option, Some, Result, Err, sym, ◌∙◌, ap, subst, arith, append_assoc, append-nil}
use Rattle.std.specs.Prelude.{All}
use Rattle.std.proofs.lemmas.List.Elements.{All-append, All-nil, All-push}
use Rattle.std.proofs.lemmas.List.{map-append}
use Rattle.protox_fault.specs.Faults.{Span, faults_in, span_from}
use Rattle.protox_fault.specs.declared.error.ParseErrorKind.{ParseErrorKind}
use Rattle.protox_lexeme.specs.State.{Answers, State}
use Rattle.protox_lexeme.specs.Table.{rows_of}
use Rattle.protox_lexeme.specs.Shapes.{Rows}
use Rattle.protox_lexeme.specs.Tokens.{shape_of_result}
use Rattle.protox_lexeme.specs.Lexemes.{Lexeme}
use Rattle.protox_lexeme.specs.declared.token.Token.{Token}
use Rattle.protox_text_format.specs.Pieces.{IfFault, IsFaultless, IsFirstWrong, row_of}
use Rattle.protox_text_format.specs.declared.fault.PieceFailure.{PieceFailure}
use Rattle.protox_text_format.specs.declared.fault.PieceFailure.TheVariants as failure
use Rattle.protox_text_format.specs.declared.item.Piece.{Piece}
use Rattle.protox_text_format.specs.inner.Cutting.{IsLexeme, IsReady, Passes, Takes}

pub passes_one : (lexemes left next : List Lexeme) (token : Token) (span : Span) → Passes lexemes left
    → Takes left token span next → Passes lexemes next
passes_one lexemes left next token span p t = record {
  before = p.before ++ t.lexeme ∷ [];
  cut = p.cut ∙ (ap (λ (x : List Lexeme). p.before ++ x) t.cut ∙ sym (append_assoc p.before (t.lexeme ∷ []) next));
  right = All-push IsFaultless p.before t.lexeme p.right t.right;
}

pub passes_on : (lexemes left next : List Lexeme) → Passes lexemes left → Passes left next → Passes lexemes next
passes_on lexemes left next p q = record {
  before = p.before ++ q.before;
  cut = p.cut ∙ (ap (λ (x : List Lexeme). p.before ++ x) q.cut ∙ sym (append_assoc p.before q.before next));
  right = All-append IsFaultless p.before q.before p.right q.right;
}

pub passes_all : (lexemes left : List Lexeme) → Passes lexemes left → left ≡ [] → All IsFaultless lexemes
passes_all lexemes left p e =
    let same : lexemes ≡ p.before = p.cut ∙ (ap (λ (x : List Lexeme). p.before ++ x) e ∙ append-nil p.before) in
    subst (λ (x : List Lexeme). All IsFaultless x) (sym same) p.right

pub wrong_behind : (lexemes left : List Lexeme) (span : Span) → Passes lexemes left → IsFirstWrong left span
    → IsFirstWrong lexemes span
wrong_behind lexemes left span p w = record {
  before = p.before ++ w.before;
  wrong = w.wrong;
  behind = w.behind;
  cut = p.cut ∙ (ap (λ (x : List Lexeme). p.before ++ x) w.cut ∙ sym (append_assoc p.before w.before (w.wrong ∷ w.behind)));
  right = All-append IsFaultless p.before w.before p.right w.right;
  is_wrong = w.is_wrong;
  placed = w.placed;
}

pub wrong_at : (lexemes behind : List Lexeme) (lexeme : Lexeme) (span : Span) → lexemes ≡ lexeme ∷ behind
    → (IsFaultless lexeme → ⊥) → span ≡ span_from lexeme.start lexeme.stop → IsFirstWrong lexemes span
wrong_at lexemes others lexeme span e wrong placed = record {
  before = [];
  wrong = lexeme;
  behind = others;
  cut = e;
  right = All-nil IsFaultless;
  is_wrong = wrong;
  placed = placed;
}

-- ---- what a lexer answers

module _ (old new : State) (next : Option (Result Token (Unit {0}))) (lexeme : Result Token (Unit {0})) (span : Span)
    (answers : Answers old next new) (some : next ≡ Some lexeme)
    (placed : span ≡ record { start = new.start; end = new.stop }) where
  one : Answers old (Some lexeme) new
  one = subst (λ (x : Option (Result Token (Unit {0}))). Answers old x new) some answers

  at_one : span ≡ span_from one.0.start one.0.stop
  at_one =
      let from : new.start ≡ one.0.start = ap (λ (x : State). x.start) one.4 in
      let to : new.stop ≡ one.0.stop = ap (λ (x : State). x.stop) one.4 in
      placed ∙ (ap (λ n. span_from n new.stop) from ∙ ap (λ n. span_from one.0.start n) to)

  pub not_a_token : (error : Unit {0}) → lexeme ≡ Err error → IsFirstWrong old.left span
  not_a_token error e =
      wrong_at old.left new.left one.0 span one.1
      (λ right. right.0 (sym one.2 ∙ ap shape_of_result e)) at_one

  pub token_with_fault : IsReady old → (errors : List ParseErrorKind) → errors ≡ new.errors
      → false ≡ (length errors == 0) → IsFirstWrong old.left span
  token_with_fault ready errors e some_fault =
      wrong_at old.left new.left one.0 span one.1
      (λ right.
      let are : new.errors ≡ old.errors ++ faults_in old.text_format one.0.faults = ap (λ (x : State). x.errors) one.4 in
      let none : faults_in old.text_format one.0.faults ≡ [] =
      ap (λ b. faults_in b one.0.faults) ready.in_text_format ∙ right.1 in
      let all : errors ≡ [] = e ∙ (are ∙ (ap (λ (x : List ParseErrorKind). x ++ faults_in old.text_format one.0.faults) ready.no_fault ∙ none)) in
      let no : false ≡ true = some_fault ∙ ap (λ (x : List ParseErrorKind). length x == 0) all in
      cc) at_one

pub fault_behind : (lexemes left : List Lexeme) (failure : PieceFailure) → Passes lexemes left
    → IfFault failure (IsFirstWrong left) → IfFault failure (IsFirstWrong lexemes)
fault_behind lexemes left (failure.Fault span) p w = wrong_behind lexemes left span p w
fault_behind lexemes left failure.OutOfMemory p w = w

-- what is known behind a token that is no piece
pub rows_none : (lexemes left next : List Lexeme) (token : Token) (span : Span) → rows_of lexemes ≡ rows_of left
    → Takes left token span next
    → ((lexeme : Lexeme) (others : List Lexeme) → IsLexeme token span lexeme → rows_of (lexeme ∷ others) ≡ rows_of others)
    → rows_of lexemes ≡ rows_of next
rows_none lexemes left next token span e t rows = e ∙ (ap rows_of t.cut ∙ rows t.lexeme next t.is)

pub takes_less : (left next : List Lexeme) (token : Token) (span : Span) → Takes left token span next → length next < length left
takes_less left next token span t =
    let e : length left ≡ suc (length next) = ap length t.cut in omega arith

-- one more piece, and its row
pub rows_push : (found pushed : List Piece) (piece : Piece) (rows left next : Rows Span) → pushed ≡ found ++ piece ∷ []
    → rows ≡ map row_of found ++ left → left ≡ row_of piece ∷ next → rows ≡ map row_of pushed ++ next
rows_push found pushed piece rows left next e before e' =
    before ∙ (ap (λ (x : Rows Span). map row_of found ++ x) e'
    ∙ (sym (append_assoc (map row_of found) (row_of piece ∷ []) next)
    ∙ ap (λ (x : Rows Span). x ++ next) (sym (map-append row_of found (piece ∷ [])) ∙ ap (map row_of) (sym e))))
