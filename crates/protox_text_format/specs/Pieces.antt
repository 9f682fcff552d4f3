-- The pieces of a text.
use Rattle.std.specs.Prelude.{◌≡◌, ◌≢◌, ⊤, true, All, List, [], ◌∷◌, ◌++◌}
use Rattle.protox_fault.specs.Faults.{Span, faults_in, span_from}
use Rattle.protox_lexeme.specs.Lexemes.{Lexeme}
use Rattle.protox_lexeme.specs.Shapes.{Invalid, Row}
use Rattle.protox_lexeme.specs.Tokens.{shape_of}
use Rattle.protox_text_format.specs.declared.fault.PieceFailure.{PieceFailure}
use Rattle.protox_text_format.specs.declared.fault.PieceFailure.TheVariants as failure
use Rattle.protox_text_format.specs.declared.item.Piece.{Piece}

-- a piece without what it owns
abbrev pub row_of : Piece → Row Span
row_of piece = record { shape = shape_of piece.token; at = piece.span }

-- Nothing is wrong with the lexeme in text format.
abbrev pub IsFaultless : Lexeme → Type 0
IsFaultless x = (x.shape ≢ Invalid) × (faults_in true x.faults ≡ [])

-- The lexeme at the place is the first with which something is wrong.
pub record IsFirstWrong (lexemes : List Lexeme) (span : Span) : Type 0 where
  pub before : List Lexeme
  pub wrong : Lexeme
  pub behind : List Lexeme
  pub cut : lexemes ≡ before ++ wrong ∷ behind
  pub right : All IsFaultless before
  pub is_wrong : IsFaultless wrong → ⊥
  pub placed : span ≡ span_from wrong.start wrong.stop

-- P of the place, unless memory ran out.
abbrev pub IfFault : PieceFailure → (Span → Type 0) → Type 0
IfFault failure.OutOfMemory P = ⊤
IfFault (failure.Fault span) P = P span
