-- The way through the lexemes of a text.
use Rattle.std.specs.Prelude.{◌≡◌, true, All, List, [], ◌∷◌, ◌++◌}
use Rattle.protox_fault.specs.Faults.{Span, span_from}
use Rattle.protox_lexeme.specs.Lexemes.{Lexeme}
use Rattle.protox_lexeme.specs.State.{State}
use Rattle.protox_lexeme.specs.Tokens.{shape_of}
use Rattle.protox_lexeme.specs.declared.token.Token.{Token}
use Rattle.protox_text_format.specs.Pieces.{IsFaultless}

-- The lexer has met no fault, and reads text format.
pub record IsReady (lexer : State) : Type 0 where
  pub no_fault : lexer.errors ≡ []
  pub in_text_format : lexer.text_format ≡ true

-- What is no longer left of the lexemes has no fault.
pub record Passes (lexemes left : List Lexeme) : Type 0 where
  pub before : List Lexeme
  pub cut : lexemes ≡ before ++ left
  pub right : All IsFaultless before

-- The token and its place are the lexeme's.
pub record IsLexeme (token : Token) (span : Span) (lexeme : Lexeme) : Type 0 where
  pub shape : shape_of token ≡ lexeme.shape
  pub placed : span ≡ span_from lexeme.start lexeme.stop

-- The token is the first of these lexemes, and has no fault.
pub record Takes (lexemes : List Lexeme) (token : Token) (span : Span) (left : List Lexeme) : Type 0 where
  pub lexeme : Lexeme
  pub cut : lexemes ≡ lexeme ∷ left
  pub is : IsLexeme token span lexeme
  pub right : IsFaultless lexeme
