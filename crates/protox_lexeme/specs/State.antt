-- The state of a lexer.
use Rattle.std.specs.Prelude.{◌≡◌, ℕ, Bool, true, List, [], ◌∷◌, ◌++◌, Option, Some, None, Result}
use Rattle.protox_lexeme.specs.declared.token.Token.{Token}
use Rattle.protox_fault.specs.declared.error.ParseErrorKind.{ParseErrorKind}
use Rattle.protox_fault.specs.Faults.{faults_in}
use Rattle.protox_lexeme.specs.Lexemes.{Lexeme}
use Rattle.protox_lexeme.specs.Tokens.{shape_of_result, borrowed_of_result}

-- The lexemes still to come, the span of the last one, and the faults so far. Once memory has run
-- out, the lexer has failed.
pub record State : Type 0 where
  pub source : List ℕ
  pub left : List Lexeme
  pub start : ℕ
  pub stop : ℕ
  pub errors : List ParseErrorKind
  pub text_format : Bool
  pub failed : Bool

-- `next` answered the next lexeme, or None at the end. The faults of the lexeme were added.
abbrev pub Answers : State → Option (Result Token (Unit {0})) → State → Type 0
Answers old None new = (old.left ≡ []) × (new ≡ old)
Answers old (Some r) new =
    (x : Lexeme) × (old.left ≡ x ∷ new.left) × (shape_of_result r ≡ x.shape) × (borrowed_of_result r ≡ x.borrowed)
    × (new ≡ record old { left = new.left; start = x.start; stop = x.stop; errors = old.errors ++ faults_in old.text_format x.faults })

-- The first of these lexemes takes no memory, if there is one.
abbrev pub NextTakesNone : Bool → List Lexeme → Type 0
NextTakesNone text_format [] = Unit {0}
NextTakesNone text_format (x ∷ xs) = (x.borrowed ≡ true) × (faults_in text_format x.faults ≡ [])

-- The next lexeme takes no memory: its value is borrowed, and it has no fault in this mode.
abbrev pub TakesNone : State → Type 0
TakesNone s = NextTakesNone s.text_format s.left

-- No lexeme takes memory.
abbrev pub TakeNone : Bool → List Lexeme → Type 0
TakeNone text_format [] = Unit {0}
TakeNone text_format (x ∷ xs) = NextTakesNone text_format (x ∷ xs) × TakeNone text_format xs
