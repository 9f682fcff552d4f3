-- What holds for all faults of a list, not only for the first.
use Rattle.std.specs.Prelude.{◌≡◌, ℕ, suc, Bool, true, false, if◌then◌else◌, List, [], ◌∷◌, ◌++◌, Any}
use Rattle.protox_fault.specs.Faults.{Span, faults_in}
use Rattle.protox_lexeme.specs.Lexemes.{Lexeme}
use Rattle.protox_lexeme.specs.Printed.{printed}
use Rattle.protox_lexeme.specs.Shapes.{Invalid, Row}
use Rattle.protox_lexeme.specs.Table.{is_gap, row_faults, rows_of}
use Rattle.protox_fault.specs.declared.error.ParseErrorKind.{ParseErrorKind}
use Rattle.protox_fault.specs.declared.error.ParseErrorKind.TheVariants as fault
use Rattle.protox_ast.specs.Basics.{Each}
use Rattle.protox_ast.specs.Fronts.{Inside}

-- ---- where the faults stand

-- Whether the fault is one of a lexeme or of an invalid character. A string or a comment without an
-- end is not counted here, since its fault has no span.
abbrev pub is_lexical : ParseErrorKind → Bool
is_lexical (fault.InvalidToken span) = true
is_lexical (fault.IntegerOutOfRange span) = true
is_lexical (fault.InvalidStringCharacters span) = true
is_lexical (fault.UnterminatedString span) = true
is_lexical (fault.InvalidStringEscape span) = true
is_lexical (fault.NestedBlockComment span) = true
is_lexical (fault.NoSpaceBetweenIntAndIdent span) = true
is_lexical (fault.HashCommentOutsideTextFormat span) = true
is_lexical (fault.FloatSuffixOutsideTextFormat span) = true
is_lexical _ = false

-- The fault is one of some lexeme.
abbrev pub IsOwn : List Lexeme → ParseErrorKind → Type 0
IsOwn lexemes wrong = Any (λ x. Any (λ own. own ≡ wrong) (row_faults x)) lexemes

-- Some token has this span and this text.
abbrev pub IsTokenThere : List Lexeme → Span → List ℕ → Type 0
IsTokenThere lexemes span found = Any (λ (r : Row Span). (r.at ≡ span) × (printed r.shape ≡ found) × (r.shape ≡ Invalid → ⊥)) (rows_of lexemes)

-- A lexical fault is one of some lexeme. An unexpected token is a token of the source.
abbrev pub Stands : List Lexeme → ParseErrorKind → Type 0
Stands lexemes (fault.UnexpectedToken span expected found) = IsTokenThere lexemes span found
Stands lexemes wrong = is_lexical wrong ≡ true → IsOwn lexemes wrong

-- No lexical fault is twice in the list.
abbrev pub StandOnce : List ParseErrorKind → Type 0
StandOnce faults = (before between behind : List ParseErrorKind) (wrong : ParseErrorKind) → faults ≡ before ++ (wrong ∷ (between ++ (wrong ∷ behind))) → is_lexical wrong ≡ false

-- Each fault stands somewhere in the source, and no lexical one is there twice.
abbrev pub StandIn : List Lexeme → List ParseErrorKind → Type 0
StandIn lexemes faults = Each (Stands lexemes) faults × StandOnce faults

-- ---- only lexical faults

-- The lexeme, after this many tokens of the source, has these faults. A `#` comment and a float
-- suffix are no faults inside an aggregate.
abbrev pub HasFaults : List Lexeme → ℕ → Lexeme → List ParseErrorKind → Type 0
HasFaults lexemes tokens x faults = (Inside lexemes tokens → faults ≡ faults_in true (row_faults x)) × ((Inside lexemes tokens → ⊥) → faults ≡ row_faults x)

-- These lexemes, after this many tokens of the source, have these faults, in order.
abbrev pub HaveFaultsBehind : List Lexeme → ℕ → List Lexeme → List ParseErrorKind → Type 0
HaveFaultsBehind lexemes tokens [] faults = faults ≡ []
HaveFaultsBehind lexemes tokens (x ∷ xs) faults =
    (own : List ParseErrorKind) × (others : List ParseErrorKind) × (faults ≡ own ++ others)
    × HasFaults lexemes tokens x own × HaveFaultsBehind lexemes (if is_gap x.shape then tokens else suc tokens) xs others

-- The faults are exactly those of the lexemes, in order.
abbrev pub AreFaultsOf : List Lexeme → List ParseErrorKind → Type 0
AreFaultsOf lexemes faults = HaveFaultsBehind lexemes 0 lexemes faults
