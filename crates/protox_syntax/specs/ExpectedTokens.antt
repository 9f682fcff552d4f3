-- Which tokens an entry of a list of expected tokens stands for, and how the entry prints.
use Rattle.std.specs.Prelude.{◌≡◌, ℕ, List, ◌++◌, codes}
use Rattle.protox_lexeme.specs.Printed.{printed}
use Rattle.protox_lexeme.specs.Shapes.{Shape, Ident}
use Rattle.protox_lexeme.specs.Tokens.{shape_of}
use Rattle.protox_syntax.specs.declared.expected_token.ExpectedToken.{ExpectedToken}
use Rattle.protox_syntax.specs.declared.expected_token.ExpectedToken.TheVariants as expected

-- The shape is that of the expected token. `Ident` stands for every identifier.
abbrev pub IsExpected : ExpectedToken → Shape → Type 0
IsExpected (expected.Token t) s = s ≡ shape_of t
IsExpected expected.Ident s = (text : List ℕ) × (s ≡ Ident text)

-- the expected token as it prints, between single quotes; or `an identifier`
abbrev pub expected_text : ExpectedToken → List ℕ
expected_text (expected.Token t) = codes "'" ++ printed (shape_of t) ++ codes "'"
expected_text expected.Ident = codes "an identifier"
