-- The words that the code says where it stops reading options.
use Rattle.std.specs.Prelude.{Bool, if◌then◌else◌, [], ◌∷◌, Option, Some, None, codes}
use Rattle.protox_fault.specs.Faults.{Span}
use Rattle.protox_lexeme.specs.Shapes.{Ident, Mark}
use Rattle.protox_ast.specs.Ast.{span_if_any}
use Rattle.protox_ast.specs.Spelling as s
use Rattle.protox_ast.specs.declared.ast.OptionList.{OptionList}
use Rattle.protox_grammar.specs.Class.{only, words, union, among, in_set}
use Rattle.protox_grammar.specs.Reader.{fixed, mapped, optional}
use Rattle.protox_grammar.specs.Token as token
use Rattle.protox_rows.specs.declared.expected.Expected.{Expected}
use Rattle.protox_rows.specs.declared.expected.Expected.TheVariants as expected
use Rattle.protox_rows.specs.inner.Names as names
use Rattle.protox_rows.specs.inner.Words.{Words, always, and_then, choose, times}
use Rattle.protox_rows.specs.inner.Words as rows
use Rattle.protox_declarations.specs.inner.Options as rule

-- ident | "(" typename ")"
unfoldable pub part : Words
part = choose words (always expected.OptionName) (and_then (fixed (Mark s.open_paren)) (always expected.OptionName) (λ m. and_then (names.typename).code (rows.typename expected.TypeName) (λ name. always expected.DotOrRightParen)))

-- "." part
unfoldable pub more_part : Words
more_part = and_then (fixed (Mark s.dot)) (always expected.EqualsOrDot) (λ m. part)

-- part ("." part)*
unfoldable pub name : Words
name = and_then (rule.part).code part (λ first. times (in_set (only token.dot)) (rule.more_part).code more_part)

-- What is expected of a constant. After a sign only a number is named.
abbrev pub after_sign : Option Span → Expected
after_sign (Some minus) = expected.Numeric
after_sign None = expected.Constant

-- ident | integer | float
unfoldable pub constant : Expected → Words
constant e = choose words (always e) (choose (only token.an_integer) (always expected.Int) (always e))

-- What is expected in place of a brace. Where an aggregate may begin, any constant may stand.
abbrev pub brace : Bool → Expected
brace opens = if opens then expected.Constant else expected.RightBrace

-- "{" tokens whose braces match "}"
unfoldable pub aggregate : Words
aggregate = and_then (fixed (Mark s.open_brace)) (always expected.Constant) (λ m. always expected.RightBrace)

-- "-"? constant | string+ | aggregate
unfoldable pub value : Words
value = choose (union words (among (token.an_integer ∷ token.a_float ∷ token.minus ∷ [])))
    (and_then (mapped span_if_any (optional (in_set (only token.minus)) (fixed (Mark s.minus)))) (always expected.Minus) (λ minus. constant (after_sign minus)))
    (choose (only token.a_string) (rows.strings expected.Constant) aggregate)

-- name "=" value
unfoldable pub body : Words
body = and_then (rule.name).code name (λ x. and_then (fixed (Mark s.equals)) (always expected.EqualsOrDot) (λ m. value))

-- "," body
unfoldable pub more_body : Words
more_body = and_then (fixed (Mark s.comma)) (always expected.CommaOrRightBracket) (λ m. body)

-- body ("," body)*
unfoldable pub bodies : Words
bodies = and_then (rule.body).code body (λ first. times (in_set (only token.comma)) (rule.more_body).code more_body)

-- "[" bodies "]"
unfoldable pub list : Words
list = and_then (fixed (Mark s.open_bracket)) (always expected.LeftBracket) (λ m. and_then (rule.bodies).code bodies (λ x. always expected.CommaOrRightBracket))

-- "option" body ";"
unfoldable pub option : Expected → Words
option e = and_then (fixed (Ident (codes "option"))) (always e) (λ m. and_then (rule.body).code body (λ x. always expected.Semicolon))

-- What is expected after a list of options, or where such a list may stand.
abbrev pub after_list : Option OptionList → Expected
after_list (Some given) = expected.Semicolon
after_list None = expected.SemicolonOrOptions
