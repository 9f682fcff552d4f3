-- The words that the code says where it stops reading the statements of a file.
use Rattle.std.specs.Prelude.{Option, Some, None, codes}
use Rattle.protox_fault.specs.Faults.{Span}
use Rattle.protox_lexeme.specs.Shapes.{Ident, Mark}
use Rattle.protox_ast.specs.Spelling as s
use Rattle.protox_ast.specs.declared.ast.ImportKind.{ImportKind}
use Rattle.protox_grammar.specs.Class.{all, in_set, only}
use Rattle.protox_grammar.specs.Reader.{fixed}
use Rattle.protox_grammar.specs.Token as token
use Rattle.protox_rows.specs.declared.expected.Expected.{Expected}
use Rattle.protox_rows.specs.declared.expected.Expected.TheVariants as expected
use Rattle.protox_rows.specs.inner.Names as names
use Rattle.protox_rows.specs.inner.Words.{Words, always, and_then, choose, times}
use Rattle.protox_rows.specs.inner.Words as rows
use Rattle.protox_declarations.specs.inner.OptionWords as options
use Rattle.protox_declarations.specs.inner.BlockWords as blocks
use Rattle.protox_declarations.specs.inner.BodyWords as bodies
use Rattle.protox_syntax.specs.inner.Statements as rule

-- "syntax" "=" string+ ";"
unfoldable pub syntax : Words
syntax = and_then (fixed (Ident (codes "syntax"))) (always expected.Syntax) (λ m. and_then (fixed (Mark s.equals)) (always expected.Equals)
    (λ equals_sign. and_then (rule.syntax_value).code (rows.strings expected.String) (λ value. always expected.Semicolon)))

-- What may follow: only a string once `weak` or `public` is read.
abbrev pub after_import : Option (ImportKind × Span) → Expected
after_import (Some kind) = expected.StringLiteral
after_import None = expected.ImportString

-- "import" ("weak" | "public")? string+ ";"
unfoldable pub import_ : Words
import_ = and_then (fixed (Ident (codes "import"))) (always expected.Import) (λ m. and_then (rule.import_kind_if_any).code (always expected.WeakOrPublic)
    (λ kind. and_then (rule.path).code (rows.strings (after_import kind)) (λ path. always expected.Semicolon)))

-- "package" fullident ";"
unfoldable pub package_ : Words
package_ = and_then (fixed (Ident (codes "package"))) (always expected.Statement) (λ m. and_then (names.fullident).code (rows.fullident expected.Ident) (λ name. always expected.DotOrSemicolon))

-- extend | message | enum | service
unfoldable pub item_ : Words
item_ = choose (only token.extend) (bodies.extend_at rule.levels) (choose (only token.message) (bodies.message_at rule.levels) (choose (only token.enum) (blocks.enum_ expected.Statement) (blocks.service expected.Statement)))

-- option | extend | message | enum | service
unfoldable pub declared : Words
declared = choose (only token.option) (options.option expected.Statement) item_

-- ";" | import | package | option | extend | message | enum | service
unfoldable pub statement : Words
statement = choose (only token.semicolon) (always expected.Semicolon) (choose (only token.«import») import_ (choose (only token.«package») package_ declared))

-- statement* , up to the end
unfoldable pub statements : Words
statements = times (in_set all) (rule.statement).code statement

-- syntax? statement*
unfoldable pub whole : Words
whole = and_then (rule.syntax_if_any).code syntax (λ found. statements)
