-- The words that the code says where it stops reading ranges, enums and services.
use Rattle.std.specs.Prelude.{◌-◌, List, [], ◌∷◌, length, slice_get, Option, Some, None, codes}
use Rattle.protox_lexeme.specs.Shapes.{Ident, Mark}
use Rattle.protox_ast.specs.Spelling as s
use Rattle.protox_ast.specs.declared.ast.OptionList.{OptionList}
use Rattle.protox_ast.specs.declared.ast.ReservedKind as kind_type
use Rattle.protox_ast.specs.declared.ast.ReservedKind.TheVariants.{Ranges, Names}
use Rattle.protox_ast.specs.declared.ast.ReservedRange.{ReservedRange}
use Rattle.protox_ast.specs.declared.ast.ReservedRangeEnd as end_type
use Rattle.protox_ast.specs.declared.ast.ReservedRangeEnd.TheVariants as range_ends
use Rattle.protox_grammar.specs.Class.{only, but, among, in_set}
use Rattle.protox_grammar.specs.Reader.{fixed}
use Rattle.protox_grammar.specs.Token as token
use Rattle.protox_rows.specs.declared.expected.Expected.{Expected}
use Rattle.protox_rows.specs.declared.expected.Expected.TheVariants as expected
use Rattle.protox_rows.specs.inner.Names as names
use Rattle.protox_rows.specs.inner.Words.{Words, always, and_then, choose, times}
use Rattle.protox_rows.specs.inner.Words as rows
use Rattle.protox_declarations.specs.inner.Options as options_rule
use Rattle.protox_declarations.specs.inner.OptionWords as options
use Rattle.protox_declarations.specs.inner.Ranges as ranges_rule
use Rattle.protox_declarations.specs.inner.Enums as enums_rule
use Rattle.protox_declarations.specs.inner.Services as services_rule

-- ---- ranges

-- "to" (int | "max")
unfoldable pub range_end : Words
range_end = and_then (fixed (Ident (codes "to"))) (always expected.To) (λ m. choose (among (token.an_integer ∷ token.minus ∷ [])) rows.int (always expected.IntOrMax))

-- int ("to" (int | "max"))?
unfoldable pub range : Words
range = and_then (names.int).code rows.int (λ start. range_end)

-- "," range
unfoldable pub more_range : Words
more_range = and_then (fixed (Mark s.comma)) (always expected.Comma) (λ m. range)

-- range ("," range)*
unfoldable pub ranges : Words
ranges = and_then (ranges_rule.range).code range (λ first. times (in_set (only token.comma)) (ranges_rule.more_range).code more_range)

-- What may follow a range: it depends on whether it has an end.
abbrev pub behind_end : end_type.ReservedRangeEnd → Expected → Expected → Expected
behind_end range_ends.None behind_start behind_stop = behind_start
behind_end (range_ends.Int x) behind_start behind_stop = behind_stop
behind_end (range_ends.Max x) behind_start behind_stop = behind_stop

-- What may follow a range, if there is one; else what may follow an end.
abbrev pub behind_range : Option ReservedRange → Expected → Expected → Expected
behind_range (Some range) behind_start behind_stop = behind_end range.end behind_start behind_stop
behind_range None behind_start behind_stop = behind_stop

-- What may follow ranges: it depends on the last one.
unfoldable pub behind_ranges : List ReservedRange → Expected → Expected → Expected
behind_ranges xs behind_start behind_stop = behind_range (slice_get xs (length xs - 1)) behind_start behind_stop

-- ---- reserved and extensions statements

-- "," string+
unfoldable pub more_name : Words
more_name = and_then (fixed (Mark s.comma)) (always expected.CommaOrSemicolon) (λ m. rows.strings expected.StringLiteral)

-- string+ ("," string+)*
unfoldable pub names_of : Words
names_of = and_then (ranges_rule.reserved_name).code (rows.strings expected.ReservedItem) (λ first. times (in_set (only token.comma)) (ranges_rule.more_name).code more_name)

-- ranges | names
unfoldable pub reserved_kind : Words
reserved_kind = choose (among (token.an_integer ∷ token.minus ∷ [])) ranges names_of

-- What may follow the ranges or the names of a reserved statement.
unfoldable pub behind_reserved : kind_type.ReservedKind → Expected
behind_reserved (Ranges xs) = behind_ranges xs expected.AfterReservedStart expected.CommaOrSemicolon
behind_reserved (Names xs) = expected.CommaOrSemicolon

-- "reserved" (ranges | names) ";"
unfoldable pub reserved : Expected → Words
reserved e = and_then (fixed (Ident (codes "reserved"))) (always e) (λ m. and_then (ranges_rule.reserved_kind).code reserved_kind (λ kind. always (behind_reserved kind)))

-- What may follow the ranges of an extensions statement: a list of options, if there is none yet.
unfoldable pub behind_extensions : List ReservedRange → Option OptionList → Expected
behind_extensions xs (Some given) = expected.Semicolon
behind_extensions xs None = behind_ranges xs expected.AfterExtensionStart expected.AfterExtensionEnd

-- "extensions" ranges list? ";"
unfoldable pub extensions : Expected → Words
extensions e = and_then (fixed (Ident (codes "extensions"))) (always e)
    (λ m. and_then (ranges_rule.ranges).code ranges (λ x. and_then (options_rule.list_if_any).code options.list (λ given. always (behind_extensions x given))))

-- ---- enums

-- ident "=" int list? ";"
unfoldable pub evalue : Words
evalue = and_then (names.ident).code (always expected.EnumBody) (λ name. and_then (fixed (Mark s.equals)) (always expected.Equals)
    (λ m. and_then (names.int).code rows.int (λ number. and_then (options_rule.list_if_any).code options.list (λ given. always (options.after_list given)))))

-- ";" | option | reserved | evalue
unfoldable pub enum_element : Words
enum_element = choose (only token.semicolon) (always expected.Semicolon) (choose (among (token.option ∷ token.reserved ∷ [])) (choose (only token.option) (options.option expected.EnumBody) (reserved expected.EnumBody)) evalue)

-- the elements up to the `}`
unfoldable pub enum_elements : Words
enum_elements = times (in_set (but token.close_brace)) (enums_rule.enum_element).code enum_element

-- "enum" ident "{" enum_element* "}"
unfoldable pub enum_ : Expected → Words
enum_ e = and_then (fixed (Ident (codes "enum"))) (always e) (λ m. and_then (names.ident).code (always expected.Ident) (λ name. and_then (fixed (Mark s.open_brace)) (always expected.LeftBrace)
    (λ open_at. and_then (enums_rule.enum_elements).code enum_elements (λ parts. always expected.EnumBody))))

-- ---- services

-- "stream"? typename
unfoldable pub rpc_type : Words
rpc_type = choose (among (token.stream ∷ [])) (and_then (fixed (Ident (codes "stream"))) (always expected.StreamOrType) (λ m. rows.typename expected.TypeName)) (rows.typename expected.StreamOrType)

-- ";" | option
unfoldable pub rpc_element : Words
rpc_element = choose (only token.semicolon) (always expected.Semicolon) (options.option expected.RpcBody)

-- the elements up to the `}`
unfoldable pub rpc_elements : Words
rpc_elements = times (in_set (but token.close_brace)) (services_rule.rpc_element).code rpc_element

-- ";" | "{" rpc_element* "}"
unfoldable pub rpc_end : Words
rpc_end = choose (only token.semicolon) (always expected.Semicolon) (and_then (fixed (Mark s.open_brace)) (always expected.SemicolonOrBrace) (λ m. and_then (services_rule.rpc_elements).code rpc_elements (λ x. always expected.RpcBody)))

-- "returns" "(" rpc_type ")" rpc_end
unfoldable pub output : Words
output = and_then (fixed (Ident (codes "returns"))) (always expected.Returns) (λ m. and_then (fixed (Mark s.open_paren)) (always expected.LeftParen)
    (λ open_at. and_then (services_rule.rpc_type).code rpc_type (λ type. and_then (fixed (Mark s.close_paren)) (always expected.DotOrRightParen) (λ close_at. rpc_end))))

-- "rpc" ident "(" rpc_type ")" output
unfoldable pub rpc : Words
rpc = and_then (fixed (Ident (codes "rpc"))) (always expected.ServiceBody) (λ m. and_then (names.ident).code (always expected.Ident) (λ name. and_then (fixed (Mark s.open_paren)) (always expected.LeftParen)
    (λ open_at. and_then (services_rule.rpc_type).code rpc_type (λ type. and_then (fixed (Mark s.close_paren)) (always expected.DotOrRightParen) (λ close_at. output)))))

-- ";" | option | rpc
unfoldable pub service_element : Words
service_element = choose (only token.semicolon) (always expected.Semicolon) (choose (only token.option) (options.option expected.ServiceBody) rpc)

-- the elements up to the `}`
unfoldable pub service_elements : Words
service_elements = times (in_set (but token.close_brace)) (services_rule.service_element).code service_element

-- "service" ident "{" service_element* "}"
unfoldable pub service : Expected → Words
service e = and_then (fixed (Ident (codes "service"))) (always e) (λ m. and_then (names.ident).code (always expected.Ident) (λ name. and_then (fixed (Mark s.open_brace)) (always expected.LeftBrace)
    (λ open_at. and_then (services_rule.service_elements).code service_elements (λ parts. always expected.ServiceBody))))
