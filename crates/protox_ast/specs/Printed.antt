-- How the nodes of a syntax tree print.
use Rattle.std.specs.Prelude.{ℕ, ◌==◌, if◌then◌else◌, List, [], ◌∷◌, ◌++◌, flat_map, codes}
use Rattle.std.specs.Fmt.{decimal}
use Rattle.protox_descriptor.specs.Literal.{printed_byte}
use Rattle.protox_ast.specs.declared.ast.Int.{Int}
use Rattle.protox_ast.specs.declared.ast.Syntax.{Syntax}
use Rattle.protox_ast.specs.declared.ast.Syntax.TheVariants.{Proto2, Proto3}
use Rattle.protox_ast.specs.declared.ast.OptionValue.{OptionValue}
use Rattle.protox_ast.specs.declared.ast.String.{String}
use Rattle.protox_ast.specs.declared.ast.OptionValue.TheVariants as value

-- `proto2` or `proto3`.
abbrev pub syntax_text : Syntax → List ℕ
syntax_text Proto2 = codes "proto2"
syntax_text Proto3 = codes "proto3"

-- An integer in decimal digits. It has a minus sign if the source has one, `-0` too.
abbrev pub int_text : Int → List ℕ
int_text int = if int.negative then 45 ∷ decimal int.value else decimal int.value

-- A byte of a printed string as it stands between quotes.
abbrev pub quoted_byte : ℕ → List ℕ
quoted_byte byte = if byte == 92 then codes "\\\\" else if byte == 34 then codes "\\\"" else byte ∷ []

-- The value of an option as it prints. A string has no quotes here.
abbrev pub value_text : OptionValue → List ℕ
value_text (value.Ident negative ident span) = if negative then 45 ∷ ident.value else ident.value
value_text (value.Int int) = int_text int
value_text (value.Float float) = float.value
value_text (value.String string) = flat_map printed_byte string.value
value_text (value.Aggregate text span) = text

-- A string as its `Debug` shows it, with its span.
abbrev pub debug_text : String → List ℕ
debug_text string = codes "String { value: \"" ++ flat_map quoted_byte (flat_map printed_byte string.value) ++ codes "\", span: " ++ decimal string.span.start ++ codes ".." ++ decimal string.span.end ++ codes " }"
