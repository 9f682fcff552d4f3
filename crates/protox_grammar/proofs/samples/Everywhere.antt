-- Aggregates wherever an option may stand, by computing.
use Rattle.std.proofs.Common.{◌≡◌, List, [], ◌∷◌, refl}
use Rattle.protox_lexeme.specs.Shapes.{Shape, Mark}
use Rattle.protox_ast.specs.Fronts.{aggregates}
use Rattle.protox_ast.specs.Spelling as s
use Rattle.protox_grammar.specs.Reader as reader
use Rattle.protox_grammar.specs.Rules as r
use Rattle.protox_grammar.specs.Bodies as rule
use Rattle.protox_grammar.specs.Reads.{read}
use Rattle.protox_grammar.proofs.samples.Sources.{word, number, made, IsMade}

-- option o = { a { } }; message M { option x = { }; int32 f = 1 [ x = 1 , y = { } ]; map < int32 , A > m = 2 [ x = { } ]; group G = 3 [ x = { } ] { option x = { }; } oneof o { option x = { }; int32 g = 4 [ x = { } ]; } enum E { option x = { }; A = 0 [ x = { } ]; } extend X { ; int32 h = 5 [ x = { } ]; } extensions 5 to 6 [ x = { } ]; message N { option x = { }; } } service S { option x = { }; rpc R ( A ) returns ( B ) { option x = { }; } } extend Y { int32 i = 6 [ x = { } ]; } enum F { option x = { }; }
abbrev everywhere : List Shape
everywhere =
    word "option" ∷ word "o" ∷ Mark s.equals ∷ Mark s.open_brace ∷ word "a" ∷ Mark s.open_brace ∷ Mark s.close_brace ∷ Mark s.close_brace ∷
    Mark s.semicolon ∷ word "message" ∷ word "M" ∷ Mark s.open_brace ∷ word "option" ∷ word "x" ∷ Mark s.equals ∷ Mark s.open_brace ∷
    Mark s.close_brace ∷ Mark s.semicolon ∷ word "int32" ∷ word "f" ∷ Mark s.equals ∷ number 1 ∷ Mark s.open_bracket ∷ word "x" ∷ Mark s.equals ∷
    number 1 ∷ Mark s.comma ∷ word "y" ∷ Mark s.equals ∷ Mark s.open_brace ∷ Mark s.close_brace ∷ Mark s.close_bracket ∷ Mark s.semicolon ∷
    word "map" ∷ Mark s.open_angle ∷ word "int32" ∷ Mark s.comma ∷ word "A" ∷ Mark s.close_angle ∷ word "m" ∷ Mark s.equals ∷ number 2 ∷
    Mark s.open_bracket ∷ word "x" ∷ Mark s.equals ∷ Mark s.open_brace ∷ Mark s.close_brace ∷ Mark s.close_bracket ∷ Mark s.semicolon ∷
    word "group" ∷ word "G" ∷ Mark s.equals ∷ number 3 ∷ Mark s.open_bracket ∷ word "x" ∷ Mark s.equals ∷ Mark s.open_brace ∷ Mark s.close_brace ∷
    Mark s.close_bracket ∷ Mark s.open_brace ∷ word "option" ∷ word "x" ∷ Mark s.equals ∷ Mark s.open_brace ∷ Mark s.close_brace ∷ Mark s.semicolon ∷
    Mark s.close_brace ∷ word "oneof" ∷ word "o" ∷ Mark s.open_brace ∷ word "option" ∷ word "x" ∷ Mark s.equals ∷ Mark s.open_brace ∷
    Mark s.close_brace ∷ Mark s.semicolon ∷ word "int32" ∷ word "g" ∷ Mark s.equals ∷ number 4 ∷ Mark s.open_bracket ∷ word "x" ∷ Mark s.equals ∷
    Mark s.open_brace ∷ Mark s.close_brace ∷ Mark s.close_bracket ∷ Mark s.semicolon ∷ Mark s.close_brace ∷ word "enum" ∷ word "E" ∷
    Mark s.open_brace ∷ word "option" ∷ word "x" ∷ Mark s.equals ∷ Mark s.open_brace ∷ Mark s.close_brace ∷ Mark s.semicolon ∷ word "A" ∷
    Mark s.equals ∷ number 0 ∷ Mark s.open_bracket ∷ word "x" ∷ Mark s.equals ∷ Mark s.open_brace ∷ Mark s.close_brace ∷ Mark s.close_bracket ∷
    Mark s.semicolon ∷ Mark s.close_brace ∷ word "extend" ∷ word "X" ∷ Mark s.open_brace ∷ Mark s.semicolon ∷ word "int32" ∷ word "h" ∷ Mark s.equals ∷ number 5 ∷
    Mark s.open_bracket ∷ word "x" ∷ Mark s.equals ∷ Mark s.open_brace ∷ Mark s.close_brace ∷ Mark s.close_bracket ∷ Mark s.semicolon ∷
    Mark s.close_brace ∷ word "extensions" ∷ number 5 ∷ word "to" ∷ number 6 ∷ Mark s.open_bracket ∷ word "x" ∷ Mark s.equals ∷ Mark s.open_brace ∷
    Mark s.close_brace ∷ Mark s.close_bracket ∷ Mark s.semicolon ∷ word "message" ∷ word "N" ∷ Mark s.open_brace ∷ word "option" ∷ word "x" ∷
    Mark s.equals ∷ Mark s.open_brace ∷ Mark s.close_brace ∷ Mark s.semicolon ∷ Mark s.close_brace ∷ Mark s.close_brace ∷ word "service" ∷ word "S" ∷
    Mark s.open_brace ∷ word "option" ∷ word "x" ∷ Mark s.equals ∷ Mark s.open_brace ∷ Mark s.close_brace ∷ Mark s.semicolon ∷ word "rpc" ∷
    word "R" ∷ Mark s.open_paren ∷ word "A" ∷ Mark s.close_paren ∷ word "returns" ∷ Mark s.open_paren ∷ word "B" ∷ Mark s.close_paren ∷
    Mark s.open_brace ∷ word "option" ∷ word "x" ∷ Mark s.equals ∷ Mark s.open_brace ∷ Mark s.close_brace ∷ Mark s.semicolon ∷ Mark s.close_brace ∷
    Mark s.close_brace ∷ word "extend" ∷ word "Y" ∷ Mark s.open_brace ∷ word "int32" ∷ word "i" ∷ Mark s.equals ∷ number 6 ∷ Mark s.open_bracket ∷
    word "x" ∷ Mark s.equals ∷ Mark s.open_brace ∷ Mark s.close_brace ∷ Mark s.close_bracket ∷ Mark s.semicolon ∷ Mark s.close_brace ∷ word "enum" ∷
    word "F" ∷ Mark s.open_brace ∷ word "option" ∷ word "x" ∷ Mark s.equals ∷ Mark s.open_brace ∷ Mark s.close_brace ∷ Mark s.semicolon ∷
    Mark s.close_brace ∷ []

-- Each `{` after an equals sign, and the brace that closes it.
record AreAll : Type 0 where
  is_made : IsMade everywhere
  braces : aggregates (made everywhere) ≡ (3, 7) ∷ (15, 16) ∷ (29, 30) ∷ (45, 46) ∷ (56, 57) ∷ (63, 64) ∷ (73, 74) ∷ (83, 84) ∷ (94, 95) ∷ (103, 104) ∷ (119, 120) ∷ (131, 132) ∷ (141, 142) ∷ (152, 153) ∷ (168, 169) ∷ (183, 184) ∷ (194, 195) ∷ []

are_all : AreAll
unfolding read r.strings r.syntax r.import_kind r.«import» r.fullident r.«package» r.typename r.part r.constant r.value r.body r.option r.list r.int r.type r.label r.normal r.map r.range_end r.range r.ranges r.names r.reserved_kind r.reserved r.extensions r.evalue r.enum_element r.enum r.rpc_type r.rpc_element r.rpc_end r.rpc r.service_element r.service rule.group rule.field_kind rule.field rule.oneof_element rule.oneof_elements rule.oneof rule.extend_element rule.extend_elements rule.extend rule.message rule.element rule.elements rule.mbody rule.unsealed rule.deep_read rule.statement rule.file reader.fixed reader.too_deep reader.leaf reader.star_at reader.star r.balanced_at
are_all = record { is_made = refl; braces = refl }
