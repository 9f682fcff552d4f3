-- Which rows are read, and where reading stops for others. All by computing.
use Rattle.std.proofs.Common.{◌≡◌, ℕ, List, [], ◌∷◌, Option, Some, None, Result, Ok, Err, refl}
use Rattle.protox_lexeme.specs.Shapes.{Shape, Mark, Invalid}
use Rattle.protox_ast.specs.Tree as t
use Rattle.protox_ast.specs.Spelling as s
use Rattle.protox_grammar.specs.Reader as reader
use Rattle.protox_grammar.specs.Reader.{Refusal, Unexpected, Deep}
use Rattle.protox_grammar.specs.Rules as r
use Rattle.protox_grammar.specs.Bodies as rule
use Rattle.protox_grammar.specs.Reads.{read}
use Rattle.protox_grammar.proofs.samples.Build as b
use Rattle.protox_grammar.proofs.samples.Build.{rows, word, number, text}

-- How many rows are left where reading a message with these rows stops.
abbrev left : Result (t.File b.NoMark) Refusal → Option Refusal
left (Ok f) = None
left (Err e) = Some e

abbrev stop : ℕ → List Shape → Option Refusal
stop n ss = left (read n (rows (word "message" ∷ word "M" ∷ Mark s.open_brace ∷ ss)))

-- where the reading of a file with these rows stops
abbrev of_file : List Shape → Option Refusal
of_file ss = left (read 31 (rows ss))

abbrev end : List Shape
end = word "f" ∷ Mark s.equals ∷ number 1 ∷ Mark s.semicolon ∷ Mark s.close_brace ∷ []

abbrev listed : List Shape
listed = Mark s.open_bracket ∷ word "x" ∷ Mark s.equals ∷ number 1 ∷ Mark s.close_bracket ∷ Mark s.semicolon ∷ Mark s.close_brace ∷ []

abbrev a_group : List Shape
a_group = word "group" ∷ word "G" ∷ Mark s.equals ∷ number 1 ∷ Mark s.open_brace ∷ Mark s.close_brace ∷ Mark s.close_brace ∷ []

record AreThere : Type 0 where
  -- extensions 5 to 6 [x = 1];
  to_listed : stop 31 (word "extensions" ∷ number 5 ∷ word "to" ∷ number 6 ∷ listed) ≡ None
  -- extensions 5 [x = 1];
  listed_alone : stop 31 (word "extensions" ∷ number 5 ∷ listed) ≡ None
  -- reserved 5 [x = 1]; stops at the bracket
  reserved_listed : stop 31 (word "reserved" ∷ number 5 ∷ listed) ≡ Some (Unexpected 7)
  -- map<int32, map> f = 1;
  mapped : stop 31 (word "map" ∷ Mark s.open_angle ∷ word "int32" ∷ Mark s.comma ∷ word "map" ∷ Mark s.close_angle ∷ end) ≡ None
  -- optional message f = 1; and message f = 1; at the equals sign
  labelled : stop 31 (word "optional" ∷ word "message" ∷ end) ≡ None
  unlabelled : stop 31 (word "message" ∷ end) ≡ Some (Unexpected 4)
  -- int32.f f = 1; stops at the point
  scalar_first : stop 31 (word "int32" ∷ Mark s.dot ∷ word "f" ∷ end) ≡ Some (Unexpected 7)
  -- option x = { stops at what is no token, and at the end where the brace is still open
  no_token : stop 31 (word "option" ∷ word "x" ∷ Mark s.equals ∷ Mark s.open_brace ∷ Invalid ∷ Mark s.close_brace ∷ []) ≡ Some (Unexpected 2)
  still_open : stop 31 (word "option" ∷ word "x" ∷ Mark s.equals ∷ Mark s.open_brace ∷ Mark s.open_paren ∷ []) ≡ Some (Unexpected 0)
  -- message M { service f = 1; } and a group without label
  other_word : stop 31 (word "service" ∷ end) ≡ None
  unlabelled_group : stop 31 a_group ≡ None
  -- message M { , } message M { extensions 5 } message M { extensions 5 to } message M { reserved "a" }
  comma : stop 31 (Mark s.comma ∷ Mark s.close_brace ∷ []) ≡ Some (Unexpected 2)
  no_semicolon : stop 31 (word "extensions" ∷ number 5 ∷ Mark s.close_brace ∷ []) ≡ Some (Unexpected 1)
  no_end : stop 31 (word "extensions" ∷ number 5 ∷ word "to" ∷ Mark s.close_brace ∷ []) ≡ Some (Unexpected 1)
  no_comma : stop 31 (word "reserved" ∷ text "a" ∷ Mark s.close_brace ∷ []) ≡ Some (Unexpected 1)
  -- in a oneof `oneof` is a type: oneof o { oneof f = 1; } and oneof o { oneof B { } }, which stops at the brace
  oneof_type : stop 31 (word "oneof" ∷ word "o" ∷ Mark s.open_brace ∷ word "oneof" ∷ word "f" ∷ Mark s.equals ∷ number 1 ∷ Mark s.semicolon ∷ Mark s.close_brace ∷ Mark s.close_brace ∷ []) ≡ None
  oneof_in_oneof : stop 31 (word "oneof" ∷ word "o" ∷ Mark s.open_brace ∷ word "oneof" ∷ word "B" ∷ Mark s.open_brace ∷ Mark s.close_brace ∷ Mark s.close_brace ∷ Mark s.close_brace ∷ []) ≡ Some (Unexpected 4)
  -- option f = a.b; option f = -"a"; option f = { } };
  dotted_value : of_file (word "option" ∷ word "f" ∷ Mark s.equals ∷ word "a" ∷ Mark s.dot ∷ word "b" ∷ Mark s.semicolon ∷ []) ≡ Some (Unexpected 3)
  minus_string : of_file (word "option" ∷ word "f" ∷ Mark s.equals ∷ Mark s.minus ∷ text "a" ∷ Mark s.semicolon ∷ []) ≡ Some (Unexpected 2)
  brace_behind : of_file (word "option" ∷ word "f" ∷ Mark s.equals ∷ Mark s.open_brace ∷ Mark s.close_brace ∷ Mark s.close_brace ∷ Mark s.semicolon ∷ []) ≡ Some (Unexpected 2)
  -- enum E { message = 1; } and enum E { V = 0 }
  value_message : of_file (word "enum" ∷ word "E" ∷ Mark s.open_brace ∷ word "message" ∷ Mark s.equals ∷ number 1 ∷ Mark s.semicolon ∷ Mark s.close_brace ∷ []) ≡ None
  value_open : of_file (word "enum" ∷ word "E" ∷ Mark s.open_brace ∷ word "V" ∷ Mark s.equals ∷ number 0 ∷ Mark s.close_brace ∷ []) ≡ Some (Unexpected 1)
  -- service S { rpc R(stream stream) returns (stream stream.stream); } and rpc R() ..
  streams : of_file (word "service" ∷ word "S" ∷ Mark s.open_brace ∷ word "rpc" ∷ word "R" ∷ Mark s.open_paren ∷ word "stream" ∷ word "stream" ∷ Mark s.close_paren ∷ word "returns"
      ∷ Mark s.open_paren ∷ word "stream" ∷ word "stream" ∷ Mark s.dot ∷ word "stream" ∷ Mark s.close_paren ∷ Mark s.semicolon ∷ Mark s.close_brace ∷ []) ≡ None
  no_type : of_file (word "service" ∷ word "S" ∷ Mark s.open_brace ∷ word "rpc" ∷ word "R" ∷ Mark s.open_paren ∷ Mark s.close_paren ∷ []) ≡ Some (Unexpected 1)
  -- extend { "a" } import public ; import "a" message; ; syntax = "a"; behind a statement
  no_extendee : of_file (word "extend" ∷ Mark s.open_brace ∷ text "a" ∷ Mark s.close_brace ∷ []) ≡ Some (Unexpected 3)
  no_string : of_file (word "import" ∷ word "public" ∷ Mark s.semicolon ∷ []) ≡ Some (Unexpected 1)
  message_behind : of_file (word "import" ∷ text "a" ∷ word "message" ∷ []) ≡ Some (Unexpected 1)
  late_syntax : of_file (Mark s.semicolon ∷ word "syntax" ∷ Mark s.equals ∷ text "a" ∷ Mark s.semicolon ∷ []) ≡ Some (Unexpected 4)
  -- a group at the last level, and one too deep
  last_level : stop 2 a_group ≡ None
  too_deep : stop 1 a_group ≡ Some (Deep 3)
  -- if no brace follows, that row is unexpected
  no_brace : stop 1 (word "group" ∷ word "G" ∷ Mark s.equals ∷ number 1 ∷ Mark s.semicolon ∷ Mark s.close_brace ∷ []) ≡ Some (Unexpected 2)

are_there : AreThere
unfolding read r.strings r.syntax r.import_kind r.«import» r.fullident r.«package» r.typename r.part r.constant r.value r.body r.option r.list r.int r.type r.label r.normal r.map r.range_end r.range r.ranges r.names r.reserved_kind r.reserved r.extensions r.evalue r.enum_element r.enum r.rpc_type r.rpc_element r.rpc_end r.rpc r.service_element r.service rule.group rule.field_kind rule.field rule.oneof_element rule.oneof_elements rule.oneof rule.extend_element rule.extend_elements rule.extend rule.message rule.element rule.elements rule.mbody rule.unsealed rule.deep_read rule.statement rule.file reader.fixed reader.too_deep reader.leaf reader.star_at reader.star r.balanced_at
are_there = record {
  to_listed = refl;
  listed_alone = refl;
  reserved_listed = refl;
  mapped = refl;
  labelled = refl;
  unlabelled = refl;
  scalar_first = refl;
  no_token = refl;
  still_open = refl;
  other_word = refl;
  unlabelled_group = refl;
  comma = refl;
  no_semicolon = refl;
  no_end = refl;
  no_comma = refl;
  oneof_type = refl;
  oneof_in_oneof = refl;
  dotted_value = refl;
  minus_string = refl;
  brace_behind = refl;
  value_message = refl;
  value_open = refl;
  streams = refl;
  no_type = refl;
  no_extendee = refl;
  no_string = refl;
  message_behind = refl;
  late_syntax = refl;
  last_level = refl;
  too_deep = refl;
  no_brace = refl;
}
