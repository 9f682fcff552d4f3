-- What is noted while small sources are read, up to some of their tokens. All by computing.
use Rattle.std.proofs.Common.{◌≡◌, ℕ, ◌+◌, Bool, true, false, List, [], ◌∷◌, ◌++◌, length, None, codes, refl}
use Rattle.protox_fault.specs.Faults.{span_from}
use Rattle.protox_lexeme.specs.Lexemes.{Lexeme}
use Rattle.protox_lexeme.specs.Shapes.{Mark}
use Rattle.protox_ast.specs.CheckedNodes.{ASyntax, AnImport, AReservedName, AGroupName, APackageAgain, ATooDeep}
use Rattle.protox_ast.specs.Places.{Place}
use Rattle.protox_ast.specs.Spelling as s
use Rattle.protox_ast.specs.Tree as t
use Rattle.protox_grammar.specs.CheckLaws.{noted_by, steps_by, is_too_deep_by}
use Rattle.protox_grammar.specs.TagLaws.{placed_nodes_by}
use Rattle.protox_grammar.specs.Noted.{open_behind}
use Rattle.protox_grammar.specs.Steps.{tokens, star_trace}
use Rattle.protox_grammar.specs.Reader as reader
use Rattle.protox_grammar.specs.Rules as r
use Rattle.protox_grammar.specs.Bodies as rule
use Rattle.protox_grammar.proofs.samples.Sources as x

abbrev run : List ℕ → ℕ → t.Strings ℕ
run value n = record { first = (value, n); others = [] }

-- a place with no comments around it
abbrev bare_place : ℕ → ℕ → Place
bare_place low high = record { span = span_from low high; detached = []; leading = None; trailing = None }

abbrev two_strings : t.Strings ℕ
two_strings = record { first = (codes "pro", 2); others = (codes "to4", 3) ∷ [] }

abbrev package_at : List ℕ → ℕ → t.Package ℕ
package_at name n = record { keyword = n; name = record { first = (name, n + 1); others = [] }; end = n + 2 }

-- import '..' { reserved "a"
abbrev stray : List Lexeme
stray = x.at (x.word "import") 0 6 ∷ x.at (x.text "..") 7 11 ∷ x.at (Mark s.open_brace) 12 13 ∷ x.at (x.word "reserved") 14 22 ∷ x.at (x.text "a") 23 26 ∷ []

-- option o = { } ; message
abbrev option_whole : List Lexeme
option_whole = x.option_front ++ (x.at (Mark s.close_brace) 13 14 ∷ x.at (Mark s.semicolon) 15 16 ∷ x.at (x.word "message") 17 24 ∷ [])

-- Whether an aggregate is open after the first n tokens.
abbrev is_open : List Lexeme → ℕ → Bool
is_open xs n = open_behind false (steps_by xs n)

record AreNoted : Type 0 where
  -- a run of strings is noted at its end, not while it may go on
  run_so_far : noted_by x.unknown_run 3 ≡ []
  run_whole : noted_by x.unknown_run 4 ≡ ASyntax two_strings ∷ []
  import_before : noted_by x.parent 1 ≡ []
  import_there : noted_by x.parent 2 ≡ AnImport (run (codes "..") 1) ∷ []
  -- the same with places
  import_placed : placed_nodes_by x.parent 2 ≡ AnImport (record { first = (codes "..", bare_place 7 11); others = [] }) ∷ []
  name_there : noted_by x.digit_first 5 ≡ AReservedName (run (codes "0foo") 4) ∷ []
  -- the name of a group, before the group is whole
  group_before : noted_by x.small_group 5 ≡ []
  group_there : noted_by x.small_group 6 ≡ AGroupName (codes "ab", 5) ∷ []
  -- each package statement after the first is noted at its `;`
  package_before : noted_by x.packages 5 ≡ []
  package_there : noted_by x.packages 6 ≡ APackageAgain (package_at (codes "a") 0) (package_at (codes "b") 3) ∷ []
  -- after an unexpected token nothing is noted
  stray_there : noted_by stray 5 ≡ AnImport (run (codes "..") 1) ∷ []
  stray_length : length (tokens (steps_by stray 5)) ≡ 2
  -- nor after the `{` of a body of level 32
  level_before : noted_by (x.nested 33 0) 95 ≡ []
  level_there : noted_by (x.nested 33 0) 96 ≡ ATooDeep 93 95 ∷ []
  level_behind : noted_by (x.nested 33 0) 99 ≡ ATooDeep 93 95 ∷ []
  shallow_before : is_too_deep_by (x.nested 33 0) 95 ≡ false
  deep_there : is_too_deep_by (x.nested 33 0) 96 ≡ true
  -- from after the `{` of an aggregate to before its `}`
  open_before : is_open option_whole 3 ≡ false
  open_behind_brace : is_open option_whole 4 ≡ true
  open_behind_end : is_open option_whole 5 ≡ false
  -- the braces of a message are none
  message_open : is_open x.unclosed 3 ≡ false

are_noted : AreNoted
unfolding r.strings r.syntax r.import_kind r.«import» r.fullident r.«package» r.typename r.part r.constant r.value r.body r.option r.list r.int r.type r.label r.normal r.map r.range_end r.range r.ranges r.names r.reserved_kind r.reserved r.extensions r.evalue r.enum_element r.enum r.rpc_type r.rpc_element r.rpc_end r.rpc r.service_element r.service rule.group rule.field_kind rule.field rule.oneof_element rule.oneof_elements rule.oneof rule.extend_element rule.extend_elements rule.extend rule.message rule.element rule.elements rule.mbody rule.unsealed rule.deep_read rule.deep_trace rule.statement rule.file reader.fixed reader.too_deep reader.leaf reader.star_at reader.star star_trace r.balanced_at
are_noted = record {
  run_so_far = refl;
  run_whole = refl;
  import_before = refl;
  import_there = refl;
  import_placed = refl;
  name_there = refl;
  group_before = refl;
  group_there = refl;
  package_before = refl;
  package_there = refl;
  stray_there = refl;
  stray_length = refl;
  level_before = refl;
  level_there = refl;
  level_behind = refl;
  shallow_before = refl;
  deep_there = refl;
  open_before = refl;
  open_behind_brace = refl;
  open_behind_end = refl;
  message_open = refl;
}
