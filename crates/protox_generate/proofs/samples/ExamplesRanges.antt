-- Examples of numbers and names that are set aside.
use Prim.Native.String.{String}
use Rattle.std.proofs.Common.{◌≡◌, ℕ, List, [], ◌∷◌, Some, None, ℤ, pos, negsuc, codes, refl}
use Rattle.protox_ast.specs.declared.ast.File.{File}
use Rattle.protox_ast.specs.declared.ast.ReservedRangeEnd.TheVariants as range_end
use Rattle.protox_descriptor.specs.declared.descriptor.DescriptorProto.{DescriptorProto, roll-DescriptorProto}
use Rattle.protox_describe.specs.Enums.{enum_proto}
use Rattle.protox_ast.specs.Options.{OptionStatement}
use Rattle.protox_ast.specs.Ranges.{reserved_range}
use Rattle.protox_generate.proofs.samples.Files.{FileTree, AMessage, filled, table, table-of, messages, messages-of}
use Rattle.protox_generate.proofs.samples.Trees as t
use Rattle.protox_generate.proofs.samples.Written as w
use Rattle.protox_generate.proofs.samples.Written.{at, word, int, minus, no_option}

-- ---- ranges and names in a message

abbrev ranges_source : String
ranges_source = "message M { reserved 2, 4 to 5; reserved 'a', \"b\" 'c'; extensions 10 to max [x = 1]; }"

abbrev ranges_file : File
ranges_file = w.file (at 0 86)

abbrev ranges_tree : List FileTree
ranges_tree = AMessage (t.message (word "M" 8) (t.body t.none
    (w.extensions (w.range (int 10 (at 66 68)) (range_end.Max (at 72 75)) ∷ []) (w.list (w.body_of (word "x" 77) (w.number (int 1 (at 81 82))) ∷ []) (at 76 83)) (at 55 84) ∷ [])
    []
    (w.ranges (w.range (int 2 (at 21 22)) range_end.None ∷ w.range (int 4 (at 24 25)) (range_end.Int (int 5 (at 29 30))) ∷ []) (at 12 31)
    ∷ w.names (record { value = codes "a"; span = (at 41 44) } ∷ record { value = codes "bc"; span = (at 46 53) } ∷ []) (at 32 54)
    ∷ [])) (at 0 86)) ∷ []

ranges-places : table ranges_source (filled ranges_file ranges_tree) ≡
    ([], 0 ∷ 0 ∷ 86 ∷ [])
    ∷ (4 ∷ 0 ∷ [], 0 ∷ 0 ∷ 86 ∷ [])
    ∷ (4 ∷ 0 ∷ 1 ∷ [], 0 ∷ 8 ∷ 9 ∷ [])
    ∷ (4 ∷ 0 ∷ 5 ∷ [], 0 ∷ 55 ∷ 84 ∷ [])
    ∷ (4 ∷ 0 ∷ 5 ∷ 0 ∷ [], 0 ∷ 66 ∷ 75 ∷ [])
    ∷ (4 ∷ 0 ∷ 5 ∷ 0 ∷ 1 ∷ [], 0 ∷ 66 ∷ 68 ∷ [])
    ∷ (4 ∷ 0 ∷ 5 ∷ 0 ∷ 2 ∷ [], 0 ∷ 72 ∷ 75 ∷ [])
    ∷ (4 ∷ 0 ∷ 5 ∷ 0 ∷ 3 ∷ [], 0 ∷ 76 ∷ 83 ∷ [])
    ∷ (4 ∷ 0 ∷ 5 ∷ 0 ∷ 3 ∷ 999 ∷ 0 ∷ [], 0 ∷ 77 ∷ 82 ∷ [])
    ∷ (4 ∷ 0 ∷ 9 ∷ [], 0 ∷ 12 ∷ 31 ∷ [])
    ∷ (4 ∷ 0 ∷ 9 ∷ 0 ∷ [], 0 ∷ 21 ∷ 22 ∷ [])
    ∷ (4 ∷ 0 ∷ 9 ∷ 0 ∷ 1 ∷ [], 0 ∷ 21 ∷ 22 ∷ [])
    ∷ (4 ∷ 0 ∷ 9 ∷ 0 ∷ 2 ∷ [], 0 ∷ 21 ∷ 22 ∷ [])
    ∷ (4 ∷ 0 ∷ 9 ∷ 1 ∷ [], 0 ∷ 24 ∷ 30 ∷ [])
    ∷ (4 ∷ 0 ∷ 9 ∷ 1 ∷ 1 ∷ [], 0 ∷ 24 ∷ 25 ∷ [])
    ∷ (4 ∷ 0 ∷ 9 ∷ 1 ∷ 2 ∷ [], 0 ∷ 29 ∷ 30 ∷ [])
    ∷ (4 ∷ 0 ∷ 10 ∷ [], 0 ∷ 32 ∷ 54 ∷ [])
    ∷ (4 ∷ 0 ∷ 10 ∷ 0 ∷ [], 0 ∷ 41 ∷ 44 ∷ [])
    ∷ (4 ∷ 0 ∷ 10 ∷ 1 ∷ [], 0 ∷ 46 ∷ 53 ∷ [])
    ∷ []
ranges-places = table-of ranges_source ranges_file ranges_tree

-- the ends are the numbers after the last
ranges-messages : messages (filled ranges_file ranges_tree) ≡
    roll-DescriptorProto (record {
      name = Some (codes "M");
      field = [];
      extension = [];
      nested_type = [];
      enum_type = [];
      extension_range = record {
        start = Some (pos 10);
        end = Some (pos 536870912);
        options = Some (record { uninterpreted_option = record (no_option "x") { positive_int_value = Some 1 } ∷ [] });
      } ∷ [];
      oneof_decl = [];
      options = None;
      reserved_range = record { start = Some (pos 2); end = Some (pos 3) } ∷ record { start = Some (pos 4); end = Some (pos 6) } ∷ [];
      reserved_name = codes "a" ∷ codes "bc" ∷ [];
    })
    ∷ []
ranges-messages = messages-of ranges_file ranges_tree

-- message M { reserved 5 to 2; }
start-after-end : reserved_range (pos 536870911) (w.range (int 5 (at 21 22)) (range_end.Int (int 2 (at 26 27)))) ≡ record { start = Some (pos 5); end = Some (pos 3) }
start-after-end = refl

-- ---- message sets: `max` is more where the first option says so

-- message M { reserved 1 to max; .. } with these options
abbrev set_tree : List OptionStatement → List FileTree
set_tree options = AMessage (t.message (word "M" 8) (t.body t.none [] options (w.ranges (w.range (int 1 (at 21 22)) (range_end.Max (at 26 29)) ∷ []) (at 12 30) ∷ [])) (at 0 72)) ∷ []

-- option message_set_wire_format = `text`;
abbrev wire_format : String → OptionStatement
wire_format text = w.statement (w.body_of (word "message_set_wire_format" 38) (w.identifier (word text 64))) (at 31 70)

abbrev set_of : List OptionStatement → List DescriptorProto
set_of options = messages (filled (w.file (at 0 72)) (set_tree options))

-- such a message, with the end of its range and its options
abbrev a_set : ℤ → List (List ℕ) → DescriptorProto
a_set end words = roll-DescriptorProto (record {
  name = Some (codes "M");
  field = [];
  extension = [];
  nested_type = [];
  enum_type = [];
  extension_range = [];
  oneof_decl = [];
  options = w.set_options words;
  reserved_range = record { start = Some (pos 1); end = Some end } ∷ [];
  reserved_name = [];
})

set-true : set_of (wire_format "true" ∷ []) ≡ a_set (pos 2147483647) (codes "true" ∷ []) ∷ []
set-true = messages-of (w.file (at 0 72)) (set_tree (wire_format "true" ∷ []))

set-false : set_of (wire_format "false" ∷ []) ≡ a_set (pos 536870912) (codes "false" ∷ []) ∷ []
set-false = messages-of (w.file (at 0 72)) (set_tree (wire_format "false" ∷ []))

set-first : set_of (wire_format "false" ∷ wire_format "true" ∷ []) ≡ a_set (pos 536870912) (codes "false" ∷ codes "true" ∷ []) ∷ []
set-first = messages-of (w.file (at 0 72)) (set_tree (wire_format "false" ∷ wire_format "true" ∷ []))

-- ---- enums: the ends are the last numbers

-- enum E { reserved -1 to max; reserved 5 to 2; }
enum-ranges : (enum_proto (w.enum (word "E" 5) [] (
    w.ranges (w.range (minus 1 (at 18 20)) (range_end.Max (at 24 27)) ∷ []) (at 9 28)
    ∷ w.ranges (w.range (int 5 (at 38 39)) (range_end.Int (int 2 (at 43 44))) ∷ w.range (int 7 (at 46 47)) range_end.None ∷ []) (at 29 48)
    ∷ []) (at 0 50))).reserved_range
    ≡ record { start = Some (negsuc 0); end = Some (pos 2147483647) }
    ∷ record { start = Some (pos 5); end = Some (pos 2) }
    ∷ record { start = Some (pos 7); end = Some (pos 7) }
    ∷ []
enum-ranges = refl
