-- Examples of fields: groups, maps, oneofs that stand in no source, defaults and JSON names.
use Prim.Native.String.{String}
use Rattle.std.proofs.Common.{◌≡◌, List, [], ◌∷◌, Some, None, pos, true, codes}
use Rattle.std.specs.Char.{encode_utf8}
use Rattle.std.specs.Fmt.{digits}
use Rattle.std.specs.Str.{is_utf8, chars}
use Rattle.std.specs.Str.Lossy.{utf8_valid_len}
use Rattle.protox_ast.specs.declared.ast.File.{File}
use Rattle.protox_ast.specs.declared.ast.OptionValue.TheVariants as value
use Rattle.protox_ast.specs.declared.ast.Ty.TheVariants as ty
use Rattle.protox_descriptor.specs.declared.descriptor.DescriptorProto.{roll-DescriptorProto}
use Rattle.protox_generate.proofs.samples.Files.{FileTree, AMessage, filled, table, table-of, messages, messages-of}
use Rattle.protox_generate.proofs.samples.Trees as t
use Rattle.protox_generate.proofs.samples.Trees.{◌&◌}
use Rattle.protox_generate.proofs.samples.Written as w
use Rattle.protox_generate.proofs.samples.Written.{at, word, int, made_message, made_oneof, no_field, no_option}

-- ---- a group: its field has the name in small letters, its message stands in the message

abbrev group_source : String
group_source = "message M { optional group Ab = 1 { } }"

abbrev group_file : File
group_file = w.file (at 0 39)

abbrev group_tree : List FileTree
group_tree = AMessage (t.message (word "M" 8) (t.inside (t.a_field (t.field (w.optional (at 12 20)) (t.group (at 21 26) (t.inside t.none)) (word "Ab" 27) (int 1 (at 32 33)) None (at 12 37)) & t.none)) (at 0 39)) ∷ []

group-places : table group_source (filled group_file group_tree) ≡
    ([], 0 ∷ 0 ∷ 39 ∷ [])
    ∷ (4 ∷ 0 ∷ [], 0 ∷ 0 ∷ 39 ∷ [])
    ∷ (4 ∷ 0 ∷ 1 ∷ [], 0 ∷ 8 ∷ 9 ∷ [])
    ∷ (4 ∷ 0 ∷ 2 ∷ 0 ∷ [], 0 ∷ 12 ∷ 37 ∷ [])
    ∷ (4 ∷ 0 ∷ 2 ∷ 0 ∷ 1 ∷ [], 0 ∷ 27 ∷ 29 ∷ [])
    ∷ (4 ∷ 0 ∷ 2 ∷ 0 ∷ 3 ∷ [], 0 ∷ 32 ∷ 33 ∷ [])
    ∷ (4 ∷ 0 ∷ 2 ∷ 0 ∷ 4 ∷ [], 0 ∷ 12 ∷ 20 ∷ [])
    ∷ (4 ∷ 0 ∷ 2 ∷ 0 ∷ 5 ∷ [], 0 ∷ 21 ∷ 26 ∷ [])
    ∷ (4 ∷ 0 ∷ 2 ∷ 0 ∷ 6 ∷ [], 0 ∷ 27 ∷ 29 ∷ [])
    ∷ (4 ∷ 0 ∷ 3 ∷ 0 ∷ [], 0 ∷ 12 ∷ 37 ∷ [])
    ∷ (4 ∷ 0 ∷ 3 ∷ 0 ∷ 1 ∷ [], 0 ∷ 27 ∷ 29 ∷ [])
    ∷ []
group-places = table-of group_source group_file group_tree

group-messages : messages (filled group_file group_tree) ≡
    made_message "M"
    (record no_field { name = Some (codes "ab"); number = Some (pos 1); label = Some (pos 1); field_type = Some (pos 10); type_name = Some (codes "Ab") } ∷ [])
    (made_message "Ab" [] [] [] ∷ []) []
    ∷ []
group-messages = messages-of group_file group_tree

-- ---- a map: its entry message stands in the message, and in no source

abbrev map_source : String
map_source = "message M { map<string, Foo> my_map = 1; }"

abbrev map_file : File
map_file = w.file (at 0 42)

abbrev map_tree : List FileTree
map_tree = AMessage (t.message (word "M" 8) (t.inside (t.a_field (t.field None (t.a_map (at 12 28) ty.String (at 16 22) (ty.Named (w.name (word "Foo" 24))) (at 24 27)) (word "my_map" 29) (int 1 (at 38 39)) None (at 12 40)) & t.none)) (at 0 42)) ∷ []

map-places : table map_source (filled map_file map_tree) ≡
    ([], 0 ∷ 0 ∷ 42 ∷ [])
    ∷ (4 ∷ 0 ∷ [], 0 ∷ 0 ∷ 42 ∷ [])
    ∷ (4 ∷ 0 ∷ 1 ∷ [], 0 ∷ 8 ∷ 9 ∷ [])
    ∷ (4 ∷ 0 ∷ 2 ∷ 0 ∷ [], 0 ∷ 12 ∷ 40 ∷ [])
    ∷ (4 ∷ 0 ∷ 2 ∷ 0 ∷ 1 ∷ [], 0 ∷ 29 ∷ 35 ∷ [])
    ∷ (4 ∷ 0 ∷ 2 ∷ 0 ∷ 3 ∷ [], 0 ∷ 38 ∷ 39 ∷ [])
    ∷ (4 ∷ 0 ∷ 2 ∷ 0 ∷ 6 ∷ [], 0 ∷ 12 ∷ 28 ∷ [])
    ∷ []
map-places = table-of map_source map_file map_tree

map-messages : messages (filled map_file map_tree) ≡
    made_message "M"
    (record no_field { name = Some (codes "my_map"); number = Some (pos 1); label = Some (pos 3); field_type = Some (pos 11); type_name = Some (codes "MyMapEntry") } ∷ [])
    (roll-DescriptorProto (record {
      name = Some (codes "MyMapEntry");
      field =
          record no_field { name = Some (codes "key"); number = Some (pos 1); label = Some (pos 1); field_type = Some (pos 9); json_name = Some (codes "key") }
          ∷ record no_field { name = Some (codes "value"); number = Some (pos 2); label = Some (pos 1); type_name = Some (codes "Foo"); json_name = Some (codes "value") }
          ∷ [];
      extension = [];
      nested_type = [];
      enum_type = [];
      extension_range = [];
      oneof_decl = [];
      options = Some (record { map_entry = Some true; uninterpreted_option = [] });
      reserved_range = [];
      reserved_name = [];
    }) ∷ []) []
    ∷ []
map-messages = messages-of map_file map_tree

-- ---- an entry message, a message and a group's message are numbered together

abbrev nested_source : String
nested_source = "message M { map<int32, M> a = 1; message N { } optional group G = 2 { } }"

abbrev nested_file : File
nested_file = w.file (at 0 73)

abbrev nested_tree : List FileTree
nested_tree = AMessage (t.message (word "M" 8) (t.inside (
    t.a_field (t.field None (t.a_map (at 12 25) ty.Int32 (at 16 21) (ty.Named (w.name (word "M" 23))) (at 23 24)) (word "a" 26) (int 1 (at 30 31)) None (at 12 32))
    & t.a_message (t.message (word "N" 41) (t.inside t.none) (at 33 46))
    & t.a_field (t.field (w.optional (at 47 55)) (t.group (at 56 61) (t.inside t.none)) (word "G" 62) (int 2 (at 66 67)) None (at 47 71))
    & t.none)) (at 0 73)) ∷ []

nested-places : table nested_source (filled nested_file nested_tree) ≡
    ([], 0 ∷ 0 ∷ 73 ∷ [])
    ∷ (4 ∷ 0 ∷ [], 0 ∷ 0 ∷ 73 ∷ [])
    ∷ (4 ∷ 0 ∷ 1 ∷ [], 0 ∷ 8 ∷ 9 ∷ [])
    ∷ (4 ∷ 0 ∷ 2 ∷ 0 ∷ [], 0 ∷ 12 ∷ 32 ∷ [])
    ∷ (4 ∷ 0 ∷ 2 ∷ 0 ∷ 1 ∷ [], 0 ∷ 26 ∷ 27 ∷ [])
    ∷ (4 ∷ 0 ∷ 2 ∷ 0 ∷ 3 ∷ [], 0 ∷ 30 ∷ 31 ∷ [])
    ∷ (4 ∷ 0 ∷ 2 ∷ 0 ∷ 6 ∷ [], 0 ∷ 12 ∷ 25 ∷ [])
    ∷ (4 ∷ 0 ∷ 2 ∷ 1 ∷ [], 0 ∷ 47 ∷ 71 ∷ [])
    ∷ (4 ∷ 0 ∷ 2 ∷ 1 ∷ 1 ∷ [], 0 ∷ 62 ∷ 63 ∷ [])
    ∷ (4 ∷ 0 ∷ 2 ∷ 1 ∷ 3 ∷ [], 0 ∷ 66 ∷ 67 ∷ [])
    ∷ (4 ∷ 0 ∷ 2 ∷ 1 ∷ 4 ∷ [], 0 ∷ 47 ∷ 55 ∷ [])
    ∷ (4 ∷ 0 ∷ 2 ∷ 1 ∷ 5 ∷ [], 0 ∷ 56 ∷ 61 ∷ [])
    ∷ (4 ∷ 0 ∷ 2 ∷ 1 ∷ 6 ∷ [], 0 ∷ 62 ∷ 63 ∷ [])
    ∷ (4 ∷ 0 ∷ 3 ∷ 1 ∷ [], 0 ∷ 33 ∷ 46 ∷ [])
    ∷ (4 ∷ 0 ∷ 3 ∷ 1 ∷ 1 ∷ [], 0 ∷ 41 ∷ 42 ∷ [])
    ∷ (4 ∷ 0 ∷ 3 ∷ 2 ∷ [], 0 ∷ 47 ∷ 71 ∷ [])
    ∷ (4 ∷ 0 ∷ 3 ∷ 2 ∷ 1 ∷ [], 0 ∷ 62 ∷ 63 ∷ [])
    ∷ []
nested-places = table-of nested_source nested_file nested_tree

-- ---- `optional` in proto3: the oneof made for it comes after the written one, without a location

abbrev synthetic_source : String
synthetic_source = "syntax='proto3'; message M { optional int32 _a = 1; oneof o { int32 b = 2; } }"

abbrev synthetic_file : File
synthetic_file = w.file3 (at 0 16) (at 0 78)

abbrev synthetic_tree : List FileTree
synthetic_tree = AMessage (t.message (word "M" 25) (t.inside (
    t.a_field (t.field (w.optional (at 29 37)) (t.normal ty.Int32 (at 38 43)) (word "_a" 44) (int 1 (at 49 50)) None (at 29 51))
    & t.a_oneof (t.oneof (word "o" 58) [] (t.only (t.field None (t.normal ty.Int32 (at 62 67)) (word "b" 68) (int 2 (at 72 73)) None (at 62 74))) (at 52 76))
    & t.none)) (at 17 78)) ∷ []

synthetic-messages : messages (filled synthetic_file synthetic_tree) ≡
    made_message "M"
    (record no_field { name = Some (codes "_a"); number = Some (pos 1); label = Some (pos 1); field_type = Some (pos 5); oneof_index = Some (pos 1); proto3_optional = Some true }
    ∷ record no_field { name = Some (codes "b"); number = Some (pos 2); label = Some (pos 1); field_type = Some (pos 5); oneof_index = Some (pos 0) }
    ∷ [])
    [] (made_oneof "o" ∷ made_oneof "X_a" ∷ [])
    ∷ []
synthetic-messages = messages-of synthetic_file synthetic_tree

synthetic-places : table synthetic_source (filled synthetic_file synthetic_tree) ≡
    ([], 0 ∷ 0 ∷ 78 ∷ [])
    ∷ (4 ∷ 0 ∷ [], 0 ∷ 17 ∷ 78 ∷ [])
    ∷ (4 ∷ 0 ∷ 1 ∷ [], 0 ∷ 25 ∷ 26 ∷ [])
    ∷ (4 ∷ 0 ∷ 2 ∷ 0 ∷ [], 0 ∷ 29 ∷ 51 ∷ [])
    ∷ (4 ∷ 0 ∷ 2 ∷ 0 ∷ 1 ∷ [], 0 ∷ 44 ∷ 46 ∷ [])
    ∷ (4 ∷ 0 ∷ 2 ∷ 0 ∷ 3 ∷ [], 0 ∷ 49 ∷ 50 ∷ [])
    ∷ (4 ∷ 0 ∷ 2 ∷ 0 ∷ 4 ∷ [], 0 ∷ 29 ∷ 37 ∷ [])
    ∷ (4 ∷ 0 ∷ 2 ∷ 0 ∷ 5 ∷ [], 0 ∷ 38 ∷ 43 ∷ [])
    ∷ (4 ∷ 0 ∷ 2 ∷ 1 ∷ [], 0 ∷ 62 ∷ 74 ∷ [])
    ∷ (4 ∷ 0 ∷ 2 ∷ 1 ∷ 1 ∷ [], 0 ∷ 68 ∷ 69 ∷ [])
    ∷ (4 ∷ 0 ∷ 2 ∷ 1 ∷ 3 ∷ [], 0 ∷ 72 ∷ 73 ∷ [])
    ∷ (4 ∷ 0 ∷ 2 ∷ 1 ∷ 5 ∷ [], 0 ∷ 62 ∷ 67 ∷ [])
    ∷ (4 ∷ 0 ∷ 8 ∷ 0 ∷ [], 0 ∷ 52 ∷ 76 ∷ [])
    ∷ (4 ∷ 0 ∷ 8 ∷ 0 ∷ 1 ∷ [], 0 ∷ 58 ∷ 59 ∷ [])
    ∷ (12 ∷ [], 0 ∷ 0 ∷ 16 ∷ [])
    ∷ []
synthetic-places = table-of synthetic_source synthetic_file synthetic_tree

-- ---- a JSON name: the option and then its value at one path; and the brackets, though no option
-- is left in them

abbrev json_source : String
json_source = "message A { optional int32 a = 1 [json_name='x']; }"

abbrev json_file : File
json_file = w.file (at 0 51)

abbrev json_tree : List FileTree
json_tree = AMessage (t.message (word "A" 8) (t.inside (t.a_field (t.field (w.optional (at 12 20)) (t.normal ty.Int32 (at 21 26)) (word "a" 27) (int 1 (at 31 32)) (w.list (w.body_of (word "json_name" 34) (w.string "x" (at 44 47)) ∷ []) (at 33 48)) (at 12 49)) & t.none)) (at 0 51)) ∷ []

json-places : table json_source (filled json_file json_tree) ≡
    ([], 0 ∷ 0 ∷ 51 ∷ [])
    ∷ (4 ∷ 0 ∷ [], 0 ∷ 0 ∷ 51 ∷ [])
    ∷ (4 ∷ 0 ∷ 1 ∷ [], 0 ∷ 8 ∷ 9 ∷ [])
    ∷ (4 ∷ 0 ∷ 2 ∷ 0 ∷ [], 0 ∷ 12 ∷ 49 ∷ [])
    ∷ (4 ∷ 0 ∷ 2 ∷ 0 ∷ 1 ∷ [], 0 ∷ 27 ∷ 28 ∷ [])
    ∷ (4 ∷ 0 ∷ 2 ∷ 0 ∷ 3 ∷ [], 0 ∷ 31 ∷ 32 ∷ [])
    ∷ (4 ∷ 0 ∷ 2 ∷ 0 ∷ 4 ∷ [], 0 ∷ 12 ∷ 20 ∷ [])
    ∷ (4 ∷ 0 ∷ 2 ∷ 0 ∷ 5 ∷ [], 0 ∷ 21 ∷ 26 ∷ [])
    ∷ (4 ∷ 0 ∷ 2 ∷ 0 ∷ 8 ∷ [], 0 ∷ 33 ∷ 48 ∷ [])
    ∷ (4 ∷ 0 ∷ 2 ∷ 0 ∷ 10 ∷ [], 0 ∷ 34 ∷ 47 ∷ [])
    ∷ (4 ∷ 0 ∷ 2 ∷ 0 ∷ 10 ∷ [], 0 ∷ 44 ∷ 47 ∷ [])
    ∷ []
json-places = table-of json_source json_file json_tree

json-messages : messages (filled json_file json_tree) ≡
    made_message "A"
    (record no_field { name = Some (codes "a"); number = Some (pos 1); label = Some (pos 1); field_type = Some (pos 5); json_name = Some (codes "x") } ∷ []) [] []
    ∷ []
unfolding utf8_valid_len is_utf8 chars encode_utf8
json-messages = messages-of json_file json_tree

-- ---- two defaults: the second stays

abbrev twice_source : String
twice_source = "message A { optional int32 a = 1 [default=1, default=2]; }"

abbrev twice_file : File
twice_file = w.file (at 0 58)

abbrev twice_tree : List FileTree
twice_tree = AMessage (t.message (word "A" 8) (t.inside (t.a_field (t.field (w.optional (at 12 20)) (t.normal ty.Int32 (at 21 26)) (word "a" 27) (int 1 (at 31 32)) (w.list (
    w.body_of (word "default" 34) (value.Int (int 1 (at 42 43))) ∷ w.body_of (word "default" 45) (value.Int (int 2 (at 53 54))) ∷ []) (at 33 55)) (at 12 56)) & t.none)) (at 0 58)) ∷ []

twice-places : table twice_source (filled twice_file twice_tree) ≡
    ([], 0 ∷ 0 ∷ 58 ∷ [])
    ∷ (4 ∷ 0 ∷ [], 0 ∷ 0 ∷ 58 ∷ [])
    ∷ (4 ∷ 0 ∷ 1 ∷ [], 0 ∷ 8 ∷ 9 ∷ [])
    ∷ (4 ∷ 0 ∷ 2 ∷ 0 ∷ [], 0 ∷ 12 ∷ 56 ∷ [])
    ∷ (4 ∷ 0 ∷ 2 ∷ 0 ∷ 1 ∷ [], 0 ∷ 27 ∷ 28 ∷ [])
    ∷ (4 ∷ 0 ∷ 2 ∷ 0 ∷ 3 ∷ [], 0 ∷ 31 ∷ 32 ∷ [])
    ∷ (4 ∷ 0 ∷ 2 ∷ 0 ∷ 4 ∷ [], 0 ∷ 12 ∷ 20 ∷ [])
    ∷ (4 ∷ 0 ∷ 2 ∷ 0 ∷ 5 ∷ [], 0 ∷ 21 ∷ 26 ∷ [])
    ∷ (4 ∷ 0 ∷ 2 ∷ 0 ∷ 7 ∷ [], 0 ∷ 42 ∷ 43 ∷ [])
    ∷ (4 ∷ 0 ∷ 2 ∷ 0 ∷ 8 ∷ [], 0 ∷ 33 ∷ 55 ∷ [])
    ∷ (4 ∷ 0 ∷ 2 ∷ 0 ∷ 8 ∷ 999 ∷ 0 ∷ [], 0 ∷ 45 ∷ 54 ∷ [])
    ∷ []
twice-places = table-of twice_source twice_file twice_tree

twice-messages : messages (filled twice_file twice_tree) ≡
    made_message "A"
    (record no_field {
      name = Some (codes "a");
      number = Some (pos 1);
      label = Some (pos 1);
      field_type = Some (pos 5);
      default_value = Some (codes "1");
      options = Some (record { uninterpreted_option = record (no_option "default") { positive_int_value = Some 2 } ∷ [] });
    } ∷ []) [] []
    ∷ []
unfolding digits
twice-messages = messages-of twice_file twice_tree
