-- Examples of enums, services and extensions.
use Prim.Native.String.{String}
use Rattle.std.proofs.Common.{◌≡◌, List, [], ◌∷◌, Some, None, pos, negsuc, true, codes, refl}
use Rattle.protox_ast.specs.declared.ast.File.{File}
use Rattle.protox_ast.specs.declared.ast.FileItem.TheVariants as file_item
use Rattle.protox_ast.specs.declared.ast.Ty.TheVariants as ty
use Rattle.protox_descriptor.specs.declared.descriptor.DescriptorProto.{roll-DescriptorProto}
use Rattle.protox_describe.specs.File.{file_proto}
use Rattle.protox_generate.proofs.samples.Files.{FileTree, AMessage, AnExtend, Another, filled, table, table-of, messages, messages-of, extensions, extensions-of}
use Rattle.protox_generate.proofs.samples.Trees as t
use Rattle.protox_generate.proofs.samples.Trees.{◌&◌}
use Rattle.protox_generate.proofs.samples.Written as w
use Rattle.protox_generate.proofs.samples.Written.{at, word, int, minus, made_message, no_field}

-- ---- an enum

abbrev enum_source : String
enum_source = "enum E { A = -1; }"

abbrev enum_file : File
enum_file = w.file (at 0 18)

abbrev enum_tree : List FileTree
enum_tree = Another (file_item.Enum (w.enum (word "E" 5) (w.enum_value (word "A" 9) (minus 1 (at 13 15)) None (at 9 16) ∷ []) [] (at 0 18))) ∷ []

enum-places : table enum_source (filled enum_file enum_tree) ≡
    ([], 0 ∷ 0 ∷ 18 ∷ [])
    ∷ (5 ∷ 0 ∷ [], 0 ∷ 0 ∷ 18 ∷ [])
    ∷ (5 ∷ 0 ∷ 1 ∷ [], 0 ∷ 5 ∷ 6 ∷ [])
    ∷ (5 ∷ 0 ∷ 2 ∷ 0 ∷ [], 0 ∷ 9 ∷ 16 ∷ [])
    ∷ (5 ∷ 0 ∷ 2 ∷ 0 ∷ 1 ∷ [], 0 ∷ 9 ∷ 10 ∷ [])
    ∷ (5 ∷ 0 ∷ 2 ∷ 0 ∷ 2 ∷ [], 0 ∷ 13 ∷ 15 ∷ [])
    ∷ []
enum-places = table-of enum_source enum_file enum_tree

enum-descriptor : (file_proto (codes "a.proto") (filled enum_file enum_tree)).enum_type ≡
    record { name = Some (codes "E"); value = record { name = Some (codes "A"); number = Some (negsuc 0); options = None } ∷ []; options = None; reserved_range = []; reserved_name = [] } ∷ []
enum-descriptor = refl

-- ---- a service

abbrev service_source : String
service_source = "service S { rpc m(stream.A) returns (B); }"

abbrev service_file : File
service_file = w.file (at 0 42)

abbrev service_tree : List FileTree
service_tree = Another (file_item.Service (record {
  name = (word "S" 8);
  options = [];
  comments = w.quiet;
  span = (at 0 42);
  methods = record {
    name = (word "m" 16);
    input_ty = w.dotted (at 24 25) ((word "A" 25) ∷ []);
    output_ty = w.name (word "B" 37);
    options = [];
    client_streaming = Some (at 18 24);
    server_streaming = None;
    comments = w.quiet;
    span = (at 12 40);
  } ∷ [];
})) ∷ []

service-places : table service_source (filled service_file service_tree) ≡
    ([], 0 ∷ 0 ∷ 42 ∷ [])
    ∷ (6 ∷ 0 ∷ [], 0 ∷ 0 ∷ 42 ∷ [])
    ∷ (6 ∷ 0 ∷ 1 ∷ [], 0 ∷ 8 ∷ 9 ∷ [])
    ∷ (6 ∷ 0 ∷ 2 ∷ 0 ∷ [], 0 ∷ 12 ∷ 40 ∷ [])
    ∷ (6 ∷ 0 ∷ 2 ∷ 0 ∷ 1 ∷ [], 0 ∷ 16 ∷ 17 ∷ [])
    ∷ (6 ∷ 0 ∷ 2 ∷ 0 ∷ 2 ∷ [], 0 ∷ 24 ∷ 26 ∷ [])
    ∷ (6 ∷ 0 ∷ 2 ∷ 0 ∷ 3 ∷ [], 0 ∷ 37 ∷ 38 ∷ [])
    ∷ (6 ∷ 0 ∷ 2 ∷ 0 ∷ 5 ∷ [], 0 ∷ 18 ∷ 24 ∷ [])
    ∷ []
service-places = table-of service_source service_file service_tree

service-descriptor : (file_proto (codes "a.proto") (filled service_file service_tree)).service ≡ record {
  name = Some (codes "S");
  method = record {
    name = Some (codes "m");
    input_type = Some (codes ".A");
    output_type = Some (codes "B");
    options = None;
    client_streaming = Some true;
    server_streaming = None;
  } ∷ [];
  options = None;
} ∷ []
service-descriptor = refl

-- ---- extensions: those of all `extend` statements are numbered together, and each statement is at
-- the path of the list

abbrev extends_source : String
extends_source = "extend A { optional int32 x = 1; } extend B { optional int32 y = 2; }"

abbrev extends_file : File
extends_file = w.file (at 0 69)

abbrev extends_tree : List FileTree
extends_tree =
    AnExtend (t.extend (w.name (word "A" 7)) (t.only (t.field (w.optional (at 11 19)) (t.normal ty.Int32 (at 20 25)) (word "x" 26) (int 1 (at 30 31)) None (at 11 32))) (at 0 34))
    ∷ AnExtend (t.extend (w.name (word "B" 42)) (t.only (t.field (w.optional (at 46 54)) (t.normal ty.Int32 (at 55 60)) (word "y" 61) (int 2 (at 65 66)) None (at 46 67))) (at 35 69))
    ∷ []

extends-places : table extends_source (filled extends_file extends_tree) ≡
    ([], 0 ∷ 0 ∷ 69 ∷ [])
    ∷ (7 ∷ [], 0 ∷ 0 ∷ 34 ∷ [])
    ∷ (7 ∷ [], 0 ∷ 35 ∷ 69 ∷ [])
    ∷ (7 ∷ 0 ∷ [], 0 ∷ 11 ∷ 32 ∷ [])
    ∷ (7 ∷ 0 ∷ 1 ∷ [], 0 ∷ 26 ∷ 27 ∷ [])
    ∷ (7 ∷ 0 ∷ 2 ∷ [], 0 ∷ 7 ∷ 8 ∷ [])
    ∷ (7 ∷ 0 ∷ 3 ∷ [], 0 ∷ 30 ∷ 31 ∷ [])
    ∷ (7 ∷ 0 ∷ 4 ∷ [], 0 ∷ 11 ∷ 19 ∷ [])
    ∷ (7 ∷ 0 ∷ 5 ∷ [], 0 ∷ 20 ∷ 25 ∷ [])
    ∷ (7 ∷ 1 ∷ [], 0 ∷ 46 ∷ 67 ∷ [])
    ∷ (7 ∷ 1 ∷ 1 ∷ [], 0 ∷ 61 ∷ 62 ∷ [])
    ∷ (7 ∷ 1 ∷ 2 ∷ [], 0 ∷ 42 ∷ 43 ∷ [])
    ∷ (7 ∷ 1 ∷ 3 ∷ [], 0 ∷ 65 ∷ 66 ∷ [])
    ∷ (7 ∷ 1 ∷ 4 ∷ [], 0 ∷ 46 ∷ 54 ∷ [])
    ∷ (7 ∷ 1 ∷ 5 ∷ [], 0 ∷ 55 ∷ 60 ∷ [])
    ∷ []
extends-places = table-of extends_source extends_file extends_tree

extends-descriptor : extensions (filled extends_file extends_tree) ≡
    record no_field { name = Some (codes "x"); number = Some (pos 1); label = Some (pos 1); field_type = Some (pos 5); extendee = Some (codes "A") }
    ∷ record no_field { name = Some (codes "y"); number = Some (pos 2); label = Some (pos 1); field_type = Some (pos 5); extendee = Some (codes "B") }
    ∷ []
extends-descriptor = extensions-of extends_file extends_tree

-- ---- `optional` of an extension in proto3: no oneof is made

abbrev extend3_source : String
extend3_source = "syntax='proto3'; message M { extend A { optional int32 x = 1; } }"

abbrev extend3_file : File
extend3_file = w.file3 (at 0 16) (at 0 65)

abbrev extend3_tree : List FileTree
extend3_tree = AMessage (t.message (word "M" 25) (t.inside (t.an_extend (t.extend (w.name (word "A" 36)) (
    t.only (t.field (w.optional (at 40 48)) (t.normal ty.Int32 (at 49 54)) (word "x" 55) (int 1 (at 59 60)) None (at 40 61))) (at 29 63)) & t.none)) (at 17 65)) ∷ []

extend3-messages : messages (filled extend3_file extend3_tree) ≡ roll-DescriptorProto (record {
  name = Some (codes "M");
  field = [];
  extension = record no_field { name = Some (codes "x"); number = Some (pos 1); label = Some (pos 1); field_type = Some (pos 5); extendee = Some (codes "A"); proto3_optional = Some true } ∷ [];
  nested_type = [];
  enum_type = [];
  extension_range = [];
  oneof_decl = [];
  options = None;
  reserved_range = [];
  reserved_name = [];
}) ∷ []
extend3-messages = messages-of extend3_file extend3_tree

-- ---- a group of an extension: its message is the file's

abbrev extend_group_source : String
extend_group_source = "message M { } extend A { optional group G = 1 { } }"

abbrev extend_group_file : File
extend_group_file = w.file (at 0 51)

abbrev extend_group_tree : List FileTree
extend_group_tree =
    AMessage (t.message (word "M" 8) (t.inside t.none) (at 0 13))
    ∷ AnExtend (t.extend (w.name (word "A" 21)) (t.only (t.field (w.optional (at 25 33)) (t.group (at 34 39) (t.inside t.none)) (word "G" 40) (int 1 (at 44 45)) None (at 25 49))) (at 14 51))
    ∷ []

extend-group-messages : messages (filled extend_group_file extend_group_tree) ≡ made_message "M" [] [] [] ∷ made_message "G" [] [] [] ∷ []
extend-group-messages = messages-of extend_group_file extend_group_tree

extend-group-places : table extend_group_source (filled extend_group_file extend_group_tree) ≡
    ([], 0 ∷ 0 ∷ 51 ∷ [])
    ∷ (4 ∷ 0 ∷ [], 0 ∷ 0 ∷ 13 ∷ [])
    ∷ (4 ∷ 0 ∷ 1 ∷ [], 0 ∷ 8 ∷ 9 ∷ [])
    ∷ (4 ∷ 1 ∷ [], 0 ∷ 25 ∷ 49 ∷ [])
    ∷ (4 ∷ 1 ∷ 1 ∷ [], 0 ∷ 40 ∷ 41 ∷ [])
    ∷ (7 ∷ [], 0 ∷ 14 ∷ 51 ∷ [])
    ∷ (7 ∷ 0 ∷ [], 0 ∷ 25 ∷ 49 ∷ [])
    ∷ (7 ∷ 0 ∷ 1 ∷ [], 0 ∷ 40 ∷ 41 ∷ [])
    ∷ (7 ∷ 0 ∷ 2 ∷ [], 0 ∷ 21 ∷ 22 ∷ [])
    ∷ (7 ∷ 0 ∷ 3 ∷ [], 0 ∷ 44 ∷ 45 ∷ [])
    ∷ (7 ∷ 0 ∷ 4 ∷ [], 0 ∷ 25 ∷ 33 ∷ [])
    ∷ (7 ∷ 0 ∷ 5 ∷ [], 0 ∷ 34 ∷ 39 ∷ [])
    ∷ (7 ∷ 0 ∷ 6 ∷ [], 0 ∷ 40 ∷ 41 ∷ [])
    ∷ []
extend-group-places = table-of extend_group_source extend_group_file extend_group_tree
