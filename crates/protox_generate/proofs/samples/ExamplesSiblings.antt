-- A file that has two of each kind: how like siblings are counted.
use Rattle.std.proofs.Common.{◌≡◌, ℕ, ◌+◌, List, [], ◌∷◌, Some, None, true, pos, codes}
use Prim.Native.String.{String}
use Rattle.protox_ast.specs.declared.ast.FileItem.TheVariants as file_item
use Rattle.protox_ast.specs.declared.ast.Method.{Method}
use Rattle.protox_ast.specs.declared.ast.Service.{Service}
use Rattle.protox_ast.specs.declared.ast.Ty.TheVariants as ty
use Rattle.protox_generate.proofs.samples.Files.{FileTree, AMessage, AnExtend, Another, filled, whole_table, whole_table-of, table, table-of, messages, messages-of}
use Rattle.protox_generate.proofs.samples.Trees as t
use Rattle.protox_generate.proofs.samples.Trees.{◌&◌}
use Rattle.protox_generate.proofs.samples.Written as w
use Rattle.protox_generate.proofs.samples.Written.{at, word, int, no_field, made_message, made_oneof}

-- the source is empty, so that each offset is a column of line 0

-- a field from n to n + 4: its type, its name and its number
abbrev plain_field : String → ℕ → t.Tree t.FieldSort
plain_field text n = t.field None (t.normal ty.Int32 (at (n + 1) (n + 2))) (word text (n + 2)) (int 1 (at (n + 3) (n + 4))) None (at n (n + 4))

abbrev two_items : t.Tree t.ItemsSort
two_items =
    t.a_oneof (t.oneof (word "p" 111) [] (t.only (t.field None (t.group (at 113 114) (t.inside t.none)) (word "G" 114) (int 1 (at 115 116)) None (at 112 119))) (at 110 120))
    & t.a_field (t.field None (t.normal ty.Int32 (at 121 122)) (word "b" 122) (int 1 (at 123 124)) None (at 120 125))
    & t.a_oneof (t.oneof (word "q" 131) [] (t.only (plain_field "c" 132)) (at 130 140))
    & t.an_enum (w.enum (word "E" 141) [] [] (at 140 142))
    & t.an_enum (w.enum (word "F" 144) [] [] (at 143 145))
    & t.an_extend (t.extend (w.name (word "X" 151)) (t.only (plain_field "x" 152)) (at 150 160))
    & t.an_extend (t.extend (w.name (word "Y" 161)) (t.only (plain_field "y" 162)) (at 160 170))
    & t.a_message (t.message (word "N" 171) (t.inside t.none) (at 170 172))
    & t.none

-- a method from n to n + 4: its name and its types
abbrev method : ℕ → Method
method n = record {
  name = word "m" (n + 1);
  input_ty = w.name (word "I" (n + 2));
  output_ty = w.name (word "O" (n + 3));
  options = [];
  client_streaming = None;
  server_streaming = None;
  comments = w.noted (at n (n + 4));
  span = at n (n + 4);
}

abbrev service : List Method → ℕ → ℕ → Service
service methods start end = record { name = word "S" (start + 1); options = []; methods = methods; comments = w.noted (at start end); span = at start end }

abbrev two_trees : List FileTree
two_trees =
    AMessage (t.message (word "M" 101) (t.inside two_items) (at 100 200))
    ∷ Another (file_item.Enum (w.enum (word "E" 301) [] [] (at 300 302)))
    ∷ Another (file_item.Enum (w.enum (word "F" 304) [] [] (at 303 305)))
    ∷ Another (file_item.Service (service [] 310 312))
    ∷ Another (file_item.Service (service (method 315 ∷ method 320 ∷ []) 313 330))
    ∷ AnExtend (t.extend (w.name (word "Z" 341)) (t.more_fields (plain_field "z" 342) (t.only (plain_field "z" 346))) (at 340 350))
    ∷ AMessage (t.message (word "P" 361) (t.inside t.none) (at 360 362))
    ∷ []

two-places : whole_table "" (filled (w.file (at 0 900)) two_trees) ≡
    ([], 0 ∷ 0 ∷ 900 ∷ [], [])
    ∷ (4 ∷ 0 ∷ [], 0 ∷ 100 ∷ 200 ∷ [], 100 ∷ [])
    ∷ (4 ∷ 0 ∷ 1 ∷ [], 0 ∷ 101 ∷ 102 ∷ [], [])
    ∷ (4 ∷ 0 ∷ 2 ∷ 0 ∷ [], 0 ∷ 112 ∷ 119 ∷ [], [])
    ∷ (4 ∷ 0 ∷ 2 ∷ 0 ∷ 1 ∷ [], 0 ∷ 114 ∷ 115 ∷ [], [])
    ∷ (4 ∷ 0 ∷ 2 ∷ 0 ∷ 3 ∷ [], 0 ∷ 115 ∷ 116 ∷ [], [])
    ∷ (4 ∷ 0 ∷ 2 ∷ 0 ∷ 5 ∷ [], 0 ∷ 113 ∷ 114 ∷ [], [])
    ∷ (4 ∷ 0 ∷ 2 ∷ 0 ∷ 6 ∷ [], 0 ∷ 114 ∷ 115 ∷ [], [])
    ∷ (4 ∷ 0 ∷ 2 ∷ 1 ∷ [], 0 ∷ 120 ∷ 125 ∷ [], 120 ∷ [])
    ∷ (4 ∷ 0 ∷ 2 ∷ 1 ∷ 1 ∷ [], 0 ∷ 122 ∷ 123 ∷ [], [])
    ∷ (4 ∷ 0 ∷ 2 ∷ 1 ∷ 3 ∷ [], 0 ∷ 123 ∷ 124 ∷ [], [])
    ∷ (4 ∷ 0 ∷ 2 ∷ 1 ∷ 5 ∷ [], 0 ∷ 121 ∷ 122 ∷ [], [])
    ∷ (4 ∷ 0 ∷ 2 ∷ 2 ∷ [], 0 ∷ 132 ∷ 136 ∷ [], 132 ∷ [])
    ∷ (4 ∷ 0 ∷ 2 ∷ 2 ∷ 1 ∷ [], 0 ∷ 134 ∷ 135 ∷ [], [])
    ∷ (4 ∷ 0 ∷ 2 ∷ 2 ∷ 3 ∷ [], 0 ∷ 135 ∷ 136 ∷ [], [])
    ∷ (4 ∷ 0 ∷ 2 ∷ 2 ∷ 5 ∷ [], 0 ∷ 133 ∷ 134 ∷ [], [])
    ∷ (4 ∷ 0 ∷ 3 ∷ 0 ∷ [], 0 ∷ 112 ∷ 119 ∷ [], 112 ∷ [])
    ∷ (4 ∷ 0 ∷ 3 ∷ 0 ∷ 1 ∷ [], 0 ∷ 114 ∷ 115 ∷ [], [])
    ∷ (4 ∷ 0 ∷ 3 ∷ 1 ∷ [], 0 ∷ 170 ∷ 172 ∷ [], 170 ∷ [])
    ∷ (4 ∷ 0 ∷ 3 ∷ 1 ∷ 1 ∷ [], 0 ∷ 171 ∷ 172 ∷ [], [])
    ∷ (4 ∷ 0 ∷ 4 ∷ 0 ∷ [], 0 ∷ 140 ∷ 142 ∷ [], 140 ∷ [])
    ∷ (4 ∷ 0 ∷ 4 ∷ 0 ∷ 1 ∷ [], 0 ∷ 141 ∷ 142 ∷ [], [])
    ∷ (4 ∷ 0 ∷ 4 ∷ 1 ∷ [], 0 ∷ 143 ∷ 145 ∷ [], 143 ∷ [])
    ∷ (4 ∷ 0 ∷ 4 ∷ 1 ∷ 1 ∷ [], 0 ∷ 144 ∷ 145 ∷ [], [])
    ∷ (4 ∷ 0 ∷ 6 ∷ [], 0 ∷ 150 ∷ 160 ∷ [], 150 ∷ [])
    ∷ (4 ∷ 0 ∷ 6 ∷ [], 0 ∷ 160 ∷ 170 ∷ [], 160 ∷ [])
    ∷ (4 ∷ 0 ∷ 6 ∷ 0 ∷ [], 0 ∷ 152 ∷ 156 ∷ [], 152 ∷ [])
    ∷ (4 ∷ 0 ∷ 6 ∷ 0 ∷ 1 ∷ [], 0 ∷ 154 ∷ 155 ∷ [], [])
    ∷ (4 ∷ 0 ∷ 6 ∷ 0 ∷ 2 ∷ [], 0 ∷ 151 ∷ 152 ∷ [], [])
    ∷ (4 ∷ 0 ∷ 6 ∷ 0 ∷ 3 ∷ [], 0 ∷ 155 ∷ 156 ∷ [], [])
    ∷ (4 ∷ 0 ∷ 6 ∷ 0 ∷ 5 ∷ [], 0 ∷ 153 ∷ 154 ∷ [], [])
    ∷ (4 ∷ 0 ∷ 6 ∷ 1 ∷ [], 0 ∷ 162 ∷ 166 ∷ [], 162 ∷ [])
    ∷ (4 ∷ 0 ∷ 6 ∷ 1 ∷ 1 ∷ [], 0 ∷ 164 ∷ 165 ∷ [], [])
    ∷ (4 ∷ 0 ∷ 6 ∷ 1 ∷ 2 ∷ [], 0 ∷ 161 ∷ 162 ∷ [], [])
    ∷ (4 ∷ 0 ∷ 6 ∷ 1 ∷ 3 ∷ [], 0 ∷ 165 ∷ 166 ∷ [], [])
    ∷ (4 ∷ 0 ∷ 6 ∷ 1 ∷ 5 ∷ [], 0 ∷ 163 ∷ 164 ∷ [], [])
    ∷ (4 ∷ 0 ∷ 8 ∷ 0 ∷ [], 0 ∷ 110 ∷ 120 ∷ [], 110 ∷ [])
    ∷ (4 ∷ 0 ∷ 8 ∷ 0 ∷ 1 ∷ [], 0 ∷ 111 ∷ 112 ∷ [], [])
    ∷ (4 ∷ 0 ∷ 8 ∷ 1 ∷ [], 0 ∷ 130 ∷ 140 ∷ [], 130 ∷ [])
    ∷ (4 ∷ 0 ∷ 8 ∷ 1 ∷ 1 ∷ [], 0 ∷ 131 ∷ 132 ∷ [], [])
    ∷ (4 ∷ 1 ∷ [], 0 ∷ 360 ∷ 362 ∷ [], 360 ∷ [])
    ∷ (4 ∷ 1 ∷ 1 ∷ [], 0 ∷ 361 ∷ 362 ∷ [], [])
    ∷ (5 ∷ 0 ∷ [], 0 ∷ 300 ∷ 302 ∷ [], 300 ∷ [])
    ∷ (5 ∷ 0 ∷ 1 ∷ [], 0 ∷ 301 ∷ 302 ∷ [], [])
    ∷ (5 ∷ 1 ∷ [], 0 ∷ 303 ∷ 305 ∷ [], 303 ∷ [])
    ∷ (5 ∷ 1 ∷ 1 ∷ [], 0 ∷ 304 ∷ 305 ∷ [], [])
    ∷ (6 ∷ 0 ∷ [], 0 ∷ 310 ∷ 312 ∷ [], 310 ∷ [])
    ∷ (6 ∷ 0 ∷ 1 ∷ [], 0 ∷ 311 ∷ 312 ∷ [], [])
    ∷ (6 ∷ 1 ∷ [], 0 ∷ 313 ∷ 330 ∷ [], 313 ∷ [])
    ∷ (6 ∷ 1 ∷ 1 ∷ [], 0 ∷ 314 ∷ 315 ∷ [], [])
    ∷ (6 ∷ 1 ∷ 2 ∷ 0 ∷ [], 0 ∷ 315 ∷ 319 ∷ [], 315 ∷ [])
    ∷ (6 ∷ 1 ∷ 2 ∷ 0 ∷ 1 ∷ [], 0 ∷ 316 ∷ 317 ∷ [], [])
    ∷ (6 ∷ 1 ∷ 2 ∷ 0 ∷ 2 ∷ [], 0 ∷ 317 ∷ 318 ∷ [], [])
    ∷ (6 ∷ 1 ∷ 2 ∷ 0 ∷ 3 ∷ [], 0 ∷ 318 ∷ 319 ∷ [], [])
    ∷ (6 ∷ 1 ∷ 2 ∷ 1 ∷ [], 0 ∷ 320 ∷ 324 ∷ [], 320 ∷ [])
    ∷ (6 ∷ 1 ∷ 2 ∷ 1 ∷ 1 ∷ [], 0 ∷ 321 ∷ 322 ∷ [], [])
    ∷ (6 ∷ 1 ∷ 2 ∷ 1 ∷ 2 ∷ [], 0 ∷ 322 ∷ 323 ∷ [], [])
    ∷ (6 ∷ 1 ∷ 2 ∷ 1 ∷ 3 ∷ [], 0 ∷ 323 ∷ 324 ∷ [], [])
    ∷ (7 ∷ [], 0 ∷ 340 ∷ 350 ∷ [], 340 ∷ [])
    ∷ (7 ∷ 0 ∷ [], 0 ∷ 342 ∷ 346 ∷ [], 342 ∷ [])
    ∷ (7 ∷ 0 ∷ 1 ∷ [], 0 ∷ 344 ∷ 345 ∷ [], [])
    ∷ (7 ∷ 0 ∷ 2 ∷ [], 0 ∷ 341 ∷ 342 ∷ [], [])
    ∷ (7 ∷ 0 ∷ 3 ∷ [], 0 ∷ 345 ∷ 346 ∷ [], [])
    ∷ (7 ∷ 0 ∷ 5 ∷ [], 0 ∷ 343 ∷ 344 ∷ [], [])
    ∷ (7 ∷ 1 ∷ [], 0 ∷ 346 ∷ 350 ∷ [], 346 ∷ [])
    ∷ (7 ∷ 1 ∷ 1 ∷ [], 0 ∷ 348 ∷ 349 ∷ [], [])
    ∷ (7 ∷ 1 ∷ 2 ∷ [], 0 ∷ 341 ∷ 342 ∷ [], [])
    ∷ (7 ∷ 1 ∷ 3 ∷ [], 0 ∷ 349 ∷ 350 ∷ [], [])
    ∷ (7 ∷ 1 ∷ 5 ∷ [], 0 ∷ 347 ∷ 348 ∷ [], [])
    ∷ []
two-places = whole_table-of "" (w.file (at 0 900)) two_trees

-- ---- the oneofs of fields, written and made

abbrev optional_field : String → ℕ → t.Tree t.FieldSort
optional_field text number = t.field (w.optional (at 0 8)) (t.normal ty.Int32 (at 9 14)) (word text 15) (int number (at 20 21)) None (at 0 22)

abbrev oneof_trees : List FileTree
oneof_trees = AMessage (t.message (word "M" 0) (t.inside (
    t.a_field (optional_field "a" 1)
    & t.a_oneof (t.oneof (word "o" 0) [] (t.only (plain_field "b" 0)) (at 0 0))
    & t.a_field (optional_field "c" 3)
    & t.a_oneof (t.oneof (word "p" 0) [] (t.only (plain_field "d" 0)) (at 0 0))
    & t.none)) (at 0 0)) ∷ []

oneof-messages : messages (filled (w.file3 (at 0 0) (at 0 0)) oneof_trees) ≡
    made_message "M"
    (record no_field { name = Some (codes "a"); number = Some (pos 1); label = Some (pos 1); field_type = Some (pos 5); oneof_index = Some (pos 2); proto3_optional = Some true }
    ∷ record no_field { name = Some (codes "b"); number = Some (pos 1); label = Some (pos 1); field_type = Some (pos 5); oneof_index = Some (pos 0) }
    ∷ record no_field { name = Some (codes "c"); number = Some (pos 3); label = Some (pos 1); field_type = Some (pos 5); oneof_index = Some (pos 3); proto3_optional = Some true }
    ∷ record no_field { name = Some (codes "d"); number = Some (pos 1); label = Some (pos 1); field_type = Some (pos 5); oneof_index = Some (pos 1) }
    ∷ [])
    [] (made_oneof "o" ∷ made_oneof "p" ∷ made_oneof "_a" ∷ made_oneof "_c" ∷ [])
    ∷ []
oneof-messages = messages-of (w.file3 (at 0 0) (at 0 0)) oneof_trees

-- and in proto2 none are made
oneof2-messages : messages (filled (w.file (at 0 0)) (AMessage (t.message (word "M" 0) (t.inside (t.a_field (optional_field "a" 1) & t.none)) (at 0 0)) ∷ [])) ≡
    made_message "M" (record no_field { name = Some (codes "a"); number = Some (pos 1); label = Some (pos 1); field_type = Some (pos 5) } ∷ []) [] [] ∷ []
oneof2-messages = messages-of (w.file (at 0 0)) (AMessage (t.message (word "M" 0) (t.inside (t.a_field (optional_field "a" 1) & t.none)) (at 0 0)) ∷ [])

-- ---- a map's label has no place

abbrev labelled_map : List FileTree
labelled_map = AMessage (t.message (word "M" 8) (t.inside (t.a_field (t.field (w.repeated (at 12 20)) (t.a_map (at 21 36) ty.Int32 (at 25 30) ty.Int32 (at 31 35)) (word "m" 37) (int 1 (at 41 42)) None (at 12 43)) & t.none)) (at 0 45)) ∷ []

labelled-map : table "" (filled (w.file (at 0 45)) labelled_map) ≡
    ([], 0 ∷ 0 ∷ 45 ∷ [])
    ∷ (4 ∷ 0 ∷ [], 0 ∷ 0 ∷ 45 ∷ [])
    ∷ (4 ∷ 0 ∷ 1 ∷ [], 0 ∷ 8 ∷ 9 ∷ [])
    ∷ (4 ∷ 0 ∷ 2 ∷ 0 ∷ [], 0 ∷ 12 ∷ 43 ∷ [])
    ∷ (4 ∷ 0 ∷ 2 ∷ 0 ∷ 1 ∷ [], 0 ∷ 37 ∷ 38 ∷ [])
    ∷ (4 ∷ 0 ∷ 2 ∷ 0 ∷ 3 ∷ [], 0 ∷ 41 ∷ 42 ∷ [])
    ∷ (4 ∷ 0 ∷ 2 ∷ 0 ∷ 6 ∷ [], 0 ∷ 21 ∷ 36 ∷ [])
    ∷ []
labelled-map = table-of "" (w.file (at 0 45)) labelled_map
