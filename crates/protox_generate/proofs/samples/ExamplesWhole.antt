-- A file with each kind of location: which parts have one, which of these have comments, and their
-- order.
use Rattle.std.proofs.Common.{◌≡◌, List, [], ◌∷◌, Some, None, true, pos, negsuc, codes, refl}
use Rattle.protox_ast.specs.declared.ast.Enum.{Enum}
use Rattle.protox_ast.specs.declared.ast.File.{File}
use Rattle.protox_ast.specs.declared.ast.FileItem.TheVariants as file_item
use Rattle.protox_ast.specs.declared.ast.ReservedRangeEnd.TheVariants as range_end
use Rattle.protox_ast.specs.declared.ast.Service.{Service}
use Rattle.protox_ast.specs.declared.ast.Ty.TheVariants as ty
use Rattle.protox_descriptor.specs.declared.descriptor.DescriptorProto.{roll-DescriptorProto}
use Rattle.protox_descriptor.specs.declared.descriptor.options.UninterpretedOption.{UninterpretedOption}
use Rattle.protox_checks.specs.Checks.{file_faults}
use Rattle.protox_describe.specs.File.{file_proto}
use Rattle.protox_generate.proofs.samples.Files.{FileTree, AMessage, AnExtend, Another, filled, whole_table, whole_table-of, messages, messages-of, extensions, extensions-of, faults-of}
use Rattle.protox_generate.proofs.samples.Trees as t
use Rattle.protox_generate.proofs.samples.Trees.{◌&◌}
use Rattle.protox_generate.proofs.samples.Written as w
use Rattle.protox_generate.proofs.samples.Written.{at, word, int, minus, no_field, no_option, made_message}

-- the source is empty, so that each offset is a column of line 0

abbrev items : t.Tree t.ItemsSort
items =
    t.a_field (t.field (w.optional (at 110 111)) (t.normal ty.Int32 (at 112 113)) (word "f" 114) (int 1 (at 116 117)) (w.list (w.body_of (word "x" 120) (w.number (int 1 (at 122 123))) ∷ []) (at 119 124)) (at 109 125))
    & t.a_oneof (t.oneof (word "o" 131) (w.statement (w.body_of (word "x" 133) (w.number (int 1 (at 134 135)))) (at 132 136) ∷ [])
    (t.only (t.field None (t.normal (ty.Named (w.name (word "B" 138))) (at 138 139)) (word "g" 140) (int 2 (at 142 143)) None (at 137 144))) (at 130 145))
    & t.an_enum (w.enum (word "E" 151) (w.enum_value (word "V" 153) (int 0 (at 155 156)) None (at 152 157) ∷ []) [] (at 150 160))
    & t.a_message (t.message (word "N" 171) (t.inside t.none) (at 170 175))
    & t.a_field (t.field None (t.a_map (at 180 181) ty.Int32 (at 182 183) ty.Int32 (at 184 185)) (word "m" 186) (int 3 (at 188 189)) None (at 179 190))
    & t.an_extend (t.extend (w.name (word "A" 201)) (t.only (t.field (w.optional (at 203 204)) (t.group (at 205 206) (t.inside t.none)) (word "G" 207) (int 100 (at 209 210)) None (at 202 212))) (at 200 213))
    & t.a_field (t.field (w.optional (at 220 221)) (t.group (at 222 223) (t.inside t.none)) (word "H" 224) (int 4 (at 226 227)) None (at 219 230))
    & t.none

abbrev whole_message : t.Tree t.MessageSort
whole_message = t.message (word "M" 101) (t.body items
    (w.extensions (w.range (int 10 (at 241 242)) range_end.None ∷ []) None (at 240 243)
    ∷ w.extensions (w.range (int 20 (at 251 252)) (range_end.Int (int 30 (at 253 254))) ∷ []) (w.list (w.body_of (word "x" 256) (w.number (int 1 (at 258 259))) ∷ []) (at 255 260)) (at 250 261)
    ∷ [])
    (w.statement (w.body_of (word "y" 271) (w.number (int 1 (at 273 274)))) (at 270 275) ∷ [])
    (w.ranges (w.range (int 5 (at 281 282)) range_end.None ∷ []) (at 280 283)
    ∷ w.names (word "a" 286 ∷ []) (at 285 288)
    ∷ w.ranges (w.range (int 6 (at 291 292)) (range_end.Max (at 293 294)) ∷ []) (at 290 295)
    ∷ w.names (word "b" 297 ∷ []) (at 296 299)
    ∷ [])) (at 100 300)

abbrev whole_enum : Enum
whole_enum = record (w.enum (word "E" 301)
    (w.enum_value (word "V" 303) (int 0 (at 305 306)) (w.list (w.body_of (word "x" 308) (w.number (int 1 (at 310 311))) ∷ []) (at 307 312)) (at 302 313) ∷ [])
    (w.ranges (w.range (minus 1 (at 315 316)) range_end.None ∷ []) (at 314 317) ∷ []) (at 300 320)) {
      options = w.statement (w.body_of (word "x" 318) (w.number (int 1 (at 318 319)))) (at 318 319) ∷ [];
    }

abbrev whole_service : Service
whole_service = record {
  name = word "S" 401;
  options = w.statement (w.body_of (word "x" 403) (w.number (int 1 (at 404 405)))) (at 402 405) ∷ [];
  methods = record {
    name = word "m" 411;
    input_ty = w.name (word "I" 413);
    output_ty = w.name (word "O" 415);
    options = w.statement (w.body_of (word "x" 417) (w.number (int 1 (at 418 419)))) (at 417 419) ∷ [];
    client_streaming = None;
    server_streaming = Some (at 416 417);
    comments = w.noted (at 410 420);
    span = at 410 420;
  } ∷ [];
  comments = w.noted (at 400 450);
  span = at 400 450;
}

abbrev whole_file : File
whole_file = record (w.file (at 0 900)) { options = w.statement (w.body_of (word "x" 891) (w.number (int 1 (at 893 894)))) (at 890 899) ∷ [] }

abbrev whole_trees : List FileTree
whole_trees =
    AMessage whole_message
    ∷ Another (file_item.Enum whole_enum)
    ∷ AnExtend (t.extend (w.name (word "B" 331)) (t.only (t.field (w.optional (at 333 334)) (t.group (at 335 336) (t.inside t.none)) (word "K" 337) (int 100 (at 339 340)) None (at 332 342))) (at 330 343))
    ∷ AMessage (t.message (word "P" 351) (t.inside t.none) (at 350 355))
    ∷ Another (file_item.Service whole_service)
    ∷ []

-- ---- its locations: each path with its span and the comment that leads it

whole-places : whole_table "" (filled whole_file whole_trees) ≡
    ([], 0 ∷ 0 ∷ 900 ∷ [], [])
    ∷ (4 ∷ 0 ∷ [], 0 ∷ 100 ∷ 300 ∷ [], 100 ∷ [])
    ∷ (4 ∷ 0 ∷ 1 ∷ [], 0 ∷ 101 ∷ 102 ∷ [], [])
    ∷ (4 ∷ 0 ∷ 2 ∷ 0 ∷ [], 0 ∷ 109 ∷ 125 ∷ [], 109 ∷ [])
    ∷ (4 ∷ 0 ∷ 2 ∷ 0 ∷ 1 ∷ [], 0 ∷ 114 ∷ 115 ∷ [], [])
    ∷ (4 ∷ 0 ∷ 2 ∷ 0 ∷ 3 ∷ [], 0 ∷ 116 ∷ 117 ∷ [], [])
    ∷ (4 ∷ 0 ∷ 2 ∷ 0 ∷ 4 ∷ [], 0 ∷ 110 ∷ 111 ∷ [], [])
    ∷ (4 ∷ 0 ∷ 2 ∷ 0 ∷ 5 ∷ [], 0 ∷ 112 ∷ 113 ∷ [], [])
    ∷ (4 ∷ 0 ∷ 2 ∷ 0 ∷ 8 ∷ [], 0 ∷ 119 ∷ 124 ∷ [], [])
    ∷ (4 ∷ 0 ∷ 2 ∷ 0 ∷ 8 ∷ 999 ∷ 0 ∷ [], 0 ∷ 120 ∷ 123 ∷ [], [])
    ∷ (4 ∷ 0 ∷ 2 ∷ 1 ∷ [], 0 ∷ 137 ∷ 144 ∷ [], 137 ∷ [])
    ∷ (4 ∷ 0 ∷ 2 ∷ 1 ∷ 1 ∷ [], 0 ∷ 140 ∷ 141 ∷ [], [])
    ∷ (4 ∷ 0 ∷ 2 ∷ 1 ∷ 3 ∷ [], 0 ∷ 142 ∷ 143 ∷ [], [])
    ∷ (4 ∷ 0 ∷ 2 ∷ 1 ∷ 6 ∷ [], 0 ∷ 138 ∷ 139 ∷ [], [])
    ∷ (4 ∷ 0 ∷ 2 ∷ 2 ∷ [], 0 ∷ 179 ∷ 190 ∷ [], 179 ∷ [])
    ∷ (4 ∷ 0 ∷ 2 ∷ 2 ∷ 1 ∷ [], 0 ∷ 186 ∷ 187 ∷ [], [])
    ∷ (4 ∷ 0 ∷ 2 ∷ 2 ∷ 3 ∷ [], 0 ∷ 188 ∷ 189 ∷ [], [])
    ∷ (4 ∷ 0 ∷ 2 ∷ 2 ∷ 6 ∷ [], 0 ∷ 180 ∷ 181 ∷ [], [])
    ∷ (4 ∷ 0 ∷ 2 ∷ 3 ∷ [], 0 ∷ 219 ∷ 230 ∷ [], [])
    ∷ (4 ∷ 0 ∷ 2 ∷ 3 ∷ 1 ∷ [], 0 ∷ 224 ∷ 225 ∷ [], [])
    ∷ (4 ∷ 0 ∷ 2 ∷ 3 ∷ 3 ∷ [], 0 ∷ 226 ∷ 227 ∷ [], [])
    ∷ (4 ∷ 0 ∷ 2 ∷ 3 ∷ 4 ∷ [], 0 ∷ 220 ∷ 221 ∷ [], [])
    ∷ (4 ∷ 0 ∷ 2 ∷ 3 ∷ 5 ∷ [], 0 ∷ 222 ∷ 223 ∷ [], [])
    ∷ (4 ∷ 0 ∷ 2 ∷ 3 ∷ 6 ∷ [], 0 ∷ 224 ∷ 225 ∷ [], [])
    ∷ (4 ∷ 0 ∷ 3 ∷ 0 ∷ [], 0 ∷ 170 ∷ 175 ∷ [], 170 ∷ [])
    ∷ (4 ∷ 0 ∷ 3 ∷ 0 ∷ 1 ∷ [], 0 ∷ 171 ∷ 172 ∷ [], [])
    ∷ (4 ∷ 0 ∷ 3 ∷ 2 ∷ [], 0 ∷ 202 ∷ 212 ∷ [], 202 ∷ [])
    ∷ (4 ∷ 0 ∷ 3 ∷ 2 ∷ 1 ∷ [], 0 ∷ 207 ∷ 208 ∷ [], [])
    ∷ (4 ∷ 0 ∷ 3 ∷ 3 ∷ [], 0 ∷ 219 ∷ 230 ∷ [], 219 ∷ [])
    ∷ (4 ∷ 0 ∷ 3 ∷ 3 ∷ 1 ∷ [], 0 ∷ 224 ∷ 225 ∷ [], [])
    ∷ (4 ∷ 0 ∷ 4 ∷ 0 ∷ [], 0 ∷ 150 ∷ 160 ∷ [], 150 ∷ [])
    ∷ (4 ∷ 0 ∷ 4 ∷ 0 ∷ 1 ∷ [], 0 ∷ 151 ∷ 152 ∷ [], [])
    ∷ (4 ∷ 0 ∷ 4 ∷ 0 ∷ 2 ∷ 0 ∷ [], 0 ∷ 152 ∷ 157 ∷ [], 152 ∷ [])
    ∷ (4 ∷ 0 ∷ 4 ∷ 0 ∷ 2 ∷ 0 ∷ 1 ∷ [], 0 ∷ 153 ∷ 154 ∷ [], [])
    ∷ (4 ∷ 0 ∷ 4 ∷ 0 ∷ 2 ∷ 0 ∷ 2 ∷ [], 0 ∷ 155 ∷ 156 ∷ [], [])
    ∷ (4 ∷ 0 ∷ 5 ∷ [], 0 ∷ 240 ∷ 243 ∷ [], 240 ∷ [])
    ∷ (4 ∷ 0 ∷ 5 ∷ [], 0 ∷ 250 ∷ 261 ∷ [], 250 ∷ [])
    ∷ (4 ∷ 0 ∷ 5 ∷ 0 ∷ [], 0 ∷ 241 ∷ 242 ∷ [], [])
    ∷ (4 ∷ 0 ∷ 5 ∷ 0 ∷ 1 ∷ [], 0 ∷ 241 ∷ 242 ∷ [], [])
    ∷ (4 ∷ 0 ∷ 5 ∷ 0 ∷ 2 ∷ [], 0 ∷ 241 ∷ 242 ∷ [], [])
    ∷ (4 ∷ 0 ∷ 5 ∷ 1 ∷ [], 0 ∷ 251 ∷ 254 ∷ [], [])
    ∷ (4 ∷ 0 ∷ 5 ∷ 1 ∷ 1 ∷ [], 0 ∷ 251 ∷ 252 ∷ [], [])
    ∷ (4 ∷ 0 ∷ 5 ∷ 1 ∷ 2 ∷ [], 0 ∷ 253 ∷ 254 ∷ [], [])
    ∷ (4 ∷ 0 ∷ 5 ∷ 1 ∷ 3 ∷ [], 0 ∷ 255 ∷ 260 ∷ [], [])
    ∷ (4 ∷ 0 ∷ 5 ∷ 1 ∷ 3 ∷ 999 ∷ 0 ∷ [], 0 ∷ 256 ∷ 259 ∷ [], [])
    ∷ (4 ∷ 0 ∷ 6 ∷ [], 0 ∷ 200 ∷ 213 ∷ [], 200 ∷ [])
    ∷ (4 ∷ 0 ∷ 6 ∷ 0 ∷ [], 0 ∷ 202 ∷ 212 ∷ [], [])
    ∷ (4 ∷ 0 ∷ 6 ∷ 0 ∷ 1 ∷ [], 0 ∷ 207 ∷ 208 ∷ [], [])
    ∷ (4 ∷ 0 ∷ 6 ∷ 0 ∷ 2 ∷ [], 0 ∷ 201 ∷ 202 ∷ [], [])
    ∷ (4 ∷ 0 ∷ 6 ∷ 0 ∷ 3 ∷ [], 0 ∷ 209 ∷ 210 ∷ [], [])
    ∷ (4 ∷ 0 ∷ 6 ∷ 0 ∷ 4 ∷ [], 0 ∷ 203 ∷ 204 ∷ [], [])
    ∷ (4 ∷ 0 ∷ 6 ∷ 0 ∷ 5 ∷ [], 0 ∷ 205 ∷ 206 ∷ [], [])
    ∷ (4 ∷ 0 ∷ 6 ∷ 0 ∷ 6 ∷ [], 0 ∷ 207 ∷ 208 ∷ [], [])
    ∷ (4 ∷ 0 ∷ 7 ∷ [], 0 ∷ 270 ∷ 275 ∷ [], [])
    ∷ (4 ∷ 0 ∷ 7 ∷ 999 ∷ 0 ∷ [], 0 ∷ 270 ∷ 275 ∷ [], 270 ∷ [])
    ∷ (4 ∷ 0 ∷ 8 ∷ 0 ∷ [], 0 ∷ 130 ∷ 145 ∷ [], 130 ∷ [])
    ∷ (4 ∷ 0 ∷ 8 ∷ 0 ∷ 1 ∷ [], 0 ∷ 131 ∷ 132 ∷ [], [])
    ∷ (4 ∷ 0 ∷ 8 ∷ 0 ∷ 2 ∷ [], 0 ∷ 132 ∷ 136 ∷ [], [])
    ∷ (4 ∷ 0 ∷ 8 ∷ 0 ∷ 2 ∷ 999 ∷ 0 ∷ [], 0 ∷ 132 ∷ 136 ∷ [], 132 ∷ [])
    ∷ (4 ∷ 0 ∷ 9 ∷ [], 0 ∷ 280 ∷ 283 ∷ [], 280 ∷ [])
    ∷ (4 ∷ 0 ∷ 9 ∷ [], 0 ∷ 290 ∷ 295 ∷ [], 290 ∷ [])
    ∷ (4 ∷ 0 ∷ 9 ∷ 0 ∷ [], 0 ∷ 281 ∷ 282 ∷ [], [])
    ∷ (4 ∷ 0 ∷ 9 ∷ 0 ∷ 1 ∷ [], 0 ∷ 281 ∷ 282 ∷ [], [])
    ∷ (4 ∷ 0 ∷ 9 ∷ 0 ∷ 2 ∷ [], 0 ∷ 281 ∷ 282 ∷ [], [])
    ∷ (4 ∷ 0 ∷ 9 ∷ 1 ∷ [], 0 ∷ 291 ∷ 294 ∷ [], [])
    ∷ (4 ∷ 0 ∷ 9 ∷ 1 ∷ 1 ∷ [], 0 ∷ 291 ∷ 292 ∷ [], [])
    ∷ (4 ∷ 0 ∷ 9 ∷ 1 ∷ 2 ∷ [], 0 ∷ 293 ∷ 294 ∷ [], [])
    ∷ (4 ∷ 0 ∷ 10 ∷ [], 0 ∷ 285 ∷ 288 ∷ [], 285 ∷ [])
    ∷ (4 ∷ 0 ∷ 10 ∷ [], 0 ∷ 296 ∷ 299 ∷ [], 296 ∷ [])
    ∷ (4 ∷ 0 ∷ 10 ∷ 0 ∷ [], 0 ∷ 286 ∷ 287 ∷ [], [])
    ∷ (4 ∷ 0 ∷ 10 ∷ 1 ∷ [], 0 ∷ 297 ∷ 298 ∷ [], [])
    ∷ (4 ∷ 1 ∷ [], 0 ∷ 332 ∷ 342 ∷ [], 332 ∷ [])
    ∷ (4 ∷ 1 ∷ 1 ∷ [], 0 ∷ 337 ∷ 338 ∷ [], [])
    ∷ (4 ∷ 2 ∷ [], 0 ∷ 350 ∷ 355 ∷ [], 350 ∷ [])
    ∷ (4 ∷ 2 ∷ 1 ∷ [], 0 ∷ 351 ∷ 352 ∷ [], [])
    ∷ (5 ∷ 0 ∷ [], 0 ∷ 300 ∷ 320 ∷ [], 300 ∷ [])
    ∷ (5 ∷ 0 ∷ 1 ∷ [], 0 ∷ 301 ∷ 302 ∷ [], [])
    ∷ (5 ∷ 0 ∷ 2 ∷ 0 ∷ [], 0 ∷ 302 ∷ 313 ∷ [], 302 ∷ [])
    ∷ (5 ∷ 0 ∷ 2 ∷ 0 ∷ 1 ∷ [], 0 ∷ 303 ∷ 304 ∷ [], [])
    ∷ (5 ∷ 0 ∷ 2 ∷ 0 ∷ 2 ∷ [], 0 ∷ 305 ∷ 306 ∷ [], [])
    ∷ (5 ∷ 0 ∷ 2 ∷ 0 ∷ 3 ∷ [], 0 ∷ 307 ∷ 312 ∷ [], [])
    ∷ (5 ∷ 0 ∷ 2 ∷ 0 ∷ 3 ∷ 999 ∷ 0 ∷ [], 0 ∷ 308 ∷ 311 ∷ [], [])
    ∷ (5 ∷ 0 ∷ 3 ∷ [], 0 ∷ 318 ∷ 319 ∷ [], [])
    ∷ (5 ∷ 0 ∷ 3 ∷ 999 ∷ 0 ∷ [], 0 ∷ 318 ∷ 319 ∷ [], 318 ∷ [])
    ∷ (5 ∷ 0 ∷ 4 ∷ [], 0 ∷ 314 ∷ 317 ∷ [], 314 ∷ [])
    ∷ (5 ∷ 0 ∷ 4 ∷ 0 ∷ [], 0 ∷ 315 ∷ 316 ∷ [], [])
    ∷ (5 ∷ 0 ∷ 4 ∷ 0 ∷ 1 ∷ [], 0 ∷ 315 ∷ 316 ∷ [], [])
    ∷ (5 ∷ 0 ∷ 4 ∷ 0 ∷ 2 ∷ [], 0 ∷ 315 ∷ 316 ∷ [], [])
    ∷ (6 ∷ 0 ∷ [], 0 ∷ 400 ∷ 450 ∷ [], 400 ∷ [])
    ∷ (6 ∷ 0 ∷ 1 ∷ [], 0 ∷ 401 ∷ 402 ∷ [], [])
    ∷ (6 ∷ 0 ∷ 2 ∷ 0 ∷ [], 0 ∷ 410 ∷ 420 ∷ [], 410 ∷ [])
    ∷ (6 ∷ 0 ∷ 2 ∷ 0 ∷ 1 ∷ [], 0 ∷ 411 ∷ 412 ∷ [], [])
    ∷ (6 ∷ 0 ∷ 2 ∷ 0 ∷ 2 ∷ [], 0 ∷ 413 ∷ 414 ∷ [], [])
    ∷ (6 ∷ 0 ∷ 2 ∷ 0 ∷ 3 ∷ [], 0 ∷ 415 ∷ 416 ∷ [], [])
    ∷ (6 ∷ 0 ∷ 2 ∷ 0 ∷ 4 ∷ [], 0 ∷ 417 ∷ 419 ∷ [], [])
    ∷ (6 ∷ 0 ∷ 2 ∷ 0 ∷ 4 ∷ 999 ∷ 0 ∷ [], 0 ∷ 417 ∷ 419 ∷ [], 417 ∷ [])
    ∷ (6 ∷ 0 ∷ 2 ∷ 0 ∷ 6 ∷ [], 0 ∷ 416 ∷ 417 ∷ [], [])
    ∷ (6 ∷ 0 ∷ 3 ∷ [], 0 ∷ 402 ∷ 405 ∷ [], [])
    ∷ (6 ∷ 0 ∷ 3 ∷ 999 ∷ 0 ∷ [], 0 ∷ 402 ∷ 405 ∷ [], 402 ∷ [])
    ∷ (7 ∷ [], 0 ∷ 330 ∷ 343 ∷ [], 330 ∷ [])
    ∷ (7 ∷ 0 ∷ [], 0 ∷ 332 ∷ 342 ∷ [], [])
    ∷ (7 ∷ 0 ∷ 1 ∷ [], 0 ∷ 337 ∷ 338 ∷ [], [])
    ∷ (7 ∷ 0 ∷ 2 ∷ [], 0 ∷ 331 ∷ 332 ∷ [], [])
    ∷ (7 ∷ 0 ∷ 3 ∷ [], 0 ∷ 339 ∷ 340 ∷ [], [])
    ∷ (7 ∷ 0 ∷ 4 ∷ [], 0 ∷ 333 ∷ 334 ∷ [], [])
    ∷ (7 ∷ 0 ∷ 5 ∷ [], 0 ∷ 335 ∷ 336 ∷ [], [])
    ∷ (7 ∷ 0 ∷ 6 ∷ [], 0 ∷ 337 ∷ 338 ∷ [], [])
    ∷ (8 ∷ [], 0 ∷ 890 ∷ 899 ∷ [], [])
    ∷ (8 ∷ 999 ∷ 0 ∷ [], 0 ∷ 890 ∷ 899 ∷ [], 890 ∷ [])
    ∷ []
whole-places = whole_table-of "" whole_file whole_trees

-- ---- its descriptor

abbrev x_option : List UninterpretedOption
x_option = record (no_option "x") { positive_int_value = Some 1 } ∷ []

whole-messages : messages (filled whole_file whole_trees) ≡
    roll-DescriptorProto (record {
      name = Some (codes "M");
      field =
          record no_field { name = Some (codes "f"); number = Some (pos 1); label = Some (pos 1); field_type = Some (pos 5); options = Some (record { uninterpreted_option = x_option }) }
          ∷ record no_field { name = Some (codes "g"); number = Some (pos 2); label = Some (pos 1); type_name = Some (codes "B"); oneof_index = Some (pos 0) }
          ∷ record no_field { name = Some (codes "m"); number = Some (pos 3); label = Some (pos 3); field_type = Some (pos 11); type_name = Some (codes "MEntry") }
          ∷ record no_field { name = Some (codes "h"); number = Some (pos 4); label = Some (pos 1); field_type = Some (pos 10); type_name = Some (codes "H") }
          ∷ [];
      extension = record no_field { name = Some (codes "g"); number = Some (pos 100); label = Some (pos 1); field_type = Some (pos 10); type_name = Some (codes "G"); extendee = Some (codes "A") } ∷ [];
      nested_type =
          made_message "N" [] [] []
          ∷ roll-DescriptorProto (record {
            name = Some (codes "MEntry");
            field =
                record no_field { name = Some (codes "key"); number = Some (pos 1); label = Some (pos 1); field_type = Some (pos 5); json_name = Some (codes "key") }
                ∷ record no_field { name = Some (codes "value"); number = Some (pos 2); label = Some (pos 1); field_type = Some (pos 5); json_name = Some (codes "value") }
                ∷ [];
            extension = [];
            nested_type = [];
            enum_type = [];
            extension_range = [];
            oneof_decl = [];
            options = Some (record { map_entry = Some true; uninterpreted_option = [] });
            reserved_range = [];
            reserved_name = [];
          })
          ∷ made_message "G" [] [] []
          ∷ made_message "H" [] [] []
          ∷ [];
      enum_type = record { name = Some (codes "E"); value = record { name = Some (codes "V"); number = Some (pos 0); options = None } ∷ []; options = None; reserved_range = []; reserved_name = [] } ∷ [];
      extension_range =
          record { start = Some (pos 10); end = Some (pos 11); options = None }
          ∷ record { start = Some (pos 20); end = Some (pos 31); options = Some (record { uninterpreted_option = x_option }) }
          ∷ [];
      oneof_decl = record { name = Some (codes "o"); options = Some (record { uninterpreted_option = x_option }) } ∷ [];
      options = Some (record { map_entry = None; uninterpreted_option = record (no_option "y") { positive_int_value = Some 1 } ∷ [] });
      reserved_range = record { start = Some (pos 5); end = Some (pos 6) } ∷ record { start = Some (pos 6); end = Some (pos 536870912) } ∷ [];
      reserved_name = codes "a" ∷ codes "b" ∷ [];
    })
    ∷ made_message "K" [] [] []
    ∷ made_message "P" [] [] []
    ∷ []
whole-messages = messages-of whole_file whole_trees

whole-enums : (file_proto (codes "a.proto") (filled whole_file whole_trees)).enum_type ≡ record {
  name = Some (codes "E");
  value = record { name = Some (codes "V"); number = Some (pos 0); options = Some (record { uninterpreted_option = x_option }) } ∷ [];
  options = Some (record { uninterpreted_option = x_option });
  reserved_range = record { start = Some (negsuc 0); end = Some (negsuc 0) } ∷ [];
  reserved_name = [];
} ∷ []
whole-enums = refl

whole-services : (file_proto (codes "a.proto") (filled whole_file whole_trees)).service ≡ record {
  name = Some (codes "S");
  method = record {
    name = Some (codes "m");
    input_type = Some (codes "I");
    output_type = Some (codes "O");
    options = Some (record { uninterpreted_option = x_option });
    client_streaming = None;
    server_streaming = Some true;
  } ∷ [];
  options = Some (record { uninterpreted_option = x_option });
} ∷ []
whole-services = refl

whole-extensions : extensions (filled whole_file whole_trees) ≡
    record no_field { name = Some (codes "k"); number = Some (pos 100); label = Some (pos 1); field_type = Some (pos 10); type_name = Some (codes "K"); extendee = Some (codes "B") } ∷ []
whole-extensions = extensions-of whole_file whole_trees

whole-options : (file_proto (codes "a.proto") (filled whole_file whole_trees)).options ≡ Some (record { uninterpreted_option = x_option })
whole-options = refl

-- nothing is wrong with it
whole-faults : file_faults (filled whole_file whole_trees) ≡ []
whole-faults = faults-of whole_file whole_trees
