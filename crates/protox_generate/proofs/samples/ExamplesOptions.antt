-- Examples of options: of a file, of an enum's value, and their values by kind.
use Prim.Native.String.{String}
use Rattle.std.proofs.Common.{◌≡◌, List, [], ◌∷◌, map, Option, Some, None, pos, negsuc, true, false, codes, refl}
use Rattle.protox_ast.specs.declared.ast.Comments.{Comments}
use Rattle.protox_ast.specs.declared.ast.File.{File}
use Rattle.protox_ast.specs.declared.ast.FileItem.TheVariants as file_item
use Rattle.protox_ast.specs.declared.ast.OptionList.{OptionList}
use Rattle.protox_ast.specs.declared.ast.OptionNamePart.TheVariants as part
use Rattle.protox_ast.specs.declared.ast.OptionValue.TheVariants as value
use Rattle.protox_ast.specs.declared.ast.Ty.TheVariants as ty
use Rattle.protox_descriptor.specs.declared.descriptor.source_code_info.Location.{Location}
use Rattle.std.specs.Fmt.{digits}
use Rattle.std.specs.Str.{is_utf8, chars}
use Rattle.std.specs.Char.{encode_utf8}
use Rattle.std.specs.Str.Lossy.{utf8_valid_len}
use Rattle.protox_describe.specs.File.{file_proto}
use Rattle.protox_places.specs.Lines.{span_numbers}
use Rattle.protox_locate.specs.Locations.{file_locations}
use Rattle.protox_ast.specs.Options.{uninterpreted, default_of, json_name_of, options_left}
use Rattle.protox_ast.specs.Spans.{body_span, parts_span}
use Rattle.protox_ast.specs.Values.{default_text, wanted}
use Rattle.protox_generate.proofs.samples.Files.{FileTree, Another, filled, table}
use Rattle.protox_generate.proofs.samples.Written as w
use Rattle.protox_generate.proofs.samples.Written.{at, word, int, minus, no_option}

-- ---- two options of a file, the second led by a comment

abbrev two_source : String
two_source = "option a = 1; /* x */\noption b = 2;"

abbrev led : Comments
led = record { leading_detached_comments = []; leading_comment = Some (codes " x "); trailing_comment = None }

abbrev two_file : File
two_file = record (w.file (at 0 35)) {
  options =
      record { body = w.body_of (word "a" 7) (value.Int (int 1 (at 11 12))); comments = w.quiet; span = at 0 13 }
      ∷ record { body = w.body_of (word "b" 29) (value.Int (int 2 (at 33 34))); comments = led; span = (at 22 35) }
      ∷ [];
}

two-places : table two_source two_file ≡
    ([], 0 ∷ 0 ∷ 1 ∷ 13 ∷ [])
    ∷ (8 ∷ [], 0 ∷ 0 ∷ 13 ∷ [])
    ∷ (8 ∷ [], 1 ∷ 0 ∷ 13 ∷ [])
    ∷ (8 ∷ 999 ∷ 0 ∷ [], 0 ∷ 0 ∷ 13 ∷ [])
    ∷ (8 ∷ 999 ∷ 1 ∷ [], 1 ∷ 0 ∷ 13 ∷ [])
    ∷ []
two-places = refl

-- which of them is led by a comment
two-comments : map (λ (l : Location). l.leading_comments) (file_locations (span_numbers (codes two_source)) two_file) ≡ None ∷ None ∷ None ∷ None ∷ Some (codes " x ") ∷ []
two-comments = refl

-- ---- an aggregate

abbrev aggregate_source : String
aggregate_source = "option o = { a: 0x2A b: 1f # c\n };"

abbrev aggregate_file : File
aggregate_file = record (w.file (at 0 34)) {
  options = w.statement (w.body_of (word "o" 7) (value.Aggregate (codes "a : 42 b : 1.0") (at 11 33))) (at 0 34) ∷ [];
}

aggregate-places : table aggregate_source aggregate_file ≡
    ([], 0 ∷ 0 ∷ 1 ∷ 3 ∷ []) ∷ (8 ∷ [], 0 ∷ 0 ∷ 1 ∷ 3 ∷ []) ∷ (8 ∷ 999 ∷ 0 ∷ [], 0 ∷ 0 ∷ 1 ∷ 3 ∷ []) ∷ []
aggregate-places = refl

aggregate-options : (file_proto (codes "a.proto") aggregate_file).options ≡
    Some (record { uninterpreted_option = record (no_option "o") { aggregate_value = Some (codes "a : 42 b : 1.0") } ∷ [] })
aggregate-options = refl

-- ---- an enum's value with a list

abbrev enum_source : String
enum_source = "enum E { A = 1 [x = 1]; }"

abbrev enum_file : File
enum_file = w.file (at 0 25)

abbrev enum_tree : List FileTree
enum_tree = Another (file_item.Enum (w.enum (word "E" 5) (w.enum_value (word "A" 9) (int 1 (at 13 14)) (w.list (w.body_of (word "x" 16) (value.Int (int 1 (at 20 21))) ∷ []) (at 15 22)) (at 9 23) ∷ []) [] (at 0 25))) ∷ []

enum-places : table enum_source (filled enum_file enum_tree) ≡
    ([], 0 ∷ 0 ∷ 25 ∷ [])
    ∷ (5 ∷ 0 ∷ [], 0 ∷ 0 ∷ 25 ∷ [])
    ∷ (5 ∷ 0 ∷ 1 ∷ [], 0 ∷ 5 ∷ 6 ∷ [])
    ∷ (5 ∷ 0 ∷ 2 ∷ 0 ∷ [], 0 ∷ 9 ∷ 23 ∷ [])
    ∷ (5 ∷ 0 ∷ 2 ∷ 0 ∷ 1 ∷ [], 0 ∷ 9 ∷ 10 ∷ [])
    ∷ (5 ∷ 0 ∷ 2 ∷ 0 ∷ 2 ∷ [], 0 ∷ 13 ∷ 14 ∷ [])
    ∷ (5 ∷ 0 ∷ 2 ∷ 0 ∷ 3 ∷ [], 0 ∷ 15 ∷ 22 ∷ [])
    ∷ (5 ∷ 0 ∷ 2 ∷ 0 ∷ 3 ∷ 999 ∷ 0 ∷ [], 0 ∷ 16 ∷ 21 ∷ [])
    ∷ []
enum-places = refl

enum-descriptor : (file_proto (codes "a.proto") (filled enum_file enum_tree)).enum_type ≡ record {
  name = Some (codes "E");
  value = record { name = Some (codes "A"); number = Some (pos 1); options = Some (record { uninterpreted_option = record (no_option "x") { positive_int_value = Some 1 } ∷ [] }) } ∷ [];
  options = None;
  reserved_range = [];
  reserved_name = [];
} ∷ []
enum-descriptor = refl

-- ---- values by kind

-- option opt = -9223372036854775808;
least : uninterpreted (w.body_of (word "opt" 7) (value.Int (minus 9223372036854775808 (at 13 33)))) ≡ record (no_option "opt") { negative_int_value = Some (negsuc 9223372036854775807) }
least = refl

-- option opt = -0;
minus-zero : uninterpreted (w.body_of (word "opt" 7) (value.Int (minus 0 (at 13 15)))) ≡ record (no_option "opt") { negative_int_value = Some (pos 0) }
minus-zero = refl

-- option opt = 18446744073709551615;
greatest : uninterpreted (w.body_of (word "opt" 7) (value.Int (int 18446744073709551615 (at 13 33)))) ≡ record (no_option "opt") { positive_int_value = Some 18446744073709551615 }
greatest = refl

-- option opt = -1.5; option opt = '\xFF'; option opt = SPEED;
a-float : uninterpreted (w.body_of (word "opt" 7) (w.float "-1.5" (at 13 17))) ≡ record (no_option "opt") { double_value = Some (codes "-1.5") }
a-float = refl

some-bytes : uninterpreted (w.body_of (word "opt" 7) (value.String (record { value = 255 ∷ []; span = at 13 19 }))) ≡ record (no_option "opt") { string_value = Some (255 ∷ []) }
some-bytes = refl

a-word : uninterpreted (w.body_of (word "opt" 7) (w.identifier (word "SPEED" 13))) ≡ record (no_option "opt") { identifier_value = Some (codes "SPEED") }
a-word = refl

-- an identifier with a sign has no value: it is refused
negated-word : uninterpreted (w.body_of (word "opt" 7) (value.Ident true (word "x" 14) (at 13 15))) ≡ no_option "opt"
negated-word = refl

-- option (.foo.bar).baz = 1;
two-parts : (uninterpreted (record { name = part.Extension (w.dotted (at 8 9) (word "foo" 9 ∷ word "bar" 13 ∷ [])) (at 7 17) ∷ part.Ident (word "baz" 18) ∷ []; value = value.Int (int 1 (at 24 25)) })).name
    ≡ record { name_part = codes ".foo.bar"; is_extension = true } ∷ record { name_part = codes "baz"; is_extension = false } ∷ []
two-parts = refl

-- `(.ext)` at 0, `ident` at 7, -5 at 14
name-span : parts_span (part.Extension (w.dotted (at 1 2) (word "ext" 2 ∷ [])) (at 0 6) ∷ part.Ident (word "ident" 7) ∷ []) ≡ at 0 12
name-span = refl

whole-span : body_span (record { name = part.Extension (w.dotted (at 1 2) (word "ext" 2 ∷ [])) (at 0 6) ∷ part.Ident (word "ident" 7) ∷ []; value = value.Int (minus 5 (at 14 16)) }) ≡ at 0 16
whole-span = refl

-- [default.x = 1, json_name = 'a', default = 2, json_name = 'b']: `default.x` is no default
abbrev named_list : Option OptionList
named_list = w.list (
    record { name = part.Ident (word "default" 1) ∷ part.Ident (word "x" 9) ∷ []; value = value.Int (int 1 (at 13 14)) }
    ∷ w.body_of (word "json_name" 16) (w.string "a" (at 28 31))
    ∷ w.body_of (word "default" 33) (value.Int (int 2 (at 43 44)))
    ∷ w.body_of (word "json_name" 46) (w.string "b" (at 58 61))
    ∷ []) (at 0 62)

named-default : default_of named_list ≡ Some (w.body_of (word "default" 33) (value.Int (int 2 (at 43 44))))
named-default = refl

named-json : json_name_of named_list ≡ Some (w.body_of (word "json_name" 16) (w.string "a" (at 28 31)))
named-json = refl

named-left : map body_span (options_left named_list) ≡ at 1 14 ∷ at 46 61 ∷ []
named-left = refl

-- ---- default values by type

default-float : default_text (wanted ty.Float) (w.float "-9e6" (at 0 4)) ≡ Some (codes "-9e6")
default-float = refl

default-nan : default_text (wanted ty.Float) (value.Ident true (word "nan" 1) (at 0 4)) ≡ Some (codes "nan")
default-nan = refl

default-inf : default_text (wanted ty.Double) (value.Ident true (word "inf" 1) (at 0 4)) ≡ Some (codes "-inf")
default-inf = refl

-- -0 stays as it is for a float, and is 0 for an integer
default-zero : default_text (wanted ty.Double) (value.Int (minus 0 (at 0 2))) ≡ Some (codes "-0")
unfolding digits
default-zero = refl

default-int : default_text (wanted ty.Sint64) (value.Int (minus 0 (at 0 2))) ≡ Some (codes "0")
unfolding digits
default-int = refl

default-bool : default_text (wanted ty.Bool) (w.identifier (word "false" 0)) ≡ Some (codes "false")
default-bool = refl

-- '\xFF"'
default-bytes : default_text (wanted ty.Bytes) (value.String (record { value = 255 ∷ 34 ∷ []; span = at 0 7 })) ≡ Some (codes "\\377\\\"")
default-bytes = refl

-- é in UTF-8, and a byte that isn't
default-string : default_text (wanted ty.String) (value.String (record { value = 195 ∷ 169 ∷ []; span = at 0 4 })) ≡ Some (195 ∷ 169 ∷ [])
unfolding utf8_valid_len is_utf8 chars encode_utf8
default-string = refl

default-no_text : default_text (wanted ty.String) (value.String (record { value = 255 ∷ []; span = at 0 6 })) ≡ None
unfolding utf8_valid_len is_utf8 chars encode_utf8
default-no_text = refl

default-named : default_text (wanted (ty.Named (w.name (word "Foo" 0)))) (w.string "a" (at 0 3)) ≡ Some (codes "\"a\"")
default-named = refl
