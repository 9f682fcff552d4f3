-- Examples of faults: each file is wrong in these ways and in no other.
use Prim.Native.String.{String}
use Rattle.std.proofs.Common.{ℕ, ◌+◌, ◌++◌, ◌≡◌, List, [], ◌∷◌, Option, None, map, true, false, codes, refl, ap, length}
use Rattle.std.specs.Fmt.{digits}
use Rattle.std.specs.Char.{encode_utf8}
use Rattle.std.specs.Str.{is_utf8, chars}
use Rattle.std.specs.Str.Lossy.{utf8_valid_len}
use Rattle.protox_fault.specs.Faults.{Span}
use Rattle.protox_ast.specs.declared.ast.Enum.{Enum}
use Rattle.protox_ast.specs.declared.ast.File.{File}
use Rattle.protox_ast.specs.declared.ast.Int.{Int}
use Rattle.protox_ast.specs.declared.ast.OptionBody.{OptionBody}
use Rattle.protox_ast.specs.declared.ast.ReservedRangeEnd.TheVariants as range_end
use Rattle.protox_ast.specs.declared.ast.Service.{Service}
use Rattle.protox_checks.specs.FieldFaults.{may_be_key}
use Rattle.protox_ast.specs.Options.{OptionStatement}
use Rattle.protox_ast.specs.Values.{wanted, a_float, an_integer, a_bool, a_text, some_bytes, anything, signed_32, signed_64, unsigned_32, unsigned_64}
use Rattle.protox_fault.specs.declared.error.ParseErrorKind.{ParseErrorKind}
use Rattle.protox_fault.specs.declared.error.ParseErrorKind.TheVariants as fault
use Rattle.protox_ast.specs.declared.ast.FieldLabel.{FieldLabel}
use Rattle.protox_ast.specs.declared.ast.FileItem.TheVariants as file_item
use Rattle.protox_ast.specs.declared.ast.OptionList.{OptionList}
use Rattle.protox_ast.specs.declared.ast.OptionValue.{OptionValue}
use Rattle.protox_ast.specs.declared.ast.OptionValue.TheVariants as value
use Rattle.protox_ast.specs.declared.ast.Ty.{Ty}
use Rattle.protox_ast.specs.declared.ast.Ty.TheVariants as ty
use Rattle.protox_checks.specs.Checks.{file_faults, value_faults}
use Rattle.protox_checks.specs.Faults.{placed}
use Rattle.protox_generate.proofs.samples.Files.{FileTree, AMessage, AnExtend, Another, filled, faults-of}
use Rattle.protox_generate.proofs.samples.Trees as t
use Rattle.protox_generate.proofs.samples.Trees.{◌&◌}
use Rattle.protox_generate.proofs.samples.Written as w
use Rattle.protox_generate.proofs.samples.Written.{at, word, int, minus, no_field}

-- the faults of a file of one item, of proto2 and of proto3
abbrev faults2 : FileTree → List ParseErrorKind
faults2 one = file_faults (filled (w.file (at 0 44)) (one ∷ []))

abbrev faults3 : FileTree → List ParseErrorKind
faults3 one = file_faults (filled (w.file3 (at 0 0) (at 0 44)) (one ∷ []))

-- ---- numbers

abbrev number_source : String
number_source = "message Foo { optional int32 i = 536870912; }"

abbrev number_high_tree : FileTree
number_high_tree = AMessage (t.message (word "Foo" 8) (t.inside (t.a_field (t.field (w.optional (at 14 22)) (t.normal ty.Int32 (at 23 28)) (word "i" 29) (int 536870912 (at 33 42)) None (at 14 43)) & t.none)) (at 0 45))

number-high : faults2 number_high_tree ≡ fault.InvalidMessageNumber (at 33 42) ∷ []
number-high = faults-of (w.file (at 0 44)) (number_high_tree ∷ [])

abbrev greatest_source : String
greatest_source = "message Foo { optional int32 i = 536870911; }"

abbrev number_greatest_tree : FileTree
number_greatest_tree = AMessage (t.message (word "Foo" 8) (t.inside (t.a_field (t.field (w.optional (at 14 22)) (t.normal ty.Int32 (at 23 28)) (word "i" 29) (int 536870911 (at 33 42)) None (at 14 43)) & t.none)) (at 0 45))

number-greatest : faults2 number_greatest_tree ≡ []
number-greatest = faults-of (w.file (at 0 44)) (number_greatest_tree ∷ [])

abbrev number_negative_tree : FileTree
number_negative_tree = AMessage (t.message (word "Foo" 8) (t.inside (t.a_field (t.field (w.optional (at 14 22)) (t.normal ty.Int32 (at 23 28)) (word "i" 29) (minus 1 (at 33 35)) None (at 14 36)) & t.none)) (at 0 38))

number-negative : faults2 number_negative_tree ≡ fault.InvalidMessageNumber (at 33 35) ∷ []
number-negative = faults-of (w.file (at 0 44)) (number_negative_tree ∷ [])

-- the number before the label
abbrev zero_source : String
zero_source = "message M { A a = 0; }"

abbrev number_zero_tree : FileTree
number_zero_tree = AMessage (t.message (word "M" 8) (t.inside (t.a_field (t.field None (t.normal (ty.Named (w.name (word "A" 12))) (at 12 13)) (word "a" 14) (int 0 (at 18 19)) None (at 12 20)) & t.none)) (at 0 22))

number-zero : faults2 number_zero_tree ≡ fault.InvalidMessageNumber (at 18 19) ∷ fault.Proto2FieldMissingLabel (at 12 20) ∷ []
number-zero = faults-of (w.file (at 0 44)) (number_zero_tree ∷ [])

abbrev enum_source : String
enum_source = "enum E { A = -1; B = 2147483648; }"

abbrev enum_number_tree : FileTree
enum_number_tree = Another (file_item.Enum (w.enum (word "E" 5) (w.enum_value (word "A" 9) (minus 1 (at 13 15)) None (at 9 16) ∷ w.enum_value (word "B" 17) (int 2147483648 (at 21 31)) None (at 17 32) ∷ []) [] (at 0 34)))

enum-number : faults2 enum_number_tree ≡ fault.InvalidEnumNumber (at 21 31) ∷ []
enum-number = faults-of (w.file (at 0 44)) (enum_number_tree ∷ [])

-- ---- labels

abbrev label_source : String
label_source = "extend Foo { message x = 1; }"

abbrev label_missing_tree : FileTree
label_missing_tree = AnExtend (t.extend (w.name (word "Foo" 7)) (t.only (t.field None (t.normal (ty.Named (w.name (word "message" 13))) (at 13 20)) (word "x" 21) (int 1 (at 25 26)) None (at 13 27))) (at 0 29))

label-missing : faults2 label_missing_tree ≡ fault.Proto2FieldMissingLabel (at 13 27) ∷ []
label-missing = faults-of (w.file (at 0 44)) (label_missing_tree ∷ [])

-- a field `LABEL int32 a = 1;` with a label at 20, at 12 without it
abbrev labelled : Option (FieldLabel × Span) → t.Tree t.FieldSort
labelled label = t.field label (t.normal ty.Int32 (at 30 35)) (word "a" 36) (int 1 (at 40 41)) None (at 12 42)

abbrev in_message : t.Tree t.FieldSort → FileTree
in_message one = AMessage (t.message (word "M" 8) (t.inside (t.a_field one & t.none)) (at 0 44))

abbrev in_oneof : t.Tree t.FieldSort → FileTree
in_oneof one = AMessage (t.message (word "M" 8) (t.inside (t.a_oneof (t.oneof (word "o" 10) [] (t.only one) (at 9 43)) & t.none)) (at 0 44))

abbrev in_extend : t.Tree t.FieldSort → FileTree
in_extend one = AnExtend (t.extend (w.name (word "M" 8)) (t.only one) (at 0 44))

-- of a label's faults only the first that holds
abbrev required_extension_tree : FileTree
required_extension_tree = in_extend (labelled (w.required (at 20 28)))

required-extension : faults3 required_extension_tree ≡ fault.RequiredExtendField (at 20 28) ∷ []
required-extension = faults-of (w.file3 (at 0 0) (at 0 44)) (required_extension_tree ∷ [])

abbrev required_extension2_tree : FileTree
required_extension2_tree = in_extend (labelled (w.required (at 20 28)))

required-extension2 : faults2 required_extension2_tree ≡ fault.RequiredExtendField (at 20 28) ∷ []
required-extension2 = faults-of (w.file (at 0 44)) (required_extension2_tree ∷ [])

abbrev required_oneof_tree : FileTree
required_oneof_tree = in_oneof (labelled (w.required (at 20 28)))

required-oneof : faults3 required_oneof_tree ≡ fault.OneofFieldWithLabel (at 20 28) ∷ []
required-oneof = faults-of (w.file3 (at 0 0) (at 0 44)) (required_oneof_tree ∷ [])

abbrev optional_oneof_tree : FileTree
optional_oneof_tree = in_oneof (labelled (w.optional (at 20 28)))

optional-oneof : faults2 optional_oneof_tree ≡ fault.OneofFieldWithLabel (at 20 28) ∷ []
optional-oneof = faults-of (w.file (at 0 44)) (optional_oneof_tree ∷ [])

abbrev none_oneof_tree : FileTree
none_oneof_tree = in_oneof (labelled None)

none-oneof : faults2 none_oneof_tree ≡ []
none-oneof = faults-of (w.file (at 0 44)) (none_oneof_tree ∷ [])

abbrev required_proto3_tree : FileTree
required_proto3_tree = in_message (labelled (w.required (at 20 28)))

required-proto3 : faults3 required_proto3_tree ≡ fault.Proto3RequiredField (at 20 28) ∷ []
required-proto3 = faults-of (w.file3 (at 0 0) (at 0 44)) (required_proto3_tree ∷ [])

abbrev required_proto2_tree : FileTree
required_proto2_tree = in_message (labelled (w.required (at 20 28)))

required-proto2 : faults2 required_proto2_tree ≡ []
required-proto2 = faults-of (w.file (at 0 44)) (required_proto2_tree ∷ [])

abbrev none_proto3_tree : FileTree
none_proto3_tree = in_message (labelled None)

none-proto3 : faults3 none_proto3_tree ≡ []
none-proto3 = faults-of (w.file3 (at 0 0) (at 0 44)) (none_proto3_tree ∷ [])

-- ---- kinds

-- a map with keys of such a type
abbrev map_of : Option (FieldLabel × Span) → Ty → t.Tree t.FieldSort
map_of label key = t.field label (t.a_map (at 30 35) key (at 31 32) ty.Int32 (at 33 34)) (word "a" 36) (int 1 (at 40 41)) None (at 12 42)

abbrev map_labelled_tree : FileTree
map_labelled_tree = in_message (map_of (w.repeated (at 20 28)) ty.Bool)

map-labelled : faults2 map_labelled_tree ≡ fault.MapFieldWithLabel (at 20 28) ∷ []
map-labelled = faults-of (w.file (at 0 44)) (map_labelled_tree ∷ [])

abbrev map_plain_tree : FileTree
map_plain_tree = in_message (map_of None ty.Sfixed64)

map-plain : faults2 map_plain_tree ≡ []
map-plain = faults-of (w.file (at 0 44)) (map_plain_tree ∷ [])

abbrev map_oneof_tree : FileTree
map_oneof_tree = in_oneof (map_of None ty.String)

map-oneof : faults2 map_oneof_tree ≡ fault.InvalidOneofFieldKind (at 12 42) (placed (codes "map")) ∷ []
map-oneof = faults-of (w.file (at 0 44)) (map_oneof_tree ∷ [])

abbrev map_extend_tree : FileTree
map_extend_tree = in_extend (map_of (w.required (at 20 28)) ty.Double)

map-extend : faults3 map_extend_tree ≡ fault.InvalidExtendFieldKind (at 12 42) (placed (codes "map")) ∷ fault.InvalidMapFieldKeyType (at 31 32) ∷ []
map-extend = faults-of (w.file3 (at 0 0) (at 0 44)) (map_extend_tree ∷ [])

abbrev map_key_tree : FileTree
map_key_tree = in_message (map_of None (ty.Named (w.name (word "E" 31))))

map-key : faults2 map_key_tree ≡ fault.InvalidMapFieldKeyType (at 31 32) ∷ []
map-key = faults-of (w.file (at 0 44)) (map_key_tree ∷ [])

-- a group with these options
abbrev group_of : Option (FieldLabel × Span) → Option OptionList → t.Tree t.FieldSort
group_of label options = t.field label (t.group (at 30 35) (t.inside t.none)) (word "A" 36) (int 1 (at 40 41)) options (at 12 42)

abbrev group_proto3_tree : FileTree
group_proto3_tree = in_message (group_of None None)

group-proto3 : faults3 group_proto3_tree ≡ fault.Proto3GroupField (at 12 42) ∷ []
group-proto3 = faults-of (w.file3 (at 0 0) (at 0 44)) (group_proto3_tree ∷ [])

abbrev empty_oneof_tree : FileTree
empty_oneof_tree = AMessage (t.message (word "M" 8) (t.inside (t.a_oneof (t.oneof (word "o" 10) [] t.no_field (at 9 43)) & t.none)) (at 0 44))

empty-oneof : faults2 empty_oneof_tree ≡ fault.EmptyOneof (at 9 43) ∷ []
empty-oneof = faults-of (w.file (at 0 44)) (empty_oneof_tree ∷ [])

-- ---- defaults

-- [default = VALUE] with the value at 53
abbrev default_list : OptionValue → Option OptionList
default_list v = w.list (w.body_of (word "default" 43) v ∷ []) (at 42 56)

abbrev one : OptionValue
one = value.Int (int 1 (at 53 54))

-- a repeated group is wrong twice
abbrev group_default_tree : FileTree
group_default_tree = in_message (group_of (w.repeated (at 20 28)) (default_list one))

group-default : faults2 group_default_tree ≡ fault.InvalidDefault (at 43 54) (placed (codes "repeated")) ∷ fault.InvalidDefault (at 43 54) (placed (codes "group")) ∷ []
group-default = faults-of (w.file (at 0 44)) (group_default_tree ∷ [])

abbrev with_default : Option (FieldLabel × Span) → Ty → OptionValue → t.Tree t.FieldSort
with_default label type v = t.field label (t.normal type (at 30 35)) (word "a" 36) (int 1 (at 40 41)) (default_list v) (at 12 57)

abbrev default_repeated_tree : FileTree
default_repeated_tree = in_message (with_default (w.repeated (at 20 28)) ty.Int32 one)

default-repeated : faults3 default_repeated_tree ≡ fault.InvalidDefault (at 43 54) (placed (codes "repeated")) ∷ []
default-repeated = faults-of (w.file3 (at 0 0) (at 0 44)) (default_repeated_tree ∷ [])

abbrev default_proto3_tree : FileTree
default_proto3_tree = in_message (with_default None ty.Int32 one)

default-proto3 : faults3 default_proto3_tree ≡ fault.Proto3DefaultValue (at 43 54) ∷ []
default-proto3 = faults-of (w.file3 (at 0 0) (at 0 44)) (default_proto3_tree ∷ [])

-- a map with a default
abbrev map_default : Option (FieldLabel × Span) → t.Tree t.FieldSort
map_default label = t.field label (t.a_map (at 30 35) ty.Bool (at 31 32) ty.Int32 (at 33 34)) (word "a" 36) (int 1 (at 40 41)) (default_list one) (at 12 57)

abbrev default_map_tree : FileTree
default_map_tree = in_message (map_default None)

default-map : faults2 default_map_tree ≡ fault.InvalidDefault (at 43 54) (placed (codes "map")) ∷ []
default-map = faults-of (w.file (at 0 44)) (default_map_tree ∷ [])

default-map3 : faults3 default_map_tree ≡ fault.InvalidDefault (at 43 54) (placed (codes "map")) ∷ []
default-map3 = faults-of (w.file3 (at 0 0) (at 0 44)) (default_map_tree ∷ [])

-- with a label there is one fault more: the default isn't wrong as that of a repeated field too
abbrev default_labelled_map_tree : FileTree
default_labelled_map_tree = in_message (map_default (w.repeated (at 20 28)))

default-labelled_map : length (faults2 default_labelled_map_tree) ≡ 2
default-labelled_map = ap length (faults-of (w.file (at 0 44)) (default_labelled_map_tree ∷ []))

abbrev default_type_tree : FileTree
default_type_tree = in_message (with_default (w.optional (at 20 28)) ty.Bool one)

default-type : faults2 default_type_tree ≡ fault.ValueInvalidType (at 53 54) (codes "either 'true' or 'false'") (codes "1") ∷ []
unfolding digits
default-type = faults-of (w.file (at 0 44)) (default_type_tree ∷ [])

abbrev unsigned_source : String
unsigned_source = "message A { optional uint32 a = 1 [default = -0]; }"

abbrev default_unsigned_tree : FileTree
default_unsigned_tree = AMessage (t.message (word "A" 8) (t.inside (t.a_field (t.field (w.optional (at 12 20)) (t.normal ty.Uint32 (at 21 27)) (word "a" 28) (int 1 (at 32 33)) (w.list (w.body_of (word "default" 35) (value.Int (minus 0 (at 45 47))) ∷ []) (at 34 48)) (at 12 49)) & t.none)) (at 0 51))

default-unsigned : faults2 default_unsigned_tree ≡ fault.IntegerValueOutOfRange (at 45 47) (codes "an unsigned 32-bit integer") (codes "-0") (codes "0") (codes "4294967295") ∷ []
unfolding digits
default-unsigned = faults-of (w.file (at 0 44)) (default_unsigned_tree ∷ [])

-- ---- options and JSON names

-- option opt = VALUE;
abbrev option_faults : OptionValue → List ParseErrorKind
option_faults v = file_faults (record (w.file (at 0 34)) { options = w.statement (w.body_of (word "opt" 7) v) (at 0 34) ∷ [] })

least : option_faults (value.Int (minus 9223372036854775808 (at 13 33))) ≡ []
least = refl

below : option_faults (value.Int (minus 9223372036854775809 (at 13 33)))
    ≡ fault.IntegerValueOutOfRange (at 13 33) (codes "a 64-bit integer") (codes "-9223372036854775809") (codes "-9223372036854775808") (codes "18446744073709551615") ∷ []
unfolding digits
below = refl

negated : option_faults (value.Ident true (word "ident" 14) (at 13 19)) ≡ fault.NegativeIdentOutsideDefault (at 13 19) ∷ []
negated = refl

abbrev json_name_tree : FileTree
json_name_tree = in_message (t.field (w.optional (at 20 28)) (t.normal ty.Int32 (at 30 35)) (word "a" 36) (int 1 (at 40 41)) (w.list (w.body_of (word "json_name" 43) (w.identifier (word "x" 53)) ∷ []) (at 42 56)) (at 12 57))

json-name : faults2 json_name_tree ≡ fault.ValueInvalidType (at 53 54) (codes "a string") (codes "x") ∷ []
json-name = faults-of (w.file (at 0 44)) (json_name_tree ∷ [])

-- a string that is no UTF-8
abbrev json_name_bytes_tree : FileTree
json_name_bytes_tree = in_message (t.field (w.optional (at 20 28)) (t.normal ty.Int32 (at 30 35)) (word "a" 36) (int 1 (at 40 41)) (w.list (w.body_of (word "json_name" 43) (value.String (record { value = 255 ∷ []; span = at 53 59 })) ∷ []) (at 42 60)) (at 12 61))

json-name_bytes : faults2 json_name_bytes_tree ≡ fault.InvalidUtf8String (at 53 59) ∷ []
unfolding utf8_valid_len is_utf8 chars encode_utf8
json-name_bytes = faults-of (w.file (at 0 44)) (json_name_bytes_tree ∷ [])

-- ---- each kind of node, in the order in which its faults are found

-- an option `x` with the value `-a` at n
abbrev negated_at : ℕ → OptionBody
negated_at n = w.body_of (word "x" 0) (value.Ident true (word "a" (n + 1)) (at n (n + 2)))

abbrev negated_list : ℕ → Option OptionList
negated_list n = w.list (negated_at n ∷ []) (at n (n + 2))

abbrev negated_statement : ℕ → OptionStatement
negated_statement n = w.statement (negated_at n) (at n (n + 2))

abbrev negative : ℕ → ParseErrorKind
negative n = fault.NegativeIdentOutsideDefault (at n (n + 2))

-- a number that is none of a field or of an enum's value
abbrev bad : ℕ → Int
bad n = int 4294967296 (at n (n + 10))

abbrev bad_field : ℕ → ParseErrorKind
bad_field n = fault.InvalidMessageNumber (at n (n + 10))

abbrev bad_value : ℕ → ParseErrorKind
bad_value n = fault.InvalidEnumNumber (at n (n + 10))

abbrev wrong_field : ℕ → t.Tree t.FieldSort
wrong_field n = t.field (w.optional (at 0 8)) (t.normal ty.Int32 (at 0 0)) (word "f" 0) (bad n) (negated_list (n + 20)) (at n (n + 30))

abbrev wrong_enum : ℕ → Enum
wrong_enum n = record (w.enum (word "E" 0)
    (w.enum_value (word "V" 0) (bad n) (negated_list (n + 10)) (at 0 0) ∷ [])
    (w.ranges (w.range (bad (n + 20)) (range_end.Int (bad (n + 30))) ∷ []) (at 0 0) ∷ []) (at 0 0)) {
      options = negated_statement (n + 40) ∷ [];
    }

abbrev enum_faults : ℕ → List ParseErrorKind
enum_faults n = bad_value n ∷ negative (n + 10) ∷ bad_value (n + 20) ∷ bad_value (n + 30) ∷ negative (n + 40) ∷ []

abbrev wrong_body : ℕ → t.Tree t.ItemsSort → t.Tree t.BodySort
wrong_body n items = t.body items
    (w.extensions (w.range (bad n) range_end.None ∷ w.range (int 5 (at 0 0)) (range_end.Int (bad (n + 10))) ∷ []) (negated_list (n + 20)) (at 0 0) ∷ [])
    (negated_statement (n + 30) ∷ [])
    (w.ranges (w.range (bad (n + 40)) (range_end.Max (at 0 0)) ∷ w.range (int 5 (at 0 0)) (range_end.Int (bad (n + 50))) ∷ []) (at 0 0) ∷ [])

-- the items' faults, those of ranges, and those of options; the options of extensions at each range
abbrev body_faults : ℕ → List ParseErrorKind
body_faults n = bad_field (n + 40) ∷ bad_field (n + 50) ∷ negative (n + 20) ∷ bad_field n ∷ negative (n + 20) ∷ bad_field (n + 10) ∷ negative (n + 30) ∷ []

abbrev wrong_message : FileTree
wrong_message = AMessage (t.message (word "M" 0) (wrong_body 1000 (
    t.a_field (wrong_field 2000)
    & t.a_oneof (t.oneof (word "o" 0) (negated_statement 2100 ∷ []) t.no_field (at 2110 2120))
    & t.an_enum (wrong_enum 2200)
    & t.an_extend (t.extend (w.name (word "A" 0)) (t.only (wrong_field 2300)) (at 0 0))
    & t.a_message (t.message (word "N" 0) (wrong_body 2400 t.none) (at 0 0))
    & t.a_field (t.field (w.optional (at 0 8)) (t.group (at 0 0) (wrong_body 2500 t.none)) (word "G" 0) (bad 2600) (negated_list 2610) (at 0 0))
    & t.none)) (at 0 0))

message-faults : faults2 wrong_message ≡
    bad_field 2000 ∷ negative 2020
    ∷ negative 2100 ∷ fault.EmptyOneof (at 2110 2120)
    ∷ (enum_faults 2200
    ++ (bad_field 2300 ∷ negative 2320
    ∷ (body_faults 2400
    ++ (bad_field 2600
    ∷ (body_faults 2500
    ++ (negative 2610
    ∷ body_faults 1000))))))
message-faults = faults-of (w.file (at 0 44)) (wrong_message ∷ [])

abbrev wrong_service : Service
wrong_service = record {
  name = word "S" 0;
  options = negated_statement 3000 ∷ [];
  methods = record {
    name = word "m" 0;
    input_ty = w.name (word "I" 0);
    output_ty = w.name (word "O" 0);
    options = negated_statement 3010 ∷ [];
    client_streaming = None;
    server_streaming = None;
    comments = w.quiet;
    span = at 0 0;
  } ∷ [];
  comments = w.quiet;
  span = at 0 0;
}

abbrev wrong_file : File
wrong_file = record (w.file (at 0 0)) { options = negated_statement 4000 ∷ [] }

abbrev wrong_items : List FileTree
wrong_items = Another (file_item.Service wrong_service) ∷ Another (file_item.Enum (wrong_enum 3100)) ∷ AnExtend (t.extend (w.name (word "A" 0)) (t.only (wrong_field 3200)) (at 0 0)) ∷ []

file-faults : file_faults (filled wrong_file wrong_items) ≡ negative 3010 ∷ negative 3000 ∷ (enum_faults 3100 ++ (bad_field 3200 ∷ negative 3220 ∷ negative 4000 ∷ []))
file-faults = faults-of wrong_file wrong_items

-- ---- what values a type takes

abbrev a_string : OptionValue
a_string = w.string "x" (at 53 56)

abbrev a_word : OptionValue
a_word = w.identifier (word "x" 53)

abbrev of_default : Ty → OptionValue → List ParseErrorKind
of_default type v = value_faults (wanted type) v

wants-float : of_default ty.Double a_word ≡ fault.ValueInvalidType (at 53 54) (codes "a floating-point number") (codes "x") ∷ []
wants-float = refl

wants-integer : of_default ty.Fixed64 a_string ≡ fault.ValueInvalidType (at 53 56) (codes "an integer") (codes "x") ∷ []
wants-integer = refl

wants-string : of_default ty.String a_word ≡ fault.ValueInvalidType (at 53 54) (codes "a string") (codes "x") ∷ []
wants-string = refl

wants-bytes : of_default ty.Bytes a_word ≡ fault.ValueInvalidType (at 53 54) (codes "a string") (codes "x") ∷ []
wants-bytes = refl

wants-bool : of_default ty.Bool (value.Ident true (word "true" 54) (at 53 58)) ≡ fault.ValueInvalidType (at 53 58) (codes "either 'true' or 'false'") (codes "-true") ∷ []
wants-bool = refl

wants-anything : of_default (ty.Named (w.name (word "E" 0))) a_word ≡ []
wants-anything = refl

takes-bytes : of_default ty.Bytes (value.String (record { value = 255 ∷ []; span = at 53 59 })) ≡ []
takes-bytes = refl

wants-text : of_default ty.String (value.String (record { value = 255 ∷ []; span = at 53 59 })) ≡ fault.InvalidUtf8String (at 53 59) ∷ []
unfolding utf8_valid_len is_utf8 chars encode_utf8
wants-text = refl

-- ---- each type

abbrev every_type : List Ty
every_type =
    ty.Double ∷ ty.Float
    ∷ ty.Int32 ∷ ty.Int64 ∷ ty.Uint32 ∷ ty.Uint64 ∷ ty.Sint32 ∷ ty.Sint64 ∷ ty.Fixed32 ∷ ty.Fixed64 ∷ ty.Sfixed32 ∷ ty.Sfixed64
    ∷ ty.Bool ∷ ty.String ∷ ty.Bytes ∷ ty.Named (w.name (word "E" 0)) ∷ []

-- the ten types of integers, bool and string
keys : map may_be_key every_type ≡
    false ∷ false
    ∷ true ∷ true ∷ true ∷ true ∷ true ∷ true ∷ true ∷ true ∷ true ∷ true
    ∷ true ∷ true ∷ false ∷ false ∷ []
keys = refl

wants : map wanted every_type ≡
    a_float ∷ a_float
    ∷ an_integer signed_32 ∷ an_integer signed_64 ∷ an_integer unsigned_32 ∷ an_integer unsigned_64 ∷ an_integer signed_32 ∷ an_integer signed_64
    ∷ an_integer unsigned_32 ∷ an_integer unsigned_64 ∷ an_integer signed_32 ∷ an_integer signed_64
    ∷ a_bool ∷ a_text ∷ some_bytes ∷ anything ∷ []
wants = refl

-- the bounds of each type of integers
low-32 : of_default ty.Sint32 (value.Int (minus 2147483649 (at 53 64))) ≡ fault.IntegerValueOutOfRange (at 53 64) (codes "a signed 32-bit integer") (codes "-2147483649") (codes "-2147483648") (codes "2147483647") ∷ []
unfolding digits
low-32 = refl

high-32 : of_default ty.Sfixed32 (value.Int (int 2147483647 (at 53 63))) ≡ []
high-32 = refl

high-64 : of_default ty.Int64 (value.Int (int 9223372036854775808 (at 53 64)))
    ≡ fault.IntegerValueOutOfRange (at 53 64) (codes "a signed 64-bit integer") (codes "9223372036854775808") (codes "-9223372036854775808") (codes "9223372036854775807") ∷ []
unfolding digits
high-64 = refl

unsigned-64 : of_default ty.Uint64 (value.Int (minus 1 (at 53 55)))
    ≡ fault.IntegerValueOutOfRange (at 53 55) (codes "an unsigned 64-bit integer") (codes "-1") (codes "0") (codes "18446744073709551615") ∷ []
unfolding digits
unsigned-64 = refl

high-unsigned : of_default ty.Fixed32 (value.Int (int 4294967295 (at 53 63))) ≡ []
high-unsigned = refl
