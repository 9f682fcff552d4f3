-- The parts of a declaration in the syntax tree, and their spans: names, numbers, strings, options,
-- types and ranges. The declarations are in `Ast`.
use Rattle.std.specs.Prelude.{ℕ, if◌then◌else◌, List, [], ◌∷◌, ◌++◌, map, Option, Some, None, option_map, is_some, codes, encode_utf8_all}
use Rattle.std.specs.Option.{unwrap_or}
use Rattle.std.specs.Str.{bytes_eq}
use Rattle.bstr.specs.Utf8.{lossy_chars}
use Rattle.protox_fault.specs.Faults.{Span}
use Rattle.protox_lexeme.specs.Shapes.{Row, Rows}
use Rattle.protox_lexeme.specs.Printed.{printed}
use Rattle.protox_ast.specs.declared.ast.Ident.{Ident}
use Rattle.protox_ast.specs.declared.ast.TypeName.{TypeName}
use Rattle.protox_ast.specs.declared.ast.Int.{Int}
use Rattle.protox_ast.specs.declared.ast.Syntax.{Syntax}
use Rattle.protox_ast.specs.declared.ast.Syntax.TheVariants.{Proto2, Proto3}
use Rattle.protox_ast.specs.declared.ast.OptionNamePart.{OptionNamePart}
use Rattle.protox_ast.specs.declared.ast.OptionNamePart.TheVariants as name_part
use Rattle.protox_ast.specs.declared.ast.OptionValue.{OptionValue}
use Rattle.protox_ast.specs.declared.ast.OptionValue.TheVariants as option_value
use Rattle.protox_ast.specs.declared.ast.OptionBody.{OptionBody}
use Rattle.protox_ast.specs.declared.ast.OptionList as list_type
use Rattle.protox_ast.specs.declared.ast.ImportKind as import_kinds
use Rattle.protox_ast.specs.declared.ast.ImportKind.TheVariants.{Weak, Public}
use Rattle.protox_ast.specs.declared.ast.Ty.{Ty}
use Rattle.protox_ast.specs.declared.ast.Ty.TheVariants as ty
use Rattle.protox_ast.specs.declared.ast.FieldLabel.{FieldLabel}
use Rattle.protox_ast.specs.declared.ast.FieldLabel.TheVariants as field_label
use Rattle.protox_ast.specs.declared.ast.ReservedRange.{ReservedRange}
use Rattle.protox_ast.specs.declared.ast.ReservedRangeEnd.{ReservedRangeEnd}
use Rattle.protox_ast.specs.declared.ast.ReservedRangeEnd.TheVariants as range_ends
use Rattle.protox_ast.specs.declared.ast.ReservedKind.{ReservedKind}
use Rattle.protox_ast.specs.declared.ast.ReservedKind.TheVariants as reserved_kinds
use Rattle.protox_ast.specs.Names.{type_name_span}
pub use Rattle.protox_ast.specs.Basics.{first_of, join, join_if_any, last_place}
use Rattle.protox_ast.specs.Tree as t
use Rattle.protox_ast.specs.Places.{Place}

-- ---- texts

-- The text of bytes. UTF-8 stays as it is. Each maximal ill-formed piece (Unicode, Table 3-7)
-- becomes one U+FFFD.
abbrev pub text_of : List ℕ → List ℕ
text_of bytes = encode_utf8_all (lossy_chars bytes)

-- ---- names and numbers

-- An identifier, with its span.
abbrev pub ident : t.Word Place → Ident
ident x = record { value = x.0; span = x.1.span }

-- The parts of a name.
abbrev pub fullident : t.FullIdent Place → List Ident
fullident x = ident x.first ∷ map (λ y. ident y.1) x.others

-- The span of a token, if there is one.
abbrev pub span_if_any : Option Place → Option Span
span_if_any place = option_map (λ (p : Place). p.span) place

-- The name of a type.
abbrev pub typename : t.TypeName Place → TypeName
typename x = record { leading_dot = span_if_any x.leading_dot; name = fullident x.name }

-- The span of a type's name.
abbrev pub typename_span : t.TypeName Place → Span
typename_span x = type_name_span (typename x)

-- An integer with its sign.
abbrev pub int : t.Int Place → Int
int x = record { negative = is_some x.sign; value = x.number.0; span = join_if_any (span_if_any x.sign) x.number.1.span }

-- ---- strings, syntax, imports

-- The values of strings, one after another.
abbrev pub values : {M : Type 0} → List (t.Text M) → List ℕ
values [] = []
values (x ∷ xs) = x.0 ++ values xs

-- The value of a run of strings.
abbrev pub strings_value : {M : Type 0} → t.Strings M → List ℕ
strings_value x = x.first.0 ++ values x.others

-- The span of a run of strings, from the first to the last. `span` gives the span of a token by its
-- tag.
abbrev pub run_span : {M : Type 0} → (M → Span) → t.Strings M → Span
run_span {M} span x = join (span x.first.1) (last_place (λ (y : t.Text M). span y.1) (span x.first.1) x.others)

-- The span of a run of strings whose tags are places.
abbrev pub strings_span : t.Strings Place → Span
strings_span = run_span (λ place. place.span)

-- The syntax that a string names. It is proto2 unless the string is `proto3`.
abbrev pub syntax_of : List ℕ → Syntax
syntax_of value = if bytes_eq value (codes "proto3") then Proto3 else Proto2

-- The syntax of a file. Without a syntax statement it is proto2.
abbrev pub file_syntax : Option (t.Syntax Place) → Syntax
file_syntax None = Proto2
file_syntax (Some x) = syntax_of (strings_value x.value)

-- The kind of an import, with the span of its word.
abbrev pub import_kind : t.ImportKind Place → import_kinds.ImportKind × Span
import_kind (t.weak place) = (Weak, place.span)
import_kind (t.«public» place) = (Public, place.span)

-- ---- options

-- The text of a literal, with its sign.
abbrev pub signed_text : Option Place → List ℕ → List ℕ
signed_text None text = text
signed_text (Some minus) text = 45 ∷ text

-- Tokens as they print, with a space before each.
abbrev pub spaced : Rows Place → List ℕ
spaced [] = []
spaced (r ∷ rs) = 32 ∷ (printed r.shape ++ spaced rs)

-- Tokens as they print, with a space between each two.
abbrev pub aggregate_text : Rows Place → List ℕ
aggregate_text [] = []
aggregate_text (r ∷ rs) = printed r.shape ++ spaced rs

-- The value of an option.
abbrev pub value : t.Value Place → OptionValue
value (t.constant sign (t.ident x)) = option_value.Ident (is_some sign) (ident x) (join_if_any (span_if_any sign) x.1.span)
value (t.constant sign (t.integer x)) = option_value.Int (record { negative = is_some sign; value = x.0; span = join_if_any (span_if_any sign) x.1.span })
value (t.constant sign (t.float x)) = option_value.Float (record { value = signed_text sign x.0; span = join_if_any (span_if_any sign) x.1.span })
value (t.strings x) = option_value.String (record { value = strings_value x; span = strings_span x })
value (t.aggregate open_at inside close_at) = option_value.Aggregate (aggregate_text inside) (join open_at.span close_at.span)

-- A part of an option's name.
abbrev pub part : t.Part Place → OptionNamePart
part (t.plain_part x) = name_part.Ident (ident x)
part (t.extension_part open_at x close_at) = name_part.Extension (typename x) (join open_at.span close_at.span)

-- The name and the value of an option.
abbrev pub body : t.Body Place → OptionBody
body x = record { name = part x.first ∷ map (λ y. part y.1) x.others; value = value x.value }

-- The options of a list, with its span.
abbrev pub list : t.OptionList Place → list_type.OptionList
list x = record { options = body x.first ∷ map (λ y. body y.1) x.others; span = join x.open_at.span x.close_at.span }

-- ---- types, labels and ranges

-- A scalar type.
abbrev pub scalar : t.Scalar → Ty
scalar t.double = ty.Double
scalar t.float_type = ty.Float
scalar t.int32 = ty.Int32
scalar t.int64 = ty.Int64
scalar t.uint32 = ty.Uint32
scalar t.uint64 = ty.Uint64
scalar t.sint32 = ty.Sint32
scalar t.sint64 = ty.Sint64
scalar t.fixed32 = ty.Fixed32
scalar t.fixed64 = ty.Fixed64
scalar t.sfixed32 = ty.Sfixed32
scalar t.sfixed64 = ty.Sfixed64
scalar t.bool = ty.Bool
scalar t.string = ty.String
scalar t.bytes = ty.Bytes

-- The type of a field.
abbrev pub type : t.FieldType Place → Ty
type (t.scalar x place) = scalar x
type (t.named x) = ty.Named (typename x)

-- The span of a type.
abbrev pub type_span : t.FieldType Place → Span
type_span (t.scalar x place) = place.span
type_span (t.named x) = typename_span x

-- The place of the first token of a type.
abbrev pub type_first : t.FieldType Place → Place
type_first (t.scalar x place) = place
type_first (t.named x) = unwrap_or x.leading_dot x.name.first.1

-- A label, with its span.
abbrev pub label : t.Label Place → FieldLabel × Span
label (t.optional place) = (field_label.Optional, place.span)
label (t.required place) = (field_label.Required, place.span)
label (t.repeated place) = (field_label.Repeated, place.span)

-- The place of a label.
abbrev pub label_place : t.Label Place → Place
label_place (t.optional place) = place
label_place (t.required place) = place
label_place (t.repeated place) = place

-- The place of the first token of a field: its label if there is one, else the given place.
abbrev pub field_first : Option (t.Label Place) → Place → Place
field_first None place = place
field_first (Some l) place = label_place l

-- The place of the `{` of a body.
abbrev pub body_open : t.Mbody Place → Place
body_open (t.mbody_of open_at es close_at) = open_at

-- The place of the `}` of a body.
abbrev pub body_close : t.Mbody Place → Place
body_close (t.mbody_of open_at es close_at) = close_at

-- ---- ranges and reserved names

-- The end of a range.
abbrev pub range_end : Option (t.RangeEnd Place) → ReservedRangeEnd
range_end None = range_ends.None
range_end (Some (t.up_to to_at x)) = range_ends.Int (int x)
range_end (Some (t.up_to_max to_at max_at)) = range_ends.Max max_at.span

-- A range.
abbrev pub range : t.Range Place → ReservedRange
range x = record { start = int x.start; end = range_end x.stop }

-- The ranges of a list.
abbrev pub ranges : t.Ranges Place → List ReservedRange
ranges x = range x.first ∷ map (λ y. range y.1) x.others

-- A reserved name. Bytes that are not UTF-8 become U+FFFD.
abbrev pub reserved_name : t.Strings Place → Ident
reserved_name x = record { value = text_of (strings_value x); span = strings_span x }

-- What a reserved statement holds: ranges or names.
abbrev pub reserved_kind : t.ReservedKind Place → ReservedKind
reserved_kind (t.ranges x) = reserved_kinds.Ranges (ranges x)
reserved_kind (t.names x) = reserved_kinds.Names (reserved_name x.first ∷ map (λ y. reserved_name y.1) x.others)

-- The span from the first token to the last. Without a token it goes from the end of the source to
-- its start.
abbrev pub rows_span : ℕ → Rows Place → Span
rows_span size [] = record { start = size; end = 0 }
rows_span size (r ∷ rs) = join r.at.span (last_place (λ (x : Row Place). x.at.span) r.at.span rs)
