-- Messages `google.protobuf.Any`: a type that is named in brackets, and a message of this type, which
-- is the value. The text in brackets is that of the field `type_url`, and the bytes of the message
-- are those of the field `value`.
use Rattle.std.specs.Prelude.{ℕ, ◌==◌, ℤ, pos, Bool, not, ◌&&◌, ◌||◌, List, [], ◌∷◌, ◌++◌, find, Option, Some, None, Result, Ok, Err, bytes_eq, codes, is_some, if◌then◌else◌}
use Rattle.std.specs.Option.{option_and_then, option_eq}
use Rattle.std.specs.Ordering.{int_eq}
use Rattle.protox_aggregate.specs.Fields.{has_type}
use Rattle.protox_aggregate.specs.Names.{dotted_words, if_fits, inside, is_slash, word_of}
use Rattle.protox_aggregate.specs.declared.fault.AggregateFaultKind.{AggregateFaultKind}
use Rattle.protox_aggregate.specs.declared.fault.AggregateFaultKind.TheVariants.{NoSlash, UnknownType}
use Rattle.protox_aggregate.specs.declared.level.AnyFields.{AnyFields}
use Rattle.protox_descriptor.specs.FieldDescriptorProto.{FieldDescriptorProto}
use Rattle.protox_descriptor.specs.declared.descriptor.DescriptorProto.{out-DescriptorProto}
use Rattle.protox_descriptor.specs.declared.descriptor.FileDescriptorProto.{FileDescriptorProto}
use Rattle.protox_descriptor.specs.declared.descriptor.field_descriptor_proto.FieldType.{FieldType}
use Rattle.protox_descriptor.specs.declared.descriptor.field_descriptor_proto.FieldType.TheVariants as type
use Rattle.protox_lexeme.specs.Shapes.{Shape}
use Rattle.protox_name_tree.specs.Tree.{number_of}
use Rattle.protox_settings.specs.Fields.{is_repeated, message_numbered}
use Rattle.protox_symbols.specs.Symbols.{Table}
use Rattle.protox_views.specs.Views.{seen}
use Rattle.protox_walk.specs.Declarations.{text_of}

-- ---- which messages these are

-- The message is `google.protobuf.Any`.
abbrev pub is_any : Table → ℕ → Bool
is_any table message = option_eq ◌==◌ (number_of table.names (codes "google.protobuf.Any")) (Some message)

-- The field has this number and this type. It has one value, and is of no oneof.
abbrev pub is_single : ℤ → FieldType → FieldDescriptorProto → Bool
is_single number t field =
    option_eq int_eq field.number (Some number) && has_type t field && not (is_repeated field) && not (is_some field.oneof_index)

-- the first such field of a message, by its number in the table
abbrev pub single_field : Table → ℕ → ℤ → FieldType → List FieldDescriptorProto → Option ℕ
single_field table message number t fields =
    option_and_then (λ (field : FieldDescriptorProto). inside table message (text_of field.name)) (find (is_single number t) fields)

abbrev pub both_fields : Option ℕ → Option ℕ → Option AnyFields
both_fields (Some url) (Some value) = Some (record { url = url; value = value })
both_fields _ _ = None

-- the field for the name of a type, and the one for the value
abbrev pub fields_by_number : Table → ℕ → List FieldDescriptorProto → Option AnyFields
fields_by_number table message fields =
    both_fields (single_field table message (pos 1) type.String fields) (single_field table message (pos 2) type.Bytes fields)

-- These two fields of a message, if it is an `Any`.
abbrev pub any_fields : List FileDescriptorProto → Table → ℕ → Option AnyFields
any_fields files table message =
    if is_any table message then option_and_then (λ m. fields_by_number table message (out-DescriptorProto m).field) (message_numbered files table message)
    else None

-- the same, where a name in brackets stands in the message
abbrev pub fields_for : List FileDescriptorProto → Table → ℕ → List Shape → Option AnyFields
fields_for files table message name = if is_some (word_of name) then None else any_fields files table message

-- ---- types in brackets

-- what stands in front of the slash
abbrev pub before_slash : List Shape → List Shape
before_slash [] = []
before_slash (first ∷ more) = if is_slash first then [] else first ∷ before_slash more

-- what stands behind the slash, if there is one
abbrev pub behind_slash : List Shape → Option (List Shape)
behind_slash [] = None
behind_slash (first ∷ more) = if is_slash first then Some more else behind_slash more

-- the domains with which types are named here
abbrev pub is_known_domain : List ℕ → Bool
is_known_domain domain = bytes_eq domain (codes "type.googleapis.com") || bytes_eq domain (codes "type.googleprod.com")

-- the domain, a slash and the full name of a type
abbrev pub address : List ℕ → List ℕ → List ℕ
address domain name = domain ++ 47 ∷ name

-- the type with an address, by its number in the table, and the address
abbrev pub type_at : List ℕ → Option ℕ → Result (ℕ × List ℕ) AggregateFaultKind
type_at place None = Err UnknownType
type_at place (Some message) = Ok (message, place)

module _ (files : List FileDescriptorProto) (table : Table) (sees packages : List Bool) where
  -- the message with a full name, if it is seen
  abbrev pub message_called : List ℕ → Option ℕ
  message_called name = if_fits (λ n. is_some (message_numbered files table n)) (seen table sees packages name)

  abbrev pub known_type : List ℕ → List ℕ → Option ℕ
  known_type domain name = if is_known_domain domain then message_called name else None

  abbrev pub type_behind : List ℕ → Option (List Shape) → Result (ℕ × List ℕ) AggregateFaultKind
  type_behind domain None = Err NoSlash
  type_behind domain (Some name) = type_at (address domain (dotted_words name)) (known_type domain (dotted_words name))

  -- The type that a name in brackets stands for, and its address.
  abbrev pub type_in_text : List Shape → Result (ℕ × List ℕ) AggregateFaultKind
  type_in_text shapes = type_behind (dotted_words (before_slash shapes)) (behind_slash shapes)
