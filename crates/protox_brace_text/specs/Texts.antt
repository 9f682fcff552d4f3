-- What is wrong with a text in braces, as protoc tells it.
use Rattle.std.specs.Prelude.{ℕ, ◌-◌, Bool, false, List, [], ◌∷◌, ◌++◌, Option, Some, None, codes, drop, encode_utf8, length, slice_get, take, if◌then◌else◌}
use Rattle.std.specs.Option.{option_and_then, option_map_or}
use Rattle.protox_aggregate.specs.Names.{innermost}
use Rattle.protox_aggregate.specs.declared.fault.AggregateFault.{AggregateFault}
use Rattle.protox_aggregate.specs.declared.fault.AggregateFaultKind.{AggregateFaultKind}
use Rattle.protox_aggregate.specs.declared.fault.AggregateFaultKind.TheVariants as wrong
use Rattle.protox_brace_text.specs.Steps.{all_printed, found_at, is_minus, last_name, next_pieces, pieces_of, printed_if_any, printed_piece}
use Rattle.protox_descriptor.specs.FieldDescriptorProto.{FieldDescriptorProto}
use Rattle.protox_descriptor.specs.declared.descriptor.DescriptorProto.{DescriptorProto, out-DescriptorProto}
use Rattle.protox_descriptor.specs.declared.descriptor.OneofDescriptorProto.{OneofDescriptorProto}
use Rattle.protox_fault.specs.Faults.{Span}
use Rattle.protox_interpret.specs.Braces.{IsCut}
use Rattle.protox_interpret.specs.Sites.{table}
use Rattle.protox_interpret.specs.declared.fault.StatementFaultKind.{StatementFaultKind}
use Rattle.protox_interpret.specs.declared.fault.StatementFaultKind.TheVariants as kind
use Rattle.protox_interpret.specs.declared.site.Site.{Site}
use Rattle.protox_lexeme.specs.Lexemes.{cut}
use Rattle.protox_name_tree.specs.Tree.{name_at, number_of}
use Rattle.protox_names.specs.Names.{scopes}
use Rattle.protox_settings.specs.Fields.{field_numbered, message_numbered, part_at}
use Rattle.protox_text_format.specs.Failure.{IsFirst}
use Rattle.protox_text_format.specs.Pieces.{IsFirstWrong}
use Rattle.protox_text_format.specs.Spelling.{AMessage, Spells, Step}
use Rattle.protox_text_format.specs.declared.fault.TextFault.{TextFault}
use Rattle.protox_text_format.specs.declared.fault.TextFaultKind.{TextFaultKind}
use Rattle.protox_text_format.specs.declared.fault.TextFaultKind.TheVariants as form
use Rattle.protox_text_format.specs.declared.item.Piece.{Piece}
use Rattle.protox_text_values.specs.declared.fault.TextEnumFault.{TextEnumFault}
use Rattle.protox_text_values.specs.declared.fault.TextEnumFault.TheVariants as enum
use Rattle.protox_values.specs.Types.{held_by}
use Rattle.protox_values.specs.declared.fault.ValueFault.{ValueFault}
use Rattle.protox_values.specs.declared.fault.ValueFault.TheVariants.{OutOfRange, NotTruth}
use Rattle.protox_values.specs.declared.types.Held.{Held}
use Rattle.protox_values.specs.declared.types.Held.TheVariants as held
use Rattle.protox_walk.specs.Declarations.{text_of}

-- ---- values

abbrev pub first_text : List Piece → List ℕ
first_text value = printed_if_any (slice_get value 0)

abbrev pub is_negative : List Piece → Bool
is_negative value = option_map_or is_minus (slice_get value 0) false

-- the value without a minus sign in front
abbrev pub size_text : List Piece → List ℕ
size_text value = if is_negative value then printed_if_any (slice_get value 1) else first_text value

abbrev pub expected : List ℕ → List ℕ → List ℕ
expected what got = codes "Expected " ++ what ++ codes ", got: " ++ got

abbrev pub out_of_range : List ℕ → List ℕ
out_of_range got = codes "Integer out of range (" ++ got ++ codes ")"

abbrev pub not_truth : List ℕ → List ℕ → List ℕ
not_truth field got = codes "Invalid value for boolean field \"" ++ field ++ codes "\". Value: \"" ++ got ++ codes "\"."

abbrev pub no_such_value : List ℕ → List ℕ → List ℕ
no_such_value got field = codes "Unknown enumeration value of \"" ++ got ++ codes "\" for field \"" ++ field ++ codes "\"."

abbrev pub signed_text : ValueFault → List Piece → List ℕ
signed_text OutOfRange value = out_of_range (size_text value)
signed_text _ value = expected (codes "integer") (size_text value)

abbrev pub unsigned_text : ValueFault → List Piece → List ℕ
unsigned_text OutOfRange value = out_of_range (first_text value)
unsigned_text _ value = expected (codes "integer") (first_text value)

abbrev pub truth_text : ValueFault → List ℕ → List Piece → List ℕ
truth_text NotTruth field value = not_truth field (first_text value)
truth_text OutOfRange field value = out_of_range (first_text value)
truth_text _ field value = expected (codes "identifier") (first_text value)

-- of the value of a field with this name, that holds this
abbrev pub value_text : Held → ValueFault → List ℕ → List Piece → List ℕ
value_text held.Int32 fault field value = signed_text fault value
value_text held.Int64 fault field value = signed_text fault value
value_text held.Uint32 fault field value = unsigned_text fault value
value_text held.Uint64 fault field value = unsigned_text fault value
value_text held.Float fault field value = expected (codes "double") (size_text value)
value_text held.Double fault field value = expected (codes "double") (size_text value)
value_text held.Bool fault field value = truth_text fault field value
value_text held.String fault field value = expected (codes "string") (first_text value)

abbrev pub no_enum_text : List Piece → List ℕ
no_enum_text value =
    if is_negative value then expected (codes "integer") (size_text value)
    else expected (codes "integer or identifier") (first_text value)

-- of the value of a field with this name, whose type is an enum
abbrev pub enum_text : TextEnumFault → List ℕ → List Piece → List ℕ
enum_text enum.NotValue field value = no_enum_text value
enum_text enum.OutOfRange field value = out_of_range (size_text value)
enum_text enum.NoSuchValue field value = no_such_value (all_printed value) field

-- ---- names

-- what stands in the brackets of a name
abbrev pub in_brackets : List Piece → List Piece
in_brackets name = take (length (drop 1 name) - 1) (drop 1 name)

-- the name as it is written: a word, or what stands in the brackets
abbrev pub written_name : List Piece → List ℕ
written_name (word ∷ []) = printed_piece word
written_name name = all_printed (in_brackets name)

abbrev pub name_of_field : Option FieldDescriptorProto → List ℕ
name_of_field None = []
name_of_field (Some field) = text_of field.name

abbrev pub name_of_oneof : Option OneofDescriptorProto → List ℕ
name_of_oneof None = []
name_of_oneof (Some oneof) = text_of oneof.name

abbrev pub oneof_in : Option DescriptorProto → Option FieldDescriptorProto → Option OneofDescriptorProto
oneof_in message field = option_and_then (λ m. option_and_then (λ f. option_and_then (part_at (out-DescriptorProto m).oneof_decl) f.oneof_index) field) message

-- ---- what is told

abbrev pub no_field : List ℕ → List ℕ → List ℕ
no_field message name = codes "Message type \"" ++ message ++ codes "\" has no field named \"" ++ name ++ codes "\"."

abbrev pub no_extension : List ℕ → List ℕ → List ℕ
no_extension message name = codes "Extension \"" ++ name ++ codes "\" is not defined or is not an extension of \"" ++ message ++ codes "\"."

abbrev pub again_text : List ℕ → List ℕ
again_text name = codes "Non-repeated field \"" ++ name ++ codes "\" is specified multiple times."

abbrev pub along : List ℕ → List ℕ → List ℕ → List ℕ
along name other oneof = codes "Field \"" ++ name ++ codes "\" is specified along with field \"" ++ other ++ codes "\", another member of oneof \"" ++ oneof ++ codes "\"."

-- of a type with this address
abbrev pub unknown_type : List ℕ → List ℕ
unknown_type place = codes "Could not find type \"" ++ place ++ codes "\" stored in google.protobuf.Any."

-- of the value of an `Any` that has this type
abbrev pub missing_in_any : List ℕ → List ℕ
missing_in_any message = codes "Value of type \"" ++ message ++ codes "\" stored in google.protobuf.Any has missing required fields"

-- where this was wanted, and that is found
abbrev pub found_text : List ℕ → List ℕ → List ℕ
found_text wanted found = codes "Expected \"" ++ wanted ++ codes "\", found \"" ++ found ++ codes "\"."

abbrev pub is_not_text : List ℕ → List ℕ → List ℕ → List ℕ
is_not_text field what found = codes "Field \"" ++ field ++ codes "\" is " ++ what ++ codes ", found \"" ++ found ++ codes "\"."

-- of pieces that spell no message, where this is found
abbrev pub form_text : TextFaultKind → List ℕ → List ℕ
form_text form.NoWord found = expected (codes "identifier") found
form_text (form.NoMark mark) found = found_text (encode_utf8 mark) found
form_text form.NoValue found = expected (codes "a value") found
form_text form.TooDeep found = codes "Messages stand in one another more than 100 deep."

module _ (here : Site) where
  abbrev pub full_name : ℕ → List ℕ
  full_name n = name_at (table here).names n

  abbrev pub field_name : ℕ → List ℕ
  field_name n = name_of_field (field_numbered here.files.now (table here) n)

  -- the message in which what has the number stands
  abbrev pub holder_of : ℕ → Option DescriptorProto
  holder_of n = option_and_then (message_numbered here.files.now (table here)) (number_of (table here).names (innermost (scopes (full_name n))))

  -- the name of the oneof that the field with this number is of
  abbrev pub oneof_name : ℕ → List ℕ
  oneof_name n = name_of_oneof (oneof_in (holder_of n) (field_numbered here.files.now (table here) n))

  -- ---- faults

  -- of a field with this name, which has the first number
  abbrev pub along_text : List ℕ → ℕ → ℕ → List ℕ
  along_text name n other = along name (field_name other) (oneof_name n)

  -- The pieces of the step, what is found where it begins, and the name of the field before it.
  abbrev pub step_text : AggregateFaultKind → List Piece → List ℕ → List ℕ → List ℕ
  step_text (wrong.NoField m) step found field = no_field (full_name m) (all_printed step)
  step_text (wrong.NoExtension m) step found field = no_extension (full_name m) (all_printed (in_brackets step))
  step_text wrong.NoType step found field = found_text (codes "]") (codes "/")
  step_text wrong.NoColon step found field = found_text (codes ":") found
  step_text wrong.NotRepeated step found field = is_not_text field (codes "not repeated") found
  step_text wrong.NotMessage step found field = found_text (codes "{") found
  step_text wrong.NotScalar step found field = is_not_text field (codes "no message") found
  step_text (wrong.WrongValue scalar fault) step found field = value_text (held_by scalar) fault field step
  step_text (wrong.WrongEnum fault) step found field = enum_text fault field step
  step_text (wrong.Again n) step found field = again_text (written_name step)
  step_text (wrong.Along n other) step found field = along_text (written_name step) n other
  step_text (wrong.Missing n) step found field = codes "Message missing required fields: " ++ field_name n
  step_text wrong.Untyped step found field = codes "Field \"" ++ field ++ codes "\" has no type."
  step_text wrong.Misplaced step found field = codes "Unexpected \"" ++ found ++ codes "\"."
  step_text wrong.NoSlash step found field = found_text (codes "/") (codes "]")
  step_text wrong.UnknownType step found field = unknown_type (all_printed (in_brackets step))
  step_text wrong.AnyAgain step found field = codes "Non-repeated Any specified multiple times."
  step_text (wrong.MissingInAny m) step found field = missing_in_any (full_name m)

  -- of pieces that spell these steps
  abbrev pub fault_text : List Piece → List Step → AggregateFault → List ℕ
  fault_text pieces steps fault =
      step_text fault.kind (pieces_of steps fault.step)
      (found_at (next_pieces pieces (take fault.step steps)) 0) (last_name (take fault.step steps))

  abbrev pub kind_text : List Piece → List Step → StatementFaultKind → List ℕ
  kind_text pieces steps (kind.Aggregate fault) = fault_text pieces steps fault
  kind_text pieces steps _ = []

  -- This is told of a text in braces, where this kind of fault was found: that it has no tokens; or
  -- that they spell no message; or what is wrong with the message.
  pub data IsTold (text : List ℕ) (fault : StatementFaultKind) : List ℕ → Type 0 where
    OfToken : (span : Span) → IsFirstWrong (cut 0 text) span → IsTold text fault (codes "Invalid token.")
    OfForm : (pieces : List Piece) (found : TextFault) → IsCut text pieces → IsFirst pieces found
        → IsTold text fault (form_text found.kind (found_at pieces found.piece))
    OfMessage : (pieces : List Piece) (steps : List Step) → IsCut text pieces → Spells AMessage 100 pieces steps
        → IsTold text fault (kind_text pieces steps fault)
