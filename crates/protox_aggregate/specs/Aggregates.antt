-- What a message in text format says, step by step.
use Rattle.std.specs.Prelude.{ℕ, ◌+◌, ◌-◌, ◌==◌, Bool, false, not, ◌&&◌, ◌||◌, List, [], ◌∷◌, ◌++◌, length, Option, Some, None, Result, Ok, Err, is_some, take, if◌then◌else◌}
use Rattle.std.specs.Option.{option_or}
use Rattle.protox_aggregate.specs.Anys.{fields_for, type_in_text}
use Rattle.protox_aggregate.specs.Complete.{missing_at_end, said_at_end}
use Rattle.protox_aggregate.specs.Fields.{is_group, is_implicit, is_in_proto3, is_packed, is_zero, wire_number}
use Rattle.protox_aggregate.specs.Levels.{Level, has_told, telling, told_alone, typed_in, unread, wrong_with_naming}
use Rattle.protox_aggregate.specs.Names.{field_in_text}
use Rattle.protox_aggregate.specs.Values.{value_said}
use Rattle.protox_aggregate.specs.declared.fault.AggregateFault.{AggregateFault}
use Rattle.protox_aggregate.specs.declared.fault.AggregateFaultKind.{AggregateFaultKind}
use Rattle.protox_aggregate.specs.declared.fault.AggregateFaultKind.TheVariants as kind
use Rattle.protox_aggregate.specs.declared.level.AnyFields.{AnyFields}
use Rattle.protox_aggregate.specs.declared.level.Named.{Named}
use Rattle.protox_aggregate.specs.declared.level.Typed.{Typed}
use Rattle.protox_descriptor.specs.FieldDescriptorProto.{FieldDescriptorProto}
use Rattle.protox_descriptor.specs.declared.descriptor.FileDescriptorProto.{FileDescriptorProto}
use Rattle.protox_lexeme.specs.Shapes.{Shape}
use Rattle.protox_message_bytes.specs.declared.entry.Entry.{Entry}
use Rattle.protox_message_bytes.specs.declared.entry.Entry.TheVariants as entry
use Rattle.protox_settings.specs.Fields.{field_numbered, is_repeated, message_of_type}
use Rattle.protox_settings.specs.Names.{goes_on}
use Rattle.protox_symbols.specs.Symbols.{Table}
use Rattle.protox_text_format.specs.Spelling.{Step, Name, Scalar, Open, Close, OpenList, CloseList}
use Rattle.protox_text_format.specs.declared.item.Piece.{Piece}
use Rattle.protox_text_values.specs.Scalars.{shapes_of}
use Rattle.protox_values.specs.declared.setting.SettingValue.{SettingValue}
use Rattle.protox_values.specs.declared.setting.SettingValue.TheVariants as on_wire

-- What was read: the innermost message; the messages around it, the innermost first; and what was
-- said.
pub record Reading : Type 0 where
  pub level : Level
  pub outer : List Level
  pub entries : List Entry

-- ---- what becomes of what was read

-- a field is named in the innermost message
abbrev pub naming : Reading → Bool → ℕ → Reading
naming reading colon n = record reading { level = record reading.level { field = Some (record { number = n; colon = colon; typed = None }) } }

-- In an `Any` with these fields a type is named, by its address. The address is the value of the one
-- field, and the other one is to have a message of this type.
abbrev pub naming_type : Reading → Bool → AnyFields → ℕ → List ℕ → Reading
naming_type reading colon fields message place = record reading {
  level = record reading.level {
    field = Some (record {
      number = fields.value;
      colon = colon;
      typed = Some (record { message = message; fields = fields; start = 0 });
    });
  };
  entries = reading.entries ++ entry.Value 1 false (on_wire.Bytes place) ∷ [];
}

-- the field that was named has a value
abbrev pub told : Level → Named → FieldDescriptorProto → Level
told level named field = record level { told = telling level.told named.number field }

-- It has this value, which isn't a message.
abbrev pub saying : Reading → Named → FieldDescriptorProto → Entry → Reading
saying reading named field said = record reading { level = told reading.level named field; entries = reading.entries ++ said ∷ [] }

-- Its value is a message of this type, which begins.
abbrev pub into : Reading → Named → FieldDescriptorProto → ℕ → Reading
into reading named field message = record {
  level = unread message;
  outer = told reading.level named field ∷ reading.outer;
  entries = reading.entries ++ entry.Open (wire_number field) (is_group field) ∷ [];
}

-- the message, where so many entries stand in front of its value
abbrev pub started : Level → Named → Typed → ℕ → Level
started level named typed n = record level { field = Some (record named { typed = Some (record typed { start = n }) }) }

-- The message of a type that was named in an `Any` begins.
abbrev pub into_typed : Reading → Named → Typed → Reading
into_typed reading named typed = record {
  level = unread typed.message;
  outer = started reading.level named typed (length reading.entries) ∷ reading.outer;
  entries = reading.entries ++ entry.Open 2 false ∷ [];
}

-- Nothing was said since a message began.
abbrev pub is_bare : Typed → List Entry → Bool
is_bare typed entries = length entries - typed.start == 1

-- The value of an `Any` ends, and isn't said.
abbrev pub cut_back : Level → Typed → List Level → List Entry → Reading
cut_back level typed outer entries = record {
  level = record level { told = level.told ++ told_alone typed.fields.url ∷ [] };
  outer = outer;
  entries = take typed.start entries;
}

-- The value of an `Any` ends, and is said.
abbrev pub kept : Level → Typed → List Level → List Entry → Reading
kept level typed outer entries = record {
  level = record level { told = (level.told ++ told_alone typed.fields.url ∷ []) ++ told_alone typed.fields.value ∷ [] };
  outer = outer;
  entries = entries ++ entry.Close ∷ [];
}

-- The value of an `Any` ends. In proto3 it isn't said if it has no bytes.
abbrev pub any_ends : Bool → Level → Typed → List Level → List Entry → Reading
any_ends in_proto3 level typed outer entries =
    if in_proto3 && is_bare typed entries then cut_back level typed outer entries else kept level typed outer entries

-- One of the two fields of an `Any` has a value.
abbrev pub is_any_told : Level → Typed → Bool
is_any_told level typed = has_told level.told typed.fields.url || has_told level.told typed.fields.value

-- A message in this one has ended. If that needs a field that has no value, this one lacks it, unless
-- it lacks another one before.
abbrev pub lacking : Level → Option ℕ → Level
lacking level missing = record level { missing = option_or level.missing missing }

-- This is said besides.
abbrev pub saying_more : Reading → List Entry → Reading
saying_more reading more = record reading { entries = reading.entries ++ more }

abbrev pub unless_wrong : Reading → Option AggregateFaultKind → Result Reading AggregateFaultKind
unless_wrong reading None = Ok reading
unless_wrong reading (Some wrong) = Err wrong

-- ---- values

abbrev pub value_entry : Bool → FieldDescriptorProto → SettingValue → Entry
value_entry in_proto3 field value = entry.Value (wire_number field) (is_packed in_proto3 field) value

-- A field has a value that is no message. What sets nothing isn't said.
abbrev pub said_of : Reading → Named → Bool → FieldDescriptorProto → SettingValue → Reading
said_of reading named in_proto3 field value =
    if is_implicit in_proto3 field && is_zero value then reading
    else saying reading named field (value_entry in_proto3 field value)

-- the message that begins as the value of a field, if its type is one
abbrev pub opened_as : Reading → Named → FieldDescriptorProto → Option ℕ → Result Reading AggregateFaultKind
opened_as reading named field (Some message) = Ok (into reading named field message)
opened_as reading named field None = if named.colon then Err kind.NotScalar else Err kind.NoColon

-- the message that begins as the value of a field, or as that of an `Any`
abbrev pub opened_typed : Reading → Named → FieldDescriptorProto → Option ℕ → Option Typed → Result Reading AggregateFaultKind
opened_typed reading named field message (Some typed) = Ok (into_typed reading named typed)
opened_typed reading named field message None = opened_as reading named field message

module _ (table : Table) where
  -- What is wrong with a list of values of a field, if anything. The field is to be repeated, and a
  -- colon stands before values that are no messages.
  abbrev pub wrong_with_list : Named → FieldDescriptorProto → Option AggregateFaultKind
  wrong_with_list named field =
      if is_some named.typed then Some kind.NotMessage
      else if not (is_some (message_of_type table field)) && not named.colon then Some kind.NoColon
      else if is_repeated field then None
      else Some kind.NotRepeated

abbrev pub unless_missing : List Entry → Option ℕ → Result (List Entry) AggregateFaultKind
unless_missing entries None = Ok entries
unless_missing entries (Some n) = Err (kind.Missing n)

abbrev pub with_field : Named → Option FieldDescriptorProto → Result (Named × FieldDescriptorProto) AggregateFaultKind
with_field named None = Err kind.Misplaced
with_field named (Some field) = Ok (named, field)

module _ (files : List FileDescriptorProto) (table : Table) where
  -- ---- the field that was named last

  abbrev pub named_field_in : Option Named → Result (Named × FieldDescriptorProto) AggregateFaultKind
  named_field_in None = Err kind.Misplaced
  named_field_in (Some named) = with_field named (field_numbered files table named.number)

  abbrev pub named_field : Level → Result (Named × FieldDescriptorProto) AggregateFaultKind
  named_field level = named_field_in level.field

  -- ---- steps

  abbrev pub wrong_with_field : Level → ℕ → Option FieldDescriptorProto → Option AggregateFaultKind
  wrong_with_field level n None = Some kind.Misplaced
  wrong_with_field level n (Some field) = wrong_with_naming level.told n field

  abbrev pub names : Reading → Bool → ℕ → Result Reading AggregateFaultKind
  names reading colon n = unless_wrong (naming reading colon n) (wrong_with_field reading.level n (field_numbered files table n))

  -- What a value says that is no message. The enums of a message of proto3 are open.
  abbrev pub value_of : ℕ → List Piece → Named → FieldDescriptorProto → Result SettingValue AggregateFaultKind
  value_of message pieces named field =
      if is_some named.typed || is_some (message_of_type table field) then Err kind.NotMessage
      else if not named.colon then Err kind.NoColon
      else value_said files table field (is_in_proto3 files table message) (shapes_of pieces)

  abbrev pub says_value : Reading → List Piece → Result Reading AggregateFaultKind
  says_value reading pieces = goes_on (named_field reading.level) (λ f. goes_on (value_of reading.level.message pieces f.0 f.1) (λ value. Ok (said_of reading f.0 (is_in_proto3 files table f.0.number) f.1 value)))

  abbrev pub opens : Reading → Result Reading AggregateFaultKind
  opens reading = goes_on (named_field reading.level) (λ f. opened_typed reading f.0 f.1 (message_of_type table f.1) f.0.typed)

  abbrev pub lists : Reading → Result Reading AggregateFaultKind
  lists reading = goes_on (named_field reading.level) (λ f. unless_wrong reading (wrong_with_list table f.0 f.1))

  -- The innermost message ends, where a field has no value that it needs, or where all have one. The
  -- message around it goes on. That is an `Any` if a type was named in it.
  abbrev pub goes_out : Option ℕ → Reading → Level → List Level → Option Typed → Result Reading AggregateFaultKind
  goes_out missing reading level outer None = Ok (record { level = lacking level missing; outer = outer; entries = reading.entries ++ entry.Close ∷ [] })
  goes_out missing reading level outer (Some typed) =
      if is_some missing then Err (kind.MissingInAny typed.message)
      else if is_any_told level typed then Err kind.AnyAgain
      else Ok (any_ends (is_in_proto3 files table level.message) level typed outer reading.entries)

  abbrev pub out_of : Option ℕ → Reading → List Level → Result Reading AggregateFaultKind
  out_of missing reading [] = Err kind.Misplaced
  out_of missing reading (level ∷ outer) = goes_out missing reading level outer (typed_in level)

  abbrev pub closes : Reading → Result Reading AggregateFaultKind
  closes reading =
      out_of (missing_at_end files table reading.level) (saying_more reading (said_at_end files table reading.level)) reading.outer

  -- what is said of all, where the outermost message ends; or which field has no value that is needed
  abbrev pub ends : Reading → Result (List Entry) AggregateFaultKind
  ends reading = unless_missing (reading.entries ++ said_at_end files table reading.level) (missing_at_end files table reading.level)

-- what is wrong, and at which step
abbrev pub at_step : {A : Type 0} → ℕ → Result A AggregateFaultKind → Result A AggregateFault
at_step index (Ok x) = Ok x
at_step index (Err wrong) = Err (record { step = index; kind = wrong })

module _ (files : List FileDescriptorProto) (table : Table) (sees packages : List Bool) where
  -- What a name makes of what was read, where it stands in an `Any` with these fields, or elsewhere.
  abbrev pub named_in : Reading → List Shape → Bool → Option AnyFields → Result Reading AggregateFaultKind
  named_in reading name colon (Some fields) =
      goes_on (type_in_text files table sees packages name) (λ t. Ok (naming_type reading colon fields t.0 t.1))
  named_in reading name colon None =
      goes_on (field_in_text files table sees packages reading.level.message name) (λ n. names files table reading colon n)

  abbrev pub step : Reading → Step → Result Reading AggregateFaultKind
  step reading (Name name colon) = named_in reading (shapes_of name) colon (fields_for files table reading.level.message (shapes_of name))
  step reading (Scalar pieces) = says_value files table reading pieces
  step reading Open = opens files table reading
  step reading Close = closes files table reading
  step reading OpenList = lists files table reading
  step reading CloseList = Ok reading

  -- what comes of steps, of which the first has the index
  abbrev pub steps_from : ℕ → Reading → List Step → Result Reading AggregateFault
  steps_from index reading [] = Ok reading
  steps_from index reading (one ∷ more) = goes_on (at_step index (step reading one)) (λ next. steps_from (index + 1) next more)

  -- where nothing was read of a message of this type
  abbrev pub nothing_read : ℕ → Reading
  nothing_read message = record { level = unread message; outer = []; entries = [] }

  -- What a message of this type says, as steps through the fields that are set.
  abbrev pub entries_of : ℕ → List Step → Result (List Entry) AggregateFault
  entries_of message steps = goes_on (steps_from 0 (nothing_read message) steps) (λ reading. at_step (length steps) (ends files table reading))
