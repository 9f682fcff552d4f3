-- Which fields the name of an option goes through.
use Rattle.std.specs.Prelude.{ℕ, ◌+◌, Bool, true, false, not, ◌||◌, List, [], ◌∷◌, Option, Some, None, Result, Ok, Err, bytes_eq, codes, is_some, if◌then◌else◌}
use Rattle.protox_descriptor.specs.FieldDescriptorProto.{FieldDescriptorProto}
use Rattle.protox_descriptor.specs.declared.descriptor.FileDescriptorProto.{FileDescriptorProto}
use Rattle.protox_descriptor.specs.declared.descriptor.uninterpreted_option.NamePart.{NamePart}
use Rattle.protox_name_tree.specs.Tree.{kind_at, name_at, number_of}
use Rattle.protox_names.specs.Names.{within}
use Rattle.protox_scopes.specs.Scopes.{resolve}
use Rattle.protox_scopes.specs.declared.kind.Wanted.TheVariants.{Anything}
use Rattle.protox_settings.specs.Fields.{field_numbered, is_of, is_repeated, message_of_type}
use Rattle.protox_settings.specs.declared.fault.NameFault.{NameFault}
use Rattle.protox_settings.specs.declared.fault.NameFaultKind.{NameFaultKind}
use Rattle.protox_settings.specs.declared.fault.NameFaultKind.TheVariants.{NoName, Reserved, Unknown, OfOtherMessage, NotAMessage, Repeated}
use Rattle.protox_symbols.specs.Symbols.{Table}
use Rattle.protox_views.specs.Views.{seen}

-- what comes of a value; a fault stays
abbrev pub goes_on : {T U E : Type 0} → Result T E → (T → Result U E) → Result U E
goes_on (Err fault) next = Err fault
goes_on (Ok x) next = next x

abbrev pub is_last : {A : Type 0} → List A → Bool
is_last [] = true
is_last (x ∷ more) = false

-- The name of an extension stands in parentheses.
abbrev pub may_stand : Bool → FieldDescriptorProto → Bool
may_stand in_parentheses field = in_parentheses || not (is_some field.extendee)

-- the field that has a number, if it is one of the message
abbrev pub field_from : Table → ℕ → Bool → ℕ → Option FieldDescriptorProto → Result ℕ NameFaultKind
field_from table message in_parentheses n None = Err Unknown
field_from table message in_parentheses n (Some field) =
    if may_stand in_parentheses field then (if is_of table message n field then Ok n else Err (OfOtherMessage message))
    else Err Unknown

-- The message that is the type of a field. A part behind the field's name needs one, and not many.
abbrev pub inner_message : Option ℕ → Bool → Result ℕ NameFaultKind
inner_message None repeated = Err NotAMessage
inner_message (Some message) repeated = if repeated then Err Repeated else Ok message

abbrev pub inner_of : Table → Option FieldDescriptorProto → Result ℕ NameFaultKind
inner_of table None = Err NotAMessage
inner_of table (Some field) = inner_message (message_of_type table field) (is_repeated field)

-- A field in front of those behind it. The index tells at which part the name has a fault.
abbrev pub followed : ℕ → Result (ℕ × ℕ) NameFaultKind → (ℕ → Result (List ℕ) NameFault) → Result (List ℕ) NameFault
followed index (Err kind) behind = Err (record { part = index; kind = kind })
followed index (Ok (n, inner)) behind = goes_on (behind inner) (λ fields. Ok (n ∷ fields))

-- `sees` and `packages` mark what the file of the statement sees of the table. `scope` is the full
-- name of the scope in which what has the option stands.
module _ (table : Table) (sees packages : List Bool) (scope : List ℕ) where
  -- The number of what a part stands for. In parentheses stands a name as anywhere in the file. Any
  -- other part is looked for in the message.
  abbrev pub number_of_part : ℕ → NamePart → Option ℕ
  number_of_part message part =
      if part.is_extension then resolve (kind_at table.names) (seen table sees packages) Anything part.name_part (within scope [])
      else number_of table.names (within (name_at table.names message) part.name_part)

module _ (files : List FileDescriptorProto) (table : Table) (sees packages : List Bool) (scope : List ℕ) where
  abbrev pub field_if_any : ℕ → Bool → Option ℕ → Result ℕ NameFaultKind
  field_if_any message in_parentheses None = Err Unknown
  field_if_any message in_parentheses (Some n) = field_from table message in_parentheses n (field_numbered files table n)

  -- the field of the message that a part stands for
  abbrev pub field_of_part : ℕ → NamePart → Result ℕ NameFaultKind
  field_of_part message part = field_if_any message part.is_extension (number_of_part table sees packages scope message part)

  -- The field that a part stands for, and the message that the next part is looked for in.
  abbrev pub step : ℕ → NamePart → Bool → Result (ℕ × ℕ) NameFaultKind
  step message part last =
      goes_on (field_of_part message part) (λ n. if last then Ok (n, message) else goes_on (inner_of table (field_numbered files table n)) (λ inner. Ok (n, inner)))

  -- the fields that parts go through, one for each, from this message on; the first part has the index
  abbrev pub fields_from : ℕ → ℕ → List NamePart → Result (List ℕ) NameFault
  fields_from index message [] = Ok []
  fields_from index message (part ∷ more) =
      followed index (step message part (is_last more)) (λ inner. fields_from (index + 1) inner more)

  -- The fields that the name of an option goes through, in the options of this message type. The
  -- last one is the field that the option sets.
  abbrev pub fields_of : ℕ → List NamePart → Result (List ℕ) NameFault
  fields_of message [] = Err (record { part = 0; kind = NoName })
  fields_of message (part ∷ more) =
      if bytes_eq part.name_part (codes "uninterpreted_option") then Err (record { part = 0; kind = Reserved })
      else fields_from 0 message (part ∷ more)
