-- What is wrong with a message, an enum or a service, and with any declaration.
use Rattle.std.specs.Prelude.{ℕ, ◌+◌, List, [], ◌∷◌, ◌++◌, map, codes, if◌then◌else◌}
use Rattle.std.specs.Option.{unwrap_or}
use Rattle.protox_descriptor.specs.FieldDescriptorProto.{FieldDescriptorProto}
use Rattle.protox_descriptor.specs.declared.descriptor.DescriptorProto.{DescriptorProto, out-DescriptorProto}
use Rattle.protox_descriptor.specs.declared.descriptor.EnumDescriptorProto.{EnumDescriptorProto}
use Rattle.protox_descriptor.specs.declared.descriptor.EnumValueDescriptorProto.{EnumValueDescriptorProto}
use Rattle.protox_descriptor.specs.declared.descriptor.FileDescriptorProto.{FileDescriptorProto}
use Rattle.protox_descriptor.specs.declared.descriptor.options.EnumOptions.{EnumOptions}
use Rattle.protox_descriptor.specs.declared.descriptor.options.UninterpretedOption.{UninterpretedOption}
use Rattle.protox_descriptor.specs.declared.tag.enum_.TheConstants as enum_tag
use Rattle.protox_descriptor.specs.declared.tag.enum_value.TheConstants as value_tag
use Rattle.protox_descriptor.specs.declared.tag.field.TheConstants as field_tag
use Rattle.protox_descriptor.specs.declared.tag.message.TheConstants as message_tag
use Rattle.protox_descriptor.specs.declared.tag.service.TheConstants as service_tag
use Rattle.protox_numbers.specs.Clashes.{with_earlier}
use Rattle.protox_numbers.specs.Numbers.{single}
use Rattle.protox_numbers.specs.declared.clash.Clash.{Clash}
use Rattle.protox_option_checks.specs.Faults.{fault_at, fault_if}
use Rattle.protox_option_checks.specs.Fields.{field_faults}
use Rattle.protox_option_checks.specs.Marks.{Marks, is_marked, is_message_set}
use Rattle.protox_option_checks.specs.Names.{outer_scope, value_number}
use Rattle.protox_option_checks.specs.Statements.{is_true}
use Rattle.protox_option_checks.specs.declared.fault.CheckFault.{CheckFault}
use Rattle.protox_option_checks.specs.declared.fault.CheckFaultKind.TheVariants.{LiteService, MessageSetField, MessageSetInProto3, SharedNumber}
use Rattle.protox_spans.specs.Spans.{first_met_in}
use Rattle.protox_spans.specs.declared.span.Span.{Span}
use Rattle.protox_symbols.specs.Symbols.{Table}
use Rattle.protox_walk.specs.Declarations.{Path, nth}
use Rattle.protox_walk.specs.Parts.{Declared, Described, Message, Field, Oneof, Enum, Value, Service, Method}
use Rattle.protox_walk.specs.Words.{options_in}

-- ---- enums

abbrev pub statements_of_enum : EnumDescriptorProto → List UninterpretedOption
statements_of_enum enum = options_in (λ (o : EnumOptions). o.uninterpreted_option) enum.options

-- the numbers of values, each as the span of it alone; an unset number counts as 0
abbrev pub spans_of : List EnumValueDescriptorProto → List Span
spans_of values = map (λ (value : EnumValueDescriptorProto). single value.number) values

-- each value whose number an earlier one has, with the first that has it
abbrev pub shared_numbers : List EnumValueDescriptorProto → List Clash
shared_numbers values = with_earlier (map (first_met_in (spans_of values)) (spans_of values))

module _ (table : Table) (file : ℕ) (path : Path) where
  -- the fault of a value, of those that stand in a scope
  abbrev pub shared_number_at : List ℕ → List EnumValueDescriptorProto → Clash → CheckFault
  shared_number_at scope values clash =
      fault_at file (nth path enum_tag.VALUE clash.part) value_tag.NUMBER
      (SharedNumber (value_number table scope values clash.part) (value_number table scope values clash.«with»))

  -- Unless the enum allows aliases, no two values have one number. The values stand beside the enum.
  abbrev pub alias_faults : List ℕ → EnumDescriptorProto → List CheckFault
  alias_faults full_name enum =
      if is_true (statements_of_enum enum) (codes "allow_alias") then []
      else map (shared_number_at (unwrap_or (outer_scope full_name) []) enum.value) (shared_numbers enum.value)

-- ---- messages and services

module _ (file : ℕ) (path : Path) where
  -- the nth field of a message set
  abbrev pub set_field_at : ℕ → CheckFault
  set_field_at n = fault_at file (nth path message_tag.FIELD n) field_tag.NAME MessageSetField

  -- each of these fields, of which the first has the index n
  abbrev pub set_fields_from : ℕ → List FieldDescriptorProto → List CheckFault
  set_fields_from n [] = []
  set_fields_from n (field ∷ more) = set_field_at n ∷ set_fields_from (n + 1) more

  -- A message set has no fields, and stands in no file of proto3.
  abbrev pub message_faults : Marks → DescriptorProto → List CheckFault
  message_faults marks message =
      if is_message_set message
      then fault_if (is_marked marks.proto3 file) (fault_at file path message_tag.NAME MessageSetInProto3) ++ set_fields_from 0 (out-DescriptorProto message).field
      else []

  abbrev pub service_faults : Marks → List CheckFault
  service_faults marks = fault_if (is_marked marks.without_services file) (fault_at file path service_tag.NAME LiteService)

-- ---- any declaration

module _ (files : List FileDescriptorProto) (table : Table) (marks : Marks) (file : ℕ) where
  abbrev pub part_faults : Path → List ℕ → Described → List CheckFault
  part_faults path full_name (Message message) = message_faults file path marks message
  part_faults path full_name (Field field) = field_faults table marks file path full_name files field
  part_faults path full_name (Oneof oneof) = []
  part_faults path full_name (Enum enum) = alias_faults table file path full_name enum
  part_faults path full_name (Value value) = []
  part_faults path full_name (Service service) = service_faults file path marks
  part_faults path full_name (Method method) = []

  abbrev pub declared_faults : Declared → List CheckFault
  declared_faults d = part_faults d.path d.full_name d.part
