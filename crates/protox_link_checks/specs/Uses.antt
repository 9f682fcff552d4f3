-- What is wrong with the names that a file uses.
use Rattle.std.specs.Prelude.{ℕ, ℤ, Bool, map, option_map, List, [], ◌∷◌, ◌++◌, Option, Some, None, if◌then◌else◌}
use Rattle.protox_descriptor.specs.FieldDescriptorProto.{FieldDescriptorProto}
use Rattle.protox_descriptor.specs.declared.descriptor.DescriptorProto.{DescriptorProto}
use Rattle.protox_descriptor.specs.declared.descriptor.EnumDescriptorProto.{EnumDescriptorProto}
use Rattle.protox_descriptor.specs.declared.descriptor.MethodDescriptorProto.{MethodDescriptorProto}
use Rattle.protox_descriptor.specs.declared.tag.field.TheConstants as field_tag
use Rattle.protox_descriptor.specs.declared.tag.method.TheConstants as method_tag
use Rattle.protox_link_checks.specs.Defaults.{wrong_default}
use Rattle.protox_link_checks.specs.Numbers.{enum_number_faults, implementation_faults, message_number_faults}
use Rattle.protox_link_checks.specs.Reserved.{enum_name_faults, message_name_faults}
use Rattle.protox_link_fault.specs.declared.LinkFault.{LinkFault}
use Rattle.protox_link_fault.specs.declared.LinkFaultKind.{LinkFaultKind}
use Rattle.protox_link_fault.specs.declared.LinkFaultKind.TheVariants.{NotAMessage, NotAType, NotDefined}
use Rattle.protox_name_tree.specs.Tree.{kind_at}
use Rattle.protox_scopes.specs.Scopes.{is_type, resolve}
use Rattle.protox_scopes.specs.declared.kind.Kind.{Kind}
use Rattle.protox_scopes.specs.declared.kind.Kind.TheVariants as kind
use Rattle.protox_scopes.specs.declared.kind.Wanted.{Wanted}
use Rattle.protox_scopes.specs.declared.kind.Wanted.TheVariants.{AType, Anything}
use Rattle.protox_symbols.specs.Symbols.{Table}
use Rattle.protox_views.specs.Views.{seen}
use Rattle.protox_walk.specs.Declarations.{Path}
use Rattle.protox_walk.specs.Parts.{Described, Message, Field, Oneof, Enum, Value, Service, Method}

-- the fault of a file at a part of what has a path
abbrev pub fault_at : ℕ → Path → ℤ → LinkFaultKind → LinkFault
fault_at file path tag kind = record { file = file; path = path ++ tag ∷ []; kind = kind }

-- A type is a message or an enum.
abbrev pub wrong_type : List ℕ → Option Kind → List LinkFaultKind
wrong_type name None = NotDefined name ∷ []
wrong_type name (Some kind) = if is_type kind then [] else NotAType name ∷ []

abbrev pub wrong_message : List ℕ → Option Kind → List LinkFaultKind
wrong_message name None = NotDefined name ∷ []
wrong_message name (Some kind.Message) = []
wrong_message name (Some kind.Enum) = NotAMessage name ∷ []
wrong_message name (Some kind.Service) = NotAMessage name ∷ []
wrong_message name (Some kind.Package) = NotAMessage name ∷ []
wrong_message name (Some kind.Member) = NotAMessage name ∷ []

abbrev pub faults_at : ℕ → Path → ℤ → List LinkFaultKind → List LinkFault
faults_at file path tag kinds = map (fault_at file path tag) kinds

-- `sees` marks the files that the file with this number sees, and `packages` the packages that
-- these are in. What has the full name `user` uses the names.
module _ (table : Table) (sees packages : List Bool) where
  -- the kind of what a name stands for
  abbrev pub kind_named : Wanted → List ℕ → List ℕ → Option Kind
  kind_named wanted user name = option_map (kind_at table.names) (resolve (kind_at table.names) (seen table sees packages) wanted name user)

module _ (file : ℕ) (path : Path) where
  -- the numbers, the ranges and the reserved names of a message, and those of an enum
  abbrev pub message_itself : DescriptorProto → List LinkFault
  message_itself message = message_number_faults file path message ++ message_name_faults file path message

  abbrev pub enum_itself : EnumDescriptorProto → List LinkFault
  enum_itself enum = enum_number_faults file path enum ++ enum_name_faults file path enum

module _ (table : Table) (sees packages : List Bool) (file : ℕ) where
  abbrev pub type_faults : Path → ℤ → List ℕ → Option (List ℕ) → List LinkFault
  type_faults path tag user None = []
  type_faults path tag user (Some name) = faults_at file path tag (wrong_type name (kind_named table sees packages AType user name))

  abbrev pub message_faults : Path → ℤ → List ℕ → Option (List ℕ) → List LinkFault
  message_faults path tag user None = []
  message_faults path tag user (Some name) = faults_at file path tag (wrong_message name (kind_named table sees packages Anything user name))

  -- A default needs a type that has it; only defaults of types that have a name are looked at.
  abbrev pub default_faults : Path → List ℕ → Option (List ℕ) → Option (List ℕ) → List LinkFault
  default_faults path user (Some name) (Some default) =
      faults_at file path field_tag.DEFAULT_VALUE
      (wrong_default table (resolve (kind_at table.names) (seen table sees packages) AType name user) default)
  default_faults path user _ _ = []

  -- The type of a field is a message or an enum; what it extends is a message.
  abbrev pub field_uses : Path → List ℕ → FieldDescriptorProto → List LinkFault
  field_uses path user field =
      (implementation_faults file path field ++ type_faults path field_tag.TYPE_NAME user field.type_name)
      ++ (message_faults path field_tag.EXTENDEE user field.extendee
      ++ default_faults path user field.type_name field.default_value)

  -- Methods take and give messages.
  abbrev pub method_uses : Path → List ℕ → MethodDescriptorProto → List LinkFault
  method_uses path user method =
      message_faults path method_tag.INPUT_TYPE user method.input_type
      ++ message_faults path method_tag.OUTPUT_TYPE user method.output_type

  -- what is wrong with a declaration, but for its name: the names that it uses, and what else is in it
  abbrev pub uses_of : Path → List ℕ → Described → List LinkFault
  uses_of path user (Message message) = message_itself file path message
  uses_of path user (Field field) = field_uses path user field
  uses_of path user (Oneof oneof) = []
  uses_of path user (Enum enum) = enum_itself file path enum
  uses_of path user (Value value) = []
  uses_of path user (Service service) = []
  uses_of path user (Method method) = method_uses path user method
