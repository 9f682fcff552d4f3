-- Where faults are told: the path of each leads to a part of its file.
use Rattle.std.specs.Prelude.{◌≡◌, ◌<◌, ⊤, ℕ, pos, true, All, Contains, List, [], ◌∷◌, ◌++◌, Some, is_some, length, slice_get}
use Rattle.protox_descriptor.specs.FieldDescriptorProto.{FieldDescriptorProto}
use Rattle.protox_descriptor.specs.declared.descriptor.DescriptorProto.{DescriptorProto, out-DescriptorProto}
use Rattle.protox_descriptor.specs.declared.descriptor.EnumDescriptorProto.{EnumDescriptorProto}
use Rattle.protox_descriptor.specs.declared.descriptor.FileDescriptorProto.{FileDescriptorProto}
use Rattle.protox_descriptor.specs.declared.descriptor.MethodDescriptorProto.{MethodDescriptorProto}
use Rattle.protox_descriptor.specs.declared.tag.enum_.TheConstants as enum_tag
use Rattle.protox_descriptor.specs.declared.tag.enum_value.TheConstants as value_tag
use Rattle.protox_descriptor.specs.declared.tag.field.TheConstants as field_tag
use Rattle.protox_descriptor.specs.declared.tag.file.TheConstants as file_tag
use Rattle.protox_descriptor.specs.declared.tag.message.TheConstants as message_tag
use Rattle.protox_descriptor.specs.declared.tag.method.TheConstants as method_tag
use Rattle.protox_link_fault.specs.declared.LinkFailure.{LinkFailure}
use Rattle.protox_link_fault.specs.declared.LinkFailure.TheVariants.{OutOfMemory, Refused}
use Rattle.protox_link_fault.specs.declared.LinkFault.{LinkFault}
use Rattle.protox_walk.specs.Declarations.{Path, file_declarations}
use Rattle.protox_walk.specs.Parts.{Declared, Described, Enum, Field, Message, Method}

-- From a declaration the path leads to its name, to a number or a name that it uses, to its default,
-- to one of its ranges, or to the name of a field or a value.
pub data LeadsWithin : Described → Path → Type 0 where
  ToName : (d : Described) → LeadsWithin d (message_tag.NAME ∷ [])
  ToNumber : (f : FieldDescriptorProto) → LeadsWithin (Field f) (field_tag.NUMBER ∷ [])
  ToType : (f : FieldDescriptorProto) → is_some f.type_name ≡ true → LeadsWithin (Field f) (field_tag.TYPE_NAME ∷ [])
  ToDefault : (f : FieldDescriptorProto) → is_some f.default_value ≡ true → LeadsWithin (Field f) (field_tag.DEFAULT_VALUE ∷ [])
  ToExtendee : (f : FieldDescriptorProto) → is_some f.extendee ≡ true → LeadsWithin (Field f) (field_tag.EXTENDEE ∷ [])
  ToInput : (m : MethodDescriptorProto) → is_some m.input_type ≡ true → LeadsWithin (Method m) (method_tag.INPUT_TYPE ∷ [])
  ToOutput : (m : MethodDescriptorProto) → is_some m.output_type ≡ true → LeadsWithin (Method m) (method_tag.OUTPUT_TYPE ∷ [])
  ToNumberOfField : (m : DescriptorProto) (n : ℕ) → n < length (out-DescriptorProto m).field → LeadsWithin (Message m) (message_tag.FIELD ∷ pos n ∷ field_tag.NUMBER ∷ [])
  ToNameOfField : (m : DescriptorProto) (n : ℕ) → n < length (out-DescriptorProto m).field → LeadsWithin (Message m) (message_tag.FIELD ∷ pos n ∷ field_tag.NAME ∷ [])
  ToReservedRange : (m : DescriptorProto) (n : ℕ) → n < length (out-DescriptorProto m).reserved_range → LeadsWithin (Message m) (message_tag.RESERVED_RANGE ∷ pos n ∷ [])
  ToExtensionRange : (m : DescriptorProto) (n : ℕ) → n < length (out-DescriptorProto m).extension_range → LeadsWithin (Message m) (message_tag.EXTENSION_RANGE ∷ pos n ∷ [])
  ToNumberOfValue : (e : EnumDescriptorProto) (n : ℕ) → n < length e.value → LeadsWithin (Enum e) (enum_tag.VALUE ∷ pos n ∷ value_tag.NUMBER ∷ [])
  ToNameOfValue : (e : EnumDescriptorProto) (n : ℕ) → n < length e.value → LeadsWithin (Enum e) (enum_tag.VALUE ∷ pos n ∷ value_tag.NAME ∷ [])
  ToRangeOfEnum : (e : EnumDescriptorProto) (n : ℕ) → n < length e.reserved_range → LeadsWithin (Enum e) (enum_tag.RESERVED_RANGE ∷ pos n ∷ [])

-- The path leads to the name of the file's package, to its imports, to one of these, or to a part of
-- what the file declares.
pub data LeadsInto (file : FileDescriptorProto) : Path → Type 0 where
  ToPackage : is_some file.«package» ≡ true → LeadsInto file (file_tag.PACKAGE ∷ [])
  ToImports : 0 < length file.dependency → LeadsInto file (file_tag.DEPENDENCY ∷ [])
  ToImport : (n : ℕ) → n < length file.dependency → LeadsInto file (file_tag.DEPENDENCY ∷ pos n ∷ [])
  ToDeclared : (d : Declared) (rest : Path) → Contains (file_declarations file) d → LeadsWithin d.part rest → LeadsInto file (d.path ++ rest)

-- The fault is told of one of the files, at a part of it.
pub record Stands (files : List FileDescriptorProto) (fault : LinkFault) : Type 0 where
  pub file : FileDescriptorProto
  pub is_there : slice_get files fault.file ≡ Some file
  pub leads : LeadsInto file fault.path

abbrev pub AllStand : List FileDescriptorProto → LinkFailure → Type 0
AllStand files (Refused faults) = All (Stands files) faults.items
AllStand files OutOfMemory = ⊤
