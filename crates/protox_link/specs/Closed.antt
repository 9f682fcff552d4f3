-- What a reader of linked files finds: each name in them is the full name of something that the file
-- sees.
use Rattle.std.specs.Prelude.{◌≡◌, ◌<◌, ⊤, ℕ, Bool, true, false, List, All, IfSome, is_some, length, slice_get, Some}
use Rattle.protox_descriptor.specs.FieldDescriptorProto.{FieldDescriptorProto}
use Rattle.protox_descriptor.specs.declared.descriptor.FileDescriptorProto.{FileDescriptorProto}
use Rattle.protox_descriptor.specs.declared.descriptor.MethodDescriptorProto.{MethodDescriptorProto}
use Rattle.protox_link.specs.Seen.{IsSeenBy}
use Rattle.protox_name_tree.specs.Tree.{dotted, kind_at, name_at, number_of}
use Rattle.protox_scopes.specs.Scopes.{is_type}
use Rattle.protox_scopes.specs.declared.kind.Kind.{Kind}
use Rattle.protox_scopes.specs.declared.kind.Kind.TheVariants as kind
use Rattle.protox_symbols.specs.Symbols.{Table}
use Rattle.protox_symbols.specs.Things.{table_of}
use Rattle.protox_views.specs.Views.{is_seen}
use Rattle.protox_walk.specs.Declarations.{Path, file_declarations}
use Rattle.protox_walk.specs.Parts.{Declared, Described, Message, Field, Oneof, Enum, Value, Service, Method}

abbrev pub is_message : Kind → Bool
is_message kind.Message = true
is_message kind.Enum = false
is_message kind.Service = false
is_message kind.Package = false
is_message kind.Member = false

-- The table has what this file declares at this path under this full name. So nothing else has that
-- name.
pub record IsItself (table : Table) (file : ℕ) (path : Path) (full_name : List ℕ) : Type 0 where
  pub number : ℕ
  pub numbered : number_of table.names full_name ≡ Some number
  pub itself : slice_get table.things number ≡ Some (record { file = file; path = path })

-- `sees` marks the files that a file sees, and `packages` the packages that these are in.
module _ (table : Table) (sees packages : List Bool) where
  -- A dot, and the full name of a thing of the table. It is of a kind that fits, and the file sees it.
  pub record IsNameOf (fits : Kind → Bool) (name : List ℕ) : Type 0 where
    pub number : ℕ
    pub known : number < length table.names.full_names
    pub named : name ≡ dotted (name_at table.names number)
    pub right : fits (kind_at table.names number) ≡ true
    pub sees_it : is_seen table sees packages number ≡ true

  -- A named type is a message or an enum, and the field has a type then. What is extended is a
  -- message.
  pub record IsClosedField (field : FieldDescriptorProto) : Type 0 where
    pub of_type : IfSome field.type_name (IsNameOf is_type)
    pub typed : IfSome field.type_name (λ name. is_some field.field_type ≡ true)
    pub extends : IfSome field.extendee (IsNameOf is_message)

  -- A method takes and gives messages.
  pub record IsClosedMethod (method : MethodDescriptorProto) : Type 0 where
    pub takes : IfSome method.input_type (IsNameOf is_message)
    pub gives : IfSome method.output_type (IsNameOf is_message)

  abbrev pub IsClosedPart : Described → Type 0
  IsClosedPart (Message message) = ⊤
  IsClosedPart (Field field) = IsClosedField field
  IsClosedPart (Oneof oneof) = ⊤
  IsClosedPart (Enum enum) = ⊤
  IsClosedPart (Value value) = ⊤
  IsClosedPart (Service service) = ⊤
  IsClosedPart (Method method) = IsClosedMethod method

  pub record IsClosed (file : ℕ) (d : Declared) : Type 0 where
    pub once : IsItself table file d.path d.full_name
    pub names : IsClosedPart d.part

-- All that a linked file declares, where it has this number in the list.
pub record IsClosedFile (files : List FileDescriptorProto) (number : ℕ) (file : FileDescriptorProto) : Type 0 where
  pub sees : List Bool
  pub packages : List Bool
  pub seen : IsSeenBy files number sees packages
  pub closed : All (IsClosed (table_of files) sees packages number) (file_declarations file)

-- The given files, and the linked ones.
abbrev pub AreClosed : List FileDescriptorProto → List FileDescriptorProto → Type 0
AreClosed files made = (number : ℕ) (file : FileDescriptorProto) → slice_get made number ≡ Some file → IsClosedFile files number file
