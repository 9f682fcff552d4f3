-- What can be wrong with files that are linked, a line for each kind of fault. It says when a fault
-- is one of the files. It says nothing of the list that linking tells, or of its order. Circles of
-- imports are told by themselves, and `IsOfCircle` has their line.
use Rattle.std.specs.Prelude.{◌≡◌, ◌≢◌, ◌<◌, ◌≤◌, ◌==◌, ℕ, ℤ, pos, Bool, true, false, Contains, count_by, length, List, [], ◌∷◌, ◌++◌, Option, Some, None, bytes_eq, map, slice_get}
use Rattle.protox_alike.specs.Alike.{is_of_two}
use Rattle.protox_alike.specs.Keys.{key_of_field, key_of_value}
use Rattle.protox_descriptor.specs.FieldDescriptorProto.{FieldDescriptorProto}
use Rattle.protox_descriptor.specs.declared.descriptor.DescriptorProto.{DescriptorProto, out-DescriptorProto}
use Rattle.protox_descriptor.specs.declared.descriptor.EnumDescriptorProto.{EnumDescriptorProto}
use Rattle.protox_descriptor.specs.declared.descriptor.EnumValueDescriptorProto.{EnumValueDescriptorProto}
use Rattle.protox_descriptor.specs.declared.descriptor.FileDescriptorProto.{FileDescriptorProto}
use Rattle.protox_descriptor.specs.declared.descriptor.MethodDescriptorProto.{MethodDescriptorProto}
use Rattle.protox_descriptor.specs.declared.descriptor.descriptor_proto.ExtensionRange.{ExtensionRange}
use Rattle.protox_descriptor.specs.declared.descriptor.enum_descriptor_proto.EnumReservedRange.{EnumReservedRange}
use Rattle.protox_descriptor.specs.declared.tag.enum_.TheConstants as enum_tag
use Rattle.protox_descriptor.specs.declared.tag.enum_value.TheConstants as value_tag
use Rattle.protox_descriptor.specs.declared.tag.field.TheConstants as field_tag
use Rattle.protox_descriptor.specs.declared.tag.file.TheConstants as file_tag
use Rattle.protox_descriptor.specs.declared.tag.message.TheConstants as message_tag
use Rattle.protox_descriptor.specs.declared.tag.method.TheConstants as method_tag
use Rattle.protox_imports.specs.Imports.{name_at}
use Rattle.protox_link.specs.Closed.{is_message}
use Rattle.protox_link.specs.Seen.{IsSeenBy}
use Rattle.protox_link_checks.specs.Defaults.{has_value, is_word}
use Rattle.protox_link_checks.specs.Extensions.{extensions_of, is_options, ranges_numbered, same_number}
use Rattle.protox_link_checks.specs.Imports.{is_package}
use Rattle.protox_link_checks.specs.Proto3.{is_proto3}
use Rattle.protox_link_checks.specs.declared.extensions.Extension.{Extension}
use Rattle.protox_link_fault.specs.declared.LinkFault.{LinkFault}
use Rattle.protox_link_fault.specs.declared.LinkFaultKind.{LinkFaultKind}
use Rattle.protox_link_fault.specs.declared.LinkFaultKind.TheVariants as told
use Rattle.protox_link_fault.specs.declared.NumberFault.{NumberFault}
use Rattle.protox_link_fault.specs.declared.NumberFault.TheVariants as how
use Rattle.protox_name_tree.specs.Tree.{dotted, has_innermost, kind_at, name_at as full_name_at, number_of}
use Rattle.protox_names.specs.Names.{is_identifier, scopes}
use Rattle.protox_numbers.specs.Enums.{begins_with_zero, range_spans, value_spans}
use Rattle.protox_numbers.specs.Message.{extension_spans, field_spans, reserved_spans}
use Rattle.protox_numbers.specs.Numbers.{single}
use Rattle.protox_numbers.specs.Parts.{is_backward_enum_range, is_empty_extension_range, is_for_implementation}
use Rattle.protox_numbers.specs.declared.clash.Clash.{Clash}
use Rattle.protox_scopes.specs.Scopes.{is_type, resolve}
use Rattle.protox_scopes.specs.declared.kind.Kind.TheVariants as kinds
use Rattle.protox_scopes.specs.declared.kind.Wanted.{Wanted}
use Rattle.protox_scopes.specs.declared.kind.Wanted.TheVariants.{AType, Anything}
use Rattle.protox_spans.specs.Spans.{meets}
use Rattle.protox_spans.specs.declared.span.Span.{Span}
use Rattle.protox_symbols.specs.Symbols.{Table}
use Rattle.protox_symbols.specs.Things.{table_of}
use Rattle.protox_views.specs.Views.{seen, stands}
use Rattle.protox_walk.specs.Declarations.{Path, file_declarations, text_of}
use Rattle.protox_walk.specs.Parts.{Declared, Described, Enum, Field, Message, Method}
use Rattle.protox_walk.specs.Words.{name_of}

-- ---- imports and packages

-- This is wrong with the import that has an index among those of a file.
pub data WrongImport (files : List FileDescriptorProto) (imports : List (List ℕ))
    : ℕ → LinkFaultKind → Type 0 where
  -- No file has the name of the import.
  NamesNoFile : (i : ℕ) (name : List ℕ) → slice_get imports i ≡ Some name
      → ((g : ℕ) → name_at files g ≢ Some name)
      → WrongImport files imports i told.MissingImport
  -- A file has the name of the import, and an earlier import has the same name.
  NamesItAgain : (i earlier g : ℕ) (name : List ℕ) → slice_get imports i ≡ Some name
      → name_at files g ≡ Some name → earlier < i → slice_get imports earlier ≡ Some name
      → WrongImport files imports i told.RepeatedImport

-- This is wrong with the package that has this name.
pub data WrongPackage (table : Table) (name : List ℕ) : LinkFaultKind → Type 0 where
  -- The table doesn't have the package.
  IsNotThere : number_of table.names name ≡ None → WrongPackage table name told.BadName
  -- Its name has more than 511 bytes.
  IsTooLong : 511 < length name → WrongPackage table name told.LongPackage
  -- It has no more, but more than 100 dots.
  IsTooDeep : length name ≤ 511 → 100 < count_by (λ byte. byte == 46) name
      → WrongPackage table name told.DeepPackage
  -- The table has it. It, or a package around it, has the full name of what is no package.
  IsNoPackage : (around : List ℕ) (n : ℕ) → stands table name ≡ true
      → Contains (name ∷ scopes name) around → number_of table.names around ≡ Some n
      → is_package (kind_at table.names n) ≡ false
      → WrongPackage table name (told.NotAPackage n)

-- ---- the names of declarations

-- The file with this number declares it.
pub record Declares (files : List FileDescriptorProto) (number : ℕ) (d : Declared) : Type 0 where
  pub file : FileDescriptorProto
  pub is_there : slice_get files number ≡ Some file
  pub declares : Contains (file_declarations file) d

-- The own name of a declaration is an identifier, and the table has the scope that it stands in. Of
-- all other declarations no more is told than that their own names are missing or no identifiers.
pub record IsNamed (table : Table) (d : Declared) : Type 0 where
  pub identifier : is_identifier (text_of (name_of d.part)) ≡ true
  pub scope : has_innermost table.names (scopes d.full_name) ≡ true

-- This is wrong with the name of what the file with a number declares.
pub data WrongName (table : Table) (number : ℕ) (d : Declared) : LinkFaultKind → Type 0 where
  -- It has no name.
  HasNoName : text_of (name_of d.part) ≡ [] → WrongName table number d told.MissingName
  -- It has a name, which is no identifier.
  HasBadName : text_of (name_of d.part) ≢ [] → is_identifier (text_of (name_of d.part)) ≡ false
      → WrongName table number d told.BadName
  -- What the table has under its full name is something else.
  HasNameOfOther : (n : ℕ) → IsNamed table d → number_of table.names d.full_name ≡ Some n
      → slice_get table.things n ≢ Some (record { file = number; path = d.path })
      → WrongName table number d (told.AlreadyDefined n)
  -- The table has nothing under its full name.
  HasNoNumber : IsNamed table d → number_of table.names d.full_name ≡ None
      → WrongName table number d told.NotInTable

-- ---- the names that declarations use

-- A declaration uses a name, at its part with this tag. It wants a type there, or anything.
pub data Uses : Described → ℤ → Wanted → List ℕ → Type 0 where
  AsType : (f : FieldDescriptorProto) (name : List ℕ) → f.type_name ≡ Some name
      → Uses (Field f) field_tag.TYPE_NAME AType name
  AsExtendee : (f : FieldDescriptorProto) (name : List ℕ) → f.extendee ≡ Some name
      → Uses (Field f) field_tag.EXTENDEE Anything name
  AsInput : (m : MethodDescriptorProto) (name : List ℕ) → m.input_type ≡ Some name
      → Uses (Method m) method_tag.INPUT_TYPE Anything name
  AsOutput : (m : MethodDescriptorProto) (name : List ℕ) → m.output_type ≡ Some name
      → Uses (Method m) method_tag.OUTPUT_TYPE Anything name

-- A declaration has a default, and its type has a name.
pub data HasDefault : Described → List ℕ → List ℕ → Type 0 where
  OfField : (f : FieldDescriptorProto) (name default : List ℕ) → f.type_name ≡ Some name
      → f.default_value ≡ Some default → HasDefault (Field f) name default

-- `sees` and `packages` mark what a file sees of the table. In that file something with the full
-- name `user` uses names.
module _ (table : Table) (sees packages : List Bool) (user : List ℕ) where
  -- the number of what a name stands for there
  abbrev pub stands_for : Wanted → List ℕ → Option ℕ
  stands_for wanted name =
      resolve (kind_at table.names) (seen table sees packages) wanted name user

  -- This is wrong with a name that a declaration uses at its part with this tag, or with a default.
  pub data WrongUse (part : Described) : ℤ → LinkFaultKind → Type 0 where
    -- It stands for nothing.
    StandsForNothing : (tag : ℤ) (wanted : Wanted) (name : List ℕ) → Uses part tag wanted name
        → stands_for wanted name ≡ None → WrongUse part tag (told.NotDefined name)
    -- A type is wanted, and it stands for what is none.
    StandsForNoType : (tag : ℤ) (name : List ℕ) (n : ℕ) → Uses part tag AType name
        → stands_for AType name ≡ Some n → is_type (kind_at table.names n) ≡ false
        → WrongUse part tag (told.NotAType name)
    -- An extendee, or what a method takes or gives, is a message. It stands for what is none.
    StandsForNoMessage : (tag : ℤ) (name : List ℕ) (n : ℕ) → Uses part tag Anything name
        → stands_for Anything name ≡ Some n → is_message (kind_at table.names n) ≡ false
        → WrongUse part tag (told.NotAMessage name)
    -- It has a default, and its type is a message.
    MessageHasDefault : (name default : List ℕ) (n : ℕ) → HasDefault part name default
        → stands_for AType name ≡ Some n → kind_at table.names n ≡ kinds.Message
        → WrongUse part field_tag.DEFAULT_VALUE told.MessageDefault
    -- Its type is an enum, and its default is no identifier.
    DefaultIsNoWord : (name default : List ℕ) (n : ℕ) → HasDefault part name default
        → stands_for AType name ≡ Some n → kind_at table.names n ≡ kinds.Enum
        → is_word default ≡ false → WrongUse part field_tag.DEFAULT_VALUE told.BadDefault
    -- It is one, and the enum has no value of this name.
    DefaultIsNoValue : (name default : List ℕ) (n : ℕ) → HasDefault part name default
        → stands_for AType name ≡ Some n → kind_at table.names n ≡ kinds.Enum
        → is_word default ≡ true → has_value table n default ≡ false
        → WrongUse part field_tag.DEFAULT_VALUE (told.NoSuchValue n)

-- ---- numbers

-- A part meets one of the others, and none of those that stand before that. `part` is the index of
-- the one, and `with` that of the other. Numbers and ranges meet where they have a number in common,
-- and names where they are the same.
pub record MeetsFirst {X : Type 0} (meet : X → X → Bool) (parts others : List X) (clash : Clash)
    : Type 0 where
  pub one : X
  pub other : X
  pub is_there : slice_get parts clash.part ≡ Some one
  pub is_other : slice_get others clash.«with» ≡ Some other
  pub they_meet : meet one other ≡ true
  pub first : (k : ℕ) (earlier : X) → k < clash.«with» → slice_get others k ≡ Some earlier
      → meet one earlier ≡ false

-- What it meets first stands before it in the same list.
pub record MeetsEarlier {X : Type 0} (meet : X → X → Bool) (parts : List X) (clash : Clash)
    : Type 0 where
  pub meets_it : MeetsFirst meet parts parts clash
  pub before : clash.«with» < clash.part

-- In a declaration one of like siblings with a tag clashes in this way. This is told at a part of
-- the sibling, to which the path leads.
pub data Clashes : Described → NumberFault → ℤ → Path → Clash → Type 0 where
  -- An earlier field has the number of a field.
  OfReused : (m : DescriptorProto) (c : Clash) → MeetsEarlier meets (field_spans m) c
      → Clashes (Message m) how.Reused message_tag.FIELD (field_tag.NUMBER ∷ []) c
  -- The number of a field is in a reserved range.
  OfReserved : (m : DescriptorProto) (c : Clash)
      → MeetsFirst meets (field_spans m) (reserved_spans m) c
      → Clashes (Message m) how.Reserved message_tag.FIELD (field_tag.NUMBER ∷ []) c
  -- It is in an extension range.
  OfExtensions : (m : DescriptorProto) (c : Clash)
      → MeetsFirst meets (field_spans m) (extension_spans m) c
      → Clashes (Message m) how.ForExtensions message_tag.FIELD (field_tag.NUMBER ∷ []) c
  -- A reserved range overlaps an earlier one.
  OfReservedTwice : (m : DescriptorProto) (c : Clash) → MeetsEarlier meets (reserved_spans m) c
      → Clashes (Message m) how.ReservedTwice message_tag.RESERVED_RANGE [] c
  -- An extension range overlaps an earlier one.
  OfExtensionsTwice : (m : DescriptorProto) (c : Clash) → MeetsEarlier meets (extension_spans m) c
      → Clashes (Message m) how.ExtensionsTwice message_tag.EXTENSION_RANGE [] c
  -- It overlaps a reserved range.
  OfExtensionsReserved : (m : DescriptorProto) (c : Clash)
      → MeetsFirst meets (extension_spans m) (reserved_spans m) c
      → Clashes (Message m) how.ExtensionsReserved message_tag.EXTENSION_RANGE [] c
  -- The number of a value is in a reserved range.
  OfValues : (e : EnumDescriptorProto) (c : Clash)
      → MeetsFirst meets (value_spans e) (range_spans e) c
      → Clashes (Enum e) how.ValueReserved enum_tag.VALUE (value_tag.NUMBER ∷ []) c
  -- A reserved range of an enum overlaps an earlier one.
  OfValuesTwice : (e : EnumDescriptorProto) (c : Clash) → MeetsEarlier meets (range_spans e) c
      → Clashes (Enum e) how.ValuesReservedTwice enum_tag.RESERVED_RANGE [] c

-- This is wrong with the numbers of a declaration, at the end of this path from it.
pub data WrongNumber : Described → Path → LinkFaultKind → Type 0 where
  -- The number of a field is for the implementation of protocol buffers.
  IsTaken : (f : FieldDescriptorProto) → is_for_implementation f ≡ true
      → WrongNumber (Field f) (field_tag.NUMBER ∷ []) told.ForImplementation
  -- An enum has no value.
  HasNoValue : (e : EnumDescriptorProto) → e.value ≡ []
      → WrongNumber (Enum e) (enum_tag.NAME ∷ []) told.NoValue
  -- An extension range has no number.
  HasNoNumbers : (m : DescriptorProto) (i : ℕ) (range : ExtensionRange)
      → slice_get (out-DescriptorProto m).extension_range i ≡ Some range
      → is_empty_extension_range range ≡ true
      → WrongNumber (Message m) (message_tag.EXTENSION_RANGE ∷ pos i ∷ []) told.EmptyRange
  -- A reserved range of an enum has none.
  IsBackward : (e : EnumDescriptorProto) (i : ℕ) (range : EnumReservedRange)
      → slice_get e.reserved_range i ≡ Some range → is_backward_enum_range range ≡ true
      → WrongNumber (Enum e) (enum_tag.RESERVED_RANGE ∷ pos i ∷ []) told.EmptyRange
  -- A number or a range clashes with another one.
  Clashing : (part : Described) (kind : NumberFault) (tag : ℤ) (at : Path) (c : Clash)
      → Clashes part kind tag at c
      → WrongNumber part (tag ∷ pos c.part ∷ at) (told.Clash kind c.«with»)

-- ---- reserved names

-- This is wrong with the names that a declaration reserves, at the end of this path from it.
pub data WrongReserved : Described → Path → LinkFaultKind → Type 0 where
  -- A message reserves a name, and an earlier one that it reserves is the same.
  MessageReservesAgain : (m : DescriptorProto) (i earlier : ℕ) (name : List ℕ)
      → slice_get (out-DescriptorProto m).reserved_name i ≡ Some name → earlier < i
      → slice_get (out-DescriptorProto m).reserved_name earlier ≡ Some name
      → WrongReserved (Message m) (message_tag.NAME ∷ []) (told.ReservedAgain i)
  -- So does an enum.
  EnumReservesAgain : (e : EnumDescriptorProto) (i earlier : ℕ) (name : List ℕ)
      → slice_get e.reserved_name i ≡ Some name → earlier < i
      → slice_get e.reserved_name earlier ≡ Some name
      → WrongReserved (Enum e) (enum_tag.NAME ∷ []) (told.ReservedAgain i)
  -- A message reserves the name of its field.
  FieldIsReserved : (m : DescriptorProto) (i : ℕ) (f : FieldDescriptorProto)
      → slice_get (out-DescriptorProto m).field i ≡ Some f
      → Contains (out-DescriptorProto m).reserved_name (text_of f.name)
      → WrongReserved (Message m) (message_tag.FIELD ∷ pos i ∷ field_tag.NAME ∷ []) told.ReservedName
  -- An enum reserves the name of its value.
  ValueIsReserved : (e : EnumDescriptorProto) (i : ℕ) (v : EnumValueDescriptorProto)
      → slice_get e.value i ≡ Some v → Contains e.reserved_name (text_of v.name)
      → WrongReserved (Enum e) (enum_tag.VALUE ∷ pos i ∷ value_tag.NAME ∷ []) told.ReservedName

-- ---- proto3

-- This is wrong with a declaration of a file of proto3, at the end of this path from it.
pub data WrongInProto3 : Described → Path → LinkFaultKind → Type 0 where
  -- The first value of an enum has another number than 0. An unset number counts as 0.
  BeginsOtherwise : (e : EnumDescriptorProto) (v : EnumValueDescriptorProto)
      → slice_get e.value 0 ≡ Some v → begins_with_zero e ≡ false
      → WrongInProto3 (Enum e) (enum_tag.VALUE ∷ pos 0 ∷ value_tag.NUMBER ∷ []) told.FirstNotZero
  -- A message has an extension range.
  HasExtensions : (m : DescriptorProto) (range : ExtensionRange)
      → slice_get (out-DescriptorProto m).extension_range 0 ≡ Some range
      → WrongInProto3 (Message m) (message_tag.EXTENSION_RANGE ∷ pos 0 ∷ []) told.ExtensionsInProto3
  -- The name of a field is that of an earlier field, but for case and `_`.
  FieldsAreAlike : (m : DescriptorProto) (c : Clash)
      → MeetsEarlier bytes_eq (map key_of_field (out-DescriptorProto m).field) c
      → WrongInProto3 (Message m) (message_tag.FIELD ∷ pos c.part ∷ field_tag.NAME ∷ []) (told.Alike c.«with»)
  -- The name of a value is that of an earlier value, but for case, `_` and the name of the enum in
  -- front, and the two have different names and numbers.
  ValuesAreAlike : (e : EnumDescriptorProto) (c : Clash)
      → MeetsEarlier bytes_eq (map (key_of_value e) e.value) c
      → is_of_two e.value c ≡ true
      → WrongInProto3 (Enum e) (enum_tag.VALUE ∷ pos c.part ∷ value_tag.NAME ∷ []) (told.Alike c.«with»)

-- ---- extensions

-- This is wrong with an extension of a file that sees this of the table, at this path.
pub data WrongExtension (files : List FileDescriptorProto) (sees packages : List Bool) (file : FileDescriptorProto)
    : Path → LinkFaultKind → Type 0 where
  -- No extension range of the message that it extends has its number.
  IsInNoRange : (e : Extension) → Contains (extensions_of (table_of files) sees packages file) e
      → ((range : Span) → Contains (ranges_numbered files (table_of files) e.message) range → meets (single e.number) range ≡ false)
      → WrongExtension files sees packages file (e.path ++ field_tag.NUMBER ∷ []) (told.OutOfRanges e.message)
  -- An earlier extension of the file has the same message and number.
  IsReused : (c : Clash) (e earlier : Extension)
      → MeetsEarlier same_number (extensions_of (table_of files) sees packages file) c
      → slice_get (extensions_of (table_of files) sees packages file) c.part ≡ Some e
      → slice_get (extensions_of (table_of files) sees packages file) c.«with» ≡ Some earlier
      → WrongExtension files sees packages file (e.path ++ field_tag.NUMBER ∷ []) (told.ExtensionReused e.message earlier.own)
  -- In proto3 it extends what is no message of options.
  IsNotOfOptions : (e : Extension) → Contains (extensions_of (table_of files) sees packages file) e
      → is_proto3 file ≡ true → is_options (dotted (full_name_at (table_of files).names e.message)) ≡ false
      → WrongExtension files sees packages file (e.path ++ field_tag.EXTENDEE ∷ []) told.NotOfOptions

-- ---- all that can be wrong

-- The fault is one of these files.
pub data WrongLink (files : List FileDescriptorProto) : LinkFault → Type 0 where
  -- It is that of an import of a file.
  OfImport : (n : ℕ) (file : FileDescriptorProto) (i : ℕ) (kind : LinkFaultKind)
      → slice_get files n ≡ Some file → WrongImport files file.dependency i kind
      → WrongLink files (record { file = n; path = file_tag.DEPENDENCY ∷ pos i ∷ []; kind = kind })
  -- It is that of the package of a file, where that isn't the nameless one.
  OfPackage : (n : ℕ) (file : FileDescriptorProto) (name : List ℕ) (kind : LinkFaultKind)
      → slice_get files n ≡ Some file → file.«package» ≡ Some name → name ≢ []
      → WrongPackage (table_of files) name kind
      → WrongLink files (record { file = n; path = file_tag.PACKAGE ∷ []; kind = kind })
  -- It is that of the name of a declaration.
  OfName : (n : ℕ) (d : Declared) (kind : LinkFaultKind) → Declares files n d
      → WrongName (table_of files) n d kind
      → WrongLink files (record { file = n; path = d.path ++ message_tag.NAME ∷ []; kind = kind })
  -- It is that of a name that a declaration uses.
  OfUse : (n : ℕ) (d : Declared) (sees packages : List Bool) (tag : ℤ) (kind : LinkFaultKind)
      → Declares files n d → IsNamed (table_of files) d → IsSeenBy files n sees packages
      → WrongUse (table_of files) sees packages d.full_name d.part tag kind
      → WrongLink files (record { file = n; path = d.path ++ tag ∷ []; kind = kind })
  -- It is that of a number of a declaration.
  OfNumber : (n : ℕ) (d : Declared) (rest : Path) (kind : LinkFaultKind) → Declares files n d
      → IsNamed (table_of files) d → WrongNumber d.part rest kind
      → WrongLink files (record { file = n; path = d.path ++ rest; kind = kind })
  -- It is that of a reserved name.
  OfReservedName : (n : ℕ) (d : Declared) (rest : Path) (kind : LinkFaultKind) → Declares files n d
      → IsNamed (table_of files) d → WrongReserved d.part rest kind
      → WrongLink files (record { file = n; path = d.path ++ rest; kind = kind })
  -- It is that of a declaration in proto3.
  OfProto3 : (n : ℕ) (d : Declared) (rest : Path) (kind : LinkFaultKind)
      → (in_file : Declares files n d) → is_proto3 in_file.file ≡ true
      → WrongInProto3 d.part rest kind
      → WrongLink files (record { file = n; path = d.path ++ rest; kind = kind })
  -- It is that of an extension.
  OfExtension : (n : ℕ) (file : FileDescriptorProto) (sees packages : List Bool) (path : Path) (kind : LinkFaultKind)
      → slice_get files n ≡ Some file → IsSeenBy files n sees packages
      → WrongExtension files sees packages file path kind
      → WrongLink files (record { file = n; path = path; kind = kind })
