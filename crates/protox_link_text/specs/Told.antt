-- What is told of a fault of a set of files: one error, or two.
use Rattle.std.specs.Prelude.{ℕ, ◌==◌, ℤ, pos, negsuc, Bool, false, List, [], ◌∷◌, ◌++◌, take, Option, Some, None, codes, slice_get, if◌then◌else◌}
use Rattle.std.specs.List.{list_any}
use Rattle.std.specs.Option.{option_map_or}
use Rattle.std.specs.Str.{bytes_eq}
use Rattle.protox_descriptor.specs.declared.descriptor.EnumDescriptorProto.{EnumDescriptorProto}
use Rattle.protox_descriptor.specs.declared.descriptor.EnumValueDescriptorProto.{EnumValueDescriptorProto}
use Rattle.protox_descriptor.specs.declared.descriptor.FileDescriptorProto.{FileDescriptorProto}
use Rattle.protox_link_fault.specs.declared.LinkFault.{LinkFault}
use Rattle.protox_link_fault.specs.declared.LinkFaultKind.{LinkFaultKind}
use Rattle.protox_link_fault.specs.declared.LinkFaultKind.TheVariants as kind
use Rattle.protox_link_text.specs.Clashes.{clash_in}
use Rattle.protox_link_text.specs.Named.{default_in, file_name, import_named, named_in, number_in, reserved_at, sibling_at, value_named}
use Rattle.protox_link_text.specs.Places.{Holder, OfEnum, OfFile, OfMessage, OfService, Place, place_of, text_of}
use Rattle.protox_link_text.specs.Search.{Searched, search, wanted_at}
use Rattle.protox_link_text.specs.declared.error.LinkError.{LinkError}
use Rattle.protox_link_text.specs.declared.error.LinkError.TheVariants as error
use Rattle.protox_name_tree.specs.Tree.{name_at, own_name}
use Rattle.protox_names.specs.Names.{scopes}
use Rattle.protox_symbols.specs.Symbols.{Table}

-- ---- values beside their enum

-- the parts before an index
abbrev pub before : {A : Type 0} → List A → ℤ → List A
before parts (pos n) = take n parts
before parts (negsuc n) = []

-- An earlier value of the enum has the name of the value with an index.
abbrev pub has_earlier : List EnumValueDescriptorProto → ℤ → Bool
has_earlier values n = list_any (λ value. bytes_eq (text_of value.name) (value_named values n)) (before values n)

-- The value clashes with something beside its enum, which stands in the scope.
abbrev pub beside_enum : List ℕ → EnumDescriptorProto → ℤ → LinkError
beside_enum [] enum n = error.ValueBesideEnum (value_named enum.value n) (text_of enum.name)
beside_enum (byte ∷ scope) enum n = error.ValueBesideEnumIn (value_named enum.value n) (byte ∷ scope) (text_of enum.name)

-- What is told besides of a name that is declared twice: why a value clashes, unless it does with
-- another value of its enum.
abbrev pub note_in : List ℕ → Holder → List ℤ → List LinkError
note_in scope (OfEnum enum) (tag ∷ n ∷ rest) = if has_earlier enum.value n then [] else beside_enum scope enum n ∷ []
note_in scope _ _ = []

-- A full name that the file declares before; these are the scopes around it.
abbrev pub defined_in : List ℕ → List (List ℕ) → LinkError
defined_in name [] = error.AlreadyDefined name
defined_in name (scope ∷ outer) = error.AlreadyDefinedIn (own_name name (scope ∷ outer)) scope

-- ---- circles

-- each name, and an arrow
abbrev pub arrows : List FileDescriptorProto → List ℕ → List ℕ
arrows files [] = []
arrows files (file ∷ more) = file_name files file ++ codes " -> " ++ arrows files more

-- The name of the first one stands at the end once more.
abbrev pub circle : List FileDescriptorProto → List ℕ → List ℕ
circle files [] = []
circle files (file ∷ more) = arrows files (file ∷ more) ++ file_name files file

-- The search for a name ended inside something, which doesn't have it.
abbrev pub not_inside : List ℕ → Option (List ℕ) → List LinkError
not_inside name None = []
not_inside name (Some found) = error.NotDefinedInside name found ∷ []

abbrev pub or_not_defined : List ℕ → List LinkError → List LinkError
or_not_defined name [] = error.NotDefined name ∷ []
or_not_defined name (told ∷ more) = told ∷ more

module _ (files : List FileDescriptorProto) (table : Table) where
  -- the name of the file that declares what has a number
  abbrev pub file_of : ℕ → List ℕ
  file_of n = option_map_or (λ thing. file_name files thing.file) (slice_get table.things n) []

  abbrev pub is_of_file : ℕ → ℕ → Bool
  is_of_file file n = option_map_or (λ thing. thing.file == file) (slice_get table.things n) false

  -- What has a number was declared before, in the file with this number or in another one.
  abbrev pub already_defined : ℕ → ℕ → LinkError
  already_defined file n =
      if is_of_file file n then defined_in (name_at table.names n) (scopes (name_at table.names n))
      else error.AlreadyDefinedInFile (name_at table.names n) (file_of n)

  abbrev pub no_package : ℕ → LinkError
  no_package n = error.NotAPackage (name_at table.names n) (file_of n)

  -- ---- names that stand for nothing

  abbrev pub not_imported : ℕ → Option ℕ → List LinkError
  not_imported file None = []
  not_imported file (Some n) = error.NotImported (name_at table.names n) (file_of n) (file_name files file) ∷ []

  -- What the search came upon, or that there is nothing.
  abbrev pub not_defined : ℕ → List ℕ → Searched → List LinkError
  not_defined file name searched = or_not_defined name (not_imported file searched.unseen ++ not_inside name searched.ended)

-- ---- all kinds

abbrev pub empty_range : Holder → LinkError
empty_range (OfFile file) = error.EmptyExtensionRange
empty_range (OfMessage message) = error.EmptyExtensionRange
empty_range (OfEnum enum) = error.EmptyReservedRange
empty_range (OfService service) = error.EmptyExtensionRange

-- A field has the reserved name, or a value of an enum.
abbrev pub reserved_name : Holder → List ℕ → LinkError
reserved_name (OfEnum enum) name = error.ValueNameReserved name
reserved_name _ name = error.FieldNameReserved name

-- A message reserves the name twice, or an enum.
abbrev pub reserved_again : Holder → List ℕ → LinkError
reserved_again (OfEnum enum) name = error.ValueNameReservedTwice name
reserved_again _ name = error.FieldNameReservedTwice name

-- The name of a field is like that of another one, or the name of a value.
abbrev pub names_alike : Holder → List ℕ → List ℕ → LinkError
names_alike (OfEnum enum) name other = error.ValuesAlike name other
names_alike _ name other = error.FieldsAlike name other

-- The number of an extension is in no range of the message with a number, or an earlier extension has it.
abbrev pub not_declared : Table → Holder → List ℤ → ℕ → LinkError
not_declared table holder rest n = error.NotDeclared (name_at table.names n) (number_in holder rest)

abbrev pub extension_reused : Table → Holder → List ℤ → ℕ → ℕ → LinkError
extension_reused table holder rest n m = error.ExtensionReused (number_in holder rest) (name_at table.names n) (name_at table.names m)

-- `sees` and `packages` tell what the file with this number sees of the table.
module _ (files : List FileDescriptorProto) (table : Table) (sees packages : List Bool) (file : ℕ) where
  abbrev pub told_at : Place → LinkFaultKind → List LinkError
  told_at place kind.MissingName = error.MissingName ∷ []
  told_at place kind.BadName = error.BadName (named_in place.holder place.rest) ∷ []
  told_at place (kind.AlreadyDefined n) = already_defined files table file n ∷ note_in place.scope place.holder place.rest
  told_at place kind.NotInTable = error.NotInTable (named_in place.holder place.rest) ∷ []
  told_at place (kind.NotAPackage n) = no_package files table n ∷ []
  told_at place kind.LongPackage = error.LongPackage ∷ []
  told_at place kind.DeepPackage = error.DeepPackage ∷ []
  told_at place (kind.NotDefined name) = not_defined files table file name (search table sees packages (wanted_at place.rest) name place.scope)
  told_at place (kind.NotAType name) = error.NotAType name ∷ []
  told_at place (kind.NotAMessage name) = error.NotAMessage name ∷ []
  told_at place kind.MessageDefault = error.MessageDefault ∷ []
  told_at place kind.BadDefault = error.BadDefault ∷ []
  told_at place (kind.NoSuchValue n) = error.NoSuchValue (name_at table.names n) (default_in place.holder place.rest) ∷ []
  told_at place (kind.Clash how with_) = clash_in place.scope place.holder place.rest with_ how
  told_at place kind.ForImplementation = error.ForImplementation ∷ []
  told_at place kind.EmptyRange = empty_range place.holder ∷ []
  told_at place kind.NoValue = error.NoValue ∷ []
  told_at place (kind.ReservedAgain n) = reserved_again place.holder (reserved_at place.holder n) ∷ []
  told_at place kind.ReservedName = reserved_name place.holder (named_in place.holder place.rest) ∷ []
  told_at place kind.FirstNotZero = error.FirstNotZero ∷ []
  told_at place kind.ExtensionsInProto3 = error.ExtensionsInProto3 ∷ []
  told_at place (kind.Alike n) = names_alike place.holder (named_in place.holder place.rest) (sibling_at place.holder n) ∷ []
  told_at place (kind.OutOfRanges n) = not_declared table place.holder place.rest n ∷ []
  told_at place (kind.ExtensionReused n m) = extension_reused table place.holder place.rest n m ∷ []
  told_at place kind.NotOfOptions = error.NotOfOptions ∷ []
  told_at place kind.MissingImport = error.MissingImport (import_named place.holder place.rest) ∷ []
  told_at place kind.RepeatedImport = error.RepeatedImport (import_named place.holder place.rest) ∷ []
  told_at place (kind.ImportCycle circle_) = error.ImportCycle (circle files circle_.items) ∷ []

module _ (files : List FileDescriptorProto) (table : Table) (sees packages : List Bool) where
  abbrev pub told_in : LinkFault → Option FileDescriptorProto → List LinkError
  told_in fault None = []
  told_in fault (Some file) = told_at files table sees packages fault.file (place_of file fault.path) fault.kind

  -- what is told of a fault of one of the files, which sees this of the table
  abbrev pub errors_of : LinkFault → List LinkError
  errors_of fault = told_in fault (slice_get files fault.file)
