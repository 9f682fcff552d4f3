-- The texts of errors, as protoc has them.
use Rattle.std.specs.Prelude.{ℕ, List, ◌++◌, codes}
use Rattle.std.specs.Fmt.{signed_decimal}
use Rattle.protox_link_text.specs.declared.error.LinkError.{LinkError}
use Rattle.protox_link_text.specs.declared.error.LinkError.TheVariants.{MissingName, BadName, AlreadyDefined, AlreadyDefinedIn, AlreadyDefinedInFile, ValueBesideEnum, ValueBesideEnumIn, NotInTable, NotAPackage, LongPackage, DeepPackage, NotDefined, NotImported, NotDefinedInside, NotAType, NotAMessage, MessageDefault, BadDefault, NoSuchValue, NumberReused, FieldReserved, ForExtensions, ReservedTwice, ExtensionsTwice, ExtensionsReserved, ValueReserved, FieldNameReserved, ValueNameReserved, FieldNameReservedTwice, ValueNameReservedTwice, ForImplementation, EmptyExtensionRange, EmptyReservedRange, NoValue, FirstNotZero, ExtensionsInProto3, FieldsAlike, ValuesAlike, NotDeclared, ExtensionReused, NotOfOptions, MissingImport, RepeatedImport, ImportCycle}

-- The text of an error, in one line.
abbrev pub text_of : LinkError → List ℕ
text_of MissingName = codes "Missing name."
text_of (BadName name) = codes "\"" ++ name ++ codes "\" is not a valid identifier."
text_of (AlreadyDefined name) = codes "\"" ++ name ++ codes "\" is already defined."
text_of (AlreadyDefinedIn name scope) = codes "\"" ++ name ++ codes "\" is already defined in \"" ++ scope ++ codes "\"."
text_of (AlreadyDefinedInFile name file) = codes "\"" ++ name ++ codes "\" is already defined in file \"" ++ file ++ codes "\"."
text_of (ValueBesideEnum value of_) = codes "Note that enum values use C++ scoping rules, meaning that enum values are siblings of their type, not children of it.  Therefore, \"" ++ value ++ codes "\" must be unique within the global scope, not just within \"" ++ of_ ++ codes "\"."
text_of (ValueBesideEnumIn value scope of_) = codes "Note that enum values use C++ scoping rules, meaning that enum values are siblings of their type, not children of it.  Therefore, \"" ++ value ++ codes "\" must be unique within \"" ++ scope ++ codes "\", not just within \"" ++ of_ ++ codes "\"."
text_of (NotInTable name) = codes "\"" ++ name ++ codes "\" is not in the table."
text_of (NotAPackage name file) = codes "\"" ++ name ++ codes "\" is already defined (as something other than a package) in file \"" ++ file ++ codes "\"."
text_of LongPackage = codes "Package name is too long"
text_of DeepPackage = codes "Exceeds Maximum Package Depth"
text_of (NotDefined name) = codes "\"" ++ name ++ codes "\" is not defined."
text_of (NotImported name file user) = codes "\"" ++ name ++ codes "\" seems to be defined in \"" ++ file ++ codes "\", which is not imported by \"" ++ user ++ codes "\".  To use it here, please add the necessary import."
text_of (NotDefinedInside name found) = codes "\"" ++ name ++ codes "\" is resolved to \"" ++ found ++ codes "\", which is not defined. The innermost scope is searched first in name resolution. Consider using a leading '.'(i.e., \"." ++ name ++ codes "\") to start from the outermost scope."
text_of (NotAType name) = codes "\"" ++ name ++ codes "\" is not a type."
text_of (NotAMessage name) = codes "\"" ++ name ++ codes "\" is not a message type."
text_of MessageDefault = codes "Messages can't have default values."
text_of BadDefault = codes "Default value for an enum field must be an identifier."
text_of (NoSuchValue of_ value) = codes "Enum type \"" ++ of_ ++ codes "\" has no value named \"" ++ value ++ codes "\"."
text_of (NumberReused number message field) = codes "Field number " ++ signed_decimal number ++ codes " has already been used in \"" ++ message ++ codes "\" by field \"" ++ field ++ codes "\"."
text_of (FieldReserved field number) = codes "Field \"" ++ field ++ codes "\" uses reserved number " ++ signed_decimal number ++ codes "."
text_of (ForExtensions first last field number) = codes "Extension range " ++ signed_decimal first ++ codes " to " ++ signed_decimal last ++ codes " includes field \"" ++ field ++ codes "\" (" ++ signed_decimal number ++ codes ")."
text_of (ReservedTwice first last other_first other_last) = codes "Reserved range " ++ signed_decimal first ++ codes " to " ++ signed_decimal last ++ codes " overlaps with already-defined range " ++ signed_decimal other_first ++ codes " to " ++ signed_decimal other_last ++ codes "."
text_of (ExtensionsTwice first last other_first other_last) = codes "Extension range " ++ signed_decimal first ++ codes " to " ++ signed_decimal last ++ codes " overlaps with already-defined range " ++ signed_decimal other_first ++ codes " to " ++ signed_decimal other_last ++ codes "."
text_of (ExtensionsReserved first last other_first other_last) = codes "Extension range " ++ signed_decimal first ++ codes " to " ++ signed_decimal last ++ codes " overlaps with reserved range " ++ signed_decimal other_first ++ codes " to " ++ signed_decimal other_last ++ codes "."
text_of (ValueReserved value number) = codes "Enum value \"" ++ value ++ codes "\" uses reserved number " ++ signed_decimal number ++ codes "."
text_of (FieldNameReserved name) = codes "Field name \"" ++ name ++ codes "\" is reserved."
text_of (ValueNameReserved name) = codes "Enum value \"" ++ name ++ codes "\" is reserved."
text_of (FieldNameReservedTwice name) = codes "Field name \"" ++ name ++ codes "\" is reserved multiple times."
text_of (ValueNameReservedTwice name) = codes "Enum value \"" ++ name ++ codes "\" is reserved multiple times."
text_of ForImplementation = codes "Field numbers 19000 through 19999 are reserved for the protocol buffer library implementation."
text_of EmptyExtensionRange = codes "Extension range end number must be greater than start number."
text_of EmptyReservedRange = codes "Reserved range end number must be greater than start number."
text_of NoValue = codes "Enums must contain at least one value."
text_of FirstNotZero = codes "The first enum value must be zero in proto3."
text_of ExtensionsInProto3 = codes "Extension ranges are not allowed in proto3."
text_of (FieldsAlike name other) = codes "The JSON camel-case name of field \"" ++ name ++ codes "\" conflicts with field \"" ++ other ++ codes "\". This is not allowed in proto3."
text_of (ValuesAlike name other) = codes "Enum name " ++ name ++ codes " has the same name as " ++ other ++ codes " if you ignore case and strip out the enum name prefix (if any). This is error-prone and can lead to undefined behavior. Please avoid doing this. If you are using allow_alias, please assign the same numeric value to both enums."
text_of (NotDeclared message number) = codes "\"" ++ message ++ codes "\" does not declare " ++ signed_decimal number ++ codes " as an extension number."
text_of (ExtensionReused number message extension) = codes "Extension number " ++ signed_decimal number ++ codes " has already been used in \"" ++ message ++ codes "\" by extension \"" ++ extension ++ codes "\"."
text_of NotOfOptions = codes "Extensions in proto3 are only allowed for defining options."
text_of (MissingImport name) = codes "Import \"" ++ name ++ codes "\" was not found or had errors."
text_of (RepeatedImport name) = codes "Import \"" ++ name ++ codes "\" was listed twice."
text_of (ImportCycle names) = codes "File recursively imports itself: " ++ names

-- The text of the error is always the same: it has no values in it.
abbrev pub HasFixedText : LinkError → Type 0
HasFixedText MissingName = Unit {0}
HasFixedText ForImplementation = Unit {0}
HasFixedText EmptyExtensionRange = Unit {0}
HasFixedText EmptyReservedRange = Unit {0}
HasFixedText NoValue = Unit {0}
HasFixedText MessageDefault = Unit {0}
HasFixedText BadDefault = Unit {0}
HasFixedText LongPackage = Unit {0}
HasFixedText DeepPackage = Unit {0}
HasFixedText FirstNotZero = Unit {0}
HasFixedText ExtensionsInProto3 = Unit {0}
HasFixedText NotOfOptions = Unit {0}
HasFixedText _ = ⊥
