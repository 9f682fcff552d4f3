-- The number of each kind of error of linking, from 101: those from 1 on are of faults of syntax. A number keeps its kind from one version to the
-- next.
use Rattle.std.specs.Prelude.{ℕ}
use Rattle.protox_link_text.specs.declared.error.LinkError.{LinkError}
use Rattle.protox_link_text.specs.declared.error.LinkError.TheVariants.{MissingName, BadName, AlreadyDefined, AlreadyDefinedIn, AlreadyDefinedInFile, ValueBesideEnum, ValueBesideEnumIn, NotInTable, NotAPackage, LongPackage, DeepPackage, NotDefined, NotImported, NotDefinedInside, NotAType, NotAMessage, MessageDefault, BadDefault, NoSuchValue, NumberReused, FieldReserved, ForExtensions, ReservedTwice, ExtensionsTwice, ExtensionsReserved, ValueReserved, FieldNameReserved, ValueNameReserved, FieldNameReservedTwice, ValueNameReservedTwice, ForImplementation, EmptyExtensionRange, EmptyReservedRange, NoValue, FirstNotZero, ExtensionsInProto3, FieldsAlike, ValuesAlike, NotDeclared, ExtensionReused, NotOfOptions, MissingImport, RepeatedImport, ImportCycle}

abbrev pub kind_of : LinkError → ℕ
kind_of MissingName = 101
kind_of (BadName name) = 102
kind_of (AlreadyDefined name) = 103
kind_of (AlreadyDefinedIn name scope) = 104
kind_of (AlreadyDefinedInFile name file) = 105
kind_of (ValueBesideEnum value of_) = 106
kind_of (ValueBesideEnumIn value scope of_) = 107
kind_of (NotInTable name) = 108
kind_of (NotAPackage name file) = 109
kind_of LongPackage = 110
kind_of DeepPackage = 111
kind_of (NotDefined name) = 112
kind_of (NotImported name file user) = 113
kind_of (NotDefinedInside name found) = 114
kind_of (NotAType name) = 115
kind_of (NotAMessage name) = 116
kind_of MessageDefault = 117
kind_of BadDefault = 118
kind_of (NoSuchValue of_ value) = 119
kind_of (NumberReused number message field) = 120
kind_of (FieldReserved field number) = 121
kind_of (ForExtensions first last field number) = 122
kind_of (ReservedTwice first last other_first other_last) = 123
kind_of (ExtensionsTwice first last other_first other_last) = 124
kind_of (ExtensionsReserved first last other_first other_last) = 125
kind_of (ValueReserved value number) = 126
kind_of (FieldNameReserved name) = 127
kind_of (ValueNameReserved name) = 128
kind_of (FieldNameReservedTwice name) = 129
kind_of (ValueNameReservedTwice name) = 130
kind_of ForImplementation = 131
kind_of EmptyExtensionRange = 132
kind_of EmptyReservedRange = 133
kind_of NoValue = 134
kind_of FirstNotZero = 135
kind_of ExtensionsInProto3 = 136
kind_of (FieldsAlike name other) = 137
kind_of (ValuesAlike name other) = 138
kind_of (NotDeclared message number) = 139
kind_of (ExtensionReused number message extension) = 140
kind_of NotOfOptions = 141
kind_of (MissingImport name) = 142
kind_of (RepeatedImport name) = 143
kind_of (ImportCycle names) = 144
