use Rattle.std.proofs.Common.{append_assoc}
use Rattle.protox_link_text.proofs.error.LinkErrorDisplay.fmt.Goals as goal

pub returns-in-AlreadyDefinedIn-clause-writes : goal.returns-in-AlreadyDefinedIn-clause-writes
returns-in-AlreadyDefinedIn-clause-writes g c p ok = rw c.in-AlreadyDefinedIn.is (simp append_assoc (c.write-in-AlreadyDefinedIn.ensures.writes p ok))

pub returns-in-AlreadyDefinedInFile-clause-writes : goal.returns-in-AlreadyDefinedInFile-clause-writes
returns-in-AlreadyDefinedInFile-clause-writes g c p ok = rw c.in-AlreadyDefinedInFile.is (simp append_assoc (c.write-in-AlreadyDefinedInFile.ensures.writes p ok))

pub returns-in-ValueBesideEnum-clause-writes : goal.returns-in-ValueBesideEnum-clause-writes
returns-in-ValueBesideEnum-clause-writes g c p ok = rw c.in-ValueBesideEnum.is (simp append_assoc (c.write-in-ValueBesideEnum.ensures.writes p ok))

pub returns-in-ValueBesideEnumIn-clause-writes : goal.returns-in-ValueBesideEnumIn-clause-writes
returns-in-ValueBesideEnumIn-clause-writes g c p ok = rw c.in-ValueBesideEnumIn.is (simp append_assoc (c.write-in-ValueBesideEnumIn.ensures.writes p ok))

pub returns-in-NotAPackage-clause-writes : goal.returns-in-NotAPackage-clause-writes
returns-in-NotAPackage-clause-writes g c p ok = rw c.in-NotAPackage.is (simp append_assoc (c.write-in-NotAPackage.ensures.writes p ok))

pub returns-in-NotDefined-clause-writes : goal.returns-in-NotDefined-clause-writes
returns-in-NotDefined-clause-writes g c p ok = rw c.in-NotDefined.is (c.write-in-NotDefined.ensures.writes p ok)

pub returns-in-NotImported-clause-writes : goal.returns-in-NotImported-clause-writes
returns-in-NotImported-clause-writes g c p ok = rw c.in-NotImported.is (simp append_assoc (c.write-in-NotImported.ensures.writes p ok))

pub returns-in-NotDefinedInside-clause-writes : goal.returns-in-NotDefinedInside-clause-writes
returns-in-NotDefinedInside-clause-writes g c p ok = rw c.in-NotDefinedInside.is (simp append_assoc (c.write-in-NotDefinedInside.ensures.writes p ok))

pub returns-in-NumberReused-clause-writes : goal.returns-in-NumberReused-clause-writes
returns-in-NumberReused-clause-writes g c p ok = rw c.in-NumberReused.is (simp append_assoc (c.write-in-NumberReused.ensures.writes p ok))

pub returns-in-FieldReserved-clause-writes : goal.returns-in-FieldReserved-clause-writes
returns-in-FieldReserved-clause-writes g c p ok = rw c.in-FieldReserved.is (simp append_assoc (c.write-in-FieldReserved.ensures.writes p ok))

pub returns-in-ForExtensions-clause-writes : goal.returns-in-ForExtensions-clause-writes
returns-in-ForExtensions-clause-writes g c p ok = rw c.in-ForExtensions.is (simp append_assoc (c.write-in-ForExtensions.ensures.writes p ok))

pub returns-in-ReservedTwice-clause-writes : goal.returns-in-ReservedTwice-clause-writes
returns-in-ReservedTwice-clause-writes g c p ok = rw c.in-ReservedTwice.is (simp append_assoc (c.write-in-ReservedTwice.ensures.writes p ok))

pub returns-in-ExtensionsTwice-clause-writes : goal.returns-in-ExtensionsTwice-clause-writes
returns-in-ExtensionsTwice-clause-writes g c p ok = rw c.in-ExtensionsTwice.is (simp append_assoc (c.write-in-ExtensionsTwice.ensures.writes p ok))

pub returns-in-ExtensionsReserved-clause-writes : goal.returns-in-ExtensionsReserved-clause-writes
returns-in-ExtensionsReserved-clause-writes g c p ok = rw c.in-ExtensionsReserved.is (simp append_assoc (c.write-in-ExtensionsReserved.ensures.writes p ok))

pub returns-in-ValueReserved-clause-writes : goal.returns-in-ValueReserved-clause-writes
returns-in-ValueReserved-clause-writes g c p ok = rw c.in-ValueReserved.is (simp append_assoc (c.write-in-ValueReserved.ensures.writes p ok))

pub returns-in-MissingImport-clause-writes : goal.returns-in-MissingImport-clause-writes
returns-in-MissingImport-clause-writes g c p ok = rw c.in-MissingImport.is (c.write-in-MissingImport.ensures.writes p ok)

pub returns-in-RepeatedImport-clause-writes : goal.returns-in-RepeatedImport-clause-writes
returns-in-RepeatedImport-clause-writes g c p ok = rw c.in-RepeatedImport.is (c.write-in-RepeatedImport.ensures.writes p ok)

pub returns-in-FieldNameReserved-clause-writes : goal.returns-in-FieldNameReserved-clause-writes
returns-in-FieldNameReserved-clause-writes g c p ok = rw c.in-FieldNameReserved.is (c.write-in-FieldNameReserved.ensures.writes p ok)

pub returns-in-ValueNameReserved-clause-writes : goal.returns-in-ValueNameReserved-clause-writes
returns-in-ValueNameReserved-clause-writes g c p ok = rw c.in-ValueNameReserved.is (c.write-in-ValueNameReserved.ensures.writes p ok)

pub returns-in-FieldNameReservedTwice-clause-writes : goal.returns-in-FieldNameReservedTwice-clause-writes
returns-in-FieldNameReservedTwice-clause-writes g c p ok = rw c.in-FieldNameReservedTwice.is (c.write-in-FieldNameReservedTwice.ensures.writes p ok)

pub returns-in-ValueNameReservedTwice-clause-writes : goal.returns-in-ValueNameReservedTwice-clause-writes
returns-in-ValueNameReservedTwice-clause-writes g c p ok = rw c.in-ValueNameReservedTwice.is (c.write-in-ValueNameReservedTwice.ensures.writes p ok)

pub returns-in-NoSuchValue-clause-writes : goal.returns-in-NoSuchValue-clause-writes
returns-in-NoSuchValue-clause-writes g c p ok = rw c.in-NoSuchValue.is (simp append_assoc (c.write-in-NoSuchValue.ensures.writes p ok))

pub returns-in-FieldsAlike-clause-writes : goal.returns-in-FieldsAlike-clause-writes
returns-in-FieldsAlike-clause-writes g c p ok = rw c.in-FieldsAlike.is (simp append_assoc (c.write-in-FieldsAlike.ensures.writes p ok))

pub returns-in-ValuesAlike-clause-writes : goal.returns-in-ValuesAlike-clause-writes
returns-in-ValuesAlike-clause-writes g c p ok = rw c.in-ValuesAlike.is (simp append_assoc (c.write-in-ValuesAlike.ensures.writes p ok))

pub returns-in-NotDeclared-clause-writes : goal.returns-in-NotDeclared-clause-writes
returns-in-NotDeclared-clause-writes g c p ok = rw c.in-NotDeclared.is (simp append_assoc (c.write-in-NotDeclared.ensures.writes p ok))

pub returns-in-ExtensionReused-clause-writes : goal.returns-in-ExtensionReused-clause-writes
returns-in-ExtensionReused-clause-writes g c p ok = rw c.in-ExtensionReused.is (simp append_assoc (c.write-in-ExtensionReused.ensures.writes p ok))
