-- The number of each kind of what is wrong with options, from 201: those from 101 on are of errors of linking. A number keeps its kind from one
-- version to the next.
use Rattle.std.specs.Prelude.{ℕ}
use Rattle.protox_interpret.specs.declared.fault.StatementFaultKind.{StatementFaultKind}
use Rattle.protox_interpret.specs.declared.fault.StatementFaultKind.TheVariants.{Name, AlreadySet, Value, Token, Text, Aggregate}
use Rattle.protox_option_checks.specs.declared.fault.CheckFaultKind.{CheckFaultKind}
use Rattle.protox_option_checks.specs.declared.fault.CheckFaultKind.TheVariants.{ClosedEnum, ExtensionJsonName, JsType, Lazy, LiteExtension, LiteImport, LiteService, MapValueEnum, MessageSetExtension, MessageSetField, MessageSetInProto3, Packed, SharedNumber}

-- of an options message whose type no file declares
abbrev pub no_type_kind : ℕ
no_type_kind = 201

-- of a statement
abbrev pub statement_kind : StatementFaultKind → ℕ
statement_kind (Name fault) = 202
statement_kind AlreadySet = 203
statement_kind (Value fault) = 204
statement_kind (Token span) = 205
statement_kind (Text fault) = 206
statement_kind (Aggregate fault) = 207

-- of what options ask of what has them
abbrev pub check_kind : CheckFaultKind → ℕ
check_kind Lazy = 221
check_kind Packed = 222
check_kind MessageSetField = 223
check_kind MessageSetExtension = 224
check_kind LiteExtension = 225
check_kind MapValueEnum = 226
check_kind JsType = 227
check_kind ExtensionJsonName = 228
check_kind (ClosedEnum number message) = 229
check_kind (SharedNumber value earlier) = 230
check_kind MessageSetInProto3 = 231
check_kind LiteService = 232
check_kind (LiteImport file) = 233
