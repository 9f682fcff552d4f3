-- The texts of faults, as protoc has them.
use Rattle.std.specs.Prelude.{ℕ, List, ◌++◌, codes}
use Rattle.protox_values.specs.Types.{held_by}
use Rattle.protox_values.specs.declared.fault.EnumFault.{EnumFault}
use Rattle.protox_values.specs.declared.fault.EnumFault.TheVariants as enum_fault
use Rattle.protox_values.specs.declared.fault.ValueFault.{ValueFault}
use Rattle.protox_values.specs.declared.fault.ValueFault.TheVariants.{OutOfRange, NotInteger, NotNonNegative, NotNumber, NotIdentifier, NotTruth, NotString}
use Rattle.protox_values.specs.declared.types.Held.{Held}
use Rattle.protox_values.specs.declared.types.Held.TheVariants as held
use Rattle.protox_values.specs.declared.types.ScalarType.{ScalarType}

abbrev pub lack : ValueFault → List ℕ
lack OutOfRange = codes "out of range"
lack NotInteger = codes "must be integer"
lack NotNonNegative = codes "must be non-negative integer"
lack NotNumber = codes "must be number"
lack NotIdentifier = codes "must be identifier"
lack NotTruth = codes "must be \"true\" or \"false\""
lack NotString = codes "must be quoted string"

abbrev pub held_word : Held → List ℕ
held_word held.Int32 = codes "int32"
held_word held.Int64 = codes "int64"
held_word held.Uint32 = codes "uint32"
held_word held.Uint64 = codes "uint64"
held_word held.Float = codes "float"
held_word held.Double = codes "double"
held_word held.Bool = codes "boolean"
held_word held.String = codes "string"

-- The option's name in the text: the full one, or the short one where a number is too great for
-- 32 bits without a sign.
abbrev pub told_name : ValueFault → Held → List ℕ → List ℕ → List ℕ
told_name OutOfRange held.Uint32 full_name name = name
told_name _ _ full_name name = full_name

abbrev pub fault_text : ValueFault → ScalarType → List ℕ → List ℕ → List ℕ
fault_text fault scalar full_name name =
    codes "Value " ++ lack fault ++ codes " for " ++ held_word (held_by scalar) ++ codes " option \""
    ++ told_name fault (held_by scalar) full_name name ++ codes "\"."

abbrev pub enum_fault_text : EnumFault → List ℕ → List ℕ → List ℕ → List ℕ
enum_fault_text enum_fault.NotIdentifier of_ value full_name = codes "Value must be identifier for enum-valued option \"" ++ full_name ++ codes "\"."
enum_fault_text enum_fault.NoSuchValue of_ value full_name = codes "Enum type \"" ++ of_ ++ codes "\" has no value named \"" ++ value ++ codes "\" for option \"" ++ full_name ++ codes "\"."
