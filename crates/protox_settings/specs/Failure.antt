-- What is said of a fault.
use Rattle.std.specs.Prelude.{⊤}
use Rattle.protox_settings.specs.declared.fault.NameFailure.{NameFailure}
use Rattle.protox_settings.specs.declared.fault.NameFailure.TheVariants.{Fault, OutOfMemory}
use Rattle.protox_settings.specs.declared.fault.NameFault.{NameFault}
use Rattle.protox_settings.specs.declared.fault.SettingFailure.{SettingFailure}
use Rattle.protox_settings.specs.declared.fault.SettingFailure.TheVariants as value
use Rattle.protox_settings.specs.declared.fault.SettingFault.{SettingFault}

-- P of the fault, unless memory ran out.
abbrev pub IfFault : NameFailure → (NameFault → Type 0) → Type 0
IfFault OutOfMemory P = ⊤
IfFault (Fault fault) P = P fault

-- the same for the value of a statement
abbrev pub IfSettingFault : SettingFailure → (SettingFault → Type 0) → Type 0
IfSettingFault value.OutOfMemory P = ⊤
IfSettingFault (value.Fault fault) P = P fault
