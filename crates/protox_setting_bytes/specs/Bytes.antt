-- The bytes of what a statement sets, as they stand among options.
use Rattle.std.specs.Prelude.{ℕ, List, [], ◌∷◌, ◌++◌, length, if◌then◌else◌}
use Rattle.std.specs.Int.{w32, w64, to_le_bytes}
use Rattle.protox_encode.specs.Wire.{header, varint}
use Rattle.protox_setting_bytes.specs.declared.step.Step.{Step}
use Rattle.protox_values.specs.declared.setting.SettingValue.{SettingValue}
use Rattle.protox_values.specs.declared.setting.SettingValue.TheVariants as on_wire

-- a value, behind the header of its field
abbrev pub value_bytes : ℕ → SettingValue → List ℕ
value_bytes number (on_wire.Varint n) = header number 0 ++ varint n
value_bytes number (on_wire.Eight n) = header number 1 ++ to_le_bytes w64 n
value_bytes number (on_wire.Bytes bytes) = header number 2 ++ (varint (length bytes) ++ bytes)
value_bytes number (on_wire.Four n) = header number 5 ++ to_le_bytes w32 n

-- A field whose type is a message, with what lies in it: behind its length, or, in a group, before
-- the mark of its end.
abbrev pub around : Step → List ℕ → List ℕ
around step inside =
    if step.is_group then header step.number 3 ++ (inside ++ header step.number 4)
    else header step.number 2 ++ (varint (length inside) ++ inside)

-- the same for fields within one another, the outermost first
abbrev pub around_all : List Step → List ℕ → List ℕ
around_all [] inside = inside
around_all (step ∷ more) inside = around step (around_all more inside)

-- the value of a field with a number, in fields within one another
abbrev pub setting_bytes : List Step → ℕ → SettingValue → List ℕ
setting_bytes steps number value = around_all steps (value_bytes number value)
