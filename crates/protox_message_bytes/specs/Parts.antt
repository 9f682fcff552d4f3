-- What a message holds, and the steps through it.
use Rattle.std.specs.Prelude.{ℕ, Bool, List, [], ◌∷◌, ◌++◌}
use Rattle.protox_message_bytes.specs.declared.entry.Entry.{Entry}
use Rattle.protox_message_bytes.specs.declared.entry.Entry.TheVariants as entry
use Rattle.protox_values.specs.declared.setting.SettingValue.{SettingValue}

-- Fields with their numbers, one behind the other: a value, packed or not; or a message, a group or
-- not, with what it holds.
pub data Parts : Type 0 where
  NoMore : Parts
  Value : (number : ℕ) (packed : Bool) (value : SettingValue) (more : Parts) → Parts
  Message : (number : ℕ) (group : Bool) (inside more : Parts) → Parts

-- the steps through the fields
abbrev pub steps : Parts → List Entry
steps NoMore = []
steps (Value number packed value more) = entry.Value number packed value ∷ steps more
steps (Message number group inside more) = entry.Open number group ∷ (steps inside ++ entry.Close ∷ steps more)
