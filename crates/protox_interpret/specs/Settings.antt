-- What a statement sets, and in which bytes.
use Rattle.std.specs.Prelude.{ℕ, Bool, false, not, ◌||◌, List, [], ◌∷◌, ◌++◌, map}
use Rattle.std.specs.List.{filter, flat_map}
use Rattle.protox_message_bytes.specs.Bytes.{Field, in_order}
use Rattle.protox_message_bytes.specs.declared.entry.Entry.{Entry}
use Rattle.protox_message_bytes.specs.declared.entry.Entry.TheVariants as entry

-- What a statement sets: the numbers of the fields that its name goes through; whether the first of
-- them is no extension; whether the last of them is repeated; the steps through what stands in
-- braces, if it has any; and the bytes of all that.
pub record Setting : Type 0 where
  pub path : List ℕ
  pub standard : Bool
  pub repeated : Bool
  pub inside : List Entry
  pub bytes : List ℕ

-- ---- paths

-- The paths to what stands in a message, where the paths of the messages that are open are given, the
-- innermost first.
abbrev pub paths_from : List (List ℕ) → List Entry → List (List ℕ)
paths_from [] entries = []
paths_from (path ∷ outer) [] = []
paths_from (path ∷ outer) (entry.Value number packed value ∷ more) = (path ++ number ∷ []) ∷ paths_from (path ∷ outer) more
paths_from (path ∷ outer) (entry.Open number group ∷ more) = (path ++ number ∷ []) ∷ paths_from ((path ++ number ∷ []) ∷ path ∷ outer) more
paths_from (path ∷ outer) (entry.Close ∷ more) = paths_from outer more

-- the paths that a setting sets: its own, and those to what stands in its braces
abbrev pub paths_of : Setting → List (List ℕ)
paths_of setting = setting.path ∷ paths_from (setting.path ∷ []) setting.inside

-- A field is set once: a setting may come behind others if its field is repeated, or if they set
-- neither it nor a field inside of it.
abbrev pub is_free : (List ℕ → Bool) → Setting → Bool
is_free is_set_before setting = setting.repeated || not (is_set_before setting.path)

-- ---- bytes

abbrev pub first_of : List ℕ → ℕ
first_of [] = 0
first_of (number ∷ more) = number

abbrev pub field_of : Setting → Field
field_of setting = record { number = first_of setting.path; packed = false; bytes = setting.bytes }

-- The bytes of an options message. Fields that are no extensions stand first, in the order of their
-- numbers. Extensions stand behind them, in the order of the statements.
abbrev pub options_bytes : List Setting → List ℕ
options_bytes settings =
    in_order (map field_of (filter (λ s. s.standard) settings)) ++ flat_map (λ s. s.bytes) (filter (λ s. not s.standard) settings)
