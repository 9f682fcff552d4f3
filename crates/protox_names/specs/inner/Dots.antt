-- The first dot of a name.
use Rattle.std.specs.Prelude.{◌≡◌, ◌<◌, ◌≤◌, ℕ, false, List, length, get_or}
use Rattle.protox_names.specs.Names.{is_dot}

-- The index is that of the first dot, or the length of a name that has no dot.
pub record IsFirstDot (name : List ℕ) (index : ℕ) : Type 0 where
  pub within : index ≤ length name
  pub before : (i : ℕ) → i < index → is_dot (get_or name i 0) ≡ false
  pub dot : index < length name → get_or name index 0 ≡ 46
