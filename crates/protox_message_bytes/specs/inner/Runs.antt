-- Runs: values of one packed field that stand one behind the other.
use Rattle.std.specs.Prelude.{ℕ, zero, suc, ◌==◌, Bool, true, false, not, ◌&&◌, List, [], ◌∷◌, ◌++◌, drop, if◌then◌else◌}
use Rattle.protox_encode.specs.Wire.{header, varint}
use Rattle.protox_message_bytes.specs.Bytes.{Field}

-- whether the second field goes on with the run of the first
abbrev pub goes_on : List Field → Bool
goes_on [] = false
goes_on (f ∷ []) = false
goes_on (f ∷ g ∷ more) = f.packed && g.packed && f.number == g.number

-- whether the field at an index begins a run
abbrev pub begins : ℕ → List Field → Bool
begins zero fields = true
begins (suc before) fields = not (goes_on (drop before fields))

-- what stands in front of the values of a run, which take so many bytes
abbrev pub start_of : Field → ℕ → List ℕ
start_of f long = if f.packed then header f.number 2 ++ varint long else []
