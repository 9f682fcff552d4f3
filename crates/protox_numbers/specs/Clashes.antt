-- Parts that clash, from what each part meets first.
use Rattle.std.specs.Prelude.{ℕ, ◌+◌, nat_lt, Bool, true, List, [], ◌∷◌, ◌++◌, Option, Some, None, if◌then◌else◌}
use Rattle.protox_numbers.specs.declared.clash.Clash.{Clash}

-- the clash of a part, if it meets something that counts
abbrev pub clash_of : (ℕ → ℕ → Bool) → ℕ → Option ℕ → List Clash
clash_of counts part None = []
clash_of counts part (Some with_) =
    if counts part with_ then record { part = part; «with» = with_ } ∷ [] else []

-- those of all parts from this index on, in order
abbrev pub clashes_from : (ℕ → ℕ → Bool) → ℕ → List (Option ℕ) → List Clash
clashes_from counts part [] = []
clashes_from counts part (met ∷ more) =
    clash_of counts part met ++ clashes_from counts (part + 1) more

-- Each part clashes with what it meets first.
abbrev pub with_first : List (Option ℕ) → List Clash
with_first met = clashes_from (λ part with_. true) 0 met

-- Each part clashes with what it meets first, if that stands before it.
abbrev pub with_earlier : List (Option ℕ) → List Clash
with_earlier met = clashes_from (λ part with_. nat_lt with_ part) 0 met
