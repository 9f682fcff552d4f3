-- What a function adds to the notes.
use Rattle.std.specs.Prelude.{◌≡◌, List, ◌++◌, Result, Ok, Err}
use Rattle.protox_rows.specs.declared.refused.Refused.{Refused}
use Rattle.protox_rows.specs.declared.refused.Refused.TheVariants.{OutOfMemory, At, TooDeep}

-- These notes were added, unless memory ran out.
abbrev pub AddsTo : {N : Type 0} → Refused → List N → List N → List N → Type 0
AddsTo OutOfMemory old added new = Unit {0}
AddsTo (At left expected) old added new = new ≡ old ++ added
AddsTo (TooDeep left) old added new = new ≡ old ++ added

-- These notes were added, unless memory ran out, whether the function succeeds or fails.
abbrev pub Adds : {N X : Type 0} → Result X Refused → List N → List N → List N → Type 0
Adds (Err e) old added new = AddsTo e old added new
Adds (Ok x) old added new = new ≡ old ++ added
