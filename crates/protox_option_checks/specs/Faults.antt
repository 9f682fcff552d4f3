-- A fault, and where it is.
use Rattle.std.specs.Prelude.{ℕ, ℤ, Bool, List, [], ◌∷◌, ◌++◌, if◌then◌else◌}
use Rattle.protox_option_checks.specs.declared.fault.CheckFault.{CheckFault}
use Rattle.protox_option_checks.specs.declared.fault.CheckFaultKind.{CheckFaultKind}
use Rattle.protox_walk.specs.Declarations.{Path}

-- the fault of a file at a part of what has a path
abbrev pub fault_at : ℕ → Path → ℤ → CheckFaultKind → CheckFault
fault_at file path tag kind = record { file = file; path = path ++ tag ∷ []; kind = kind }

-- the fault, if something is wrong
abbrev pub fault_if : Bool → CheckFault → List CheckFault
fault_if wrong fault = if wrong then fault ∷ [] else []
