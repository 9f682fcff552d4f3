-- What is said of a fault.
use Rattle.std.specs.Prelude.{⊤, Bool, true, false}
use Rattle.protox_text_values.specs.declared.fault.TextValueFailure.{TextValueFailure}
use Rattle.protox_text_values.specs.declared.fault.TextValueFailure.TheVariants.{Fault, OutOfMemory}
use Rattle.protox_values.specs.declared.fault.ValueFault.{ValueFault}
use Rattle.protox_values.specs.declared.types.Held.{Held}
use Rattle.protox_values.specs.declared.types.Held.TheVariants as held

-- P of the fault, unless memory ran out.
abbrev pub IfFault : TextValueFailure → (ValueFault → Type 0) → Type 0
IfFault OutOfMemory P = ⊤
IfFault (Fault fault) P = P fault

-- Whether memory may run out where a field holds this.
abbrev pub takes_memory : Held → Bool
takes_memory held.Float = true
takes_memory held.Double = true
takes_memory held.String = true
takes_memory _ = false
