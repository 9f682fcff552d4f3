-- What is said of why a step says nothing.
use Rattle.std.specs.Prelude.{⊤}
use Rattle.protox_aggregate.specs.declared.fault.AggregateFaultKind.{AggregateFaultKind}
use Rattle.protox_aggregate.specs.declared.unsaid.Unsaid.{Unsaid}
use Rattle.protox_aggregate.specs.declared.unsaid.Unsaid.TheVariants.{Fault, OutOfMemory}

-- P of what is wrong, unless memory ran out.
abbrev pub IfUnsaid : Unsaid → (AggregateFaultKind → Type 0) → Type 0
IfUnsaid OutOfMemory P = ⊤
IfUnsaid (Fault kind) P = P kind
