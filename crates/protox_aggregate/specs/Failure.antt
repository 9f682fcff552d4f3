-- What is said of a fault.
use Rattle.std.specs.Prelude.{⊤}
use Rattle.protox_aggregate.specs.declared.fault.AggregateFailure.{AggregateFailure}
use Rattle.protox_aggregate.specs.declared.fault.AggregateFailure.TheVariants.{Fault, OutOfMemory}
use Rattle.protox_aggregate.specs.declared.fault.AggregateFault.{AggregateFault}

-- P of the fault, unless memory ran out.
abbrev pub IfFault : AggregateFailure → (AggregateFault → Type 0) → Type 0
IfFault OutOfMemory P = ⊤
IfFault (Fault fault) P = P fault
