-- What is said of a fault.
use Rattle.std.specs.Prelude.{⊤}
use Rattle.protox_interpret.specs.declared.fault.InterpretFailure.{InterpretFailure}
use Rattle.protox_interpret.specs.declared.fault.InterpretFailure.TheVariants as failure
use Rattle.protox_interpret.specs.declared.fault.Refusal.{Refusal}
use Rattle.protox_interpret.specs.declared.fault.Refusal.TheVariants as refusal
use Rattle.protox_interpret.specs.declared.fault.StatementFault.{StatementFault}
use Rattle.protox_interpret.specs.declared.fault.StatementFaultKind.{StatementFaultKind}

-- P of the fault, unless memory ran out.
abbrev pub IfFault : InterpretFailure → (StatementFault → Type 0) → Type 0
IfFault failure.OutOfMemory P = ⊤
IfFault (failure.Fault fault) P = P fault

-- the same for one statement
abbrev pub IfRefusal : Refusal → (StatementFaultKind → Type 0) → Type 0
IfRefusal refusal.OutOfMemory P = ⊤
IfRefusal (refusal.Fault kind) P = P kind
