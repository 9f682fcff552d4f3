use Rattle.std.proofs.Common.{◌≡◌, map, take}
use Rattle.protox_describe.specs.Services.{method_proto}
use Rattle.protox_describe.proofs.services.methods.Given as goal

abbrev pub invariant-loop-method : goal.invariant-loop-method
invariant-loop-method l = l.made.items ≡ map method_proto (take l.method-index l.methods)
