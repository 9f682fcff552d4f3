use Rattle.std.proofs.Common.{◌≡◌, take}
use Rattle.protox_ast.specs.Ranges.{extension_protos}
use Rattle.protox_describe.proofs.ranges.extension_protos.Given as goal

abbrev pub invariant-loop-statement : goal.invariant-loop-statement
invariant-loop-statement l = l.found ≡ extension_protos l.greatest (take l.statement-index l.statements)
