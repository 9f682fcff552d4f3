use Rattle.std.proofs.Common.{◌≡◌, map, take}
use Rattle.protox_ast.specs.Options.{uninterpreted}
use Rattle.protox_describe.proofs.options.all.Given as goal

abbrev pub invariant-loop-body : goal.invariant-loop-body
invariant-loop-body l = l.options.items ≡ map uninterpreted (take l.body-index l.bodies)
