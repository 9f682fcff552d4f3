use Rattle.std.proofs.Common.{◌≡◌, ◌++◌, map, drop, false}
use Rattle.protox_ast.specs.Options.{uninterpreted}
use Rattle.protox_describe.proofs.Left.{left}
use Rattle.protox_describe.proofs.options.left.Given as goal

abbrev pub invariant-loop-body : goal.invariant-loop-body
invariant-loop-body l = l.options ++ map uninterpreted (left l.default_read l.json_name_read (drop l.body-index l.bodies)) ≡ map uninterpreted (left false false l.bodies)
