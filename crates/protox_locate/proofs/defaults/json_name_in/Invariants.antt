use Rattle.std.proofs.Common.{◌≡◌, drop}
use Rattle.std.specs.Prelude.{codes, find}
use Rattle.protox_ast.specs.Options.{has_name}
use Rattle.protox_locate.proofs.defaults.json_name_in.Given as goal

abbrev pub invariant-loop-body : goal.invariant-loop-body
invariant-loop-body l = record {
  same : l.context ≡ l.initial.context;
  found : find (has_name (codes "json_name")) (drop l.body-index l.bodies) ≡ find (has_name (codes "json_name")) l.bodies;
}
