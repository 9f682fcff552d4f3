use Rattle.std.proofs.Common.{◌≡◌, map, take}
use Rattle.protox_ast.specs.Ranges.{reserved_range, reserved_ranges}
use Rattle.protox_describe.proofs.ranges.reserved_protos.Given as goal

abbrev pub invariant-loop-statement : goal.invariant-loop-statement
invariant-loop-statement l = l.found ≡ map (reserved_range l.greatest) (reserved_ranges (take l.statement-index l.statements))
