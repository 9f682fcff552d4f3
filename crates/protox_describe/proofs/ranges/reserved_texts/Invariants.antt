use Rattle.std.proofs.Common.{◌≡◌, take}
use Rattle.protox_ast.specs.Ranges.{reserved_texts}
use Rattle.protox_describe.proofs.ranges.reserved_texts.Given as goal

abbrev pub invariant-loop-statement : goal.invariant-loop-statement
invariant-loop-statement l = l.found ≡ reserved_texts (take l.statement-index l.statements)
