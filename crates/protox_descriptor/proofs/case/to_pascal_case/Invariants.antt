use Rattle.std.proofs.Common.{◌≡◌, ◌++◌}
use Rattle.std.specs.String.{string_bytes}
use Rattle.protox_descriptor.specs.Case.{pascal_case, pascal_case_from}
use Rattle.protox_descriptor.proofs.case.to_pascal_case.Given as goal

abbrev pub invariant-loop-letter : goal.invariant-loop-letter
invariant-loop-letter l = pascal_case l.name ≡ string_bytes l.pascal ++ pascal_case_from l.raised l.letter-iterator.rest.now
