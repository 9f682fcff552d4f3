use Rattle.std.proofs.Common.{take}
use Rattle.protox_link_bytes.specs.Given.{given}
use Rattle.protox_link_bytes.specs.Parsed.{IsParsedOf}
use Rattle.protox_link_bytes.proofs.parsing.parse_all.Given as goal

abbrev pub invariant-loop-number : goal.invariant-loop-number
invariant-loop-number l = IsParsedOf (given (take l.number l.sources)) l.parsed
