use Rattle.std.proofs.Common.{◌≡◌, take}
use Rattle.protox_option_checks.specs.Parts.{spans_of}
use Rattle.protox_option_checks.proofs.enums.spans_of.Given as goal

abbrev pub invariant-loop-value : goal.invariant-loop-value
invariant-loop-value l = l.made.items ≡ spans_of (take l.value-index l.values)
