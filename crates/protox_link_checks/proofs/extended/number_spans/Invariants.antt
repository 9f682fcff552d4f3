use Rattle.std.proofs.Common.{◌≡◌, All, map, take}
use Rattle.protox_link_checks.specs.Ranges.{IsSmall, number_span}
use Rattle.protox_numbers.specs.Numbers.{single}
use Rattle.protox_link_checks.proofs.extended.number_spans.Given as goal

abbrev pub invariant-loop-extension : goal.invariant-loop-extension
invariant-loop-extension l = record {
  spans : l.made.items ≡ map number_span (take l.extension-index l.extensions);
  small : All (λ e. IsSmall (single e.number)) (take l.extension-index l.extensions);
}
