use Rattle.std.proofs.Common.{◌≡◌, map, take}
use Rattle.protox_link_options.specs.SpelledOptions.{joined}
use Rattle.protox_link_options.proofs.spelling.joined.Given as goal

abbrev pub invariant-loop-number : goal.invariant-loop-number
invariant-loop-number l = l.bytes.items ≡ joined (map (λ entry. entry.items) l.entries) (take l.number-index l.order)
