use Rattle.std.proofs.Common.{◌≡◌, filter}
use Rattle.std.specs.List.{range_with_len}
use Rattle.protox_usage.specs.Known.{is_not_found}
use Rattle.protox_usage.proofs.unused.Usage.not_found.Given as goal

abbrev pub invariant-loop-index : goal.invariant-loop-index
invariant-loop-index l = l.unused.items ≡ filter (is_not_found l.self l.file l.named l.found) (range_with_len 0 l.index)
