use Rattle.std.proofs.Common.{◌≡◌, take}
use Rattle.std.specs.List.{filter_map}
use Rattle.protox_imports.specs.Rows.{named_at}
use Rattle.protox_imports.proofs.rows.public.Given as goal

abbrev pub invariant-loop-index : goal.invariant-loop-index
invariant-loop-index l = l.public.items ≡ filter_map (named_at l.named) (take l.index-index l.indices)
