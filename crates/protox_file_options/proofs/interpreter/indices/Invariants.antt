use Rattle.std.proofs.Common.{◌≡◌, map, take, unsigned_abs}
use Rattle.protox_file_options.proofs.interpreter.indices.Given as goal

abbrev pub invariant-loop-number : goal.invariant-loop-number
invariant-loop-number l = l.made.items ≡ map unsigned_abs (take l.number-index l.path)
