use Rattle.std.proofs.Common.{◌≡◌, length}
use Rattle.protox_locate.proofs.file.begun.Given as goal

abbrev pub invariant-loop : goal.invariant-loop
invariant-loop l = length l.places ≡ l.counter
