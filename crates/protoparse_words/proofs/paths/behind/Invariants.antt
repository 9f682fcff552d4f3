use Rattle.std.proofs.Common.{◌≡◌, take}
use Rattle.protoparse_words.specs.Names.{texts}
use Rattle.protoparse_words.proofs.paths.behind.Given as goal

abbrev pub invariant-loop-i : goal.invariant-loop-i
invariant-loop-i l = take l.i (texts l.parts) ≡ take l.i (texts l.above)
