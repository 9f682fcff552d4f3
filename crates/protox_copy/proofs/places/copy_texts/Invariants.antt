use Rattle.std.proofs.Common.{◌≡◌, take}
use Rattle.protox_copy.proofs.places.copy_texts.Given as goal

abbrev pub invariant-loop-text : goal.invariant-loop-text
invariant-loop-text l = l.made ≡ take l.text-index l.texts
