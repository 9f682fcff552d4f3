use Rattle.std.proofs.Common.{◌≡◌, take}
use Rattle.protox_copy.proofs.ItemsCopyIn.copy.Given as goal

abbrev pub invariant-loop-element : goal.invariant-loop-element
invariant-loop-element g l = l.made ≡ take l.element-index l.elements
