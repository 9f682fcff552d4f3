use Rattle.std.proofs.Common.{◌≡◌, Some, take}
use Rattle.protox_set_paths.specs.Paths.{path_of}
use Rattle.protox_set_paths.proofs.tree.SetTree.has.Given as goal

-- the place is that of the front so far
abbrev pub invariant-loop-number : goal.invariant-loop-number
invariant-loop-number l = path_of l.self l.place ≡ Some (take l.number-index l.path)
