use Rattle.std.proofs.Common.{◌≡◌, ◌++◌, length, map}
use Rattle.protox_names.specs.Tree.{name_of_place}
use Rattle.protox_name_tree.specs.Tree.{dotted, name_at, outwards}
use Rattle.protox_name_tree.proofs.tree.NameTree.outwards.Given as goal

abbrev pub invariant-loop-place : goal.invariant-loop-place
invariant-loop-place l =
    dotted (name_at l.self l.number)
    ≡ dotted (name_of_place (name_at l.self) l.place) ++ outwards (map (λ part. part.now) l.parts.items)

abbrev pub decreases-loop-place : goal.decreases-loop-place
decreases-loop-place l = length (name_of_place (name_at l.self) l.place)
