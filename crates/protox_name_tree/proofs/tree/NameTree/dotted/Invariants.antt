use Rattle.std.proofs.Common.{◌≡◌, ◌++◌, map, string_bytes, vec_len}
use Rattle.protox_name_tree.specs.Tree.{dotted, name_at, outwards}
use Rattle.protox_name_tree.proofs.tree.NameTree.dotted.Given as goal

abbrev pub invariant-loop-part : goal.invariant-loop-part
invariant-loop-part l =
    string_bytes l.made ++ outwards (map (λ part. part.now) l.parts.items) ≡ dotted (name_at l.self l.number)

abbrev pub decreases-loop-part : goal.decreases-loop-part
decreases-loop-part l = vec_len l.parts
