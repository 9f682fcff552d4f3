use Rattle.std.proofs.Common.{drop}
use Rattle.std.specs.List.{FoldsTo}
use Rattle.protox_walk.specs.Declarations.{all_in, numbered, siblings_at}
use Rattle.protox_walk.proofs.each.walk_each.Given as goal

-- a fold over what is left completes a fold over all
abbrev pub invariant-loop-index : goal.invariant-loop-index
invariant-loop-index g l =
    (end : g.row.V.Denot)
    → FoldsTo g.V.Visit.visits l.visitor (numbered l.path l.tag l.index (all_in g.D.Declares.declares l.scope (drop l.index l.elements))) end
    → FoldsTo g.V.Visit.visits l.fn.visitor (siblings_at l.path l.tag (all_in g.D.Declares.declares l.scope l.elements)) end
