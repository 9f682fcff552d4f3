use Rattle.std.proofs.Common.{◌≡◌}
use Rattle.protox_scopes.proofs.TreeSearch.{all_from, way_from}
use Rattle.protox_scopes.proofs.tree_search.resolve_in.Given as goal

-- all scopes that were searched are passed by
abbrev pub invariant-loop-place : goal.invariant-loop-place
invariant-loop-place g l =
    all_from (g.T.ScopeTree.kind_of l.tree) (g.T.ScopeTree.seen l.tree) l.wanted l.name (g.T.ScopeTree.name_of l.tree) l.place
    ≡ all_from (g.T.ScopeTree.kind_of l.tree) (g.T.ScopeTree.seen l.tree) l.wanted l.name (g.T.ScopeTree.name_of l.tree) l.fn.scope

abbrev pub decreases-loop-place : goal.decreases-loop-place
decreases-loop-place g l = way_from (g.T.ScopeTree.name_of l.tree) l.place
