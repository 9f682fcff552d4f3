use Rattle.std.proofs.Common.{◌≡◌, length}
use denote.Text.{Utf8}
use denote.Shadow.{shadow}
use Rattle.protox_scopes.proofs.Outwards.{all_of}
use Rattle.protox_scopes.proofs.search.resolve.Given as goal

-- all scopes that were searched are passed by
abbrev pub invariant-loop-outer : goal.invariant-loop-outer
invariant-loop-outer g l = record {
  text : shadow (Utf8 l.scope);
  passed : all_of (g.T.Table.kind_of l.table) (g.T.Table.seen l.table) l.wanted l.name l.scope ≡ all_of (g.T.Table.kind_of l.table) (g.T.Table.seen l.table) l.wanted l.name l.user;
}

abbrev pub decreases-loop-outer : goal.decreases-loop-outer
decreases-loop-outer g l = length l.scope
