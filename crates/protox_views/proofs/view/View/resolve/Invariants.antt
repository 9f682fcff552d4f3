use Rattle.std.proofs.Common.{◌≡◌}
use Rattle.protox_name_tree.specs.Tree.{kind_at, name_at}
use Rattle.protox_scopes.proofs.Lemmas.{all_from, way_from}
use Rattle.protox_views.specs.Views.{seen}
use Rattle.protox_views.proofs.view.View.resolve.Given as goal

-- all scopes that were searched are passed by
abbrev pub invariant-loop-place : goal.invariant-loop-place
invariant-loop-place l =
    all_from (kind_at l.self.symbols.now.names) (seen l.self.symbols.now l.self.sees.now l.self.packages) l.wanted l.name (name_at l.self.symbols.now.names) l.place
    ≡ all_from (kind_at l.self.symbols.now.names) (seen l.self.symbols.now l.self.sees.now l.self.packages) l.wanted l.name (name_at l.self.symbols.now.names) l.fn.scope

abbrev pub decreases-loop-place : goal.decreases-loop-place
decreases-loop-place l = way_from (name_at l.self.symbols.now.names) l.place
