use Rattle.std.proofs.Common.{◌≡◌, ℕ, List, ◌∷◌, Some}
use Rattle.std.specs.Prelude.{reverse}
use Rattle.protox_interpret.proofs.Entering.{Progress}
use Rattle.protox_set_paths.specs.Paths.{path_of}
use Rattle.protox_interpret.proofs.inside.add_inside.Given as goal

-- the paths of the entries so far are set
abbrev pub invariant-loop-entry : goal.invariant-loop-entry
invariant-loop-entry l =
    (path : List ℕ) → path_of l.fn.set l.fn.place ≡ Some path → Progress l.fn.set l.set l.entries l.entry-index (l.top ∷ reverse l.open.items) path
