use Rattle.std.proofs.Common.{◌≡◌, ◌+◌, ◌++◌, ◌∷◌, [], ℕ, List, drop, length, take}
use Rattle.std.specs.List.{flat_map}
use Rattle.protox_link_checks.specs.Faults.{declared_faults}
use Rattle.protox_symbols.specs.Scopes.{IsFoundScope}
use Rattle.protox_walk.specs.Declarations.{all_in, numbered, siblings_at}
use Rattle.protox_link_checks.proofs.each.check_each.Given as goal

-- the path is that of the siblings, and what is left completes what is wrong with all of them
abbrev pub invariant-loop-index : goal.invariant-loop-index
invariant-loop-index g l =
    let wrong = declared_faults l.of.view.now.symbols.now l.of.view.now.sees.now l.of.view.now.packages l.of.number in
    record {
      place : take (length l.path + 1) l.place.items ≡ l.path ++ l.tag ∷ [];
      checked : (full : List ℕ) → IsFoundScope l.of.view.now.symbols.now full l.scope
          → l.faults.items ++ flat_map wrong (numbered l.path l.tag l.index (all_in g.C.Checked.declares full (drop l.index l.elements)))
          ≡ l.initial.faults.items ++ flat_map wrong (siblings_at l.path l.tag (all_in g.C.Checked.declares full l.elements));
    }
