use Rattle.std.proofs.Common.{◌≡◌, ℕ, List, Some, take}
use Rattle.std.specs.Prelude.{◌||◌}
use Rattle.protox_interpret.proofs.Entering.{if_any}
use Rattle.protox_set_paths.specs.Paths.{is_set, path_of}
use Rattle.protox_interpret.proofs.inside.add_path.Given as goal

-- the place is that of the front so far, which is set
abbrev pub invariant-loop-number : goal.invariant-loop-number
invariant-loop-number l = record {
  at : path_of l.set l.place ≡ Some (take l.number-index l.path);
  set : (q : List ℕ) → is_set l.set q ≡ (is_set (if_any (take l.number-index l.path)) q || is_set l.fn.set q);
}
