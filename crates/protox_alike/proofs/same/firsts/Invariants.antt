use Rattle.std.proofs.Common.{◌≡◌, ℕ, List, map, take}
use Rattle.protox_alike.specs.Alike.{first_same}
use Rattle.protox_alike.specs.inner.Firsts.{first_in}
use Rattle.protox_alike.proofs.same.firsts.Given as goal

abbrev pub invariant-loop-index : goal.invariant-loop-index
invariant-loop-index l = (q : List ℕ) → first_in l.firsts q ≡ first_same (map (λ name. name.items) (take l.index l.names)) q
