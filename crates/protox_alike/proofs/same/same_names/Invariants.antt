use Rattle.std.proofs.Common.{◌≡◌, map, take}
use Rattle.protox_alike.specs.inner.Firsts.{first_in}
use Rattle.protox_alike.proofs.same.same_names.Given as goal

abbrev pub invariant-loop-name : goal.invariant-loop-name
invariant-loop-name l = l.met.items ≡ map (λ name. first_in l.firsts name.items) (take l.name-index l.names)
