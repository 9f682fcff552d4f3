use Rattle.std.proofs.Common.{◌≡◌, ℕ, List, take}
use Rattle.protox_imports.specs.Names.{number_of}
use Rattle.protox_imports.specs.inner.Numbers.{number_in}
use Rattle.protox_imports.proofs.names.by_name.Given as goal

abbrev pub invariant-loop-number : goal.invariant-loop-number
invariant-loop-number l = (q : List ℕ) → number_in l.numbers q ≡ number_of (take l.number l.files) q
