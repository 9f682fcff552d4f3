use Rattle.std.proofs.Common.{reverse, ◌+◌, ◌*◌, vec_len}
use Rattle.protox_imports.specs.inner.Walk.{IsNew, IsWalk, Onward, Orderly, new_count}
use Rattle.protox_imports.proofs.walk.Walk.visit_new.Given as goal

abbrev pub invariant-loop-top : goal.invariant-loop-top
invariant-loop-top l = record {
  walk : IsWalk l.imports.files l.self.states.items l.self.stack.items l.self.placed.items;
  onward : Onward l.fn.self.states.items l.self.states.items;
  orderly : Orderly l.imports.files l.fn.self.placed.items l.root (reverse l.self.stack.items) l.self.placed.items;
  came : IsNew l.self.states.items l.root → ⊥;
}

abbrev pub decreases-loop-top : goal.decreases-loop-top
decreases-loop-top l = 2 * new_count l.self.states.items + vec_len l.self.stack
