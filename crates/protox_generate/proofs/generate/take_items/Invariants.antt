use Rattle.std.proofs.Common.{ℕ, List, []}
use Rattle.std.specs.Vec.Iter.{into_iter_items}
use Rattle.protox_generate.proofs.Items.{Reached}
use Rattle.protox_generate.specs.inner.Taken.{IsTaken}
use Rattle.protox_generate.proofs.generate.take_items.Given as goal

abbrev pub invariant-loop-item : goal.invariant-loop-item
invariant-loop-item l = (source : List ℕ) → IsTaken source l.head.syntax [] l.initial.draft → Reached source l.head.syntax l.fn.items (into_iter_items l.item-iterator) l.draft
