use Rattle.std.proofs.Common.{ℕ, List}
use Rattle.std.specs.Vec.Iter.{into_iter_items}
use Rattle.protox_ast.specs.declared.ast.FileItem.{FileItem}
use Rattle.protox_generate.proofs.Lemmas.{Reached}
use Rattle.protox_parse.specs.inner.Made.{AreInHand}
use Rattle.protox_parse.proofs.translate.take_kept.Given as goal

abbrev pub invariant-loop-item : goal.invariant-loop-item
invariant-loop-item l = (source : List ℕ) (items : List FileItem) → AreInHand source l.head.syntax items l.initial.draft l.fn.kept → Reached source l.head.syntax items (into_iter_items l.item-iterator) l.draft
